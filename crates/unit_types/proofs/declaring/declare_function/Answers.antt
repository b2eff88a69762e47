use Rattle.std.proofs.Common.{refl, ap, sym, subst, arith}
use Rattle.std.proofs.lemmas.Result.{on_ok_weaker}
use Rattle.unit_types.specs.Headings.{HaveResults}
use Rattle.unit_types.proofs.Given.{results_more}
use Rattle.unit_types.proofs.Lists.{on_ok_from, both_ok}
use Rattle.unit_types.proofs.Naming.{names_function, named_as}
use Rattle.unit_types.proofs.Declares.{declares_function, declaring_as}
use Rattle.unit_types.proofs.Faults.{passed_on, faults_weaker}
use Rattle.unit_types.proofs.Breaking.{header_broken, taken_at}
use Rattle.unit_types.proofs.declaring.declare_function.Goals as goal

pub returns-clause-names : goal.returns-clause-names
returns-clause-names c = on_ok_from c.declare_signature.result (λ texts types h n.
    named_as refl c.declare_signature.ensures.types c.declare_signature.ensures.named
    (names_function c.args.tokens.now c.args.function.now c.args.declaring.now.types c.signature_of.new.types c.args.declaring.now.named c.in_ok-signature.ensures.used texts types h n))

pub returns-clause-declares : goal.returns-clause-declares
returns-clause-declares c = both_ok c.declare_signature.result
    (λ adds announces u items n is h e r. declaring_as c.declare_signature.ensures.types c.declare_signature.ensures.named
    (declares_function u items c.args.tokens.now is h n c.args.function.now c.args.declaring.now.types c.signature_of.new.types c.args.declaring.now.named
    c.args.declaring.now.functions c.declare_signature.new.declaring.functions c.args.declaring.now.announced c.declare_signature.new.declaring.announced c.in_ok-signature.signature e c.in_ok-signature.ensures.used
    (λ types names. c.in_ok-signature.ensures.says u types is h names) (ap (λ x. x.line) c.in_ok-signature.ensures.heading) c.in_ok-signature.ensures.known adds announces r))
    c.declare_signature.ensures.functions c.declare_signature.ensures.announced

pub returns-clause-results : goal.returns-clause-results
returns-clause-results c = λ h.
    let some = c.requires.some in
    let many = c.in_ok-signature.ensures.many in
    on_ok_weaker c.declare_signature.result
    (λ e. subst HaveResults (sym e) (results_more c.args.function.now.kind c.in_ok-signature.signature c.args.declaring.now.functions (omega (arith, some, many)) h)) c.declare_signature.ensures.functions

pub returns-in_err-signature-clause-breaks : goal.returns-in_err-signature-clause-breaks
returns-in_err-signature-clause-breaks c = λ count.
    let d = c.args.declaring.now in
    passed_on c.from_residual.result c.in_err-signature.field-0.0 c.from_residual.ensures.1
    (λ rule line f. header_broken c.args.tokens.now c.args.spellings.now d.types d.named d.functions d.announced c.args.function.now rule line f)
    c.in_err-signature.ensures.breaks

pub returns-clause-breaks : goal.returns-clause-breaks
returns-clause-breaks c = λ count.
    let d = c.args.declaring.now in
    faults_weaker c.declare_signature.result
    (λ rule line t. taken_at c.args.tokens.now c.args.spellings.now d.types d.named d.functions d.announced c.args.function.now d.numbers c.in_ok-signature.signature rule line count (ap (λ h. h.name) c.in_ok-signature.ensures.heading) t)
    c.declare_signature.ensures.taken
