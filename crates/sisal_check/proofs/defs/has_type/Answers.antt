use Rattle.std.proofs.Common.{◌≡◌, Some, sym, subst}
use Rattle.typing_laws.specs.Defining.{IsDeclaredAs}
use Rattle.typing_laws.proofs.Later.{used_text, written_type}
use Rattle.breaking_laws.proofs.FParts.{written_misnamed}
use Rattle.breaking_laws.proofs.PDefs.{misnamed_target, declared_refused}
use Rattle.sisal_check.specs.Walked.{given_of}
use Rattle.sisal_check.proofs.Forms.{passed_on}
use Rattle.sisal_check.proofs.defs.has_type.Goals as goal

pub returns-in_err-declared-clause-breaks : goal.returns-in_err-declared-clause-breaks
returns-in_err-declared-clause-breaks c =
    passed_on c.from_residual.result c.in_err-declared.field-0.0 c.from_residual.ensures.1 _ _
    (λ rule line q. λ turn.
    misnamed_target (given_of c.args.given.now) c.args.walk.now.types c.args.walk.now.names turn c.args.line c.args.target c.in-Some.written c.args.ty rule line c.in-Some.is
    (written_misnamed (given_of c.args.given.now) c.args.walk.now.types c.in-Some.written rule line c.holds.ensures q))
    c.in_err-declared.ensures.misnames

pub returns-then-declared-ty-clause-breaks : goal.returns-then-declared-ty-clause-breaks
returns-then-declared-ty-clause-breaks c = λ turn.
    let g = given_of c.args.given.now in
    declared_refused g c.args.walk.now.types c.denoted.new.types c.args.walk.now.names turn c.args.line c.args.target c.in-Some.written c.args.ty c.in_ok-declared.declared
    (used_text g c.args.walk.now.types c.denoted.new.types c.in_ok-declared.ensures.used) c.holds-2.ensures c.in-Some.is
    (written_type g c.denoted.new.types c.in-Some.written c.in_ok-declared.declared c.in_ok-declared.ensures.there
    (λ k later spelled known a is. c.in_ok-declared.ensures.denotes k.spellings k.types k.forms later spelled known a is))
    c.if-declared-ty.true

pub returns-clause-used : goal.returns-clause-used
returns-clause-used c = used_text (given_of c.args.given.now) c.args.walk.now.types c.denoted.new.types c.in_ok-declared.ensures.used

pub returns-clause-declared : goal.returns-clause-declared
returns-clause-declared c =
    let g = given_of c.args.given.now in
    let same : c.in_ok-declared.declared ≡ c.args.ty = cc in
    subst (λ o. IsDeclaredAs g c.denoted.new.types o c.args.ty) (sym c.in-Some.is)
    (subst (λ n. IsDeclaredAs g c.denoted.new.types (Some c.in-Some.written) n) same
    (written_type g c.denoted.new.types c.in-Some.written c.in_ok-declared.declared c.in_ok-declared.ensures.there
    (λ k later spelled known a is. c.in_ok-declared.ensures.denotes k.spellings k.types k.forms later spelled known a is)))
