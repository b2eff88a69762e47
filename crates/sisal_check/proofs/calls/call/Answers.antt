use Rattle.std.proofs.Common.{sym, ◌∙◌}
use Rattle.std.proofs.lemmas.Result.{IfOk-weaker}
use Rattle.typing_laws.specs.Forming.{Calls, CallsOf, Finishes, own, built_in}
use Rattle.type_rules.specs.declared.head.Head.TheVariants as head
use Rattle.breaking_laws.specs.Refusals as refusal
use Rattle.breaking_laws.specs.Refusals.{RefusesCall, OtherParams, Refuses}
use Rattle.sisal_check.specs.Walked.{given_of, parts_of}
use Rattle.sisal_check.proofs.Forms.{faults_weaker}
use Rattle.sisal_check.proofs.calls.call.Goals as goal

pub returns-in-Some-clause-calls : goal.returns-in-Some-clause-calls
returns-in-Some-clause-calls c =
    let g = given_of c.args.given.now in
    let f = c.args.walk.now.types in
    let p = parts_of c.args.operands in
    IfOk-weaker c.call_of.result (λ t. CallsOf g c.args.line c.in-Some.number p t) (λ t. Calls g f f c.args.line c.args.name p t)
    (λ t q. own c.in-Some.number (sym c.find.ensures ∙ c.in-Some.is) q) c.call_of.ensures.calls

pub returns-in-Some-clause-breaks : goal.returns-in-Some-clause-breaks
returns-in-Some-clause-breaks c =
    let g = given_of c.args.given.now in
    faults_weaker c.call_of.result (λ rule line. OtherParams g c.args.line c.in-Some.number c.args.operands.types rule line)
    (λ rule line. RefusesCall g c.args.walk.now.types c.args.line c.args.name c.args.operands.types rule line)
    (λ rule line q. refusal.own c.in-Some.number (sym c.find.ensures ∙ c.in-Some.is) q) c.call_of.ensures.breaks

pub returns-in-Some-built_in-clause-calls : goal.returns-in-Some-built_in-clause-calls
returns-in-Some-built_in-clause-calls c =
    let g = given_of c.args.given.now in
    let p = parts_of c.args.operands in
    let b = c.in-Some-built_in.built_in in
    IfOk-weaker c.finish.result (λ t. Finishes c.args.walk.now.types c.finish.new.walk.types c.args.line (head.BuiltIn b) p t)
    (λ t. Calls g c.args.walk.now.types c.finish.new.walk.types c.args.line c.args.name p t) (λ t q. built_in b c.in-Some-built_in.ensures.some q) c.finish.ensures.finishes

pub returns-in-Some-built_in-clause-breaks : goal.returns-in-Some-built_in-clause-breaks
returns-in-Some-built_in-clause-breaks c =
    let g = given_of c.args.given.now in
    let b = c.in-Some-built_in.built_in in
    faults_weaker c.finish.result (λ rule line. Refuses c.args.walk.now.types c.args.line (head.BuiltIn b) c.args.operands.types rule line)
    (λ rule line. RefusesCall g c.args.walk.now.types c.args.line c.args.name c.args.operands.types rule line)
    (λ rule line q. refusal.built_in b c.in-Some-built_in.ensures.some q) c.finish.ensures.breaks

pub call_of-requires : goal.call_of-requires
call_of-requires c = c.args.given.now.numbered.below c.args.name c.in-Some.number (sym c.find.ensures ∙ c.in-Some.is)
