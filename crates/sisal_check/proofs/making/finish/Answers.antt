use Rattle.std.proofs.lemmas.Result.{IfOk-at_ok}
use Rattle.type_rules.specs.Applies.{IsApplied}
use Rattle.typing_laws.proofs.Used.{applied_used}
use Rattle.sisal_check.specs.Walked.{given_of}
use Rattle.sisal_check.proofs.Forms.{head_fits}
use Rattle.sisal_check.proofs.making.finish.Goals as goal

pub returns-clause-used : goal.returns-clause-used
returns-clause-used c = λ spelled.
    applied_used (given_of c.args.given.now) c.args.walk.now.types c.apply.new.types c.args.head c.as_slice.result.now c.in_ok-applied.applied
    (head_fits c.args.given.now.spellings.now c.args.head spelled)
    (IfOk-at_ok (λ b. IsApplied c.args.walk.now.types c.args.head c.as_slice.result.now b c.apply.new.types) c.in_ok-applied.ensures.ok c.apply.ensures.applied)
