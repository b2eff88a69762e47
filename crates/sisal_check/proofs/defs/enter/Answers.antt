use Rattle.std.proofs.Common.{◌∙◌}
use Rattle.sisal_check.specs.Walked.{given_of}
use Rattle.sisal_check.proofs.Defined.{count_fails}
use Rattle.sisal_check.proofs.defs.enter.Goals as goal

pub returns-then-len-targets-clause-breaks : goal.returns-then-len-targets-clause-breaks
returns-then-len-targets-clause-breaks c =
    count_fails (given_of c.args.given.now) c.args.walk.now.types c.args.walk.now.names c.args.turn c.line_of-line.result _ c.args.targets.now c.args.values.types c.holds.ensures c.line_of-line.ensures
    (λ e. c.if-len-targets.true (c.len.ensures ∙ e))
