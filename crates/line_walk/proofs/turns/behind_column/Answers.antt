use Rattle.std.proofs.Common.{◌∙◌}
use Rattle.line_walk.proofs.Renewals.{one_behind}
use Rattle.line_walk.proofs.turns.behind_column.Goals as goal

pub returns-in-None-place : goal.returns-in-None-place
returns-in-None-place c = λ xs n e. c.behind_first-in-None-place.ensures ∙ (one_behind xs c.args.left.now n e ∙ search)

pub returns-in-Some-true : goal.returns-in-Some-true
returns-in-Some-true c = λ xs n e. c.behind_first.ensures ∙ (one_behind xs c.args.left.now n e ∙ search)
