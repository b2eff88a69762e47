use Rattle.std.proofs.Common.{rules}
use Rattle.loop_folds.proofs.Joins.{greatest_joins}
use Rattle.loop_folds.proofs.extremes.GreatestReduction.join.Goals as goal

pub returns-clause-added : goal.returns-clause-added
returns-clause-added c = λ xs ys p q. greatest_joins c.args.self.now c.args.later _ xs ys (search rules) p q
