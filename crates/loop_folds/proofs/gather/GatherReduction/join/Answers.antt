use Rattle.std.proofs.Common.{rules}
use Rattle.loop_folds.proofs.Joins.{gather_joins}
use Rattle.loop_folds.proofs.gather.GatherReduction.join.Goals as goal

pub returns-in-Ok-clause-added : goal.returns-in-Ok-clause-added
returns-in-Ok-clause-added c = λ xs ys p q. gather_joins c.args.self.now c.args.later _ xs ys (search rules) p q
