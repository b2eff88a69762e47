use Rattle.std.proofs.Common.{rules}
use Rattle.loop_folds.proofs.Joins.{least_puts}
use Rattle.loop_folds.proofs.extremes.LeastReduction.put.Goals as goal

pub returns-clause-added : goal.returns-clause-added
returns-clause-added c = λ xs p. least_puts c.args.self.now _ xs c.args.v (search rules) p
