use Rattle.std.proofs.Common.{rules}
use Rattle.loop_folds.proofs.Joins.{product_joins}
use Rattle.loop_folds.proofs.product.ProductReduction.join.Goals as goal

pub returns-clause-added : goal.returns-clause-added
returns-clause-added c = λ xs ys p q. product_joins c.args.self.now c.args.later _ xs ys (search rules) p q
