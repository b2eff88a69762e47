use Rattle.std.proofs.Common.{rules}
use Rattle.loop_folds.proofs.Joins.{product_puts}
use Rattle.loop_folds.proofs.product.ProductReduction.put.Goals as goal

pub returns-clause-added : goal.returns-clause-added
returns-clause-added c = λ xs p. product_puts c.args.self.now _ xs c.args.v (search rules) p
