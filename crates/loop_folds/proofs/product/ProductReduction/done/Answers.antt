use Rattle.std.proofs.Common.{rules}
use Rattle.loop_folds.proofs.Values.{product_done}
use Rattle.loop_folds.proofs.product.ProductReduction.done.Goals as goal

pub returns : goal.returns
returns c = λ xs p. product_done c.args.self _ xs (search rules) p
