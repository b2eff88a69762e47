use Rattle.std.proofs.Common.{rules}
use Rattle.loop_folds.proofs.Limits.{kept-added}
use Rattle.loop_folds.proofs.making.keep_item.Goals as goal

pub returns-clause-added : goal.returns-clause-added
returns-clause-added c = λ vs p. kept-added c.args.items.now _ vs c.args.v (search rules) p
