use Rattle.std.proofs.Common.{◌∙◌, ap}
use Rattle.lowered_sizes.specs.Counting.{capped_sizes}
use Rattle.lowered_sizes.specs.Forms.{filled}
use Rattle.tree_sizes.proofs.Kept.{other-applied}
use Rattle.tree_sizes.proofs.leaves.applied.Goals as goal

pub returns-in_default : goal.returns-in_default
returns-in_default c = λ v k e f. c.node.ensures (filled c.args.op.now v) k (c.filled.ensures v e) f ∙ ap capped_sizes (other-applied c.args.op.now c.in_default.not-IsTag v k)
