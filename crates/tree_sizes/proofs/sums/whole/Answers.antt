use Rattle.lowered_sizes.specs.Counting.{a_node, parts}
use Rattle.tree_sizes.proofs.sums.whole.Goals as goal

pub returns : goal.returns
returns c = λ ss k p h. c.joined.ensures (parts ss) (a_node k k) p (c.node.ensures k k h h)
