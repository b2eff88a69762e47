use Rattle.std.proofs.Common.{refl}
use Rattle.lowered_sizes.specs.Counting.{only, joined, part, a_node}
use Rattle.tree_sizes.proofs.leaves.two_arms.Goals as goal

pub returns : goal.returns
returns c = λ k h.
    let arm = c.part-arm.ensures (only 1) (c.only.ensures 1 refl) in
    let none = c.only-2.ensures 0 refl in
    c.joined-3.ensures (joined (part (only 1)) (joined (part (only 1)) (only 0))) (a_node k k) (c.joined-2.ensures (part (only 1)) (joined (part (only 1)) (only 0)) arm (c.joined.ensures (part (only 1)) (only 0) arm none)) (c.node.ensures k k h h)
