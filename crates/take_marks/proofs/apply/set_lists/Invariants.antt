use Rattle.std.proofs.Common.{length}
use Rattle.take_marks.specs.Applied.{AreNodesListed}
use Rattle.take_marks.proofs.Listed.{IsLeft}
use Rattle.take_marks.proofs.apply.set_lists.Given as goal

abbrev pub invariant-loop-labels : goal.invariant-loop-labels
invariant-loop-labels l =
    record {
      listed : AreNodesListed l.fn.nodes.items l.fn.befores.items (length l.befores.items) l.nodes.items;
      left : IsLeft l.fn.befores.items l.befores.items;
    }

abbrev pub decreases-loop-labels : goal.decreases-loop-labels
decreases-loop-labels l = length l.befores.items
