use Rattle.std.proofs.Common.{◌≡◌, length, take}
use Rattle.marks_made.specs.Ways.{Links}
use Rattle.if1_reach.specs.Nets.{IsNet, with_nodes}
use Rattle.if1_reach.proofs.nets.link_nodes.Given as goal

abbrev pub invariant-loop-node : goal.invariant-loop-node
invariant-loop-node l =
    record {
      net : (links : Links) → IsNet l.labels l.fn.lists.items links → IsNet l.labels l.lists.items (with_nodes links (take l.node-index l.nodes));
      fit : length l.lists.items ≡ length l.labels;
    }
