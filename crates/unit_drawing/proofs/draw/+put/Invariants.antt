use Rattle.std.proofs.Common.{◌≡◌}
use Rattle.unit_drawing.proofs.draw.+put.Given as goal

abbrev pub invariant-put_nodes-loop-node : goal.invariant-put_nodes-loop-node
invariant-put_nodes-loop-node l = Unit {0}

abbrev pub invariant-put_parts-loop-graph : goal.invariant-put_parts-loop-graph
invariant-put_parts-loop-graph l = l.place ≡ l.graph-index
