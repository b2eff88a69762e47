use Rattle.std.proofs.Common.{◌-◌, map, ◌≤◌, length}
use Rattle.if1_graph.proofs.Lookups.{IsBelow, IsFrom}
use Rattle.if1_graph.specs.Units.{label_of}
use Rattle.if1_graph.proofs.lookup.node_of.Given as goal

abbrev pub invariant-loop-low : goal.invariant-loop-low
invariant-loop-low l =
    (l.low ≤ l.high) × (l.high ≤ length l.nodes)
    × IsBelow (map label_of l.nodes) l.low l.label × IsFrom (map label_of l.nodes) l.high l.label

abbrev pub decreases-loop-low : goal.decreases-loop-low
decreases-loop-low l = l.high - l.low
