use Rattle.std.proofs.Common.{◌-◌, map, ◌≤◌, length}
use Rattle.if1_graph.proofs.Lookups.{IsBelow, IsFrom}
use Rattle.if1_graph.specs.declared.graph.TypeEntry.{TypeEntry}
use Rattle.if1_graph.proofs.lookup.entry_of.Given as goal

abbrev pub invariant-loop-low : goal.invariant-loop-low
invariant-loop-low l =
    (l.low ≤ l.high) × (l.high ≤ length l.types)
    × IsBelow (map (λ (e : TypeEntry). e.label) l.types) l.low l.label × IsFrom (map (λ (e : TypeEntry). e.label) l.types) l.high l.label

abbrev pub decreases-loop-low : goal.decreases-loop-low
decreases-loop-low l = l.high - l.low
