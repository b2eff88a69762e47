use Rattle.std.proofs.Common.{◌≡◌, ◌≤◌, length, drop}
use Rattle.lowering.specs.Operations.{changed}
use Rattle.lower_nodes.proofs.wiring.filled.Given as goal

abbrev pub invariant-loop-left : goal.invariant-loop-left
invariant-loop-left l = record {
  places : l.left ≤ length l.places;
  wires : l.left ≤ length l.wires;
  count : length l.ports ≡ l.count;
  ports : l.ports ≡ changed 0 l.count (drop l.left l.places) (drop l.left l.wires);
}

abbrev pub decreases-loop-left : goal.decreases-loop-left
decreases-loop-left l = l.left
