use Rattle.std.proofs.Common.{◌≡◌, ◌≤◌, length, drop}
use Rattle.line_walk.specs.Met.{ports}
use Rattle.line_walk.proofs.ports.filled.Given as goal

abbrev pub invariant-loop-left : goal.invariant-loop-left
invariant-loop-left l = record {
  places : l.left ≤ length l.places;
  carried : l.left ≤ length l.carried;
  count : length l.ports ≡ l.count;
  ports : l.ports ≡ ports 0 l.count (drop l.left l.places) (drop l.left l.carried);
}

abbrev pub decreases-loop-left : goal.decreases-loop-left
decreases-loop-left l = l.left
