use Rattle.std.proofs.Common.{◌≡◌, ◌≤◌, length, drop}
use Rattle.lowering.specs.Loops.{renew}
use Rattle.lower_exprs.proofs.turns.renew.Given as goal

abbrev pub invariant-loop-left : goal.invariant-loop-left
invariant-loop-left l = record {
  renewed : l.left ≤ length l.renewed;
  later : l.left ≤ length l.later;
  wires : l.wires ≡ renew (drop l.left l.renewed) (drop l.left l.later) l.initial.wires;
}

abbrev pub decreases-loop-left : goal.decreases-loop-left
decreases-loop-left l = l.left
