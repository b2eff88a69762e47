use Rattle.std.proofs.Common.{◌≡◌, ◌≤◌, length, drop}
use Rattle.line_types.specs.Traces.{renew}
use Rattle.line_walk.proofs.turns.renew.Given as goal

abbrev pub invariant-loop-left : goal.invariant-loop-left
invariant-loop-left l = record {
  renewed : l.left ≤ length l.renewed;
  carried : l.left ≤ length l.carried;
  names : l.names ≡ renew (drop l.left l.renewed) (drop l.left l.carried) l.fn.names;
}

abbrev pub decreases-loop-left : goal.decreases-loop-left
decreases-loop-left l = l.left
