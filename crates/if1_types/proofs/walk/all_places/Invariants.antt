use Rattle.std.proofs.Common.{◌≡◌, ◌+◌, length}
use Rattle.if1_types.proofs.walk.all_places.Given as goal

abbrev pub invariant-loop-left : goal.invariant-loop-left
invariant-loop-left l = length l.waiting + l.left ≡ l.places

abbrev pub decreases-loop-left : goal.decreases-loop-left
decreases-loop-left l = l.left
