use Rattle.std.proofs.Common.{◌≡◌, length}
use Rattle.mark_check.specs.Late.{AreStamps}
use Rattle.mark_check.proofs.late.stamp.Given as goal

abbrev pub invariant-loop-place : goal.invariant-loop-place
invariant-loop-place l = record { fit : length l.stamps ≡ length l.lists; right : AreStamps l.lists l.stamps }
