use Rattle.std.proofs.Common.{length}
use Rattle.take_marks.proofs.wish.take_fresh.Given as goal

abbrev pub decreases-loop-place : goal.decreases-loop-place
decreases-loop-place l = length l.stack
