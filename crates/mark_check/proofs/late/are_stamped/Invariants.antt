use Rattle.std.proofs.Common.{take}
use Rattle.mark_check.specs.Late.{AreStamped}
use Rattle.mark_check.proofs.late.are_stamped.Given as goal

abbrev pub invariant-loop-user : goal.invariant-loop-user
invariant-loop-user l = AreStamped l.labels l.stamps (take l.user-index l.users) l.node l.mark
