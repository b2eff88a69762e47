use Rattle.std.proofs.Common.{take}
use Rattle.mark_check.specs.Least.{IsLeast, IsAmong}
use Rattle.mark_check.specs.Late.{IsLate}
use Rattle.mark_check.proofs.late.least_late.Given as goal

abbrev pub invariant-loop-user : goal.invariant-loop-user
invariant-loop-user l = IsLeast (IsAmong (take l.user-index l.users) (IsLate l.labels l.ranks l.weights l.taker l.node)) l.least
