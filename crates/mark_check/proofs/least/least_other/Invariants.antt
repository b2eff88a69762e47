use Rattle.std.proofs.Common.{◌≢◌, take}
use Rattle.mark_check.specs.Least.{IsLeast, IsAmong}
use Rattle.mark_check.proofs.least.least_other.Given as goal

abbrev pub invariant-loop-other : goal.invariant-loop-other
invariant-loop-other l = IsLeast (IsAmong (take l.other-index l.labels) (λ m. m ≢ l.label)) l.least
