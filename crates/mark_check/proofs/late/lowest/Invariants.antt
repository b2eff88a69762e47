use Rattle.std.proofs.Common.{◌≤◌, slice_index, take}
use Rattle.mark_check.specs.Late.{IsLow}
use Rattle.mark_check.proofs.late.lowest.Given as goal

abbrev pub invariant-loop-user : goal.invariant-loop-user
invariant-loop-user l = record { own : l.least ≤ slice_index l.ranks l.taker; low : IsLow l.labels l.ranks (take l.user-index l.users) l.least }
