use Rattle.std.proofs.Common.{take}
use Rattle.take_marks.specs.Standing.{ArePlaces}
use Rattle.take_marks.proofs.places.places_of.Given as goal

abbrev pub invariant-loop-user : goal.invariant-loop-user
invariant-loop-user l = ArePlaces l.labels (take l.user-index l.users) l.places
