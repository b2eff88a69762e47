use Rattle.std.proofs.Common.{◌≡◌, ◌∷◌, drop, take}
use Rattle.code_maker.specs.declared.seats.Seat.TheVariants as seat
use Rattle.code_maker.proofs.seats.with_content.Given as goal

abbrev pub invariant-loop-place : goal.invariant-loop-place
invariant-loop-place l = l.list ≡ seat.Cell l.cell ∷ drop 1 (take l.place l.seats)
