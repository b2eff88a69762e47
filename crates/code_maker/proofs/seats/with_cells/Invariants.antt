use Rattle.std.proofs.Common.{◌≡◌, ◌++◌, take}
use Rattle.code_maker.specs.Seats.{cells_from}
use Rattle.code_maker.proofs.seats.with_cells.Given as goal

abbrev pub invariant-loop-seat : goal.invariant-loop-seat
invariant-loop-seat l = l.list ≡ take l.seat-index l.seats

abbrev pub invariant-loop-count : goal.invariant-loop-count
invariant-loop-count l = l.list ≡ l.seats ++ cells_from l.from l.count
