use Rattle.std.proofs.Common.{◌≡◌, ◌++◌}
use Rattle.code_maker.specs.Seats.{looked_at}
use Rattle.code_maker.proofs.draft.add_looked.Given as goal

abbrev pub invariant-loop-count : goal.invariant-loop-count
invariant-loop-count l = l.operands ≡ l.initial.operands ++ looked_at l.from l.count
