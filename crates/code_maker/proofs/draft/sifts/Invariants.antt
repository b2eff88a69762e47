use Rattle.std.proofs.Common.{◌≡◌, ◌+◌, ◌≤◌, drop, length}
use Rattle.code_maker.specs.Seats.{sifts_among}
use Rattle.code_maker.proofs.draft.sifts.Given as goal

abbrev pub invariant-loop-collect : goal.invariant-loop-collect
invariant-loop-collect l = record { bound : l.many ≤ l.collect-index; same : l.many + length (sifts_among (drop l.collect-index l.collects)) ≡ length (sifts_among l.collects) }
