use Rattle.std.proofs.Common.{◌≡◌, ◌++◌, drop}
use Rattle.code_maker.specs.Seats.{sifts_among}
use Rattle.code_maker.proofs.draft.add_sifts.Given as goal

abbrev pub invariant-loop-collect : goal.invariant-loop-collect
invariant-loop-collect l = l.list ++ sifts_among (drop l.collect-index l.collects) ≡ l.initial.list ++ sifts_among l.collects
