use Rattle.std.proofs.Common.{◌≡◌}
use Rattle.bench_pool.proofs.Filled.{IsFilled}
use Rattle.bench_pool.proofs.rooms.fill.Given as goal

abbrev pub invariant-loop-i : goal.invariant-loop-i
invariant-loop-i l = (l.part.number ≡ l.initial.part.number) × (l.part.part.start ≡ l.initial.part.part.start) × (l.part.part.from ≡ l.initial.part.part.from) × IsFilled l.places l.part.part.places l.i
