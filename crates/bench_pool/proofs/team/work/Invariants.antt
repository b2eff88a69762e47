use Rattle.fire_lock.specs.Passes.{Same}
use Rattle.bench_pool.proofs.team.work.Given as goal

abbrev pub invariant-loop-i : goal.invariant-loop-i
invariant-loop-i g l = Same l.initial.pass l.pass
