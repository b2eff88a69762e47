use Rattle.std.proofs.Common.{◌<◌}
use Rattle.bench_pool.proofs.lock.run.Given as goal

abbrev pub invariant-loop-word : goal.invariant-loop-word
invariant-loop-word g l = 0 < l.workers
