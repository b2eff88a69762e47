use Rattle.std.proofs.Common.{}
use Rattle.fire_lock.specs.Passes.{Same}
use Rattle.test_pool.proofs.fire_lock_tests.work.Given as goal

abbrev pub invariant-loop : goal.invariant-loop
invariant-loop g l = Same l.initial.pass l.pass
