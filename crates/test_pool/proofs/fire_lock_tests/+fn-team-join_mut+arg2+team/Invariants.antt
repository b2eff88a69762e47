use Rattle.std.proofs.Common.{◌+◌, ◌-◌, ◌*◌}
use Rattle.test_pool.proofs.fire_lock_tests.+fn-team-join_mut+arg2+team.Given as goal

abbrev pub decreases-join_mut+arg2 : goal.decreases-join_mut+arg2
decreases-join_mut+arg2 g l = 2 * (l.count - 1) + 1

abbrev pub decreases-team : goal.decreases-team
decreases-team g l = 2 * l.count
