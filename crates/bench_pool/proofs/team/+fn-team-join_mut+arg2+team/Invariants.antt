use Rattle.std.proofs.Common.{◌+◌, ◌-◌, ◌*◌}
use Rattle.bench_pool.proofs.team.+fn-team-join_mut+arg2+team.Given as goal

abbrev pub decreases-join_mut+arg2 : goal.decreases-join_mut+arg2
decreases-join_mut+arg2 g l = 2 * (l.workers - 1) + 1

abbrev pub decreases-team : goal.decreases-team
decreases-team g l = 2 * l.workers
