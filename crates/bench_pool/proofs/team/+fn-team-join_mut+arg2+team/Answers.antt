use denote.Param.Send.{sendable}
use Rattle.fire_lock.proofs.Sent.{pass_send, lock_sync}
use Rattle.bench_pool.proofs.tally.Tally.TheSendSync.{the_send}
use Rattle.bench_pool.proofs.team.+fn-team-join_mut+arg2+team.Goals as goal

pub join_mut-requires-send-F : goal.join_mut-requires-send-F
join_mut-requires-send-F g t c κs within = search (sendable, pass_send, lock_sync, the_send) depth 15
