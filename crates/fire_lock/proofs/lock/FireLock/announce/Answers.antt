use Rattle.std.proofs.Common.{rules, arith, ◌+◌, ◌%◌}
use Rattle.fire_lock.proofs.Enters.{counts_it}
use Rattle.fire_lock.proofs.lock.FireLock.announce.Goals as goal

pub fetch_add-requires : goal.fetch_add-requires
fetch_add-requires g c = (
  search rules,
  search rules,
  counts_it g.M.Machine.starts g.M.Machine.plays _ _ _ _ 2 (omega arith) _ (λ n. (n + 1) % 18446744073709551616),
)
