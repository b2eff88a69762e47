use Rattle.std.proofs.Common.{rules, arith, ◌+◌, ◌-◌, ◌%◌}
use Rattle.fire_lock.proofs.Enters.{counts_it}
use Rattle.fire_lock.proofs.lock.FireLock.idle.Goals as goal

pub fetch_add-requires : goal.fetch_add-requires
fetch_add-requires g c = (
  search rules,
  search rules,
  counts_it g.M.Machine.starts g.M.Machine.plays _ _ _ _ 3 (omega arith) _ (λ n. (n + 1) % 18446744073709551616),
)

pub fetch_sub-requires : goal.fetch_sub-requires
fetch_sub-requires g c = (
  search rules,
  search rules,
  counts_it g.M.Machine.starts g.M.Machine.plays _ _ _ _ 3 (omega arith) _ (λ n. (n + (18446744073709551616 - 1)) % 18446744073709551616),
)
