use Rattle.std.proofs.Common.{rules}
use Rattle.fire_lock.proofs.Splits.{splits_it}
use Rattle.fire_lock.proofs.lock.FireLock.split.Goals as goal

pub split_seat-seat-requires : goal.split_seat-seat-requires
split_seat-seat-requires g c = (search rules, search rules, splits_it g.M.Machine.starts g.M.Machine.plays _ _ _ _ c.pass.invariant.3 (search rules))
