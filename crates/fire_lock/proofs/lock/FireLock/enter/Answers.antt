use Rattle.std.proofs.Common.{rules}
use Rattle.fire_lock.proofs.Enters.{enters_it}
use Rattle.fire_lock.proofs.lock.FireLock.enter.Goals as goal

pub fetch_add-requires : goal.fetch_add-requires
fetch_add-requires g c = let t = c.requires.turn in (
  search rules,
  search rules,
  enters_it g.M.Machine.starts g.M.Machine.plays _ _ _ c.self.invariant.1 _ _ t.0 t.1 t.2 t.3 t.4 t.5 t.6 c.requires.live.1 c.requires.live.0,
)
