use Rattle.std.proofs.Common.{rules, ap, ◌∙◌}
use Rattle.fire_lock.proofs.Joins.{joins_it, settles_it}
use Rattle.fire_lock.proofs.lock.FireLock.join.Goals as goal

pub join_seat-requires : goal.join_seat-requires
join_seat-requires g c = (
  search rules,
  search rules,
  c.other.invariant.2,
  search rules,
  joins_it g.M.Machine.starts g.M.Machine.plays _ _ _ _ _ _ c.pass.invariant.3 c.other.invariant.3 (search rules),
)

pub load-requires : goal.load-requires
load-requires g c = (
  search rules,
  search rules,
  settles_it g.M.Machine.starts g.M.Machine.plays _ _ _ _ _ (ap (λ m. m.0.turn) c.join_seat.ensures.2 ∙ c.pass.invariant.3.0),
)
