use Rattle.std.proofs.Common.{refl}
use Rattle.if1_order.proofs.Walks.{goes_up, ends}
use Rattle.if1_order.proofs.walk.leave.Goals as goal

pub returns-in-Some : goal.returns-in-Some
returns-in-Some c = goes_up _ _ _ _ _ c.requires.walk c.requires.all c.set.ensures refl c.in-Some.ensures c.in_ok-add.ensures.ok

pub returns-in-None : goal.returns-in-None
returns-in-None c = ends _ _ _ _ c.requires.walk c.requires.all c.set.ensures refl c.in-None.ensures.0 c.in-None.ensures.1 c.in_ok-add.ensures.ok
