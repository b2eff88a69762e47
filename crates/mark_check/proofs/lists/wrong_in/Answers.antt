use Rattle.std.proofs.Common.{subst, sym}
use Rattle.if1_order.specs.Walks.{AreInside}
use Rattle.mark_check.proofs.lists.wrong_in.Goals as goal

pub cycles_of-requires : goal.cycles_of-requires
cycles_of-requires c = subst AreInside (sym c.as_slice-3.ensures.value) c.in_ok-lists.ensures.inside
