use Rattle.std.proofs.Common.{length, refl, subst}
use Rattle.if1_order.specs.Walks.{Sorts}
use Rattle.if1_reach.proofs.Ranking.{sorted-all, sorted-ranked}
use Rattle.if1_reach.proofs.ranks.ranked.Goals as goal

pub ranks_in-requires-clause-inside : goal.ranks_in-requires-clause-inside
ranks_in-requires-clause-inside c =
    sorted-all c.args.lists.now c.in-InOrder.order c.as_slice.result.now (length c.args.lists.now) (subst (Sorts c.args.lists.now) c.in-InOrder.is c.in_ok-order.ensures) c.as_slice.ensures refl

pub returns-in_ok-ranks-in-InOrder : goal.returns-in_ok-ranks-in-InOrder
returns-in_ok-ranks-in-InOrder c =
    sorted-ranked c.args.lists.now c.in-InOrder.order c.as_slice.result.now c.in_ok-ranks-in-InOrder.ranks (length c.args.lists.now) (subst (Sorts c.args.lists.now) c.in-InOrder.is c.in_ok-order.ensures) c.as_slice.ensures refl
    c.in_ok-ranks-in-InOrder.ensures.0 c.in_ok-ranks-in-InOrder.ensures.1
