use Rattle.std.proofs.Common.{map, sym, subst, ap, ◌∙◌}
use Rattle.if1_graph.specs.Units.{label_of}
use Rattle.if1_order.specs.Walks.{AreInside, Sorts}
use Rattle.if1_reach.specs.Nets.{IsNet, links_in}
use Rattle.firing_order.proofs.Sorts.{no-circle, sorted-order}
use Rattle.firing_order.proofs.order.firing_order.Goals as goal

pub sort-requires : goal.sort-requires
sort-requires c = subst AreInside (sym c.as_slice-3.ensures.value) c.in_ok-lists.ensures.inside

pub unreachable-requires : goal.unreachable-requires
unreachable-requires c =
    no-circle c.args.graph.now c.as_slice-2.result.now c.as_slice-3.result.now c.in-OnCircle.field-0 c.requires.rising c.requires.acyclic (c.as_slice-2.ensures ∙ (c.in_ok-labels.ensures ∙ ap (map label_of) c.as_slice.ensures))
    (subst (λ ls. IsNet c.as_slice-2.result.now ls (links_in c.args.graph.now)) (sym c.as_slice-3.ensures.value) c.in_ok-lists.ensures) (subst (Sorts c.as_slice-3.result.now) c.in-OnCircle.is c.in_ok-places.ensures).1

pub returns : goal.returns
returns c =
    sorted-order c.args.graph.now c.as_slice-2.result.now c.as_slice-3.result.now c.in-InOrder.places (c.as_slice-2.ensures ∙ (c.in_ok-labels.ensures ∙ ap (map label_of) c.as_slice.ensures))
    (subst (λ ls. IsNet c.as_slice-2.result.now ls (links_in c.args.graph.now)) (sym c.as_slice-3.ensures.value) c.in_ok-lists.ensures) (subst (Sorts c.as_slice-3.result.now) c.in-InOrder.is c.in_ok-places.ensures)
