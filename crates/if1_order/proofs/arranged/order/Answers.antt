use Rattle.std.proofs.Common.{List, ℕ, map, length, sym, ap, subst, ◌∙◌}
use Rattle.if1_graph.specs.declared.graph.Graph.TheViews.{out-Graph}
use Rattle.if1_graph.specs.declared.graph.Edge.{Edge}
use Rattle.if1_graph.specs.Units.{label_of}
use Rattle.if1_order.specs.Feeders.{AreFeeders}
use Rattle.if1_order.specs.Walks.{Lists, AreInside}
use Rattle.if1_order.proofs.Orders.{feeders_inside, arranged_orders}
use Rattle.if1_order.proofs.arranged.order.Goals as goal

pub arrange-requires : goal.arrange-requires
arrange-requires c =
    let fed : AreFeeders c.as_slice-2.result.now c.as_slice-3.result.now c.in_ok-feeders.feeders.items = c.in_ok-feeders.ensures in
    record {
      inside = subst (λ (z : Lists). AreInside z) (sym c.as_slice-5.ensures.value) (feeders_inside c.as_slice-2.result.now c.as_slice-3.result.now c.in_ok-feeders.feeders.items fed);
      fit = ap length c.as_slice-5.ensures.value ∙ (fed.fit ∙ ap length (c.as_slice-2.ensures ∙ sym c.as_slice-4.ensures));
    }

pub returns : goal.returns
returns c =
    let fed : AreFeeders c.as_slice-2.result.now c.as_slice-3.result.now c.in_ok-feeders.feeders.items = c.in_ok-feeders.ensures in
    let here : AreFeeders c.as_slice-4.result.now (out-Graph c.args.graph.now).edges c.as_slice-5.result.now =
    subst (λ (z : List ℕ). AreFeeders z (out-Graph c.args.graph.now).edges c.as_slice-5.result.now) (c.as_slice-2.ensures ∙ sym c.as_slice-4.ensures)
    (subst (λ (z : List Edge). AreFeeders c.as_slice-2.result.now z c.as_slice-5.result.now) c.as_slice-3.ensures
    (subst (λ (z : Lists). AreFeeders c.as_slice-2.result.now c.as_slice-3.result.now z) (sym c.as_slice-5.ensures.value) fed)) in
    arranged_orders c.args.graph.now c.as_slice-4.result.now c.as_slice-5.result.now c.in_ok-found.found c.requires
    (c.as_slice-4.ensures ∙ (c.in_ok-labels.ensures ∙ ap (map label_of) c.as_slice.ensures)) here c.in_ok-found.ensures
