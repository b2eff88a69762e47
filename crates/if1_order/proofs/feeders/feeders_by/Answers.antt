use Rattle.std.proofs.Common.{◌≡◌, ◌+◌, ◌∷◌, ◌++◌, [], take, sym, ap, subst, ◌∙◌}
use Rattle.std.proofs.lemmas.List.{take_more}
use Rattle.if1_order.specs.Feeders.{AreFeeders}
use Rattle.if1_order.proofs.feeders.feeders_by.Goals as goal

pub loop-edge-preserved : goal.loop-edge-preserved
loop-edge-preserved c =
    let e : take (c.loop-edge.edge-index + 1) c.args.edges.now ≡ take c.loop-edge.edge-index c.args.edges.now ++ c.edge-item.result ∷ [] =
    take_more c.args.edges.now c.loop-edge.edge-index c.edge-item.result c.loop-edge-test.true
    ∙ ap (λ x. take c.loop-edge.edge-index c.args.edges.now ++ x ∷ []) (sym c.edge-item.is) in
    subst (λ z. AreFeeders c.args.labels.now z c.add_edge.new.lists.items) (sym e)
    (c.in_ok-add_edge.ensures (take c.loop-edge.edge-index c.args.edges.now) c.loop-edge.invariant)
