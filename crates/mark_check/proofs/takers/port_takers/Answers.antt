use Rattle.std.proofs.Common.{◌≡◌, ◌+◌, ◌∷◌, ◌++◌, [], take, sym, ap, subst, ◌∙◌}
use Rattle.std.proofs.lemmas.List.{take_more}
use Rattle.if1_graph.specs.declared.graph.Edge.{Edge}
use Rattle.if1_reach.specs.Users.{HasUsers}
use Rattle.mark_check.specs.Takers.{taking}
use Rattle.mark_check.proofs.takers.port_takers.Goals as goal

pub loop-edge-preserved : goal.loop-edge-preserved
loop-edge-preserved c =
    let e : take (c.loop-edge.edge-index + 1) c.args.edges.now ≡ take c.loop-edge.edge-index c.args.edges.now ++ c.edge-item.result ∷ [] =
    take_more c.args.edges.now c.loop-edge.edge-index c.edge-item.result c.loop-edge-test.true
    ∙ ap (λ (x : Edge). take c.loop-edge.edge-index c.args.edges.now ++ x ∷ []) (sym c.edge-item.is) in
    subst (λ es. HasUsers (taking es) c.note_taker.new.takers) (sym e) (c.in_ok-note_taker.ensures.taken (take c.loop-edge.edge-index c.args.edges.now) c.loop-edge.invariant)
