use Rattle.std.proofs.Common.{◌≡◌, ◌+◌, ◌∷◌, ◌++◌, [], map, take, sym, ap, subst, ◌∙◌}
use Rattle.std.proofs.lemmas.List.{take_more}
use Rattle.if1_ports.specs.Ends.{leaving}
use Rattle.if1_ports.proofs.Tables.{none_leaving}
use Rattle.if1_ports.proofs.ends.leaving_by.Goals as goal

pub loop-edge-preserved : goal.loop-edge-preserved
loop-edge-preserved c =
    let e : take (c.loop-edge.edge-index + 1) c.args.edges.now ≡ take c.loop-edge.edge-index c.args.edges.now ++ c.edge-item.result ∷ [] =
    take_more c.args.edges.now c.loop-edge.edge-index c.edge-item.result c.loop-edge-test.true
    ∙ ap (λ x. take c.loop-edge.edge-index c.args.edges.now ++ x ∷ []) (sym c.edge-item.is) in
    subst (λ z. c.note_edge.new.lists.items ≡ map (leaving z) c.args.labels.now) (sym e)
    (c.in_ok-note_edge.ensures (take c.loop-edge.edge-index c.args.edges.now) c.loop-edge.invariant)

pub loop-edge-init : goal.loop-edge-init
loop-edge-init c = c.in_ok-lists.ensures ∙ none_leaving c.args.labels.now
