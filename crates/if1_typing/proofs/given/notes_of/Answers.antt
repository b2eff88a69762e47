use Rattle.std.proofs.Common.{◌≡◌, ◌∙◌, ◌≤◌, ◌+◌, ◌++◌, ◌∷◌, [], List, take, length, sym, ap, subst}
use Rattle.std.proofs.lemmas.List.{take_more, take_all}
use Rattle.if1_graph.specs.declared.graph.Graph.TheViews.{out-Graph}
use Rattle.if1_graph.specs.declared.graph.Edge.{Edge}
use Rattle.if1_typing.specs.Tables.{table_of}
use Rattle.if1_typing.specs.Given.{AreSeen}
use Rattle.if1_typing.proofs.given.notes_of.Goals as goal

pub loop-edge-preserved : goal.loop-edge-preserved
loop-edge-preserved c =
    let t = table_of c.args.known.now in
    let es = (out-Graph c.args.graph.now).edges in
    let i = c.loop-edge.edge-index in
    let e = c.edge-item.result in
    let step : take (i + 1) es ≡ take i es ++ e ∷ [] =
    subst (λ (xs : List Edge). take (i + 1) xs ≡ take i xs ++ e ∷ []) c.as_slice-edge-items.ensures
    (take_more c.as_slice-edge-items.result.now i e c.loop-edge-test.true ∙ ap (λ x. take i c.as_slice-edge-items.result.now ++ x ∷ []) (sym c.edge-item.is)) in
    record {
      sound = c.in_ok-note_edge.ensures.sound;
      seen = subst (λ (xs : List Edge). AreSeen t xs c.note_edge.new.map) (sym step) (c.in_ok-note_edge.ensures.seen (take i es) c.loop-edge.invariant.seen);
    }

pub returns-clause-seen : goal.returns-clause-seen
returns-clause-seen c =
    let t = table_of c.args.known.now in
    let es = (out-Graph c.args.graph.now).edges in
    subst (λ (xs : List Edge). AreSeen t xs c.loop-edge.map)
    (take_all c.loop-edge.edge-index es
    (subst (λ (xs : List Edge). length xs ≤ c.loop-edge.edge-index) c.as_slice-edge-items.ensures c.loop-edge-test.false)) c.loop-edge.invariant.seen
