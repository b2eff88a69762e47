use Rattle.std.proofs.Common.{◌≡◌, ◌<◌, ◌+◌, ◌++◌, ℕ, List, length, get_or, drop, ◌∙◌, ap, sym}
use Rattle.std.proofs.lemmas.List.{drop_more, get_or_default}
use Rattle.lowering.specs.declared.feed.Wire.{Wire}
use Rattle.lowering.specs.declared.graph.LoweredGraph.{LoweredGraph}
use Rattle.lowering.specs.Feeds.{outsides, distinct}
use Rattle.lowered_data.specs.Parts.{blank, graph_uses, uses_at}
use Rattle.lowered_data.proofs.Lists.{uses_append}
use Rattle.lowered_data.proofs.keys.Keys.add_graphs.Goals as goal

pub loop-place-preserved : goal.loop-place-preserved
loop-place-preserved c =
    let ps = c.args.places.now in
    let gs = c.args.graphs.now in
    let i = c.loop-place.place-index in
    let ks = c.loop-place.self in
    let g = c.index-graphs-place.result in
    let rest = drop (i + 1) ps in
    let within : get_or ps i 0 < length gs = c.requires i 0 c.loop-place-test.true in
    let here : get_or gs (get_or ps i 0) blank ≡ g = get_or_default gs (get_or ps i 0) blank g within ∙ sym c.index-graphs-place.is in
    ap (λ (k : List Wire). distinct k (outsides (uses_at rest gs))) c.in_ok-add_graph.ensures
    ∙ sym (uses_append ks (graph_uses g) (uses_at rest gs))
    ∙ ap (λ (k : LoweredGraph). distinct ks (outsides (graph_uses k ++ uses_at rest gs))) (sym here)
    ∙ ap (λ (us : List ℕ). distinct ks (outsides (uses_at us gs))) (sym (drop_more ps i 0 c.loop-place-test.true))
    ∙ c.loop-place.invariant
