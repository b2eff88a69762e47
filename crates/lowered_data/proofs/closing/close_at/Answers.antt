use Rattle.std.proofs.Common.{◌≡◌, ◌∙◌, List, get_or, set, ap}
use Rattle.std.proofs.lemmas.List.{set-set, get_or_default}
use Rattle.lowering.specs.declared.graph.LoweredGraph.{LoweredGraph}
use Rattle.lowered_data.specs.Parts.{blank, graph_closed}
use Rattle.lowered_data.proofs.closing.close_at.Goals as goal

pub returns : goal.returns
returns c =
    let gs = c.args.graphs in
    let p = c.args.place in
    let closed = graph_closed c.args.keys.now c.args.first c.args.own in
    let same : c.into_vec-items.result.items ≡ gs = c.into_vec-items.ensures in
    let old : c.replace-graph.result ≡ get_or gs p blank =
    c.replace-graph.ensures.value ∙ c.index_mut.ensures.value ∙ ap (λ (xs : List LoweredGraph). get_or xs p c.index_mut.result.now) same
    ∙ get_or_default gs p c.index_mut.result.now blank c.requires.within in
    let kept : c.from_vec-graphs.result ≡ set c.into_vec-items.result.items p c.replace-graph.new.dest = c.from_vec-graphs.ensures in
    c.set.ensures ∙ ap (λ (xs : List LoweredGraph). set xs p c.in_ok-closed.closed) kept
    ∙ set-set c.into_vec-items.result.items p c.replace-graph.new.dest c.in_ok-closed.closed
    ∙ ap (λ (xs : List LoweredGraph). set xs p c.in_ok-closed.closed) same
    ∙ ap (set gs p) (c.in_ok-closed.ensures ∙ ap closed old)
