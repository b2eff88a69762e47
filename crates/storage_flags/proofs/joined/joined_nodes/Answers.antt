use Rattle.std.proofs.Common.{◌&&◌, ◌∙◌, ◌≤◌, length, ap, subst}
use Rattle.std.proofs.lemmas.List.{take_all}
use Rattle.std.specs.List.{list_any}
use Rattle.if1_graph.specs.declared.graph.Graph.TheViews.{out-Graph}
use Rattle.if1_graph.specs.Ports.{leaves}
use Rattle.graph_meaning.specs.StorageUnits.{operation, is_catenation}
use Rattle.storage_flags.proofs.Filtered.{any-filtered}
use Rattle.storage_flags.proofs.joined.joined_nodes.Goals as goal

pub returns : goal.returns
returns c = λ l.
    let g = c.args.graph.now in
    let es = (out-Graph g).edges in
    c.of.ensures l
    ∙ (c.loop-edge.invariant l
    ∙ (ap (list_any (λ e. leaves l 1 e.from && (e.takes && is_catenation (operation g e.node))))
    (take_all c.loop-edge.edge-index es (subst (λ xs. length xs ≤ c.loop-edge.edge-index) c.as_slice-edge-items.ensures c.loop-edge-test.false))
    ∙ any-filtered (λ e. leaves l 1 e.from) (λ e. e.takes && is_catenation (operation g e.node)) es))
