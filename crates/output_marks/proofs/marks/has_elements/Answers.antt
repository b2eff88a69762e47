use Rattle.std.proofs.Common.{◌≡◌, ◌∙◌, ◌==◌, find, filter, None, Some, sym, ap}
use Rattle.if1_graph.specs.declared.graph.Edge.{Edge}
use Rattle.if1_graph.specs.declared.graph.Graph.TheViews.{out-Graph}
use Rattle.if1_graph.specs.Types.{entry_at}
use Rattle.if1_graph.specs.Units.{edge_into}
use Rattle.graph_meaning.specs.StorageUnits.{carries_elements, elements_by}
use Rattle.output_marks.proofs.Lists.{found-filtered}
use Rattle.output_marks.proofs.marks.has_elements.Goals as goal

pub returns-in-Some : goal.returns-in-Some
returns-in-Some c =
    let g = c.args.graph.now in
    let l = c.args.label in
    let found : edge_into g l 1 ≡ Some c.in-Some.edge.now =
    sym (c.in-Some.ensures ∙ (ap (find (λ (e : Edge). e.port == 1)) (c.edges_into.ensures ∙ ap (filter (λ (e : Edge). e.node == l)) c.as_slice.ensures)
    ∙ found-filtered (λ (e : Edge). e.node == l) (λ (e : Edge). e.port == 1) (out-Graph g).edges)) in
    c.has_aggregate_elements.ensures ∙ (ap (λ ts. elements_by ts (entry_at ts c.in-Some.edge.now.ty)) c.as_slice-in-Some.ensures ∙ sym (ap (carries_elements c.args.unit.now) found))

pub returns-in-None : goal.returns-in-None
returns-in-None c =
    let g = c.args.graph.now in
    let l = c.args.label in
    let found : edge_into g l 1 ≡ None =
    sym (c.in-None.ensures ∙ (ap (find (λ (e : Edge). e.port == 1)) (c.edges_into.ensures ∙ ap (filter (λ (e : Edge). e.node == l)) c.as_slice.ensures)
    ∙ found-filtered (λ (e : Edge). e.node == l) (λ (e : Edge). e.port == 1) (out-Graph g).edges)) in
    sym (ap (carries_elements c.args.unit.now) found)
