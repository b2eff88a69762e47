use Rattle.std.proofs.Common.{◌≡◌, ◌∙◌, ◌&&◌, ◌==◌, true, filter, is_none, sym, ap}
use Rattle.if1_graph.specs.declared.graph.Edge.{Edge}
use Rattle.if1_graph.specs.declared.graph.Graph.TheViews.{out-Graph}
use Rattle.if1_graph.specs.Units.{node_at, edge_into}
use Rattle.if1_ports.proofs.Edges.{port_found}
use Rattle.may_take.specs.Owned.{has_no_second, is_final_node}
use Rattle.may_take.proofs.owned.is_last_value.Goals as goal

pub returns : goal.returns
returns c =
    let g = c.args.graph.now in
    let l = c.args.label in
    let final : is_final_node (node_at (out-Graph g).nodes l) ≡ true =
    sym (c.is_final_node.ensures ∙ ap is_final_node (c.node_of.ensures ∙ ap (λ ns. node_at ns l) c.as_slice.ensures)) ∙ c.if-not-is_final_node.false in
    c.has_no_second.ensures
    ∙ (ap has_no_second (c.edges_into.ensures ∙ ap (filter (λ (e : Edge). e.node == l)) c.as_slice-2.ensures)
    ∙ (ap is_none (sym (port_found (out-Graph g).edges l 2))
    ∙ sym (ap (λ b. b && is_none (edge_into g l 2)) final)))
