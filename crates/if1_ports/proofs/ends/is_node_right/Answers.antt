use Rattle.std.proofs.Common.{◌∙◌, ◌==◌, ◌&&◌, filter, ap}
use Rattle.if1_graph.specs.declared.graph.Edge.{Edge}
use Rattle.if1_graph.specs.Units.{label_of}
use Rattle.if1_ports.specs.Outlines.{types_in}
use Rattle.if1_ports.specs.Names.{callees_in}
use Rattle.if1_ports.specs.Ends.{is_node_filled}
use Rattle.if1_ports.specs.Fed.{fed_by}
use Rattle.if1_ports.proofs.Right.{node_right}
use Rattle.if1_ports.proofs.ends.is_node_right.Goals as goal

pub returns : goal.returns
returns c =
    let o = types_in c.args.types.now in
    let d = callees_in c.args.names.now in
    let es = c.edges_into-edges.result.now in
    c.both.ensures
    ∙ ap (λ x. x && c.all_come-sources.result)
    (c.is_node_filled-filled.ensures ∙ ap (λ f. is_node_filled o f c.args.leaving.now c.args.node.now) c.fed_by.ensures)
    ∙ ap (λ y. is_node_filled o (fed_by o d es) c.args.leaving.now c.args.node.now && y) c.all_come-sources.ensures
    ∙ node_right o d c.args.bounds c.args.graph.now c.args.outs.now c.args.node.now c.args.leaving.now es
    c.requires.order c.requires.outs c.requires.there c.requires.leaving
    (c.edges_into-edges.ensures ∙ ap (filter (λ (e : Edge). e.node == label_of c.args.node.now)) c.as_slice.ensures)
