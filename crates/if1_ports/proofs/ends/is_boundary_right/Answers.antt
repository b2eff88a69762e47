use Rattle.std.proofs.Common.{◌∙◌, ◌==◌, ◌&&◌, filter, ap}
use Rattle.if1_graph.specs.declared.graph.Edge.{Edge}
use Rattle.if1_ports.specs.Outlines.{types_in}
use Rattle.if1_ports.specs.Names.{callees_in}
use Rattle.if1_ports.specs.Fed.{fed_by}
use Rattle.if1_ports.specs.Simple.{exactly}
use Rattle.if1_ports.proofs.Right.{boundary_right}
use Rattle.if1_ports.proofs.ends.is_boundary_right.Goals as goal

pub returns : goal.returns
returns c =
    c.both.ensures
    ∙ ap (λ x. x && c.all_come-sources.result) (c.has_exactly-filled.ensures ∙ ap (λ f. exactly f c.args.bounds.results) c.fed_by.ensures)
    ∙ ap (λ y. exactly (fed_by (types_in c.args.types.now) (callees_in c.args.names.now) c.edges_into-edges.result.now) c.args.bounds.results && y) c.all_come-sources.ensures
    ∙ boundary_right (types_in c.args.types.now) (callees_in c.args.names.now) c.args.bounds c.args.graph.now c.args.outs.now c.edges_into-edges.result.now
    c.requires.order c.requires.outs (c.edges_into-edges.ensures ∙ ap (filter (λ (e : Edge). e.node == 0)) c.as_slice.ensures)
