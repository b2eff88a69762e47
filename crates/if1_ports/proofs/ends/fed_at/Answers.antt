use Rattle.std.proofs.Common.{◌==◌, ◌∙◌, filter, ap}
use Rattle.if1_graph.specs.declared.graph.Edge.{Edge}
use Rattle.if1_ports.specs.Outlines.{types_in}
use Rattle.if1_ports.specs.Names.{callees_in}
use Rattle.if1_ports.specs.Fed.{fed_by}
use Rattle.if1_ports.proofs.ends.fed_at.Goals as goal

pub returns : goal.returns
returns c =
    c.fed_by.ensures
    ∙ ap (fed_by (types_in c.args.types.now) (callees_in c.args.names.now))
    (c.edges_into.ensures ∙ ap (filter (λ (e : Edge). e.node == c.args.label)) c.as_slice.ensures)
