use Rattle.std.proofs.Common.{◌==◌, ◌∙◌, filter, ap, sym}
use Rattle.if1_graph.specs.declared.graph.Edge.{Edge}
use Rattle.if1_ports.specs.Fed.{first_of}
use Rattle.if1_ports.proofs.Edges as ports
use Rattle.node_works.proofs.into.first_into.Goals as goal

pub returns : goal.returns
returns c =
    c.first_of.ensures
    ∙ ap first_of (c.edges_into.ensures ∙ ap (filter (λ (e : Edge). e.node == c.args.label)) c.as_slice.ensures)
    ∙ sym (ports.first_into c.args.graph.now c.args.label)
