use Rattle.std.proofs.Common.{◌==◌, ◌∙◌, filter, ap}
use Rattle.if1_graph.specs.declared.graph.Edge.{Edge}
use Rattle.if1_graph.specs.Units.{greatest}
use Rattle.if1_ports.specs.Fed.{ports_of}
use Rattle.graph_inputs.proofs.inputs.width_of.Goals as goal

pub returns : goal.returns
returns c = c.greatest_port.ensures ∙ ap (λ es. greatest (ports_of es)) (c.edges_into.ensures ∙ ap (filter (λ (e : Edge). e.node == c.args.label)) c.as_slice.ensures)
