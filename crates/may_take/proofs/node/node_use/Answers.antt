use Rattle.std.proofs.Common.{◌∙◌, ◌==◌, filter, ap, subst}
use Rattle.if1_graph.specs.declared.graph.Edge.{Edge}
use Rattle.if1_graph.specs.Units.{label_of, edges_into}
use Rattle.may_take.specs.Around.{insides}
use Rattle.may_take.specs.Looked.{simple_use, IsUseAs}
use Rattle.may_take.proofs.node.node_use.Goals as goal

pub returns-in-None : goal.returns-in-None
returns-in-None c =
    let f = c.args.functions.now in
    let g = c.args.graph.now in
    let n = c.args.node.now in
    subst (λ k. IsUseAs f g n (insides c.args.parts.now) k c.simple_use.result) c.in-None.ensures
    (c.simple_use.ensures
    ∙ (ap (λ es. simple_use f es c.simple_of.result) (c.edges_into-inputs.ensures ∙ ap (filter (λ (e : Edge). e.node == label_of n)) c.as_slice.ensures)
    ∙ ap (simple_use f (edges_into g (label_of n))) c.simple_of.ensures))
