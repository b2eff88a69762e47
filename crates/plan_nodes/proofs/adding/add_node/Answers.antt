use Rattle.std.proofs.Common.{[], ◌∷◌, ◌++◌, length, sym, ap, ◌∙◌, subst}
use Rattle.if1_graph.specs.Units.{number_of}
use Rattle.graph_meaning.specs.Networks.{vertex_of}
use Rattle.plan_nodes.specs.Made.{AreMade, IsMadeOf}
use Rattle.plan_nodes.specs.Nodes.{node_by}
use Rattle.plan_nodes.proofs.Made.{made-more, made-of}
use Rattle.plan_nodes.proofs.adding.add_node.Goals as goal

pub returns-clause-made : goal.returns-clause-made
returns-clause-made c D u order t p n vs ready is are made =
    let nodes = c.in_ok-add.ensures.ok ∙ ap (λ m. c.args.nodes.now ++ m ∷ []) c.in_ok-node.ensures.node in
    subst (λ ns. AreMade D u order t (number_of p) (vs ++ vertex_of u p.graph n ∷ []) ns c.node_of.new.collects) (sym nodes)
    (subst (λ cs. AreMade D u order t (number_of p) (vs ++ vertex_of u p.graph n ∷ []) (c.args.nodes.now ++ node_by c.args.plain (length c.args.collects.now) c.args.parts ∷ []) cs) (sym c.in_ok-node.ensures.collects)
    (made-more D u order t p n c.args.parts vs c.args.nodes.now c.args.collects.now ready c.requires.task are made c.args.plain is))

pub returns-clause-added : goal.returns-clause-added
returns-clause-added c = (
  c.in_ok-node.node,
  c.in_ok-add.ensures.ok,
  subst (IsMadeOf c.args.parts) (sym c.in_ok-node.ensures.node) (made-of c.args.plain (length c.args.collects.now) c.args.parts c.requires.task),
)
