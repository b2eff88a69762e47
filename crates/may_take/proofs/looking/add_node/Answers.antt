use Rattle.std.proofs.Common.{subst}
use Rattle.if1_graph.specs.declared.graph.Node.{out-Node}
use Rattle.may_take.specs.Around.{insides}
use Rattle.may_take.specs.Looked.{IsUse}
use Rattle.may_take.proofs.Laid.{edges-laid}
use Rattle.may_take.proofs.Steps.{node-more}
use Rattle.may_take.proofs.looking.add_node.Goals as goal

pub node_use-requires-clause-inner : goal.node_use-requires-clause-inner
node_use-requires-clause-inner c = edges-laid (out-Node c.args.node.now).subs c.requires.laid

pub add_parts-requires-clause-how : goal.add_parts-requires-clause-how
add_parts-requires-clause-how c =
    subst (λ rs. IsUse c.args.functions.now c.args.graph.now c.args.node.now (insides rs) c.in_ok-how.how) c.as_slice.ensures.value c.in_ok-how.ensures

pub returns : goal.returns
returns c = λ ns before.
    node-more c.args.unit.now c.args.functions.now c.args.graph.now c.args.node.now c.args.parts.items c.requires.looked c.in_ok-how.how
    (subst (λ rs. IsUse c.args.functions.now c.args.graph.now c.args.node.now (insides rs) c.in_ok-how.how) c.as_slice.ensures.value c.in_ok-how.ensures)
    c.args.nodes.now _ c.in_ok-push.ensures.items c.in_ok-add_parts.ensures ns before
