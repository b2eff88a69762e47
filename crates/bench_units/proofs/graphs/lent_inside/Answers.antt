use Rattle.if1_graph.specs.declared.graph.Graph.TheViews.{out-Graph}
use Rattle.may_take.proofs.Steps.{here}
use Rattle.bench_units.proofs.graphs.lent_inside.Goals as goal

pub lent_in_node-lent-requires-clause-here : goal.lent_in_node-lent-requires-clause-here
lent_in_node-lent-requires-clause-here c =
    let p = c.requires.here in
    (p.0, p.1, p.2, here c.as_slice-node-items.result.now (out-Graph c.args.outer.now).nodes c.loop-node.node-index c.node-item.result c.as_slice-node-items.ensures c.loop-node-test.true c.node-item.is)
