use Rattle.if1_reach.proofs.Links.{net-of-graph}
use Rattle.if1_reach.proofs.nets.nets_of.Goals as goal

pub returns : goal.returns
returns c =
    net-of-graph c.args.labels.now c.args.graph.now c.as_slice.result.now c.as_slice-2.result.now c.in_ok-lists.lists.items c.link_nodes.new.lists.items
    c.as_slice.ensures c.as_slice-2.ensures c.in_ok-lists.ensures c.in_ok-link_nodes.ensures
