use Rattle.std.proofs.Common.{◌+◌, List, ◌∙◌, ap, sym, drop}
use Rattle.lowering.specs.declared.feed.Wire.{Wire}
use Rattle.lowering.specs.declared.graph.LoweredNode.{LoweredNode}
use Rattle.lowering.specs.Feeds.{outsides, distinct}
use Rattle.lowering.specs.Graphs.{used_by, used}
use Rattle.lowered_data.proofs.Lists.{rest_is, uses_append}
use Rattle.lowered_data.proofs.keys.Keys.add_nodes.Goals as goal

pub loop-node-preserved : goal.loop-node-preserved
loop-node-preserved c =
    let vs = c.args.nodes.now in
    let v = c.node-item.result in
    let rest = drop (c.loop-node.node-index + 1) vs in
    ap (λ (ks : List Wire). distinct ks (outsides (used rest))) c.in_ok-add_node.ensures
    ∙ sym (uses_append c.loop-node.self (used_by v.action v.ins) (used rest))
    ∙ ap (λ (us : List LoweredNode). distinct c.loop-node.self (outsides (used us))) (sym (rest_is vs c.loop-node.node-index v c.loop-node-test.true c.node-item.is))
    ∙ c.loop-node.invariant
