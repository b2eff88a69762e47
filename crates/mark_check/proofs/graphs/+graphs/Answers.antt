use Rattle.std.proofs.Common.{◌≤◌, ◌∙◌, ◌++◌, suc, List, map, Contains, arith, refl, sym, ap}
use Rattle.if1_graph.specs.declared.graph.Graph.{Graph}
use Rattle.if1_graph.specs.declared.graph.Node.{out-Node}
use Rattle.if1_graph.specs.Units.{levels, level_below}
use Rattle.if1_order.proofs.Within.{parts_below, below}
use Rattle.mark_check.specs.Graphs.{graphs_of, graphs_in, lent}
use Rattle.mark_check.proofs.Listed.{flat-more, flat-all, graph-added}
use Rattle.mark_check.proofs.graphs.+graphs.Goals as goal

pub add_graph-returns : goal.add_graph-returns
add_graph-returns t c =
    graph-added c.args.graph.now c.args.all.now.items c.push.new.self.items c.add_nodes.new.all.items c.args.graph c.as_slice.result.now refl c.as_slice.ensures c.in_ok-push.ensures.items c.in_ok-add_nodes.ensures

pub add_nodes-loop-node-preserved : goal.add_nodes-loop-node-preserved
add_nodes-loop-node-preserved t c = λ more deep.
    let here : Contains c.args.nodes.now c.node-item.result = (c.loop-node.node-index, c.loop-node-test.true, sym c.node-item.is) in
    let flat : level_below (map levels c.as_slice.result.now) ≤ suc more =
    omega (arith, deep, parts_below c.args.nodes.now c.node-item.result here, ap (λ (z : List Graph). level_below (map levels z)) c.as_slice.ensures) in
    flat-more (λ n. graphs_in more (out-Node n).subs) c.args.nodes.now c.loop-node.node-index c.node-item.result c.loop-node-test.true c.node-item.is (lent c.args.all.now.items) (lent c.loop-node.all.items) (lent c.add_parts.new.all.items)
    (c.loop-node.invariant more deep) (c.in_ok-add_parts.ensures more flat ∙ ap (λ gs. lent c.loop-node.all.items ++ graphs_in more gs) c.as_slice.ensures)

pub add_parts-loop-graph-preserved : goal.add_parts-loop-graph-preserved
add_parts-loop-graph-preserved t c = λ more deep.
    let here : Contains c.args.graphs.now c.graph-item.result = (c.loop-graph.graph-index, c.loop-graph-test.true, sym c.graph-item.is) in
    flat-more (graphs_of more) c.args.graphs.now c.loop-graph.graph-index c.graph-item.result c.loop-graph-test.true c.graph-item.is (lent c.args.all.now.items) (lent c.loop-graph.all.items) (lent c.add_graph.new.all.items)
    (c.loop-graph.invariant more deep) (c.in_ok-add_graph.ensures more (omega (arith, deep, below c.args.graphs.now c.graph-item.result here)))

pub add_nodes-returns : goal.add_nodes-returns
add_nodes-returns t c = λ more deep.
    flat-all (λ n. graphs_in more (out-Node n).subs) c.args.nodes.now c.loop-node.node-index c.loop-node-test.false (lent c.args.all.now.items) (lent c.loop-node.all.items) (c.loop-node.invariant more deep)

pub add_parts-returns : goal.add_parts-returns
add_parts-returns t c = λ more deep.
    flat-all (graphs_of more) c.args.graphs.now c.loop-graph.graph-index c.loop-graph-test.false (lent c.args.all.now.items) (lent c.loop-graph.all.items) (c.loop-graph.invariant more deep)
