use Rattle.std.proofs.Common.{◌≡◌, ◌∙◌, List, [], ◌∷◌, drop, map, sym, ap, subst, arith}
use Rattle.std.specs.Vec.Iter.{into_iter_items}
use Rattle.if1_graph.specs.declared.graph.Graph.{Graph}
use Rattle.if1_graph.specs.declared.graph.Graph.TheOpen.{Graph-F}
use Rattle.if1_graph.specs.declared.graph.Graph.TheViews.{out-Graph, roll-Graph}
use Rattle.if1_graph.specs.declared.graph.Node.{Node}
use Rattle.if1_graph.specs.Units.{greatest}
use Rattle.if1_order.proofs.Within.{node_levels, levels_out, parts_below, below}
use Rattle.mark_units.specs.Walked.{NodesNext, NodesMarked, GraphMarked}
use Rattle.mark_units.proofs.Turns.{PartsGoing, NodesGoing, left-in, none-left, parts-begin, part-next, parts-turn, parts-end, nodes-begin, node-next, nodes-turn, nodes-end}
use Rattle.mark_units.proofs.Begins.{node-parts, node-marked, graph-there, graph-shape, graph-flags, graph-nodes, graph-count, whole-graph, begun-is, begun-nodes}
use Rattle.mark_units.proofs.walk.+walk.Goals as goal

-- ---- a graph

pub mark_graph-begin-requires-clause-there : goal.mark_graph-begin-requires-clause-there
mark_graph-begin-requires-clause-there t c = graph-there c.args.graph c.args.flags.now c.args.pass.now.at c.requires

pub mark_graph-begin-requires-clause-shape : goal.mark_graph-begin-requires-clause-shape
mark_graph-begin-requires-clause-shape t c = graph-shape c.args.graph c.args.flags.now c.args.pass.now.at c.requires

pub mark_graph-begin-requires-clause-flags : goal.mark_graph-begin-requires-clause-flags
mark_graph-begin-requires-clause-flags t c = graph-flags c.args.graph c.args.flags.now c.args.pass.now.at c.requires

pub mark_graph-mark_nodes-requires : goal.mark_graph-mark_nodes-requires
mark_graph-mark_nodes-requires t c =
    let g = c.args.graph in
    let b = c.in_ok-graph.ensures in
    let ns = begun-nodes g _ c.args.pass.now c.begin.new.pass c.in_ok-graph.field-0 b in (
      omega (arith, c.decreases, levels_out g, ap (λ (z : List Node). greatest (map node_levels z)) ns),
      subst (λ z. NodesNext z (drop c.begin.new.pass.at c.args.flags.now)) (sym ns)
          (subst (λ k. NodesNext (out-Graph g).nodes (drop k c.args.flags.now)) (sym b.at) (graph-nodes g c.args.flags.now c.args.pass.now.at c.requires)),
    )

pub mark_graph-list_nodes-requires : goal.mark_graph-list_nodes-requires
mark_graph-list_nodes-requires t c =
    let g = c.args.graph in
    let b = c.in_ok-graph.ensures in
    let ns = begun-nodes g _ c.args.pass.now c.begin.new.pass c.in_ok-graph.field-0 b in
    let m : NodesMarked (out-Graph g).nodes c.args.flags.now c.begin.new.pass c.mark_nodes.new.pass c.in_ok-nodes.nodes =
    subst (λ z. NodesMarked z c.args.flags.now c.begin.new.pass c.mark_nodes.new.pass c.in_ok-nodes.nodes) ns c.in_ok-nodes.ensures in
    b.fit ∙ sym (graph-count g c.args.flags.now c.args.pass.now.at c.requires c.begin.new.pass c.mark_nodes.new.pass b.at c.in_ok-nodes.nodes m)

pub mark_graph-returns : goal.mark_graph-returns
mark_graph-returns t c =
    let g = c.args.graph in
    let r = c.in_ok-graph.field-0 in
    let b = c.in_ok-graph.ensures in
    let ns = begun-nodes g _ c.args.pass.now c.begin.new.pass r b in
    let m : NodesMarked (out-Graph g).nodes c.args.flags.now c.begin.new.pass c.mark_nodes.new.pass c.in_ok-nodes.nodes =
    subst (λ z. NodesMarked z c.args.flags.now c.begin.new.pass c.mark_nodes.new.pass c.in_ok-nodes.nodes) ns c.in_ok-nodes.ensures in
    subst (λ (x : Graph-F Graph Node). GraphMarked g c.args.flags.now c.args.pass.now c.mark_nodes.new.pass (roll-Graph (record { number = x.number; exported = x.exported; name = x.name; fun = x.fun; nodes = c.list_nodes.result; edges = x.edges })))
    (sym (begun-is g _ c.args.pass.now c.begin.new.pass r b))
    (whole-graph g c.args.flags.now c.args.pass.now c.begin.new.pass c.mark_nodes.new.pass r b c.in_ok-nodes.nodes c.list_nodes.result m c.list_nodes.ensures)

-- ---- a node

pub mark_node-mark_parts-requires : goal.mark_node-mark_parts-requires
mark_node-mark_parts-requires t c = (omega (arith, c.decreases), node-parts c.args.node (drop c.args.pass.now.at c.args.flags.now) c.requires)

pub mark_node-returns : goal.mark_node-returns
mark_node-returns t c = node-marked c.args.node c.args.flags.now c.args.pass.now c.mark_parts.new.pass c.in_ok-subs.subs c.in_ok-subs.ensures

-- ---- nodes

pub mark_nodes-loop-node-init : goal.mark_nodes-loop-node-init
mark_nodes-loop-node-init t c =
    let ns = c.args.nodes in
    subst (λ done. NodesGoing ns c.args.flags.now c.args.pass.now done (into_iter_items c.into_iter-rest.result) c.args.pass.now) (sym c.in_ok-marked.ensures)
    (subst (λ left. NodesGoing ns c.args.flags.now c.args.pass.now [] left c.args.pass.now) (sym (c.into_iter-rest.ensures.rest ∙ c.into_vec.ensures)) (nodes-begin ns c.args.flags.now c.args.pass.now))

pub mark_nodes-mark_node-requires : goal.mark_nodes-mark_node-requires
mark_nodes-mark_node-requires t c =
    let n = c.in-Some.node in
    let left = into_iter_items c.next.new.self in
    let going : NodesGoing c.args.nodes c.args.flags.now c.args.pass.now c.loop-node.marked (n ∷ left) c.loop-node.pass =
    subst (λ ns. NodesGoing c.args.nodes c.args.flags.now c.args.pass.now c.loop-node.marked ns c.loop-node.pass) c.in-Some.ensures.items c.loop-node.invariant in (
      omega (arith, c.decreases, parts_below c.args.nodes n (left-in n left going.left_is)),
      node-next c.args.nodes c.args.flags.now c.args.pass.now c.loop-node.marked n left c.loop-node.pass going c.requires,
    )

pub mark_nodes-loop-node-preserved : goal.mark_nodes-loop-node-preserved
mark_nodes-loop-node-preserved t c =
    let n = c.in-Some.node in
    let left = into_iter_items c.next.new.self in
    let going : NodesGoing c.args.nodes c.args.flags.now c.args.pass.now c.loop-node.marked (n ∷ left) c.loop-node.pass =
    subst (λ ns. NodesGoing c.args.nodes c.args.flags.now c.args.pass.now c.loop-node.marked ns c.loop-node.pass) c.in-Some.ensures.items c.loop-node.invariant in
    subst (λ done. NodesGoing c.args.nodes c.args.flags.now c.args.pass.now done left c.mark_node.new.pass) (sym c.in_ok-add.ensures.ok)
    (nodes-turn c.args.nodes c.args.flags.now c.args.pass.now c.loop-node.marked n left c.loop-node.pass going c.mark_node.new.pass c.in_ok-mark_node.field-0 c.in_ok-mark_node.ensures)

-- ---- graphs

pub mark_parts-loop-graph-init : goal.mark_parts-loop-graph-init
mark_parts-loop-graph-init t c =
    let gs = c.args.graphs in
    subst (λ done. PartsGoing gs c.args.flags.now c.args.pass.now done (into_iter_items c.into_iter-rest.result) c.args.pass.now) (sym c.in_ok-marked.ensures)
    (subst (λ left. PartsGoing gs c.args.flags.now c.args.pass.now [] left c.args.pass.now) (sym (c.into_iter-rest.ensures.rest ∙ c.into_vec.ensures)) (parts-begin gs c.args.flags.now c.args.pass.now))

pub mark_parts-mark_graph-requires : goal.mark_parts-mark_graph-requires
mark_parts-mark_graph-requires t c =
    let s = c.in-Some.graph in
    let left = into_iter_items c.next.new.self in
    let going : PartsGoing c.args.graphs c.args.flags.now c.args.pass.now c.loop-graph.marked (s ∷ left) c.loop-graph.pass =
    subst (λ gs. PartsGoing c.args.graphs c.args.flags.now c.args.pass.now c.loop-graph.marked gs c.loop-graph.pass) c.in-Some.ensures.items c.loop-graph.invariant in (
      omega (arith, c.decreases, below c.args.graphs s (left-in s left going.left_is)),
      part-next c.args.graphs c.args.flags.now c.args.pass.now c.loop-graph.marked s left c.loop-graph.pass going c.requires,
    )

pub mark_parts-loop-graph-preserved : goal.mark_parts-loop-graph-preserved
mark_parts-loop-graph-preserved t c =
    let s = c.in-Some.graph in
    let left = into_iter_items c.next.new.self in
    let going : PartsGoing c.args.graphs c.args.flags.now c.args.pass.now c.loop-graph.marked (s ∷ left) c.loop-graph.pass =
    subst (λ gs. PartsGoing c.args.graphs c.args.flags.now c.args.pass.now c.loop-graph.marked gs c.loop-graph.pass) c.in-Some.ensures.items c.loop-graph.invariant in
    subst (λ done. PartsGoing c.args.graphs c.args.flags.now c.args.pass.now done left c.mark_graph.new.pass) (sym c.in_ok-add.ensures.ok)
    (parts-turn c.args.graphs c.args.flags.now c.args.pass.now c.loop-graph.marked s left c.loop-graph.pass going c.mark_graph.new.pass c.in_ok-mark_graph.field-0 c.in_ok-mark_graph.ensures)

pub mark_nodes-returns : goal.mark_nodes-returns
mark_nodes-returns t c =
    let e : into_iter_items c.loop-node.rest ≡ [] = none-left (into_iter_items c.loop-node.rest) (omega (arith, c.in_default.ensures.cases.0, c.loop-node.rest.rest.ok.0)) in
    nodes-end c.args.nodes c.args.flags.now c.args.pass.now c.loop-node.marked c.loop-node.pass
    (subst (λ left. NodesGoing c.args.nodes c.args.flags.now c.args.pass.now c.loop-node.marked left c.loop-node.pass) e c.loop-node.invariant)

pub mark_parts-returns : goal.mark_parts-returns
mark_parts-returns t c =
    let e : into_iter_items c.loop-graph.rest ≡ [] = none-left (into_iter_items c.loop-graph.rest) (omega (arith, c.in_default.ensures.cases.0, c.loop-graph.rest.rest.ok.0)) in
    parts-end c.args.graphs c.args.flags.now c.args.pass.now c.loop-graph.marked c.loop-graph.pass
    (subst (λ left. PartsGoing c.args.graphs c.args.flags.now c.args.pass.now c.loop-graph.marked left c.loop-graph.pass) e c.loop-graph.invariant)
