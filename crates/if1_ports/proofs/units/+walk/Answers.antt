use Rattle.std.proofs.Common.{◌≡◌, ℕ, List, Option, MatchOption, Contains, ◌<◌, ◌∙◌, length, get_or, sym, ap, subst, map, arith}
use Rattle.if1_graph.specs.declared.graph.Graph.{Graph}
use Rattle.if1_graph.specs.declared.graph.Graph.TheViews.{out-Graph}
use Rattle.if1_graph.specs.declared.graph.Node.{Node, out-Node}
use Rattle.if1_graph.specs.Units.{levels, level_below}
use Rattle.if1_order.specs.Within.{whole}
use Rattle.if1_order.proofs.Within.{levels_out, parts_below, below}
use Rattle.if1_order.proofs.Units.{found_weaker}
use Rattle.if1_ports.specs.Outlines.{types_in}
use Rattle.if1_ports.specs.Names.{callees_in}
use Rattle.if1_ports.specs.declared.around.Around.{Around}
use Rattle.if1_ports.specs.Compound.{bounds_at}
use Rattle.if1_ports.specs.Ends.{FindsWrong}
use Rattle.if1_ports.specs.Inside.{AreInOrder, AllRight, SomeWrong, PartsRight, PartsWrong, NodesRight, NodesWrong}
use Rattle.if1_ports.proofs.Walks.{parts_in_order, nodes_in_order, right_graph, wrong_here, wrong_inside, right_part, wrong_part, nodes_more, nodes_all, all_of}
use Rattle.if1_ports.proofs.units.+walk.Goals as goal

pub wrong_graph-wrong_end-requires-clause-order : goal.wrong_graph-wrong_end-requires-clause-order
wrong_graph-wrong_end-requires-clause-order t c = c.requires c.args.graph.now whole

pub wrong_graph-wrong_end-requires-clause-inside : goal.wrong_graph-wrong_end-requires-clause-inside
wrong_graph-wrong_end-requires-clause-inside t c = nodes_in_order c.args.graph.now c.requires

pub wrong_graph-returns-in-Some : goal.wrong_graph-returns-in-Some
wrong_graph-returns-in-Some t c =
    wrong_here (types_in c.args.types.now) (callees_in c.args.names.now) c.args.bounds c.args.graph.now c.in-Some.label
    (subst (λ (o : Option ℕ). FindsWrong (types_in c.args.types.now) (callees_in c.args.names.now) c.args.bounds c.args.graph.now o) c.in-Some.is c.in_ok-label.ensures)

pub wrong_graph-returns : goal.wrong_graph-returns
wrong_graph-returns t c =
    let none =
    subst (λ (o : Option ℕ). FindsWrong (types_in c.args.types.now) (callees_in c.args.names.now) c.args.bounds c.args.graph.now o) c.in_default.is c.in_ok-label.ensures in
    found_weaker c.wrong_nodes.result
    (NodesRight (types_in c.args.types.now) (callees_in c.args.names.now) c.args.graph.now (out-Graph c.args.graph.now).nodes)
    (AllRight (types_in c.args.types.now) (callees_in c.args.names.now) c.args.bounds c.args.graph.now)
    (NodesWrong (types_in c.args.types.now) (callees_in c.args.names.now) c.args.graph.now (out-Graph c.args.graph.now).nodes)
    (SomeWrong (types_in c.args.types.now) (callees_in c.args.names.now) c.args.bounds c.args.graph.now)
    (right_graph (types_in c.args.types.now) (callees_in c.args.names.now) c.args.bounds c.args.graph.now none)
    (wrong_inside (types_in c.args.types.now) (callees_in c.args.names.now) c.args.bounds c.args.graph.now)
    c.wrong_nodes.ensures

here : (ns : List Node) (g : Graph) (i : ℕ) (n : Node) → ns ≡ (out-Graph g).nodes → i < length ns → n ≡ get_or ns i n → Contains (out-Graph g).nodes n
here ns g i n same h is = subst (λ ns. Contains ns n) same (i, h, sym is)

pub wrong_nodes-around_in-around-requires-clause-order : goal.wrong_nodes-around_in-around-requires-clause-order
wrong_nodes-around_in-around-requires-clause-order t c = (c.requires c.args.graph.now whole).edges

pub wrong_nodes-around_in-around-requires-clause-inside : goal.wrong_nodes-around_in-around-requires-clause-inside
wrong_nodes-around_in-around-requires-clause-inside t c =
    parts_in_order c.args.graph.now c.requires c.node-item.result
    (here c.as_slice-node-items.result.now c.args.graph.now c.loop-node.node-index c.node-item.result c.as_slice-node-items.ensures c.loop-node-test.true c.node-item.is)

pub wrong_nodes-wrong_parts-requires : goal.wrong_nodes-wrong_parts-requires
wrong_nodes-wrong_parts-requires t c =
    let g = c.args.graph.now in
    let n = c.node-item.result in
    let there = here c.as_slice-node-items.result.now g c.loop-node.node-index n c.as_slice-node-items.ensures c.loop-node-test.true c.node-item.is in (
      omega (arith, c.decreases, parts_below (out-Graph g).nodes n there, levels_out g, ap (λ (z : List Graph). level_below (map levels z)) c.as_slice.ensures),
      subst (λ (z : List Graph). AreInOrder z) (sym c.as_slice.ensures) (parts_in_order g c.requires n there),
    )

pub wrong_nodes-loop-node-preserved : goal.wrong_nodes-loop-node-preserved
wrong_nodes-loop-node-preserved t c =
    let o = types_in c.args.types.now in
    let d = callees_in c.args.names.now in
    let g = c.args.graph.now in
    let n = c.node-item.result in
    let right : PartsRight o d c.around_in-around.result c.as_slice.result.now =
    subst (λ (m : Option (ℕ × ℕ)). MatchOption m (PartsRight o d c.around_in-around.result c.as_slice.result.now) (PartsWrong o d c.around_in-around.result c.as_slice.result.now))
    c.in_default.is c.in_ok-at.ensures in
    nodes_more o d g c.as_slice-node-items.result.now c.loop-node.node-index n c.as_slice-node-items.ensures c.loop-node-test.true c.node-item.is c.loop-node.invariant
    (subst (λ (a : Option Around). PartsRight o d a (out-Node n).subs) c.around_in-around.ensures
    (subst (λ (z : List Graph). PartsRight o d c.around_in-around.result z) c.as_slice.ensures right))

pub wrong_nodes-returns : goal.wrong_nodes-returns
wrong_nodes-returns t c =
    nodes_all (types_in c.args.types.now) (callees_in c.args.names.now) c.args.graph.now c.as_slice-node-items.result.now c.loop-node.node-index c.as_slice-node-items.ensures
    c.loop-node-test.false c.loop-node.invariant

pub wrong_parts-results_of-requires : goal.wrong_parts-results_of-requires
wrong_parts-results_of-requires t c =
    let s = c.index-graphs-place.result in
    (c.requires s (c.loop-place.place, c.loop-place-test.true, sym c.index-graphs-place.is) s whole).edges

pub wrong_parts-wrong_graph-requires : goal.wrong_parts-wrong_graph-requires
wrong_parts-wrong_graph-requires t c =
    let s = c.index-graphs-place.result in
    let there : Contains c.args.graphs.now s = (c.loop-place.place, c.loop-place-test.true, sym c.index-graphs-place.is) in
    (omega (arith, c.decreases, below c.args.graphs.now s there), c.requires s there)

pub wrong_parts-returns-in-Some : goal.wrong_parts-returns-in-Some
wrong_parts-returns-in-Some t c =
    let o = types_in c.args.types.now in
    let d = callees_in c.args.names.now in
    let s = c.index-graphs-place.result in
    let b = c.bounds_at-bounds.result in
    wrong_part o d c.args.around c.args.graphs.now c.loop-place.place s b c.in-Some.at c.loop-place-test.true c.index-graphs-place.is
    (c.bounds_at-bounds.ensures ∙ ap (bounds_at c.args.around c.loop-place.place) c.results_of.ensures)
    (subst (λ (m : Option (ℕ × ℕ)). MatchOption m (AllRight o d b s) (SomeWrong o d b s)) c.in-Some.is c.in_ok-at.ensures)

pub wrong_parts-loop-place-preserved : goal.wrong_parts-loop-place-preserved
wrong_parts-loop-place-preserved t c =
    let o = types_in c.args.types.now in
    let d = callees_in c.args.names.now in
    let s = c.index-graphs-place.result in
    let b = c.bounds_at-bounds.result in
    right_part o d c.args.around c.args.graphs.now c.loop-place.place s b c.loop-place-test.true c.index-graphs-place.is
    (c.bounds_at-bounds.ensures ∙ ap (bounds_at c.args.around c.loop-place.place) c.results_of.ensures) c.loop-place.invariant
    (subst (λ (m : Option (ℕ × ℕ)). MatchOption m (AllRight o d b s) (SomeWrong o d b s)) c.in_default.is c.in_ok-at.ensures)

pub wrong_parts-returns : goal.wrong_parts-returns
wrong_parts-returns t c =
    all_of (types_in c.args.types.now) (callees_in c.args.names.now) c.args.around c.args.graphs.now c.loop-place.place c.loop-place-test.false c.loop-place.invariant
