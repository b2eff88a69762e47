use Rattle.std.proofs.Common.{ℕ, List, Option, MatchOption, Contains, sym, ap, subst, map, arith}
use Rattle.std.proofs.lemmas.List.{take_all}
use Rattle.std.proofs.lemmas.List.Elements.{All-more}
use Rattle.if1_graph.specs.declared.graph.Graph.{Graph}
use Rattle.if1_graph.specs.declared.graph.Node.{Node, out-Node}
use Rattle.if1_graph.specs.Units.{greatest, levels, level_below}
use Rattle.if1_order.specs.Within.{whole}
use Rattle.if1_order.specs.Orders.{HasNoCircle, IsCircle}
use Rattle.if1_order.specs.Parts.{AreLinkedInside, NodesAreLinked, IsClear, AreClear, NodesAreClear, HasCircle, HaveCircle, NodesHaveCircle}
use Rattle.if1_order.proofs.Within.{node_levels, levels_out, parts_below, below}
use Rattle.if1_order.proofs.Units.{clear_graph, circle_inside, linked_nodes, found_weaker}
use Rattle.if1_order.proofs.circles.+circles.Goals as goal

pub wrong_graph-circle_in-requires : goal.wrong_graph-circle_in-requires
wrong_graph-circle_in-requires t c = c.requires c.args.graph.now whole

pub wrong_graph-returns-in-Some : goal.wrong_graph-returns-in-Some
wrong_graph-returns-in-Some t c = (
  c.args.graph.now,
  whole,
  subst (λ (o : Option (ℕ × ℕ)). MatchOption o (HasNoCircle c.args.graph.now) (IsCircle c.args.graph.now)) c.in-Some.is c.in_ok-at.ensures,
)

pub wrong_graph-wrong_nodes-requires : goal.wrong_graph-wrong_nodes-requires
wrong_graph-wrong_nodes-requires t c = (
  omega (arith, c.decreases, levels_out c.args.graph.now, ap (λ (z : List Node). greatest (map node_levels z)) c.as_slice.ensures),
  subst (λ (z : List Node). NodesAreLinked z) (sym c.as_slice.ensures) (linked_nodes c.args.graph.now c.requires),
)

pub wrong_graph-returns : goal.wrong_graph-returns
wrong_graph-returns t c =
    let none : HasNoCircle c.args.graph.now =
    subst (λ (o : Option (ℕ × ℕ)). MatchOption o (HasNoCircle c.args.graph.now) (IsCircle c.args.graph.now)) c.in_default.is c.in_ok-at.ensures in
    found_weaker c.wrong_nodes.result
    (NodesAreClear c.as_slice.result.now) (IsClear c.args.graph.now)
    (NodesHaveCircle c.as_slice.result.now) (HasCircle c.args.graph.now)
    (λ clear. clear_graph c.args.graph.now none (subst (λ (z : List Node). NodesAreClear z) c.as_slice.ensures clear))
    (λ at h. circle_inside c.args.graph.now at (subst (λ (z : List Node). NodesHaveCircle z at) c.as_slice.ensures h))
    c.wrong_nodes.ensures

pub wrong_nodes-wrong_parts-requires : goal.wrong_nodes-wrong_parts-requires
wrong_nodes-wrong_parts-requires t c =
    let here : Contains c.args.nodes.now c.node-item.result = (c.loop-node.node-index, c.loop-node-test.true, sym c.node-item.is) in (
      omega (arith, c.decreases, parts_below c.args.nodes.now c.node-item.result here, ap (λ (z : List Graph). level_below (map levels z)) c.as_slice.ensures),
      subst (λ (z : List Graph). AreLinkedInside z) (sym c.as_slice.ensures) (c.requires c.node-item.result here),
    )

pub wrong_parts-wrong_graph-requires : goal.wrong_parts-wrong_graph-requires
wrong_parts-wrong_graph-requires t c =
    let here : Contains c.args.graphs.now c.graph-item.result = (c.loop-graph.graph-index, c.loop-graph-test.true, sym c.graph-item.is) in
    (omega (arith, c.decreases, below c.args.graphs.now c.graph-item.result here), c.requires c.graph-item.result here)

pub wrong_nodes-loop-node-preserved : goal.wrong_nodes-loop-node-preserved
wrong_nodes-loop-node-preserved t c =
    let clear : AreClear c.as_slice.result.now =
    subst (λ (o : Option (ℕ × ℕ)). MatchOption o (AreClear c.as_slice.result.now) (HaveCircle c.as_slice.result.now)) c.in_default.is c.in_ok-at.ensures in
    All-more (λ n. AreClear (out-Node n).subs) c.args.nodes.now c.loop-node.node-index c.node-item.result c.loop-node-test.true c.loop-node.invariant
    (subst (λ (n : Node). AreClear (out-Node n).subs) c.node-item.is (subst (λ (z : List Graph). AreClear z) c.as_slice.ensures clear))

pub wrong_nodes-returns : goal.wrong_nodes-returns
wrong_nodes-returns t c =
    subst (λ (z : List Node). NodesAreClear z) (take_all c.loop-node.node-index c.args.nodes.now c.loop-node-test.false) c.loop-node.invariant

pub wrong_parts-returns : goal.wrong_parts-returns
wrong_parts-returns t c =
    subst (λ (z : List Graph). AreClear z) (take_all c.loop-graph.graph-index c.args.graphs.now c.loop-graph-test.false) c.loop-graph.invariant
