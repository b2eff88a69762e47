use Rattle.std.proofs.Common.{◌≡◌, ◌==◌, ℕ, List, Option, MatchOption, AllPairs, Contains, ◌∙◌, filter, sym, ap, subst, map, arith}
use Rattle.if1_graph.specs.declared.graph.Graph.{Graph}
use Rattle.if1_graph.specs.declared.graph.Graph.TheViews.{out-Graph}
use Rattle.if1_graph.specs.declared.graph.Node.{Node, out-Node}
use Rattle.if1_graph.specs.declared.graph.Edge.{Edge}
use Rattle.if1_graph.specs.Normal.{Precedes}
use Rattle.if1_graph.specs.Units.{levels, level_below, label_of, edges_into}
use Rattle.if1_order.specs.Within.{whole}
use Rattle.if1_order.proofs.Within.{levels_out, parts_below, below}
use Rattle.if1_order.proofs.Units.{found_weaker}
use Rattle.if1_typing.specs.Tables.{table_of}
use Rattle.if1_fits.specs.Views.{AreUp}
use Rattle.if1_typing.specs.Sites.{Around, site_at}
use Rattle.if1_typing.specs.Ends.{FindsWrong}
use Rattle.if1_typing.specs.Inside.{IsLaidInside, AreLaid, AllRight, SomeWrong, NodeRight, NodeWrong, NodesRight, NodesWrong}
use Rattle.if1_typing.proofs.Ports.{into_up}
use Rattle.if1_typing.proofs.Walks.{laid_order, parts_laid, node_here, right_graph, wrong_here, wrong_inside, right_part, wrong_part, found_in_node, nodes_more, nodes_all, all_of}
use Rattle.if1_typing.proofs.units.+walk.Goals as goal

-- ---- a graph

pub wrong_graph-wrong_end-requires-clause-laid : goal.wrong_graph-wrong_end-requires-clause-laid
wrong_graph-wrong_end-requires-clause-laid t c = c.requires.laid c.args.graph.now whole

pub wrong_graph-returns-in-Some : goal.wrong_graph-returns-in-Some
wrong_graph-returns-in-Some t c =
    let u = table_of c.args.known.now in
    let a : Around = record { site = c.args.site; inputs = c.args.inputs.now; parts = c.args.parts.now } in
    wrong_here u a c.args.graph.now c.in-Some.label
    (subst (λ (o : Option ℕ). FindsWrong u a c.args.graph.now o) c.in-Some.is c.in_ok-label.ensures)

pub wrong_graph-returns : goal.wrong_graph-returns
wrong_graph-returns t c =
    let u = table_of c.args.known.now in
    let a : Around = record { site = c.args.site; inputs = c.args.inputs.now; parts = c.args.parts.now } in
    let g = c.args.graph.now in
    let none = subst (λ (o : Option ℕ). FindsWrong u a g o) c.in_default.is c.in_ok-label.ensures in
    found_weaker c.wrong_nodes.result (NodesRight u g (out-Graph g).nodes) (AllRight u a g) (NodesWrong u g (out-Graph g).nodes) (SomeWrong u a g)
    (right_graph u a g none) (wrong_inside u a g) c.wrong_nodes.ensures

-- ---- its nodes

pub wrong_nodes-wrong_node-requires : goal.wrong_nodes-wrong_node-requires
wrong_nodes-wrong_node-requires t c =
    let n = c.node-item.result in
    let there = node_here c.as_slice-node-items.result.now c.args.graph.now c.loop-node.node-index n c.as_slice-node-items.ensures c.loop-node-test.true c.node-item.is in
    (omega (arith, c.decreases), (c.requires, there))

pub wrong_nodes-returns-in-Some : goal.wrong_nodes-returns-in-Some
wrong_nodes-returns-in-Some t c =
    let u = table_of c.args.known.now in
    let g = c.args.graph.now in
    let n = c.node-item.result in (
      n,
      node_here c.as_slice-node-items.result.now g c.loop-node.node-index n c.as_slice-node-items.ensures c.loop-node-test.true c.node-item.is,
      subst (λ (m : Option (ℕ × ℕ)). MatchOption m (NodeRight u g n) (NodeWrong u g n)) c.in-Some.is c.in_ok-at.ensures,
    )

pub wrong_nodes-loop-node-preserved : goal.wrong_nodes-loop-node-preserved
wrong_nodes-loop-node-preserved t c =
    let u = table_of c.args.known.now in
    let g = c.args.graph.now in
    let n = c.node-item.result in
    nodes_more u g c.as_slice-node-items.result.now c.loop-node.node-index n c.as_slice-node-items.ensures c.loop-node-test.true c.node-item.is c.loop-node.invariant
    (subst (λ (m : Option (ℕ × ℕ)). MatchOption m (NodeRight u g n) (NodeWrong u g n)) c.in_default.is c.in_ok-at.ensures)

pub wrong_nodes-returns : goal.wrong_nodes-returns
wrong_nodes-returns t c =
    nodes_all (table_of c.args.known.now) c.args.graph.now c.as_slice-node-items.result.now c.loop-node.node-index c.as_slice-node-items.ensures
    c.loop-node-test.false c.loop-node.invariant

-- ---- a node

-- the edges into the node
inputs_are : (g : Graph) (n : Node) (es into : List Edge) → into ≡ filter (λ (e : Edge). e.node == label_of n) es → es ≡ (out-Graph g).edges →
    into ≡ edges_into g (label_of n)
inputs_are g n es into e edges = e ∙ ap (filter (λ (e : Edge). e.node == label_of n)) edges

inputs_up : (g : Graph) (n : Node) (into : List Edge) → IsLaidInside g → into ≡ edges_into g (label_of n) → AreUp into
inputs_up g n into laid e = subst (λ es. AreUp es) (sym e) (into_up g (label_of n) (laid g whole).order.edges)

pub wrong_node-edges_into-inputs-requires : goal.wrong_node-edges_into-inputs-requires
wrong_node-edges_into-inputs-requires t c =
    subst (λ (es : List Edge). AllPairs Precedes es) (sym c.as_slice.ensures) (c.requires.laid c.args.graph.now whole).order.edges

pub wrong_node-frame_by-frame-requires-clause-up : goal.wrong_node-frame_by-frame-requires-clause-up
wrong_node-frame_by-frame-requires-clause-up t c =
    let g = c.args.graph.now in
    let n = c.args.node.now in
    inputs_up g n c.edges_into-inputs.result.now c.requires.laid (inputs_are g n c.as_slice.result.now c.edges_into-inputs.result.now c.edges_into-inputs.ensures c.as_slice.ensures)

pub wrong_node-frame_by-frame-requires-clause-inside : goal.wrong_node-frame_by-frame-requires-clause-inside
wrong_node-frame_by-frame-requires-clause-inside t c =
    laid_order (out-Node c.args.node.now).subs (parts_laid c.args.graph.now c.requires.laid c.args.node.now c.requires.there)

pub wrong_node-wrong_parts-requires : goal.wrong_node-wrong_parts-requires
wrong_node-wrong_parts-requires t c =
    let g = c.args.graph.now in
    let n = c.args.node.now in (
      omega (arith, c.decreases, parts_below (out-Graph g).nodes n c.requires.there, levels_out g, ap (λ (z : List Graph). level_below (map levels z)) c.as_slice-graphs.ensures),
      (
        subst (λ (z : List Graph). AreLaid z) (sym c.as_slice-graphs.ensures) (parts_laid g c.requires.laid n c.requires.there),
        inputs_up g n c.edges_into-inputs.result.now c.requires.laid (inputs_are g n c.as_slice.result.now c.edges_into-inputs.result.now c.edges_into-inputs.ensures c.as_slice.ensures),
      ),
    )

pub wrong_node-returns : goal.wrong_node-returns
wrong_node-returns t c =
    let u = table_of c.args.known.now in
    let g = c.args.graph.now in
    let n = c.args.node.now in
    found_in_node u g n c.frame_by-frame.result c.as_slice-3.result.now c.in_ok-contents.contents.items c.edges_into-inputs.result.now c.as_slice-graphs.result.now
    c.as_slice-2.result.now c.as_slice-graphs.ensures
    (inputs_are g n c.as_slice.result.now c.edges_into-inputs.result.now c.edges_into-inputs.ensures c.as_slice.ensures) c.frame_by-frame.ensures c.as_slice-2.ensures
    c.as_slice-3.ensures.value c.in_ok-contents.ensures c.in_ok-found.found c.in_ok-found.ensures

-- ---- its graphs

pub wrong_parts-wrong_graph-requires : goal.wrong_parts-wrong_graph-requires
wrong_parts-wrong_graph-requires t c =
    let s = c.index-graphs-place.result in
    let there : Contains c.args.graphs.now s = (c.loop-place.place, c.loop-place-test.true, sym c.index-graphs-place.is) in
    (omega (arith, c.decreases, below c.args.graphs.now s there), (c.requires.laid s there, (c.requires.up, laid_order c.args.graphs.now c.requires.laid)))

pub wrong_parts-returns-in-Some : goal.wrong_parts-returns-in-Some
wrong_parts-returns-in-Some t c =
    let u = table_of c.args.known.now in
    let k = c.loop-place.place in
    let s = c.index-graphs-place.result in
    let a : Around = record { site = c.site_at-site.result; inputs = c.args.inputs.now; parts = c.args.graphs.now } in
    wrong_part u c.args.frame c.args.contents.now c.args.inputs.now c.args.graphs.now k s c.site_at-site.result c.in-Some.at c.loop-place-test.true c.index-graphs-place.is
    (c.site_at-site.ensures ∙ ap (λ x. site_at c.args.frame x k) c.content_at.ensures)
    (subst (λ (m : Option (ℕ × ℕ)). MatchOption m (AllRight u a s) (SomeWrong u a s)) c.in-Some.is c.in_ok-at.ensures)

pub wrong_parts-loop-place-preserved : goal.wrong_parts-loop-place-preserved
wrong_parts-loop-place-preserved t c =
    let u = table_of c.args.known.now in
    let k = c.loop-place.place in
    let s = c.index-graphs-place.result in
    let a : Around = record { site = c.site_at-site.result; inputs = c.args.inputs.now; parts = c.args.graphs.now } in
    right_part u c.args.frame c.args.contents.now c.args.inputs.now c.args.graphs.now k s c.site_at-site.result c.loop-place-test.true c.index-graphs-place.is
    (c.site_at-site.ensures ∙ ap (λ x. site_at c.args.frame x k) c.content_at.ensures) c.loop-place.invariant
    (subst (λ (m : Option (ℕ × ℕ)). MatchOption m (AllRight u a s) (SomeWrong u a s)) c.in_default.is c.in_ok-at.ensures)

pub wrong_parts-returns : goal.wrong_parts-returns
wrong_parts-returns t c =
    all_of (table_of c.args.known.now) c.args.frame c.args.contents.now c.args.inputs.now c.args.graphs.now c.loop-place.place c.loop-place-test.false c.loop-place.invariant
