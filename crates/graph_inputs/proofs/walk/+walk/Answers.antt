use Rattle.std.proofs.Common.{◌≡◌, ℕ, suc, List, Contains, ◌<◌, ◌≤◌, ◌∙◌, ◌++◌, length, get_or, sym, ap, subst, map, arith}
use Rattle.if1_graph.specs.declared.graph.Graph.{Graph}
use Rattle.if1_graph.specs.declared.graph.Graph.TheViews.{out-Graph}
use Rattle.if1_graph.specs.declared.graph.Node.{Node}
use Rattle.if1_graph.specs.Units.{Inside, level_below, levels, places_of}
use Rattle.if1_order.specs.Within.{whole}
use Rattle.if1_order.proofs.Within.{levels_out, parts_below, below}
use Rattle.if1_ports.proofs.Walks.{edges_of, parts_in_order}
use Rattle.if1_ports.specs.Inside.{AreInOrder}
use Rattle.graph_inputs.proofs.Listed.{each-more, each-all, flat-more, flat-all, graph-added, part-own}
use Rattle.graph_inputs.specs.Inputs.{inputs_of}
use Rattle.graph_inputs.specs.Walks.{node_places, part_places}
use Rattle.graph_inputs.proofs.walk.+walk.Goals as goal

here : (ns : List Node) (g : Graph) (i : ℕ) (n : Node) → ns ≡ (out-Graph g).nodes → i < length ns → n ≡ get_or ns i n → Contains (out-Graph g).nodes n
here ns g i n same h is = subst (λ ns. Contains ns n) same (i, h, sym is)

pub add_graph-returns : goal.add_graph-returns
add_graph-returns t c = λ u home more own deep.
    graph-added u c.args.graph.now c.args.all.now c.add.new.self c.add_nodes.new.all c.args.own home own c.in_ok-add.ensures.ok
    (λ more deep. c.in_ok-add_nodes.ensures u more deep) more deep

pub add_nodes-width_of-count-requires : goal.add_nodes-width_of-count-requires
add_nodes-width_of-count-requires t c = (c.requires c.args.graph.now whole).edges

pub add_nodes-add_parts-requires : goal.add_nodes-add_parts-requires
add_nodes-add_parts-requires t c =
    let g = c.args.graph.now in
    let n = c.node-item.result in
    let there = here c.as_slice-node-items.result.now g c.loop-node.node-index n c.as_slice-node-items.ensures c.loop-node-test.true c.node-item.is in (
      omega (arith, c.decreases, parts_below (out-Graph g).nodes n there, levels_out g, ap (λ (z : List Graph). level_below (map levels z)) c.as_slice.ensures),
      subst (λ (z : List Graph). AreInOrder z) (sym c.as_slice.ensures) (parts_in_order g c.requires n there),
    )

pub add_nodes-loop-node-preserved : goal.add_nodes-loop-node-preserved
add_nodes-loop-node-preserved t c = λ u more deep.
    let g = c.args.graph.now in
    let n = c.node-item.result in
    let ns = c.as_slice-node-items.result.now in
    let i = c.loop-node.node-index in
    let there = here ns g i n c.as_slice-node-items.ensures c.loop-node-test.true c.node-item.is in
    let flat : level_below (map levels c.as_slice.result.now) ≤ suc more =
    omega (arith, deep, parts_below (out-Graph g).nodes n there, levels_out g, ap (λ (z : List Graph). level_below (map levels z)) c.as_slice.ensures) in
    flat-more u (node_places more g) (out-Graph g).nodes i n (subst (λ ns. i < length ns) c.as_slice-node-items.ensures c.loop-node-test.true) (subst (λ ns. n ≡ get_or ns i n) c.as_slice-node-items.ensures c.node-item.is)
    c.args.all.now c.loop-node.all c.add_parts.new.all (c.loop-node.invariant u more deep)
    (c.in_ok-add_parts.ensures u g n more c.as_slice.ensures c.compound_of-compound.ensures c.width_of-count.ensures flat ∙ ap (λ gs. c.loop-node.all ++ map (inputs_of u) (part_places more g n 0 gs)) c.as_slice.ensures)

pub add_nodes-returns : goal.add_nodes-returns
add_nodes-returns t c = λ u more deep.
    let g = c.args.graph.now in
    let i = c.loop-node.node-index in
    flat-all u (node_places more g) (out-Graph g).nodes i (subst (λ ns. length ns ≤ i) c.as_slice-node-items.ensures c.loop-node-test.false) c.args.all.now c.loop-node.all (c.loop-node.invariant u more deep)

pub add_parts-inputs_by-requires : goal.add_parts-inputs_by-requires
add_parts-inputs_by-requires t c = edges_of c.args.graphs.now c.requires

pub add_parts-add_graph-requires : goal.add_parts-add_graph-requires
add_parts-add_graph-requires t c =
    let s = c.index-graphs-place.result in
    let there : Contains c.args.graphs.now s = (c.loop-place.place, c.loop-place-test.true, sym c.index-graphs-place.is) in
    (omega (arith, c.decreases, below c.args.graphs.now s there), c.requires s there)

pub add_parts-loop-place-preserved : goal.add_parts-loop-place-preserved
add_parts-loop-place-preserved t c = λ u outer n more are compound wide deep.
    let s = c.index-graphs-place.result in
    let k = c.loop-place.place in
    let gs = c.args.graphs.now in
    let there : Contains gs s = (k, c.loop-place-test.true, sym c.index-graphs-place.is) in
    let own = part-own u outer n k s c.in_ok-own.own c.args.compound c.args.count gs c.in_ok-own.ensures are compound wide in
    each-more u (λ k s. places_of more (Inside outer n k) s) gs k s c.loop-place-test.true c.index-graphs-place.is c.args.all.now c.loop-place.all c.add_graph.new.all
    (c.loop-place.invariant u outer n more are compound wide deep)
    (c.in_ok-add_graph.ensures u (Inside outer n k) more own (omega (arith, deep, below gs s there)))

pub add_parts-returns : goal.add_parts-returns
add_parts-returns t c = λ u outer n more are compound wide deep.
    each-all u (λ k s. places_of more (Inside outer n k) s) c.args.graphs.now c.loop-place.place c.loop-place-test.false c.args.all.now c.loop-place.all (c.loop-place.invariant u outer n more are compound wide deep)
