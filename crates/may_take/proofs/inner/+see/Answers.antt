use Rattle.std.proofs.Common.{◌≡◌, ◌∙◌, ◌+◌, ◌++◌, ◌∷◌, ◌<◌, ◌≤◌, [], suc, List, Contains, length, map, get_or, take, sym, ap, subst, arith}
use Rattle.std.proofs.lemmas.List.{take_more}
use Rattle.if1_graph.specs.declared.graph.Graph.{Graph}
use Rattle.if1_graph.specs.declared.graph.Graph.TheViews.{out-Graph}
use Rattle.if1_graph.specs.declared.graph.Node.{Node}
use Rattle.if1_graph.specs.Units.{Inside, each_from, levels, level_below, places_of}
use Rattle.if1_order.specs.Within.{whole}
use Rattle.if1_order.proofs.Within.{levels_out, parts_below, below}
use Rattle.may_take.specs.Looked.{AreLaid, AreLooked, AreNodesLooked, node_levels}
use Rattle.may_take.specs.Inner.{consuming_at}
use Rattle.may_take.proofs.Laid.{laid-parts}
use Rattle.may_take.proofs.Steps.{here, looked-more}
use Rattle.may_take.proofs.Behind.{graph-seen, graphs-more, nodes-more}
use Rattle.may_take.proofs.inner.+see.Goals as goal

pub see-looked_by-requires-clause-laid : goal.see-looked_by-requires-clause-laid
see-looked_by-requires-clause-laid t c = c.requires.laid c.args.graph.now whole

pub see-returns : goal.see-returns
see-returns t c =
    record {
      looked = c.in_ok-looked.ensures;
      consuming = λ tells more home deep.
          graph-seen c.args.unit.now c.args.graph.now c.in_ok-looked.looked.consuming c.in_ok-seen.seen.consuming.items c.in_ok-all.all.items
          (c.in_ok-looked.ensures.consuming tells) (c.in_ok-all.ensures ∙ ap (λ own. own ∷ c.in_ok-seen.seen.consuming.items) c.as_slice.ensures)
          (c.in_ok-seen.ensures.consuming tells) more home deep;
    }

pub see_nodes-see_parts-requires : goal.see_nodes-see_parts-requires
see_nodes-see_parts-requires t c =
    let g = c.args.graph.now in
    let n = c.node-item.result in
    let there = here c.as_slice-node-items.result.now (out-Graph g).nodes c.loop-node.node-index n c.as_slice-node-items.ensures c.loop-node-test.true c.node-item.is in (
      omega (arith, c.decreases, parts_below (out-Graph g).nodes n there, levels_out g, ap (λ (z : List Graph). level_below (map levels z)) c.as_slice.ensures),
      (c.requires.types, subst (λ (z : List Graph). AreLaid z) (sym c.as_slice.ensures) (laid-parts g c.requires.laid n there)),
    )

pub see_nodes-add_node-requires-clause-order : goal.see_nodes-add_node-requires-clause-order
see_nodes-add_node-requires-clause-order t c = c.requires.laid c.args.graph.now whole

pub see_nodes-add_node-requires-clause-laid : goal.see_nodes-add_node-requires-clause-laid
see_nodes-add_node-requires-clause-laid t c =
    let g = c.args.graph.now in
    let n = c.node-item.result in
    laid-parts g c.requires.laid n (here c.as_slice-node-items.result.now (out-Graph g).nodes c.loop-node.node-index n c.as_slice-node-items.ensures c.loop-node-test.true c.node-item.is)

pub see_nodes-add_node-requires-clause-looked : goal.see_nodes-add_node-requires-clause-looked
see_nodes-add_node-requires-clause-looked t c =
    subst (λ gs. AreLooked c.args.unit.now c.args.functions.now gs c.in_ok-seen.seen.parts.items) c.as_slice.ensures c.in_ok-seen.ensures.parts

pub see_nodes-loop-node-preserved : goal.see_nodes-loop-node-preserved
see_nodes-loop-node-preserved t c =
    let u = c.args.unit.now in
    let f = c.args.functions.now in
    let g = c.args.graph.now in
    let ns = (out-Graph g).nodes in
    let n = c.node-item.result in
    let i = c.loop-node.node-index in
    let lt : i < length ns = subst (λ (xs : List Node). i < length xs) c.as_slice-node-items.ensures c.loop-node-test.true in
    let at : n ≡ get_or ns i n = c.node-item.is ∙ ap (λ (xs : List Node). get_or xs i n) c.as_slice-node-items.ensures in
    let e : take i ns ++ n ∷ [] ≡ take (i + 1) ns = ap (λ x. take i ns ++ x ∷ []) at ∙ sym (take_more ns i n lt) in
    record {
      nodes = subst (λ xs. AreNodesLooked u f g xs c.add_node.new.nodes) e (c.in_ok-add_node.ensures (take i ns) c.loop-node.invariant.nodes);
      consuming = λ tells more deep.
          let flat : level_below (map levels c.as_slice.result.now) ≤ suc more = omega (arith, deep i n lt, ap node_levels at, ap (λ (z : List Graph). level_below (map levels z)) c.as_slice.ensures) in
          nodes-more u more g ns i n lt at c.loop-node.consuming.items c.in_ok-seen.seen.consuming.items c.append.new.self.items
          (c.loop-node.invariant.consuming tells more deep)
          (c.in_ok-seen.ensures.consuming tells more (λ k. Inside g n k) flat ∙ ap (λ gs. map (consuming_at u) (each_from (λ k s. places_of more (Inside g n k) s) 0 gs)) c.as_slice.ensures)
          c.in_ok-append.ensures.items;
    }

pub see_parts-see-requires : goal.see_parts-see-requires
see_parts-see-requires t c =
    let s = c.graph-item.result in
    let there : Contains c.args.graphs.now s = (c.loop-graph.graph-index, c.loop-graph-test.true, sym c.graph-item.is) in
    (omega (arith, c.decreases, below c.args.graphs.now s there), (c.requires.types, c.requires.laid s there))

pub see_parts-loop-graph-preserved : goal.see_parts-loop-graph-preserved
see_parts-loop-graph-preserved t c =
    let u = c.args.unit.now in
    let gs = c.args.graphs.now in
    let i = c.loop-graph.graph-index in
    let s = c.graph-item.result in
    let there : Contains gs s = (i, c.loop-graph-test.true, sym c.graph-item.is) in
    let e : take i gs ++ s ∷ [] ≡ take (i + 1) gs = ap (λ x. take i gs ++ x ∷ []) c.graph-item.is ∙ sym (take_more gs i s c.loop-graph-test.true) in
    record {
      parts = subst (λ gs. AreLooked u c.args.functions.now gs c.push.new.self.items) e
          (looked-more u c.args.functions.now (take i gs) s c.loop-graph.parts.items c.push.new.self.items c.in_ok-seen.seen.looked c.loop-graph.invariant.parts c.in_ok-seen.ensures.looked c.in_ok-push.ensures.items);
      consuming = λ tells more home deep.
          graphs-more u more home gs i s c.loop-graph-test.true c.graph-item.is c.loop-graph.consuming.items c.in_ok-seen.seen.consuming.items c.append.new.self.items
          (c.loop-graph.invariant.consuming tells more home deep)
          (c.in_ok-seen.ensures.consuming tells more (home i) (omega (arith, deep, below gs s there)))
          c.in_ok-append.ensures.items;
    }
