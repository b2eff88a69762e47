use Rattle.std.proofs.Common.{◌≡◌, ◌∙◌, ◌+◌, ◌++◌, ◌∷◌, [], List, Contains, map, take, sym, ap, subst, arith}
use Rattle.std.proofs.lemmas.List.{take_more}
use Rattle.if1_graph.specs.declared.graph.Graph.{Graph}
use Rattle.if1_graph.specs.declared.graph.Graph.TheViews.{out-Graph}
use Rattle.if1_graph.specs.Units.{levels, level_below}
use Rattle.if1_order.specs.Within.{whole}
use Rattle.if1_order.proofs.Within.{levels_out, parts_below, below}
use Rattle.may_take.specs.Looked.{AreLaid, AreLooked}
use Rattle.may_take.proofs.Laid.{laid-parts}
use Rattle.may_take.proofs.Steps.{here, looked-more}
use Rattle.may_take.proofs.looking.+look.Goals as goal

pub look-looked_by-requires-clause-laid : goal.look-looked_by-requires-clause-laid
look-looked_by-requires-clause-laid t c = c.requires.laid c.args.graph.now whole

pub look_nodes-look_parts-requires : goal.look_nodes-look_parts-requires
look_nodes-look_parts-requires t c =
    let g = c.args.graph.now in
    let n = c.node-item.result in
    let there = here c.as_slice-node-items.result.now (out-Graph g).nodes c.loop-node.node-index n c.as_slice-node-items.ensures c.loop-node-test.true c.node-item.is in (
      omega (arith, c.decreases, parts_below (out-Graph g).nodes n there, levels_out g, ap (λ (z : List Graph). level_below (map levels z)) c.as_slice.ensures),
      (c.requires.types, subst (λ (z : List Graph). AreLaid z) (sym c.as_slice.ensures) (laid-parts g c.requires.laid n there)),
    )

pub look_nodes-add_node-requires-clause-order : goal.look_nodes-add_node-requires-clause-order
look_nodes-add_node-requires-clause-order t c = c.requires.laid c.args.graph.now whole

pub look_nodes-add_node-requires-clause-laid : goal.look_nodes-add_node-requires-clause-laid
look_nodes-add_node-requires-clause-laid t c =
    let g = c.args.graph.now in
    let n = c.node-item.result in
    laid-parts g c.requires.laid n (here c.as_slice-node-items.result.now (out-Graph g).nodes c.loop-node.node-index n c.as_slice-node-items.ensures c.loop-node-test.true c.node-item.is)

pub look_parts-look-requires : goal.look_parts-look-requires
look_parts-look-requires t c =
    let s = c.graph-item.result in
    let there : Contains c.args.graphs.now s = (c.loop-graph.graph-index, c.loop-graph-test.true, sym c.graph-item.is) in
    (omega (arith, c.decreases, below c.args.graphs.now s there), (c.requires.types, c.requires.laid s there))

pub look_parts-loop-graph-preserved : goal.look_parts-loop-graph-preserved
look_parts-loop-graph-preserved t c =
    let gs = c.args.graphs.now in
    let i = c.loop-graph.graph-index in
    let s = c.graph-item.result in
    let e : take i gs ++ s ∷ [] ≡ take (i + 1) gs = ap (λ x. take i gs ++ x ∷ []) c.graph-item.is ∙ sym (take_more gs i s c.loop-graph-test.true) in
    subst (λ gs. AreLooked c.args.unit.now c.args.functions.now gs c.push.new.self.items) e
    (looked-more c.args.unit.now c.args.functions.now (take i gs) s c.loop-graph.parts.items c.push.new.self.items c.in_ok-look.field-0 c.loop-graph.invariant c.in_ok-look.ensures c.in_ok-push.ensures.items)
