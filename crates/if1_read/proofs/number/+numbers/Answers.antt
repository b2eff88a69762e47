use Rattle.std.proofs.Common.{◌≡◌, ◌+◌, ◌<◌, ◌≤◌, ◌∙◌, ℕ, suc, List, length, get_or, refl, ap, subst, sym, arith}
use denote.Param.Weighed.{most, at_most}
use Rattle.if1_graph.proofs.graph.Graph.TheLaws.{the_size}
use Rattle.if1_graph.proofs.graph.Node.TheLaws.{the_size as node_size}
use Rattle.if1_graph.specs.declared.graph.Graph.TheViews as views
use Rattle.if1_graph.specs.declared.graph.Graph.{Graph}
use Rattle.if1_graph.specs.declared.graph.Node.{Node}
use Rattle.if1_read.specs.Like.{no_node, no_graph}
use Rattle.if1_read.specs.Counted.{no_node as counted_no_node, no_graph as counted_none}
use Rattle.if1_read.proofs.Numbering.{graph_like, graph_counted}
use Rattle.if1_read.proofs.Turns.{Numbered, NodesNumbered, room_here, room_in_node, written_over, AllNumbered, AllNodesNumbered, numbered_more, nodes_numbered_more, all_numbered, all_nodes_numbered}
use Rattle.if1_read.proofs.number.+numbers.Goals as goal

pub number_graph-returns-clause-like : goal.number_graph-returns-clause-like
number_graph-returns-clause-like t c =
    graph_like c.args.graph.now (c.args.before + 1) c.number_nodes.new.nodes c.number_nodes.ensures.like

pub number_graph-returns-clause-counted : goal.number_graph-returns-clause-counted
number_graph-returns-clause-counted t c =
    graph_counted c.args.graph.now (c.args.before + 1) (suc (c.args.before + 1)) c.number_nodes.new.nodes (omega arith) c.number_nodes.ensures.counted

pub number_nodes-loop-node-init : goal.number_nodes-loop-node-init
number_nodes-loop-node-init t c = record { unvisited = (refl, λ k d le. refl); like = no_node; counted = counted_no_node (suc c.args.before); next_is = omega arith }

pub number_parts-loop-graph-init : goal.number_parts-loop-graph-init
number_parts-loop-graph-init t c = record { unvisited = (refl, λ k d le. refl); like = no_graph; counted = counted_none (suc c.args.before); next_is = omega arith }

pub number_nodes-number_parts-last-requires : goal.number_nodes-number_parts-last-requires
number_nodes-number_parts-last-requires t c =
    let same : c.deref_mut-node-items.result.now ≡ c.args.nodes.now = cc in
    let e : get_or c.loop-node.node-items c.loop-node.node-index c.node-item.result ≡ get_or c.args.nodes.now c.loop-node.node-index c.node-item.result =
    c.loop-node.invariant.unvisited.1 c.loop-node.node-index c.node-item.result (omega arith) ∙ ap (λ (xs : List Node). get_or xs c.loop-node.node-index c.node-item.result) same in
    let l : c.loop-node.node-index < length c.args.nodes.now = omega (arith, ap length same) in
    let within : node_size (get_or c.args.nodes.now c.loop-node.node-index c.node-item.result) ≤ most node_size c.args.nodes.now =
    at_most node_size c.args.nodes.now c.loop-node.node-index c.node-item.result l in
    let deep = views.size_is-Node (get_or c.loop-node.node-items c.loop-node.node-index c.node-item.result) in
    let room = room_in_node c.args.nodes.now c.loop-node.node-items c.loop-node.node-index (suc c.args.before) (suc c.loop-node.last) c.node-item.result
    (subst (λ (xs : List Node). NodesNumbered xs c.loop-node.node-items c.loop-node.node-index (suc c.args.before) (suc c.loop-node.last)) same c.loop-node.invariant) l in
    (omega (arith, ap node_size e, within, c.decreases, deep), omega (arith, room, c.requires))

pub number_parts-number_graph-last-requires : goal.number_parts-number_graph-last-requires
number_parts-number_graph-last-requires t c =
    let same : c.deref_mut-graph-items.result.now ≡ c.args.graphs.now = cc in
    let e : get_or c.loop-graph.graph-items c.loop-graph.graph-index c.graph-item.result ≡ get_or c.args.graphs.now c.loop-graph.graph-index c.graph-item.result =
    c.loop-graph.invariant.unvisited.1 c.loop-graph.graph-index c.graph-item.result (omega arith) ∙ ap (λ (xs : List Graph). get_or xs c.loop-graph.graph-index c.graph-item.result) same in
    let l : c.loop-graph.graph-index < length c.args.graphs.now = omega (arith, ap length same) in
    let within : the_size (get_or c.args.graphs.now c.loop-graph.graph-index c.graph-item.result) ≤ most the_size c.args.graphs.now =
    at_most the_size c.args.graphs.now c.loop-graph.graph-index c.graph-item.result l in
    let room = room_here c.args.graphs.now c.loop-graph.graph-items c.loop-graph.graph-index (suc c.args.before) (suc c.loop-graph.last) c.graph-item.result
    (subst (λ (xs : List Graph). Numbered xs c.loop-graph.graph-items c.loop-graph.graph-index (suc c.args.before) (suc c.loop-graph.last)) same c.loop-graph.invariant) l in
    (omega (arith, ap the_size e, within, c.decreases), omega (arith, room, c.requires))

pub number_nodes-loop-node-preserved : goal.number_nodes-loop-node-preserved
number_nodes-loop-node-preserved t c =
    nodes_numbered_more c.deref_mut-node-items.result.now c.loop-node.node-items c.loop-node.node-index (suc c.args.before) (suc c.loop-node.last) (suc c.number_parts-last.result) c.node-item.result
    c.number_parts-last.new.graphs c.loop-node.invariant c.loop-node-test.true (c.number_parts-last.ensures.like) (c.number_parts-last.ensures.counted) (omega (arith, c.number_parts-last.ensures.last))

pub number_parts-loop-graph-preserved : goal.number_parts-loop-graph-preserved
number_parts-loop-graph-preserved t c =
    numbered_more c.deref_mut-graph-items.result.now c.loop-graph.graph-items c.loop-graph.graph-index (suc c.args.before) (suc c.loop-graph.last) (suc c.number_graph-last.result) c.graph-item.result
    c.number_graph-last.new.graph c.loop-graph.invariant c.loop-graph-test.true (c.number_graph-last.ensures.like) c.number_graph-last.ensures.number (c.number_graph-last.ensures.counted) (omega (arith, c.number_graph-last.ensures.last))

whole_nodes : (t : ℕ) (c : goal.number_nodes-After-drop-nodes t) → AllNodesNumbered c.args.nodes.now c.from_vec.result (suc c.args.before) (suc c.loop-node.last)
whole_nodes t c =
    let same : c.deref_mut-node-items.result.now ≡ c.args.nodes.now = c.deref_mut-node-items.ensures.value ∙ c.into_vec-items.ensures ∙ c.replace.ensures.value in
    let a = all_nodes_numbered c.deref_mut-node-items.result.now c.loop-node.node-items c.loop-node.node-index (suc c.args.before) (suc c.loop-node.last) c.loop-node.invariant c.loop-node-test.false in
    let n : c.into_vec-items.result.len ≡ length c.loop-node.node-items =
    omega (arith, c.into_vec-items.result.ok.0, ap length c.deref_mut-node-items.ensures.value, c.loop-node.invariant.unvisited.0) in
    let r : c.from_vec.result ≡ c.loop-node.node-items = c.from_vec.ensures ∙ written_over c.loop-node.node-items c.into_vec-items.result.items c.into_vec-items.result.len n in
    subst (λ (xs : List Node). AllNodesNumbered xs c.from_vec.result (suc c.args.before) (suc c.loop-node.last)) same
    (subst (λ (xs : List Node). AllNodesNumbered c.deref_mut-node-items.result.now xs (suc c.args.before) (suc c.loop-node.last)) (sym r) a)

pub number_nodes-returns-clause-like : goal.number_nodes-returns-clause-like
number_nodes-returns-clause-like t c = (whole_nodes t c).like

pub number_nodes-returns-clause-counted : goal.number_nodes-returns-clause-counted
number_nodes-returns-clause-counted t c = (whole_nodes t c).counted

pub number_nodes-returns-clause-last : goal.number_nodes-returns-clause-last
number_nodes-returns-clause-last t c = omega (arith, (whole_nodes t c).next_is)

whole_parts : (t : ℕ) (c : goal.number_parts-After-drop-graphs t) → AllNumbered c.args.graphs.now c.from_vec.result (suc c.args.before) (suc c.loop-graph.last)
whole_parts t c =
    let same : c.deref_mut-graph-items.result.now ≡ c.args.graphs.now = c.deref_mut-graph-items.ensures.value ∙ c.into_vec-items.ensures ∙ c.replace.ensures.value in
    let a = all_numbered c.deref_mut-graph-items.result.now c.loop-graph.graph-items c.loop-graph.graph-index (suc c.args.before) (suc c.loop-graph.last) c.loop-graph.invariant c.loop-graph-test.false in
    let n : c.into_vec-items.result.len ≡ length c.loop-graph.graph-items =
    omega (arith, c.into_vec-items.result.ok.0, ap length c.deref_mut-graph-items.ensures.value, c.loop-graph.invariant.unvisited.0) in
    let r : c.from_vec.result ≡ c.loop-graph.graph-items = c.from_vec.ensures ∙ written_over c.loop-graph.graph-items c.into_vec-items.result.items c.into_vec-items.result.len n in
    subst (λ (xs : List Graph). AllNumbered xs c.from_vec.result (suc c.args.before) (suc c.loop-graph.last)) same
    (subst (λ (xs : List Graph). AllNumbered c.deref_mut-graph-items.result.now xs (suc c.args.before) (suc c.loop-graph.last)) (sym r) a)

pub number_parts-returns-clause-like : goal.number_parts-returns-clause-like
number_parts-returns-clause-like t c = (whole_parts t c).like

pub number_parts-returns-clause-counted : goal.number_parts-returns-clause-counted
number_parts-returns-clause-counted t c = (whole_parts t c).counted

pub number_parts-returns-clause-last : goal.number_parts-returns-clause-last
number_parts-returns-clause-last t c = omega (arith, (whole_parts t c).next_is)
