use Rattle.std.proofs.Common.{◌≡◌, ◌≤◌, ◌++◌, ℕ, suc, map, take}
use Rattle.if1_graph.specs.Units.{greatest, levels, level_below}
use Rattle.if1_order.proofs.Within.{node_levels}
use Rattle.mark_check.specs.Graphs.{graphs_in, graphs_below, lent}
use Rattle.mark_check.proofs.graphs.+graphs.Given as goal

abbrev pub invariant-add_nodes-loop-node : goal.invariant-add_nodes-loop-node
invariant-add_nodes-loop-node l = (more : ℕ) → greatest (map node_levels l.nodes) ≤ suc more → lent l.all.items ≡ lent l.fn.all.items ++ graphs_below more (take l.node-index l.nodes)

abbrev pub invariant-add_parts-loop-graph : goal.invariant-add_parts-loop-graph
invariant-add_parts-loop-graph l = (more : ℕ) → level_below (map levels l.graphs) ≤ suc more → lent l.all.items ≡ lent l.fn.all.items ++ graphs_in more (take l.graph-index l.graphs)
