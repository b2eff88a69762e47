use Rattle.std.proofs.Common.{◌≡◌, ◌++◌, drop}
use Rattle.std.specs.List.{flat_map}
use Rattle.if1_write.specs.Texts.{filled_text, part_text}
use Rattle.if1_write.proofs.write.+put.Given as goal

abbrev pub invariant-put_nodes-loop-node : goal.invariant-put_nodes-loop-node
invariant-put_nodes-loop-node l = l.to ++ flat_map (filled_text l.edges) (drop l.node-index l.nodes) ≡ l.initial.to ++ flat_map (filled_text l.edges) l.nodes

abbrev pub invariant-put_parts-loop-graph : goal.invariant-put_parts-loop-graph
invariant-put_parts-loop-graph l = l.to ++ flat_map part_text (drop l.graph-index l.graphs) ≡ l.initial.to ++ flat_map part_text l.graphs
