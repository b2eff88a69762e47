use Rattle.std.proofs.Common.{◌≡◌, map, take}
use Rattle.if1_graph.specs.declared.graph.Graph.TheViews.{out-Graph}
use Rattle.node_works.proofs.parts.numbers_of.Given as goal

abbrev pub invariant-loop-graph : goal.invariant-loop-graph
invariant-loop-graph l = l.numbers ≡ map (λ g. (out-Graph g).number) (take l.graph-index l.graphs)
