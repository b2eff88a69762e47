use Rattle.std.proofs.Common.{◌≡◌, map, take}
use Rattle.if1_graph.specs.declared.graph.Graph.TheViews.{out-Graph}
use Rattle.if1_graph.specs.Units.{label_of}
use Rattle.if1_typing.specs.Tables.{table_of}
use Rattle.if1_typing.specs.Given.{callee_at}
use Rattle.if1_typing.proofs.given.numbers_of.Given as goal

abbrev pub invariant-loop-node : goal.invariant-loop-node
invariant-loop-node l = l.numbers ≡ map (λ n. callee_at (table_of l.known) l.graph (label_of n)) (take l.node-index (out-Graph l.graph).nodes)
