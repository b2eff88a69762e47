use Rattle.std.proofs.Common.{◌≡◌, true, take, All}
use Rattle.if1_graph.specs.declared.graph.Graph.TheViews.{out-Graph}
use Rattle.if1_graph.specs.Units.{label_of}
use Rattle.if1_typing.specs.Tables.{table_of}
use Rattle.if1_typing.specs.Ends.{is_right}
use Rattle.if1_typing.proofs.ends.wrong_node.Given as goal

abbrev pub invariant-loop-node : goal.invariant-loop-node
invariant-loop-node l =
    All (λ n. is_right (table_of l.known) (record { site = l.site; inputs = l.inputs; parts = l.parts }) l.graph (label_of n) ≡ true)
    (take l.node-index (out-Graph l.graph).nodes)
