use Rattle.std.proofs.Common.{take, All}
use Rattle.if1_graph.specs.declared.graph.Graph.TheViews.{out-Graph}
use Rattle.if1_typing.specs.Tables.{table_of}
use Rattle.if1_typing.specs.Given.{IsAsNoted}
use Rattle.if1_typing.proofs.agree.disagreeing.Given as goal

abbrev pub invariant-loop-edge : goal.invariant-loop-edge
invariant-loop-edge l = All (IsAsNoted (table_of l.known) l.given.map) (take l.edge-index (out-Graph l.graph).edges)
