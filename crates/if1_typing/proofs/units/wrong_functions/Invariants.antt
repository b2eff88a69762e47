use Rattle.std.proofs.Common.{take}
use Rattle.if1_typing.specs.Tables.{table_of}
use Rattle.if1_typing.specs.Inside.{FunctionsRight}
use Rattle.if1_typing.proofs.units.wrong_functions.Given as goal

abbrev pub invariant-loop-graph : goal.invariant-loop-graph
invariant-loop-graph l = FunctionsRight (table_of l.known) (take l.graph-index l.graphs)
