use Rattle.std.proofs.Common.{take}
use Rattle.if1_ports.specs.Outlines.{types_in}
use Rattle.if1_ports.specs.Names.{callees_in}
use Rattle.if1_ports.specs.Inside.{FunctionsRight}
use Rattle.if1_ports.proofs.units.wrong_functions.Given as goal

abbrev pub invariant-loop-graph : goal.invariant-loop-graph
invariant-loop-graph l = FunctionsRight (types_in l.types) (callees_in l.names) (take l.graph-index l.graphs)
