use Rattle.std.proofs.Common.{◌≡◌, map, take}
use Rattle.if1_graph.specs.declared.graph.Graph.TheViews.{out-Graph}
use Rattle.if1_ports.specs.Outlines.{types_in}
use Rattle.if1_ports.specs.Names.{callees_in}
use Rattle.if1_ports.specs.Ends.{outputs_in}
use Rattle.if1_ports.proofs.ends.counts_of.Given as goal

abbrev pub invariant-loop-node : goal.invariant-loop-node
invariant-loop-node l = l.counts ≡ map (outputs_in (types_in l.types) (callees_in l.names) l.graph) (take l.node-index (out-Graph l.graph).nodes)
