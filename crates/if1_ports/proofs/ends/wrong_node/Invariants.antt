use Rattle.std.proofs.Common.{◌≡◌, true, take, All}
use Rattle.if1_graph.specs.declared.graph.Graph.TheViews.{out-Graph}
use Rattle.if1_graph.specs.Units.{label_of}
use Rattle.if1_ports.specs.Outlines.{types_in}
use Rattle.if1_ports.specs.Names.{callees_in}
use Rattle.if1_ports.specs.Ends.{is_right}
use Rattle.if1_ports.proofs.ends.wrong_node.Given as goal

abbrev pub invariant-loop-place : goal.invariant-loop-place
invariant-loop-place l = All (λ n. is_right (types_in l.types) (callees_in l.names) l.bounds l.graph (label_of n) ≡ true) (take l.place (out-Graph l.graph).nodes)
