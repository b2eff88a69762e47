use Rattle.std.proofs.Common.{take}
use Rattle.if1_graph.specs.declared.graph.Graph.TheViews.{out-Graph}
use Rattle.if1_typing.specs.Tables.{table_of}
use Rattle.if1_typing.specs.Given.{AreSeen, IsSound}
use Rattle.if1_typing.proofs.given.notes_of.Given as goal

abbrev pub invariant-loop-edge : goal.invariant-loop-edge
invariant-loop-edge l = record {
  sound : IsSound (table_of l.known) l.graph l.map;
  seen : AreSeen (table_of l.known) (take l.edge-index (out-Graph l.graph).edges) l.map;
}
