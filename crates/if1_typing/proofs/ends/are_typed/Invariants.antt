use Rattle.std.proofs.Common.{◌≡◌, drop}
use Rattle.if1_typing.specs.Tables.{table_of}
use Rattle.if1_typing.specs.Ends.{are_typed}
use Rattle.if1_typing.proofs.ends.are_typed.Given as goal

abbrev pub invariant-loop-edge : goal.invariant-loop-edge
invariant-loop-edge l =
    are_typed (table_of l.known) (record { site = l.site; inputs = l.inputs; parts = l.parts }) l.graph l.doing l.edges (drop l.edge-index l.edges)
    ≡ are_typed (table_of l.known) (record { site = l.site; inputs = l.inputs; parts = l.parts }) l.graph l.doing l.edges l.edges
