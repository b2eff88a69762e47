use Rattle.std.proofs.Common.{◌≡◌, ◌++◌, map, take, drop}
use Rattle.lowering.specs.Graphs.{closed_wire}
use Rattle.lowered_data.proofs.closing.close_wires.Given as goal

abbrev pub invariant-loop-place : goal.invariant-loop-place
invariant-loop-place l =
    l.items.items ≡ map (closed_wire l.keys l.first l.own) (take l.place l.initial.items.items) ++ drop l.place l.initial.items.items
