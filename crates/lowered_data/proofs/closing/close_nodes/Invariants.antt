use Rattle.std.proofs.Common.{◌≡◌, ◌++◌, map, take, drop}
use Rattle.lowered_data.specs.Parts.{node_closed}
use Rattle.lowered_data.proofs.closing.close_nodes.Given as goal

abbrev pub invariant-loop-place : goal.invariant-loop-place
invariant-loop-place l =
    l.items.items ≡ map (node_closed l.keys l.first l.own) (take l.place l.initial.items.items) ++ drop l.place l.initial.items.items
