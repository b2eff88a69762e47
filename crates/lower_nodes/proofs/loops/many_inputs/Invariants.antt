use Rattle.std.proofs.Common.{◌≡◌, ◌+◌, ◌++◌, map, drop}
use Rattle.lowering.specs.Loops.{many, own_inputs}
use Rattle.lower_nodes.proofs.loops.many_inputs.Given as goal

abbrev pub invariant-loop-place : goal.invariant-loop-place
invariant-loop-place l = l.wires ++ own_inputs (l.port + l.place) (map many (drop l.place l.carried)) ≡ own_inputs l.port (map many l.carried)
