use Rattle.std.proofs.Common.{◌≡◌, ◌+◌, ◌++◌, map, drop}
use Rattle.lowering.specs.Loops.{single, own_inputs}
use Rattle.lower_nodes.proofs.loops.single_inputs.Given as goal

abbrev pub invariant-loop-place : goal.invariant-loop-place
invariant-loop-place l = l.wires ++ own_inputs (1 + l.place) (map single (drop l.place l.carried)) ≡ own_inputs 1 (map single l.carried)
