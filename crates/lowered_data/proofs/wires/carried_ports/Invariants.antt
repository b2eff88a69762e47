use Rattle.std.proofs.Common.{◌≡◌, ◌+◌, ◌++◌, drop}
use Rattle.lowering.specs.Graphs.{ports}
use Rattle.lowered_data.proofs.wires.carried_ports.Given as goal

abbrev pub invariant-loop-place : goal.invariant-loop-place
invariant-loop-place l = l.wires ++ ports l.node (l.port + l.place) (drop l.place l.carried) ≡ ports l.node l.port l.carried
