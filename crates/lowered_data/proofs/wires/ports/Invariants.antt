use Rattle.std.proofs.Common.{◌≡◌, ◌+◌, ◌++◌, map, drop}
use Rattle.lowering.specs.declared.feed.Carried.TheVariants.{One}
use Rattle.lowering.specs.Graphs.{ports}
use Rattle.lowered_data.proofs.wires.ports.Given as goal

abbrev pub invariant-loop-place : goal.invariant-loop-place
invariant-loop-place l = l.wires ++ ports l.node (l.port + l.place) (map One (drop l.place l.types)) ≡ ports l.node l.port (map One l.types)
