use Rattle.std.proofs.Common.{◌≡◌, map, take}
use Rattle.lowered_data.specs.Keyed.{keyed}
use Rattle.lowered_data.proofs.keys.Keys.wires.Given as goal

abbrev pub invariant-loop-place : goal.invariant-loop-place
invariant-loop-place l = l.wires ≡ take l.place (map keyed l.self-inside.ports.entries)
