use Rattle.std.proofs.Common.{◌≡◌, map, take}
use Rattle.lowering.specs.Feeds.{into}
use Rattle.lower_nodes.proofs.wiring.inside.Given as goal

abbrev pub invariant-loop-w : goal.invariant-loop-w
invariant-loop-w l = l.seen ≡ map into (take l.w-index l.wires)
