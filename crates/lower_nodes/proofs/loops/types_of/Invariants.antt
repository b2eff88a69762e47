use Rattle.std.proofs.Common.{◌≡◌, take}
use Rattle.lowering.specs.Loops.{types}
use Rattle.lower_nodes.proofs.loops.types_of.Given as goal

abbrev pub invariant-loop-w : goal.invariant-loop-w
invariant-loop-w l = l.carried ≡ types (take l.w-index l.wires)
