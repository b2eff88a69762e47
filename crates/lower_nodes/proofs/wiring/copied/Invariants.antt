use Rattle.std.proofs.Common.{◌≡◌, take}
use Rattle.lower_nodes.proofs.wiring.copied.Given as goal

abbrev pub invariant-loop-w : goal.invariant-loop-w
invariant-loop-w l = l.copies ≡ take l.w-index l.wires
