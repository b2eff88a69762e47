use Rattle.std.proofs.Common.{take}
use Rattle.if1_components.specs.Colors.{IsCleared}
use Rattle.if1_components.proofs.colors.clear.Given as goal

abbrev pub invariant-loop-place : goal.invariant-loop-place
invariant-loop-place l = IsCleared (take l.place-index l.places) l.from l.to l.fn.colors l.colors
