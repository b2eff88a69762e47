use Rattle.std.proofs.Common.{take}
use Rattle.if1_components.specs.Colors.{Paints}
use Rattle.if1_components.proofs.colors.paint_all.Given as goal

abbrev pub invariant-loop-place : goal.invariant-loop-place
invariant-loop-place l = Paints (take l.place-index l.places) l.from l.to l.fn.colors l.fn.met l.colors l.met
