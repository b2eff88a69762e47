use Rattle.std.proofs.Common.{take}
use Rattle.if1_reach.specs.Least.{AreLowered}
use Rattle.if1_reach.proofs.least.lower.Given as goal

abbrev pub invariant-loop-place : goal.invariant-loop-place
invariant-loop-place l = AreLowered (take l.place-index l.places) l.weight l.fn.weights l.weights
