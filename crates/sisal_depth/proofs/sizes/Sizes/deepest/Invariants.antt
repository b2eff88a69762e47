use Rattle.std.proofs.Common.{◌≡◌, max, drop, take}
use Rattle.sisal_depth.specs.Sizes.{deepest}
use Rattle.sisal_depth.proofs.sizes.Sizes.deepest.Given as goal

abbrev pub invariant-loop-place : goal.invariant-loop-place
invariant-loop-place l = deepest (take l.count l.self) ≡ max l.deepest (deepest (drop l.place (take l.count l.self)))
