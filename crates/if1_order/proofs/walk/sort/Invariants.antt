use Rattle.std.proofs.Common.{◌≡◌, ◌<◌, ℕ, [], Contains}
use Rattle.if1_order.specs.Walks.{IsWalkTo}
use Rattle.if1_order.proofs.walk.sort.Given as goal

abbrev pub invariant-loop-root : goal.invariant-loop-root
invariant-loop-root l = IsWalkTo l.lists l.walk [] × (l.walk.path ≡ []) × ((t : ℕ) → t < l.root → Contains l.walk.order t)
