use Rattle.std.proofs.Common.{◌≡◌, ℕ, ◌⊎◌, [], ◌∷◌, ◌++◌, Contains}
use Rattle.if1_order.specs.Walks.{IsWalkTo, HasMet, left}
use Rattle.if1_order.proofs.walk.visit.Given as goal

abbrev pub invariant-loop-next : goal.invariant-loop-next
invariant-loop-next l =
    IsWalkTo l.lists l.walk (l.walk.path ++ l.at ∷ [])
    × ((t : ℕ) → Contains l.fn.walk.order t ⊎ (l.root ≡ t) → HasMet (l.walk.path ++ l.at ∷ []) l.walk.order t)

abbrev pub decreases-loop-next : goal.decreases-loop-next
decreases-loop-next l = left l.lists l.walk
