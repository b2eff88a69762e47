-- Links turned round.
use Rattle.std.specs.Prelude.{◌≡◌, ℕ, ◌⊎◌, List, length, Contains}
use Rattle.if1_order.specs.Walks.{Lists, feeders_of}

-- where links lead from one place to another in the one, they lead back in the other
pub record AreTurned (lists back : Lists) : Type 0 where
  pub fit : length back ≡ length lists
  pub there : (s t : ℕ) → Contains (feeders_of lists t) s → Contains (feeders_of back s) t
  pub here : (s t : ℕ) → Contains (feeders_of back s) t → Contains (feeders_of lists t) s

-- a place was added to the lists of all these
pub record HasBack (from : List ℕ) (place : ℕ) (old new : Lists) : Type 0 where
  pub fit : length new ≡ length old
  pub kept : (s t : ℕ) → Contains (feeders_of old s) t → Contains (feeders_of new s) t
  pub added : (s : ℕ) → Contains from s → Contains (feeders_of new s) place
  pub only : (s t : ℕ) → Contains (feeders_of new s) t → Contains (feeders_of old s) t ⊎ (Contains from s × (t ≡ place))
