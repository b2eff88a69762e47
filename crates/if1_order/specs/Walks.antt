-- A walk backwards along edges, by the places of nodes, and what it knows at each step.
use Rattle.std.specs.Prelude.{◌≡◌, ℕ, ◌+◌, ◌-◌, ◌<◌, ◌↔◌, ◌⊎◌, List, [], ◌∷◌, ◌++◌, length, take, slice_index, slice_index_or, All, Contains}
use Rattle.std.specs.List.{sum_by}
use Rattle.if1_graph.specs.Formed.{IsOnce}
use Rattle.if1_order.specs.declared.walk.Mark.{Mark}
use Rattle.if1_order.specs.declared.walk.Mark.TheVariants.{Fresh, Open, Done}
use Rattle.if1_order.specs.declared.walk.Walk.{Walk}
use Rattle.if1_order.specs.declared.walk.Move.{Move}
use Rattle.if1_order.specs.declared.walk.Move.TheVariants.{To, Around, End}
use Rattle.if1_order.specs.declared.walk.Sorted.{Sorted}
use Rattle.if1_order.specs.declared.walk.Sorted.TheVariants.{InOrder, OnCircle}

abbrev pub Lists : Type 0
Lists = List (List ℕ)

-- the places for which a place waits
abbrev pub feeders_of : Lists → ℕ → List ℕ
feeders_of lists t = slice_index_or lists t []

-- each place waits for places that there are
abbrev pub AreInside : Lists → Type 0
AreInside lists = (s t : ℕ) → Contains (feeders_of lists t) s → s < length lists

-- one place leads to another in one or more steps
pub data Leads (lists : Lists) : ℕ → ℕ → Type 0 where
  step : {s t : ℕ} → Contains (feeders_of lists t) s → Leads lists s t
  onward : {s t u : ℕ} → Contains (feeders_of lists t) s → Leads lists t u → Leads lists s u

-- each place after those for which it waits
abbrev pub AreAfter : Lists → List ℕ → Type 0
AreAfter lists os = (k s : ℕ) → k < length os → Contains (feeders_of lists (slice_index os k)) s → Contains (take k os) s

-- each place once, after those for which it waits
pub record IsSorted (lists : Lists) (os : List ℕ) : Type 0 where
  pub once : IsOnce os
  pub these : (t : ℕ) → Contains os t ↔ (t < length lists)
  pub after : AreAfter lists os

abbrev pub Sorts : Lists → Sorted → Type 0
Sorts lists (InOrder os) = IsSorted lists os
Sorts lists (OnCircle s) = (s < length lists) × Leads lists s s

-- ---- the state

-- what a place's mark says: not met, on the path, or in the order
abbrev pub Means : List ℕ → List ℕ → ℕ → Mark → Type 0
Means path order t Fresh = (¬ Contains path t) × (¬ Contains order t)
Means path order t Open = Contains path t × (¬ Contains order t)
Means path order t Done = (¬ Contains path t) × Contains order t

abbrev pub mark_of : List Mark → ℕ → Mark
mark_of marks t = slice_index_or marks t Fresh

-- the path goes back from each place to one for which it waits
abbrev pub IsPath : Lists → List ℕ → Type 0
IsPath lists path = (k : ℕ) → k + 1 < length path → Contains (feeders_of lists (slice_index path k)) (slice_index path (k + 1))

-- what was seen of a place's feeders stands in the order
abbrev pub AreSeen : Lists → List ℕ → List ℕ → Type 0
AreSeen lists seen order =
    (t k : ℕ) → k < slice_index seen t → (k < length (feeders_of lists t)) × Contains order (slice_index (feeders_of lists t) k)

pub record IsWalk (lists : Lists) (marks : List Mark) (seen path order : List ℕ) : Type 0 where
  pub marks_fit : length marks ≡ length lists
  pub seen_fit : length seen ≡ length lists
  pub means : (t : ℕ) → t < length lists → Means path order t (mark_of marks t)
  pub seen_first : AreSeen lists seen order
  pub path_in : All (λ t. t < length lists) path
  pub order_in : All (λ t. t < length lists) order
  pub path_once : IsOnce path
  pub order_once : IsOnce order
  pub path_back : IsPath lists path
  pub after : AreAfter lists order

abbrev pub IsWalkTo : Lists → Walk → List ℕ → Type 0
IsWalkTo lists w path = IsWalk lists w.marks w.seen path w.order

-- ---- how much there is to do

abbrev pub weight : Mark → ℕ
weight Fresh = 2
weight Open = 1
weight Done = 0

abbrev pub unseen : Lists → List ℕ → ℕ
unseen [] seen = 0
unseen (fs ∷ lists) [] = 0
unseen (fs ∷ lists) (n ∷ seen) = (length fs - n) + unseen lists seen

abbrev pub left : Lists → Walk → ℕ
left lists w = unseen lists w.seen + sum_by weight w.marks

-- ---- a step

-- the places that a walk has met
abbrev pub HasMet : List ℕ → List ℕ → ℕ → Type 0
HasMet path order t = Contains path t ⊎ Contains order t

pub record GoesOn (lists : Lists) (old new : Walk) (at next : ℕ) : Type 0 where
  pub walk : IsWalkTo lists new (new.path ++ next ∷ [])
  pub less : left lists new < left lists old
  pub met : (t : ℕ) → HasMet (old.path ++ at ∷ []) old.order t → HasMet (new.path ++ next ∷ []) new.order t

pub record Ends (lists : Lists) (old new : Walk) (at : ℕ) : Type 0 where
  pub walk : IsWalkTo lists new []
  pub path : new.path ≡ []
  pub met : (t : ℕ) → HasMet (old.path ++ at ∷ []) old.order t → Contains new.order t

abbrev pub Moves : Lists → Walk → Walk → ℕ → Move → Type 0
Moves lists old new at (To next) = GoesOn lists old new at next
Moves lists old new at (Around s) = (s < length lists) × Leads lists s s
Moves lists old new at End = Ends lists old new at

-- a walk from this place came back out of it
pub record Visits (lists : Lists) (old new : Walk) (root : ℕ) : Type 0 where
  pub walk : IsWalkTo lists new []
  pub path : new.path ≡ []
  pub kept : (t : ℕ) → Contains old.order t → Contains new.order t
  pub done : Contains new.order root
