-- Lists of the places from which edges lead to each place.
use Rattle.std.specs.Prelude.{◌≡◌, ◌≢◌, ℕ, ◌<◌, ◌⊎◌, List, [], ◌∷◌, ◌++◌, length, slice_index, slice_set, Contains}
use Rattle.if1_graph.specs.declared.graph.Edge.{Edge}
use Rattle.if1_graph.specs.Cycles.{IsFrom}
use Rattle.if1_order.specs.Walks.{Lists, feeders_of}

-- the edge leads from the first label to the second
abbrev pub IsEdge : Edge → ℕ → ℕ → Type 0
IsEdge e l m = IsFrom l e.from × (e.node ≡ m) × (m ≢ 0)

-- one of the edges does
abbrev pub Joins : List Edge → ℕ → ℕ → Type 0
Joins es l m = (e : Edge) × Contains es e × IsEdge e l m

abbrev pub IsPlace : List ℕ → ℕ → ℕ → Type 0
IsPlace labels k l = (k < length labels) × (slice_index labels k ≡ l)

-- the lists, once an edge between these labels is entered
abbrev pub IsJoined : List ℕ → ℕ → ℕ → Lists → Lists → Type 0
IsJoined labels l m old new =
    ((s t : ℕ) × IsPlace labels s l × IsPlace labels t m × (new ≡ slice_set old t (feeders_of old t ++ s ∷ [])))
    ⊎ ((new ≡ old) × ((¬ Contains labels l) ⊎ (¬ Contains labels m)))

pub record AreFeeders (labels : List ℕ) (es : List Edge) (lists : Lists) : Type 0 where
  pub fit : length lists ≡ length labels
  pub sound : (s t : ℕ) → Contains (feeders_of lists t) s → (s < length labels) × Joins es (slice_index labels s) (slice_index labels t)
  pub complete : (s t : ℕ) → s < length labels → t < length labels → Joins es (slice_index labels s) (slice_index labels t) → Contains (feeders_of lists t) s
