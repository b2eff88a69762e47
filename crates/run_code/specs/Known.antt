-- The ports that have cells: of each node that has fired, those from 1 to a number.
use Rattle.std.specs.Prelude.{◌≡◌, ◌≢◌, ℕ, zero, suc, ◌<◌, ◌⊎◌, List, [], ◌∷◌}
use Rattle.ordered_meaning.specs.Demand.{Source, Port, Fixed, Vertex}

-- labels, with how many ports
abbrev pub Known : Type 0
Known = List (ℕ × ℕ)

abbrev pub Knows : Known → (node port : ℕ) → Type 0
Knows [] l p = ⊥
Knows (k ∷ ks) l p = ((l ≡ k.0) × (i : ℕ) × (i < k.1) × (p ≡ suc i)) ⊎ Knows ks l p

-- the inputs of the graph are known
abbrev pub KnowsAll : Known → List Source → Type 0
KnowsAll known [] = Unit {0}
KnowsAll known (Fixed c ∷ os) = KnowsAll known os
KnowsAll known (Port zero p ∷ os) = KnowsAll known os
KnowsAll known (Port (suc l) p ∷ os) = Knows known (suc l) p × KnowsAll known os

module _ (width : Vertex → ℕ) where
  abbrev pub known_after : Known → List Vertex → Known
  known_after known [] = known
  known_after known (v ∷ vs) = known_after ((v.label, width v) ∷ known) vs

  -- each node is a new one, and reads known ports
  abbrev pub IsReadable : Known → List Vertex → Type 0
  IsReadable known [] = Unit {0}
  IsReadable known (v ∷ vs) = (v.label ≢ 0) × ((p : ℕ) → Knows known v.label p → ⊥) × KnowsAll known v.ins × IsReadable ((v.label, width v) ∷ known) vs

  -- and the results read known ports
  abbrev pub AreReadable : List Vertex → (results : List Source) → Type 0
  AreReadable vs results = IsReadable [] vs × KnowsAll (known_after [] vs) results
