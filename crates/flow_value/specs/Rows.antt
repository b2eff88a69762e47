-- How the items of a row lie in its places.
use Rattle.std.specs.Prelude.{◌≡◌, ℕ, ◌+◌, ◌-◌, ◌≤◌, min, Bool, true, false, List, ◌++◌, map, replicate, Option, Some, None}
use Rattle.flow_value.specs.Places.{somes}
use Rattle.flow_value.specs.declared.row.Row.{Row}

-- some places without a value, then some with one, then some without
abbrev pub shape : ℕ → ℕ → ℕ → List Bool
shape a n b = replicate a false ++ (replicate n true ++ replicate b false)

module _ {X : Type 0} where
  abbrev pub is_here : Option X → Bool
  is_here None = false
  is_here (Some x) = true

  -- the items, from the first on
  abbrev pub items_of : Row X → List X
  items_of r = somes r.block.places

  -- the places that a row counts
  abbrev pub places_of : Row X → ℕ
  places_of r = min r.room 4294967295

  pub record IsRow (r : Row X) : Type 0 where
    pub block : r.block.room ≡ r.room
    pub places : map is_here r.block.places ≡ shape r.first r.len (r.room - (r.first + r.len))
    pub fits : r.first + r.len ≤ places_of r

  -- s is a row of as many places, with the items xs
  abbrev pub Becomes : Row X → Row X → List X → Type 0
  Becomes r s xs = IsRow s × ((s.room ≡ r.room) × (items_of s ≡ xs))
