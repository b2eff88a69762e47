-- Colors of places, which spread backwards along links.
use Rattle.std.specs.Prelude.{◌≡◌, ◌≢◌, ℕ, ◌+◌, ◌<◌, ◌≤◌, ◌⊎◌, ◌==◌, cond, List, length, slice_index, All, Contains}
use Rattle.std.specs.List.{sum_by}
use Rattle.if1_order.specs.Walks.{Lists, feeders_of}
use Rattle.if1_components.specs.Components.{IsOrLeads}

-- a place keeps its color, or turns from one to another and leads to the root
abbrev pub IsPainted : Lists → ℕ → ℕ → ℕ → List ℕ → List ℕ → ℕ → Type 0
IsPainted lists root from to old new x =
    (slice_index new x ≡ slice_index old x) ⊎ ((slice_index old x ≡ from) × (slice_index new x ≡ to) × IsOrLeads lists x root)

abbrev pub one_at : ℕ → ℕ → ℕ
one_at from color = cond (color == from) 1 0

-- how many places have a color
abbrev pub count_of : ℕ → List ℕ → ℕ
count_of from colors = sum_by (one_at from) colors

-- a color on its way, with the places that got it
pub record IsSpreading (lists : Lists) (root from to total : ℕ) (old colors met : List ℕ) : Type 0 where
  pub fit : length colors ≡ length old
  pub painted : (x : ℕ) → IsPainted lists root from to old colors x
  pub all : (x : ℕ) → slice_index old x ≡ from → slice_index colors x ≡ to → Contains met x
  pub inside : (k : ℕ) → k < length met → slice_index met k < length old
  pub turned : (k : ℕ) → k < length met → IsOrLeads lists (slice_index met k) root
  pub count : length met + count_of from colors ≡ total

-- places were added, and no place got the color that is left
pub record Grows (from : ℕ) (colors met new more : List ℕ) : Type 0 where
  pub fit : length new ≡ length colors
  pub longer : length met ≤ length more
  pub same : (k : ℕ) → k < length met → slice_index more k ≡ slice_index met k
  pub never : (x : ℕ) → slice_index colors x ≢ from → slice_index new x ≢ from

-- these places have another color now, and what leads to a root by them was met
pub record Paints (places : List ℕ) (from to : ℕ) (colors met new more : List ℕ) : Type 0 where
  pub spreads : (lists : Lists) (root total : ℕ) (old : List ℕ) → ((x : ℕ) → Contains places x → IsOrLeads lists x root) → IsSpreading lists root from to total old colors met → IsSpreading lists root from to total old new more
  pub grows : Grows from colors met new more
  pub painted : (x : ℕ) → Contains places x → slice_index new x ≢ from

-- of the first places that were met, none of those that lead straight there has the color that is left
abbrev pub AreDone : Lists → ℕ → List ℕ → List ℕ → ℕ → Type 0
AreDone lists from colors met at = (k y : ℕ) → k < at → Contains (feeders_of lists (slice_index met k)) y → slice_index colors y ≢ from

-- the root, and with each place those of its color that lead straight there, got the new color
pub record IsSpread (lists : Lists) (root from to : ℕ) (old new met : List ℕ) : Type 0 where
  pub fit : length new ≡ length old
  pub painted : (x : ℕ) → IsPainted lists root from to old new x
  pub rooted : slice_index new root ≡ to
  pub closed : (x y : ℕ) → slice_index old x ≡ from → slice_index new x ≡ to → Contains (feeders_of lists x) y → slice_index new y ≢ from
  pub all : (x : ℕ) → slice_index old x ≡ from → slice_index new x ≡ to → Contains met x
  pub inside : All (λ x. x < length old) met

-- these places have lost a color
pub record IsCleared (places : List ℕ) (from to : ℕ) (old new : List ℕ) : Type 0 where
  pub fit : length new ≡ length old
  pub kept : (x : ℕ) → (slice_index new x ≡ slice_index old x) ⊎ ((slice_index old x ≡ from) × (slice_index new x ≡ to))
  pub gone : (x : ℕ) → Contains places x → slice_index new x ≢ from
