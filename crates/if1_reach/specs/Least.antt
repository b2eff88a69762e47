-- The least weight of what each place of a stretch of an order leads to.
use Rattle.std.specs.Prelude.{◌≡◌, ℕ, ◌<◌, ◌≤◌, ◌⊎◌, List, length, slice_index, Contains}
use Rattle.if1_order.specs.Walks.{Lists, Leads}

-- no weight grows, those at these places are at most v, and each is as it was or v at one of these places
pub record AreLowered (places : List ℕ) (v : ℕ) (old new : List ℕ) : Type 0 where
  pub fit : length new ≡ length old
  pub down : (x : ℕ) → slice_index new x ≤ slice_index old x
  pub low : (x : ℕ) → x < length old → Contains places x → slice_index new x ≤ v
  pub kept : (x : ℕ) → (slice_index new x ≡ slice_index old x) ⊎ (Contains places x × (slice_index new x ≡ v))

-- the place has a rank from the first on and before the end
pub record IsInStretch (lists : Lists) (ranks : List ℕ) (first end x : ℕ) : Type 0 where
  pub there : x < length lists
  pub from : first ≤ slice_index ranks x
  pub to : slice_index ranks x < end

-- the place is this one or leads to it
abbrev pub IsOrLeads : Lists → ℕ → ℕ → Type 0
IsOrLeads lists x y = (x ≡ y) ⊎ Leads lists x y

-- in a stretch each weight is the least of those of the place and of all that it leads to there
pub record AreLeast (lists : Lists) (ranks : List ℕ) (first end : ℕ) (weights least : List ℕ) : Type 0 where
  pub fit : length least ≡ length lists
  pub found : (x : ℕ) → IsInStretch lists ranks first end x → (y : ℕ) × IsInStretch lists ranks first end y × IsOrLeads lists x y × (slice_index least x ≡ slice_index weights y)
  pub below : (x y : ℕ) → IsInStretch lists ranks first end x → IsInStretch lists ranks first end y → IsOrLeads lists x y → slice_index least x ≤ slice_index weights y
