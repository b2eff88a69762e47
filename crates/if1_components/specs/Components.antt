-- Places that lead to each other.
use Rattle.std.specs.Prelude.{◌≡◌, ℕ, ◌<◌, ◌↔◌, ◌⊎◌, List, length, slice_index}
use Rattle.if1_order.specs.Walks.{Lists, Leads}

-- the place is this one or leads to it
abbrev pub IsOrLeads : Lists → ℕ → ℕ → Type 0
IsOrLeads lists x y = (x ≡ y) ⊎ Leads lists x y

-- the places are the same or lead to each other
abbrev pub IsMutual : Lists → ℕ → ℕ → Type 0
IsMutual lists x y = (x ≡ y) ⊎ (Leads lists x y × Leads lists y x)

-- two places have one number exactly where they are the same or lead to each other
pub record AreComponents (lists : Lists) (numbers : List ℕ) : Type 0 where
  pub fit : length numbers ≡ length lists
  pub same : (x y : ℕ) → x < length lists → y < length lists → (slice_index numbers x ≡ slice_index numbers y) ↔ IsMutual lists x y
