-- Numbers of parts, some of which are known.
use Rattle.std.specs.Prelude.{◌≡◌, ◌≢◌, ℕ, suc, List, length, slice_index}
use Rattle.if1_order.specs.Walks.{Lists}
use Rattle.if1_components.specs.Components.{IsMutual}

-- a number is 0, or two more than a place of the part; places that lead to each other have one number
pub record AreSoFar (lists : Lists) (numbers : List ℕ) : Type 0 where
  pub fit : length numbers ≡ length lists
  pub none : (x : ℕ) → slice_index numbers x ≢ 1
  pub own : (x root : ℕ) → slice_index numbers x ≡ suc (suc root) → IsMutual lists x root
  pub alike : (x y : ℕ) → IsMutual lists x y → slice_index numbers x ≡ slice_index numbers y

-- what has a number goes on having one
abbrev pub IsKept : List ℕ → List ℕ → Type 0
IsKept old new = (x : ℕ) → slice_index old x ≢ 0 → slice_index new x ≢ 0
