-- Paths along links.
use Rattle.std.specs.Prelude.{◌≡◌, ℕ, ◌+◌, ◌-◌, ◌<◌, ◌≤◌, true, List, length, slice_index}
use Rattle.marks_made.specs.Ways.{Links}

-- the labels on a way of one link at least
pub record IsPath (links : Links) (from to : ℕ) (ls : List ℕ) : Type 0 where
  pub long : 2 ≤ length ls
  pub first : slice_index ls 0 ≡ from
  pub last : slice_index ls (length ls - 1) ≡ to
  pub linked : (k : ℕ) → k + 1 < length ls → links (slice_index ls k) (slice_index ls (k + 1)) ≡ true
