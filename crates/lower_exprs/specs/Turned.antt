-- What `for initial` collects, one value or mask at a time.
use Rattle.std.specs.Prelude.{◌<◌, ℕ, suc, Bool, true, false, [], length, Option, Some, None}
use Rattle.lowering.specs.Graphs.{only}
use Rattle.lowering.specs.Operations.{Lowers}
use Rattle.lowered_data.specs.declared.made.Made.{Made}

-- the place among the loop names of a value that is one of them, and no mask of `unless`
abbrev pub kept : (Option ℕ → Option ℕ) → Bool → Option ℕ → Option ℕ
kept loop true name = None
kept loop false name = loop name

-- where it is collected, and where the next value besides the loop names is collected then
abbrev pub place_at : ℕ → Option ℕ → ℕ
place_at next None = next
place_at next (Some x) = x

abbrev pub next_after : ℕ → Option ℕ → ℕ
next_after next None = suc next
next_after next (Some x) = next

-- a value, unless it is a loop name
abbrev pub extra_lowered : Option ℕ → Lowers → Lowers
extra_lowered None g env = g env
extra_lowered (Some x) g env = only []

-- graphs inside stand at these places
pub record BothStand (s : Made) (x y : ℕ) : Type 0 where
  pub first : x < length s.graphs
  pub second : y < length s.graphs

pub record StandIn (s : Made) (x y z : ℕ) : Type 0 where
  pub first : x < length s.graphs
  pub second : y < length s.graphs
  pub third : z < length s.graphs
