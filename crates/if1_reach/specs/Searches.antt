-- A search backwards from an end, and the ways that it finds.
use Rattle.std.specs.Prelude.{◌≡◌, ◌≢◌, ℕ, zero, suc, ◌+◌, ◌-◌, ◌<◌, ◌≤◌, Bool, true, false, cond, List, length, slice_index_or, Contains}
use Rattle.std.specs.List.{sum_by}
use Rattle.if1_order.specs.Walks.{Lists, feeders_of}
use Rattle.if1_reach.specs.declared.search.Met.{Met}
use Rattle.if1_reach.specs.declared.search.Search.{Search}

-- a way along edges, of one edge at least
pub record IsWay (lists : Lists) (from to : ℕ) (ls : List ℕ) : Type 0 where
  pub long : 2 ≤ length ls
  pub first : slice_index_or ls 0 0 ≡ from
  pub last : slice_index_or ls (length ls - 1) 0 ≡ to
  pub linked : (k : ℕ) → k + 1 < length ls → Contains (feeders_of lists (slice_index_or ls (k + 1) 0)) (slice_index_or ls k 0)

-- ---- what was met

abbrev pub none_met : Met
none_met = record { place = 0; on = 0 }

abbrev pub met_at : List Met → ℕ → Met
met_at met k = slice_index_or met k none_met

-- to which place a place leads on by this number
abbrev pub at_of : ℕ → List Met → ℕ → ℕ
at_of to met zero = to
at_of to met (suc k) = (met_at met k).place

-- the place leads straight to the one that is met by this number
abbrev pub Follows : Lists → ℕ → List Met → ℕ → ℕ → Type 0
Follows lists to met place on = (on ≤ length met) × Contains (feeders_of lists (at_of to met on)) place

abbrev pub HasMet : Search → ℕ → Type 0
HasMet s place = (k : ℕ) × (k < length s.met) × ((met_at s.met k).place ≡ place)

abbrev pub fresh : Bool → ℕ
fresh b = cond b 0 1

pub record IsSearch (lists : Lists) (to : ℕ) (s : Search) : Type 0 where
  pub fit : length s.seen ≡ length lists
  pub inside : (k : ℕ) → k < length s.met → (met_at s.met k).place < length lists
  pub follows : (k : ℕ) → k < length s.met → ((met_at s.met k).on ≤ k) × Contains (feeders_of lists (at_of to s.met (met_at s.met k).on)) (met_at s.met k).place
  pub known : (place : ℕ) → place < length lists → slice_index_or s.seen place false ≡ true → HasMet s place
  pub count : length s.met + sum_by fresh s.seen ≡ length lists

-- what was met stays where it is
pub record Adds (old new : Search) : Type 0 where
  pub more : length old.met ≤ length new.met
  pub same : (k : ℕ) → k < length old.met → met_at new.met k ≡ met_at old.met k

-- all that lead straight to this place are met
abbrev pub HaveMet : Lists → Search → ℕ → Type 0
HaveMet lists s at = (place : ℕ) → Contains (feeders_of lists at) place → HasMet s place

-- ---- the way on

-- a way so far, which ends where the number of a place that was met says
pub record IsWayOn (lists : Lists) (from at : ℕ) (ls : List ℕ) : Type 0 where
  pub some : 1 ≤ length ls
  pub first : slice_index_or ls 0 0 ≡ from
  pub last : slice_index_or ls (length ls - 1) 0 ≡ at
  pub linked : (k : ℕ) → k + 1 < length ls → Contains (feeders_of lists (slice_index_or ls (k + 1) 0)) (slice_index_or ls k 0)

-- from the places that were met first everything was met that leads straight there, and none of them is the one that is looked for
pub record AreDone (lists : Lists) (to from : ℕ) (s : Search) (at : ℕ) : Type 0 where
  pub within : at ≤ length s.met
  pub end : HaveMet lists s to
  pub each : (k : ℕ) → k < at → HaveMet lists s (met_at s.met k).place × ((met_at s.met k).place ≢ from)
