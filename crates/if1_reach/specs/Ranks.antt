-- Orders of places along links, with the rank of each place.
use Rattle.std.specs.Prelude.{◌≡◌, ℕ, ◌<◌, List, length, slice_index, Contains}
use Rattle.if1_order.specs.Walks.{Lists, feeders_of}
use Rattle.if1_reach.specs.declared.ranks.Ranks.{Ranks}

-- each place of a list has its place in the list as its rank
abbrev pub AreRanks : List ℕ → List ℕ → Type 0
AreRanks order ranks = (k : ℕ) → k < length order → slice_index ranks (slice_index order k) ≡ k

-- each place has a rank, in which it stands, and links lead to higher ranks alone
pub record IsRanked (lists : Lists) (r : Ranks) : Type 0 where
  pub fit : length r.ranks ≡ length lists
  pub placed : (t : ℕ) → t < length lists → slice_index r.ranks t < length r.order
  pub stands : (t : ℕ) → t < length lists → slice_index r.order (slice_index r.ranks t) ≡ t
  pub inside : (k : ℕ) → k < length r.order → slice_index r.order k < length lists
  pub ranked : AreRanks r.order r.ranks
  pub along : (s t : ℕ) → Contains (feeders_of lists t) s → slice_index r.ranks s < slice_index r.ranks t
