-- A table whose numbers are each in use or free.
use Rattle.std.specs.Prelude.{◌≡◌, ◌≢◌, ℕ, ◌+◌, ◌<◌, List, length, Option, None, is_some, count_by, slice_index_or}

module _ {Y : Type 0} where
  abbrev pub slot_at : List (Option Y) → ℕ → Option Y
  slot_at slots n = slice_index_or slots n None

  -- how many numbers are in use
  abbrev pub used : List (Option Y) → ℕ
  used slots = count_by is_some slots

  -- the free numbers are vacant and differ, and every other number is in use
  pub record IsTable (slots : List (Option Y)) (free : List ℕ) : Type 0 where
    pub all : used slots + length free ≡ length slots
    pub vacant : (i : ℕ) → i < length free → (slice_index_or free i 0 < length slots) × (slot_at slots (slice_index_or free i 0) ≡ None)
    pub differ : (i j : ℕ) → i < j → j < length free → slice_index_or free i 0 ≢ slice_index_or free j 0
