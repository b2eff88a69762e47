-- A room that is cut into segments of one place each.
use Rattle.std.specs.Prelude.{◌≡◌, ℕ, zero, suc, ◌+◌, ◌<◌, pos, List, [], ◌∷◌, length, slice_index_or, Option, Some}
use denote.RawPtr.{Ptr}
use Rattle.flow_value.specs.declared.value.Val.{Val}
use Rattle.flow_value.specs.declared.value.Val.TheVariants as value
use Rattle.segment.specs.Places.{Place, written}
use Rattle.agg_pool.specs.Parts.{Cut}
use Rattle.agg_pool.specs.declared.entry.Entry.{Entry}
use Rattle.agg_pool.specs.declared.entry.Entry.TheVariants as entry

-- an entry that is a room at `start` with these places
abbrev pub room_at : Ptr → List (Place Val) → Option Entry
room_at start places = Some (entry.Parts (record { start = start; places = places }))

-- the segment of place i alone, of the room at `start` in the entry of this number
abbrev pub share : ℕ → Ptr → ℕ → Place Val → Cut
share number start i place = record { number = number; part = record { start = start; from = i; places = place ∷ [] } }

-- the segments are the first places of the room, one each and in order, as `place` says
abbrev pub AreShares : ℕ → Ptr → (ℕ → Place Val) → List Cut → Type 0
AreShares number start place parts = (i : ℕ) (d : Cut) → i < length parts → slice_index_or parts i d ≡ share number start i (place i)

-- the segment with this place in it
abbrev pub with_place : Cut → Place Val → Cut
with_place cut place = record cut { part = record cut.part { places = place ∷ [] } }

-- what is written at place i, counted from 0
abbrev pub number_at : ℕ → Place Val
number_at i = written (value.Int (pos (i + 1)))

-- so many integers from `first` on
unfoldable pub counted : ℕ → ℕ → List Val
counted zero first = []
counted (suc n) first = value.Int (pos first) ∷ counted n (first + 1)
