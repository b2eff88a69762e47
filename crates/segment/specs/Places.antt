-- What a contract sees of a room and of a segment.
use Rattle.std.specs.Prelude.{◌≡◌, refl, ℕ, ◌+◌, ◌≤◌, length, Bool, true, false, List, Option, Some, None}
use Rattle.std.specs.Coded.{Coded, code_by, coded×, coded_ℕ, coded_list, coded_option}
use denote.RawPtr.{Ptr, coded_ptr}

-- one place: cut out as a part of a segment, or here and not yet written, or here with its value
pub data Place (X : Type 0) : Type 0 where
  away : Place X
  unwritten : Place X
  written : X → Place X

abbrev pub is_here : {X : Type 0} → Place X → Bool
is_here away = false
is_here unwritten = true
is_here (written x) = true

abbrev pub is_written : {X : Type 0} → Place X → Bool
is_written away = false
is_written unwritten = false
is_written (written x) = true

-- where the places begin, and the places
pub record RoomView (X : Type 0) : Type 0 where
  pub start : Ptr
  pub places : List (Place X)

-- where its room's places begin, how many places into the room its own begin, and these
pub record SegmentView (X : Type 0) : Type 0 where
  pub start : Ptr
  pub from : ℕ
  pub places : List (Place X)

-- how these are stored
module _ {X : Type 0} where
  abbrev pub to_option : Place X → Option (Option X)
  to_option away = None
  to_option unwritten = Some None
  to_option (written x) = Some (Some x)

  abbrev pub of_option : Option (Option X) → Place X
  of_option None = away
  of_option (Some None) = unwritten
  of_option (Some (Some x)) = written x

  pub of_option-to_option : (p : Place X) → of_option (to_option p) ≡ p
  of_option-to_option away = refl
  of_option-to_option unwritten = refl
  of_option-to_option (written x) = refl

module _ {X : Type 0} (c : Coded X) where
  abbrev pub place_code : Coded (Place X)
  place_code = code_by (Option (Option X)) (coded_option (coded_option c)) to_option of_option of_option-to_option

  abbrev pub room_code : Coded (RoomView X)
  room_code = code_by (Ptr × List (Place X)) (coded× coded_ptr (coded_list place_code))
      (λ r. (r.start, r.places)) (λ p. record { start = p.0; places = p.1 }) (λ _. refl)

  abbrev pub segment_code : Coded (SegmentView X)
  segment_code = code_by ((Ptr × ℕ) × List (Place X)) (coded× (coded× coded_ptr coded_ℕ) (coded_list place_code))
      (λ s. ((s.start, s.from), s.places)) (λ p. record { start = p.0.0; from = p.0.1; places = p.1 }) (λ _. refl)

-- the segment was cut out of the room
abbrev pub IsOf : {X : Type 0} → RoomView X → SegmentView X → Type 0
IsOf room segment = (segment.start ≡ room.start) × (segment.from + length segment.places ≤ length room.places)
