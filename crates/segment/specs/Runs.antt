-- What a run of places owns, and where its places lie.
use Rattle.std.specs.Prelude.{◌≡◌, refl, ℕ, suc, ◌+◌, ◌-◌, ◌*◌, ◌^◌, List, [], ◌∷◌, ◌++◌, length, map, replicate, take, drop}
use Rattle.std.specs.Coded.{Coded, code_by, coded×, coded_ℕ}
use base.Fraction.{full_share}
use mir.Syntax.{w64}
use mir.Raw.{raw}
use mir.Val.{Val, vint, vstruct, vcons, vnil}
use base.Fml.{Fml, ftrue, fsep, fex, feq, flt, fall, fwand}
use prog.Memory.{size}
use denote.RattleType.{RattleType}
use denote.Memory.{lone}
use denote.RawPtr.{Ptr, coded_ptr, ptr_val, lies_at, room_for, in_block, ◌+ₚ◌}
use Rattle.segment.specs.Places.{Place, away, unwritten, written}

-- where a Vec's memory begins, and how many of its places are taken out
pub record Extent : Type 0 where
  pub at : Ptr
  pub len : ℕ

abbrev pub extent_code : Coded Extent
extent_code = code_by (Ptr × ℕ) (coded× coded_ptr coded_ℕ) (λ e. (e.at, e.len)) (λ p. record { at = p.0; len = p.1 }) (λ _. refl)

module _ {X : Type 0} where
  -- the n elements from a on
  abbrev pub part : List X → ℕ → ℕ → List X
  part xs a n = take n (drop a xs)

  -- xs with ws in place of as many elements from a on
  abbrev pub spliced : List X → ℕ → List X → List X
  spliced xs a ws = take a xs ++ (ws ++ drop (a + length ws) xs)

-- how the machine stores a struct of one Vec, whose allocator it stores as h
abbrev pub words : Ptr → ℕ → ℕ → Val → List Val
words p len cap h = vstruct (vcons (vstruct (vcons (ptr_val p) (vcons (vint w64 len) (vcons (vint w64 cap) (vcons h vnil))))) vnil) ∷ []

module _ (R : RattleType) where
  abbrev pub bytes_of : ℕ
  bytes_of = size (lone R.mir)

  -- where the i-th place from p on lies
  abbrev pub place_at : Ptr → ℕ → Ptr
  place_at p i = p +ₚ i * bytes_of

  -- one place: nothing of it, room for a value, or its value
  abbrev pub place_owns : Ptr → Place R.Denot → Fml
  place_owns p away = ftrue
  place_owns p unwritten = room_for (raw (lone R.mir)) p
  place_owns p (written x) = lies_at R full_share p x

  -- places side by side
  abbrev pub places_own : Ptr → List (Place R.Denot) → Fml
  places_own p [] = ftrue
  places_own p (x ∷ xs) = fsep (place_owns p x) (places_own (p +ₚ bytes_of) xs)

  -- a run of them, whose size in bytes a pointer can cross
  abbrev pub run_owns : Ptr → List (Place R.Denot) → Fml
  run_owns p xs = fsep (flt (length xs * bytes_of) (2 ^ 63)) (in_block p (places_own p xs))

  -- a run that begins so many places into the one at `start`
  abbrev pub cut_owns : Ptr → ℕ → Ptr → List (Place R.Denot) → Fml
  cut_owns start offset p xs = fsep (fex (p ≡ place_at start offset) (λ _. ftrue)) (run_owns p xs)

  -- the places of a Vec's memory that are taken out, of which the first hold xs and the others nothing
  abbrev pub begun : Extent → List R.Denot → Fml
  begun e xs = fsep (flt (length xs) (suc e.len)) (run_owns e.at (map written xs ++ replicate (e.len - length xs) unwritten))

  -- from the places, with xs in the first of them, to what `whole` tells of xs: the Vec of xs. Until then the machine has an empty one, at vs
  abbrev pub way_back : Extent → List Val → (List R.Denot → List Val → Fml) → Fml
  way_back e vs whole = fex ℕ (λ cap. fex Val (λ h. fsep (feq (List Val) vs (words e.at 0 cap h)) (fall (List R.Denot) (λ xs. fwand (begun e xs) (whole xs (words e.at (length xs) cap h))))))
