-- A table of rooms, number by number.
use Rattle.std.proofs.Common.{◌≡◌, ℕ, zero, suc, ◌+◌, ◌<◌, ◌≤◌, List, [], ◌∷◌, ◌++◌, length, inl, inr, refl, ap, ◌∙◌, arith}
use Rattle.std.proofs.lemmas.Bool.{cases_lt}
use Rattle.std.proofs.lemmas.List.{get_or_append_left, get_or_push, length_push}
use Rattle.unit_whole.specs.PlanData.{PlanData}
use Rattle.unit_whole.specs.Parts.{table_of}

abbrev pub room_in : PlanData → ℕ → ℕ
room_in D f = table_of D.params f + table_of D.extents f

-- so many rooms are there
pub record AreRooms (D : PlanData) (many : ℕ) (rooms : List ℕ) : Type 0 where
  pub long : length rooms ≡ many
  pub each : (f : ℕ) → f < many → table_of rooms f ≡ room_in D f

pub no-rooms : (D : PlanData) (rooms : List ℕ) → rooms ≡ [] → AreRooms D 0 rooms
no-rooms D rooms e = record { long = ap length e; each = λ f lt. absurd (omega (arith, lt)) }

pub room-more : (D : PlanData) (many room : ℕ) (old new : List ℕ) → AreRooms D many old → room ≡ room_in D many → new ≡ old ++ room ∷ [] → AreRooms D (many + 1) new
room-more D many room old new h is e =
    record {
      long = ap length e ∙ (length_push old room ∙ omega (arith, h.long));
      each = λ f lt. ap (λ rs. table_of rs f) e ∙ one f lt;
    }
  where
    one : (f : ℕ) → f < many + 1 → table_of (old ++ room ∷ []) f ≡ room_in D f
    one f lt =
        elim (cases_lt f (length old)) [
          | inl less ↦ get_or_append_left old (room ∷ []) 0 f less ∙ h.each f (omega (arith, less, h.long))
          | inr ge ↦
              let at : length old ≡ f = omega (arith, lt, ge, h.long) in
              let same : many ≡ f = omega (arith, at, h.long) in
              get_or_push old room 0 f at ∙ (is ∙ ap (room_in D) same)
        ]

past : (xs : List ℕ) (f : ℕ) → length xs ≤ f → table_of xs f ≡ 0
past [] f le = refl
past (x ∷ xs) zero le = absurd (omega (arith, le))
past (x ∷ xs) (suc f) le = past xs f (omega (arith, le))

pub all-rooms : (D : PlanData) (many : ℕ) (rooms : List ℕ) → length D.params ≤ many → length D.extents ≤ many → AreRooms D many rooms → (f : ℕ) → table_of rooms f ≡ table_of D.params f + table_of D.extents f
all-rooms D many rooms a b h f =
    elim (cases_lt f many) [
      | inl less ↦ h.each f less
      | inr ge ↦
          let x = past rooms f (omega (arith, ge, h.long)) in
          let y = past D.params f (omega (arith, ge, a)) in
          let z = past D.extents f (omega (arith, ge, b)) in
          omega (arith, x, y, z)
    ]
