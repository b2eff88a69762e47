-- Marks of types that hold reals: of those that are real, and of one more that holds a marked one, until there is none.
use Rattle.std.proofs.Common.{◌≡◌, ℕ, zero, suc, ◌+◌, ◌<◌, ◌≤◌, Bool, true, false, List, [], ◌∷◌, map, length, get_or, set, ◌⊎◌, inl, inr, refl, ap, ◌∙◌, arith}
use Rattle.std.specs.List.Sorted.{IsStrictlyIncreasing}
use Rattle.std.proofs.lemmas.Bool.{cases_eq}
use Rattle.std.proofs.lemmas.List.{get_or_default}
use Rattle.if1_graph.specs.declared.graph.TypeEntry.{TypeEntry}
use Rattle.if1_graph.specs.Formed.{HasReal}
use Rattle.if1_read.specs.Marks.{labels_in, is_marked, is_real_type, AreMarks}
use Rattle.if1_read.specs.Spread.{is_holder, AreTrue}
use Rattle.if1_read.proofs.Spreading.{Turn, first_turn, next_turn, marks_now, marks_at_last}
use Rattle.if1_read.proofs.Truly.{mapped_true, true_set, marked_real, holder_real}

pub record Marked (ts : List TypeEntry) : Type 0 where
  pub marks : List Bool
  pub are : AreMarks ts marks
  pub exact : (l : ℕ) → is_marked ts marks l ≡ true → HasReal ts l

module _ (ts : List TypeEntry) (up : IsStrictlyIncreasing (labels_in ts)) where
  abbrev ls : List ℕ
  ls = labels_in ts

  abbrev holder : List Bool → ℕ → TypeEntry → Bool
  holder ms k d = is_holder ls ms (get_or ms k true) (get_or ts k d)

  -- one that is not marked and holds a marked one, or none of those before a place
  record Holder (ms : List Bool) : Type 0 where
    place : ℕ
    below : place < length ts
    holds : (d : TypeEntry) → holder ms place d ≡ true

  abbrev NoHolder : List Bool → ℕ → Type 0
  NoHolder ms n = (k : ℕ) → k < n → (d : TypeEntry) → holder ms k d ≡ false

  at_if : (ms : List Bool) (n : ℕ) (e : TypeEntry) (b : Bool) → n < length ts → holder ms n e ≡ b → NoHolder ms n → Holder ms ⊎ NoHolder ms (suc n)
  at_if ms n e true lt is none = inl (record {
    place = n;
    below = lt;
    holds = λ d. ap (is_holder ls ms (get_or ms n true)) (get_or_default ts n d e lt) ∙ is;
  })
  at_if ms n e false lt is none = inr (λ k h d. elim (cases_eq k n) [
    | inl same ↦
        ap (λ (j : ℕ). holder ms j d) same ∙ ap (is_holder ls ms (get_or ms n true)) (get_or_default ts n d e lt) ∙ is
    | inr apart ↦ none k (omega (arith, h, apart)) d
  ])

  next_at : (ms : List Bool) (e : TypeEntry) (n : ℕ) → n ≤ length ts → Holder ms ⊎ NoHolder ms n
  next_at ms e zero le = inr (λ k h d. absurd (omega (arith, h)))
  next_at ms e (suc n) le = elim (next_at ms e n (omega (arith, le))) [
    | inl h ↦ inl h
    | inr none ↦ at_if ms n e (holder ms n e) (omega (arith, le)) refl none
  ]

  not_set : (ms : List Bool) (k : ℕ) (e : TypeEntry) → (m : Bool) → get_or ms k true ≡ m → is_holder ls ms m e ≡ true → get_or ms k true ≡ false
  not_set ms k e true is h = absurd cc
  not_set ms k e false is h = is

  free_below : (ms : List Bool) (k : ℕ) → get_or ms k true ≡ false → k < length ms
  free_below [] k h = absurd cc
  free_below (m ∷ ms) zero h = omega arith
  free_below (m ∷ ms) (suc k) h = omega (arith, free_below ms k h)

  turns : (e : TypeEntry) (n i : ℕ) (ms : List Bool) → i + n ≡ length ts → Turn ts ms i → AreTrue ts ms → Marked ts
  turns e zero i ms fits turn true_ones = record {
    marks = ms;
    are = marks_at_last ls ts ms i turn (omega (arith, fits)) refl up;
    exact = marked_real ts ms true_ones;
  }
  turns e (suc n) i ms fits turn true_ones = elim (next_at ms e (length ts) (omega arith)) [
    | inl h ↦
        let here = h.holds e in
        let free = not_set ms h.place (get_or ts h.place e) (get_or ms h.place true) refl here in
        let at = holder_real ts ls ms (get_or ms h.place true) h.place (get_or ts h.place e) refl up
        (record { below = h.below; is = get_or_default ts h.place e (get_or ts h.place e) h.below }) true_ones here in
        turns e n (i + 1) (set ms h.place true) (omega (arith, fits)) (next_turn ts ms (set ms h.place true) i h.place turn (free_below ms h.place free) free refl)
        (true_set ts ms h.place at true_ones)
    | inr none ↦ record { marks = ms; are = marks_now ls ts ms i turn (λ _ _. none) refl up; exact = marked_real ts ms true_ones }
  ]

  pub marks_of : TypeEntry → Marked ts
  marks_of e =
      let ms = map is_real_type ts in
      turns e (length ts) 0 ms (omega arith) (first_turn ts ms ms refl (record { fit = refl; still = λ k h. h })) (mapped_true ts up)
