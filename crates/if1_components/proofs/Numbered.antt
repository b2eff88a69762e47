-- One more part has its number.
use Rattle.std.proofs.Common.{◌≡◌, ◌≢◌, ◌∙◌, ℕ, zero, suc, ◌+◌, ◌-◌, ◌<◌, ◌⊎◌, List, length, replicate, slice_index, inl, inr, arith, refl, sym, subst}
use Rattle.std.proofs.lemmas.Bool.{cases_lt}
use Rattle.std.proofs.lemmas.List.{length-replicate}
use Rattle.if1_order.specs.Walks.{Lists}
use Rattle.if1_components.specs.Components.{IsOrLeads, IsMutual, AreComponents}
use Rattle.if1_components.specs.Backward.{AreTurned}
use Rattle.if1_components.specs.Colors.{IsSpread, IsCleared}
use Rattle.if1_components.specs.Parts.{AreSoFar, IsKept}
use Rattle.if1_components.proofs.Ways.{leads-here, mutual-back, mutual-on, mutual-there, mutual-here, reached}

module _ (lists back : Lists) (turned : AreTurned lists back) (root : ℕ) (old one two new met more : List ℕ) (s : AreSoFar lists old) (none : slice_index old root ≡ 0)
    (a : IsSpread lists root 0 1 old one met) (b : IsSpread back root 1 (root + 2) one two more) (c : IsCleared met 1 0 two new) where
  zeros : (x : ℕ) → IsMutual lists x root → slice_index old x ≡ 0
  zeros x m = s.alike x root m ∙ none

  ones : (x : ℕ) → IsMutual lists x root → slice_index one x ≡ 1
  ones x m = reached lists root 0 1 old one met a zeros x m

  twos : (x : ℕ) → IsMutual lists x root → slice_index two x ≡ root + 2
  twos x m = reached back root 1 (root + 2) one two more b (λ y n. ones y (mutual-here lists back turned y root n)) x (mutual-there lists back turned x root m)

  pub threes : (x : ℕ) → IsMutual lists x root → slice_index new x ≡ root + 2
  threes x m = elim (c.kept x) [ inl same ↦ same ∙ twos x m | inr p ↦ let e = twos x m in absurd (omega (arith, e, p.0)) ]

  both : (x : ℕ) → IsOrLeads lists x root → IsOrLeads back x root → IsMutual lists x root
  both x (inl e) q = inl e
  both x (inr v) (inl e) = inl e
  both x (inr v) (inr u) = inr (v, leads-here lists back turned u)

  others : (x : ℕ) → (slice_index new x ≡ slice_index old x) ⊎ IsMutual lists x root
  others x =
      elim (b.painted x) [
        | inl second ↦ elim (a.painted x) [
          | inl first ↦ elim (c.kept x) [
            | inl third ↦ inl (third ∙ (second ∙ first))
            | inr r ↦ absurd (s.none x (sym first ∙ (sym second ∙ r.0)))
          ]
          | inr p ↦ elim (c.kept x) [
            | inl third ↦ absurd (c.gone x (a.all x p.0 p.1) (third ∙ (second ∙ p.1)))
            | inr r ↦ inl (r.1 ∙ sym p.0)
          ]
        ]
        | inr q ↦ elim (a.painted x) [ inl first ↦ absurd (s.none x (sym first ∙ q.0)) | inr p ↦ inr (both x p.2 q.2) ]
      ]

  pub numbered-more : AreSoFar lists new
  numbered-more =
      record {
        fit = c.fit ∙ (b.fit ∙ (a.fit ∙ s.fit));
        none = λ x e. elim (others x) [ inl same ↦ s.none x (sym same ∙ e) | inr m ↦ let t = threes x m in omega (arith, t, e) ];
        own = λ x r e. elim (others x) [
          | inl same ↦ s.own x r (sym same ∙ e)
          | inr m ↦ let t = threes x m in let is : root ≡ r = omega (arith, t, e) in subst (IsMutual lists x) is m
        ];
        alike = λ x y m. elim (others x) [
          | inl first ↦ elim (others y) [
            | inl second ↦ first ∙ (s.alike x y m ∙ sym second)
            | inr k ↦ threes x (mutual-on lists x y root m k) ∙ sym (threes y k)
          ]
          | inr k ↦ threes x k ∙ sym (threes y (mutual-on lists y x root (mutual-back lists x y m) k))
        ];
      }

  pub kept-more : IsKept old new
  kept-more x ne e = elim (others x) [ inl same ↦ ne (sym same ∙ e) | inr m ↦ let t = threes x m in omega (arith, t, e) ]

  pub root-numbered : slice_index new root ≢ 0
  root-numbered e = let t = threes root (inl refl) in omega (arith, t, e)

-- ---- the start and the end

pub none-numbered : (lists : Lists) (numbers : List ℕ) → numbers ≡ replicate (length lists) 0 → AreSoFar lists numbers
none-numbered lists numbers e = subst (AreSoFar lists) (sym e) start
  where
    zero-at : (n x : ℕ) → slice_index (replicate n 0) x ≡ 0
    zero-at zero x = refl
    zero-at (suc n) zero = refl
    zero-at (suc n) (suc x) = zero-at n x

    start : AreSoFar lists (replicate (length lists) 0)
    start =
        record {
          fit = length-replicate (length lists) 0;
          none = λ x e. let z = zero-at (length lists) x in omega (arith, z, e);
          own = λ x r e. let z = zero-at (length lists) x in absurd (omega (arith, z, e));
          alike = λ x y m. zero-at (length lists) x ∙ sym (zero-at (length lists) y);
        }

pub all-numbered : (lists : Lists) (numbers : List ℕ) → AreSoFar lists numbers → ((x : ℕ) → x < length lists → slice_index numbers x ≢ 0) → AreComponents lists numbers
all-numbered lists numbers s each = record { fit = s.fit; same = λ x y h k. (one-part x y h, s.alike x y) }
  where
    one-part : (x y : ℕ) → x < length lists → slice_index numbers x ≡ slice_index numbers y → IsMutual lists x y
    one-part x y h e =
        let two : slice_index numbers x ≡ suc (suc (slice_index numbers x - 2)) = omega (arith, each x h, s.none x) in
        mutual-on lists x (slice_index numbers x - 2) y (s.own x (slice_index numbers x - 2) two) (mutual-back lists y (slice_index numbers x - 2) (s.own y (slice_index numbers x - 2) (sym e ∙ two)))

pub more-numbered : (root : ℕ) (old new : List ℕ) → ((x : ℕ) → x < root → slice_index old x ≢ 0) → IsKept old new → slice_index new root ≢ 0 → (x : ℕ) → x < root + 1 → slice_index new x ≢ 0
more-numbered root old new before kept now x h =
    elim (cases_lt x root) [ inl lt ↦ kept x (before x lt) | inr ge ↦ let e : root ≡ x = omega (arith, h, ge) in subst (λ z. slice_index new z ≢ 0) e now ]
