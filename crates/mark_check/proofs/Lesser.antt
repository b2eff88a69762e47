-- The least number of a list, as the list grows.
use Rattle.std.proofs.Common.{◌≡◌, ℕ, ◌+◌, ◌<◌, ◌≤◌, min, Bool, true, false, if◌then◌else◌, List, [], ◌∷◌, ◌++◌, length, take, slice_index, Option, Some, None, ◌⊎◌, inl, inr, Contains, arith, refl, sym, subst}
use Rattle.std.proofs.Math.Nat.{min-le_left, min-le_right, le-min}
use Rattle.std.proofs.lemmas.Bool.{cases_lt}
use Rattle.std.proofs.lemmas.List.{take_more, take_all}
use Rattle.std.proofs.lemmas.List.Elements.{Contains-push, Contains-push_cases, Contains-append_left}
use Rattle.if1_marks.proofs.Tests.{no-both}
use Rattle.mark_check.specs.Least.{IsLeast, IsAmong, lesser_of}

pub least-same : (P Q : ℕ → Type 0) → ((l : ℕ) → P l → Q l) → ((l : ℕ) → Q l → P l) → (r : Option ℕ) → IsLeast P r → IsLeast Q r
least-same P Q to from None none = λ l q. none l (from l q)
least-same P Q to from (Some l) w = record { holds = to l w.holds; least = λ m q. w.least m (from m q) }

-- of two numbers the lesser is one of them
min-is : (a b : ℕ) → (min a b ≡ a) ⊎ (min a b ≡ b)
min-is a b =
    elim (cases_lt a b) [
      | inl lt ↦ let x = min-le_left a b in let y = le-min {k = a} {a = a} {b = b} (omega arith) (omega (arith, lt)) in inl (omega (arith, x, y))
      | inr ge ↦ let x = min-le_right a b in let y = le-min {k = b} {a = a} {b = b} (omega (arith, ge)) (omega arith) in inr (omega (arith, x, y))
    ]

pub least-both : (P Q : ℕ → Type 0) (a b : Option ℕ) → IsLeast P a → IsLeast Q b → IsLeast (λ l. P l ⊎ Q l) (lesser_of a b)
least-both P Q None None p q = λ m w. elim w [ inl x ↦ p m x | inr x ↦ q m x ]
least-both P Q None (Some b) p q =
    record { holds = inr q.holds; least = λ m w. elim w [ inl x ↦ absurd (p m x) | inr x ↦ q.least m x ] }
least-both P Q (Some a) None p q =
    record { holds = inl p.holds; least = λ m w. elim w [ inl x ↦ p.least m x | inr x ↦ absurd (q m x) ] }
least-both P Q (Some a) (Some b) p q =
    record {
      holds = elim (min-is a b) [
        | inl e ↦ inl (subst P (sym e) p.holds)
        | inr e ↦ inr (subst Q (sym e) q.holds)
      ];
      least = λ m w. elim w [
        | inl x ↦ let r = p.least m x in omega (arith, r, min-le_left a b)
        | inr x ↦ let r = q.least m x in omega (arith, r, min-le_right a b)
      ];
    }

-- ---- the members of a list, one after another

module _ (P : ℕ → Type 0) (ls : List ℕ) where
  pub among-none : (n : ℕ) → n ≡ 0 → IsLeast (IsAmong (take n ls) P) None
  among-none n e = λ m w. absurd (empty (subst (λ k. Contains (take k ls) m) e w.0))
    where
      empty : {m : ℕ} → Contains [] m → ⊥
      empty c = omega (arith, c.1)

  module _ (n : ℕ) (h : n < length ls) where
    more : take (n + 1) ls ≡ take n ls ++ slice_index ls n ∷ []
    more = take_more ls n 0 h

    was-there : (m : ℕ) → Contains (take n ls) m → Contains (take (n + 1) ls) m
    was-there m c = subst (λ xs. Contains xs m) (sym more) (Contains-append_left (take n ls) (slice_index ls n ∷ []) m c)

    there-now : Contains (take (n + 1) ls) (slice_index ls n)
    there-now = subst (λ xs. Contains xs (slice_index ls n)) (sym more) (Contains-push (take n ls) (slice_index ls n))

    old-or-new : (m : ℕ) → Contains (take (n + 1) ls) m → Contains (take n ls) m ⊎ (slice_index ls n ≡ m)
    old-or-new m c = Contains-push_cases (take n ls) (slice_index ls n) m (subst (λ xs. Contains xs m) more c)

    abbrev IsNew : ℕ → Type 0
    IsNew l = (l ≡ slice_index ls n) × P l

    pub among-more : P (slice_index ls n) → (was : Option ℕ) → IsLeast (IsAmong (take n ls) P) was → (new : Option ℕ) → new ≡ lesser_of was (Some (slice_index ls n)) → IsLeast (IsAmong (take (n + 1) ls) P) new
    among-more p was w new e =
        subst (IsLeast (IsAmong (take (n + 1) ls) P)) (sym e)
        (least-same (λ l. IsAmong (take n ls) P l ⊎ IsNew l) (IsAmong (take (n + 1) ls) P)
        (λ l x. elim x [
          | inl old ↦ (was-there l old.0, old.1)
          | inr new ↦ (subst (Contains (take (n + 1) ls)) (sym new.0) there-now, new.1)
        ])
        (λ l x. elim (old-or-new l x.0) [
          | inl old ↦ inl (old, x.1)
          | inr new ↦ inr (sym new, x.1)
        ])
        (lesser_of was (Some (slice_index ls n)))
        (least-both (IsAmong (take n ls) P) IsNew was (Some (slice_index ls n)) w
        (record { holds = (refl, p); least = λ m x. omega (arith, x.0) })))

    pub among-skip : ¬ P (slice_index ls n) → (was : Option ℕ) → IsLeast (IsAmong (take n ls) P) was → IsLeast (IsAmong (take (n + 1) ls) P) was
    among-skip not-p was w =
        least-same (IsAmong (take n ls) P) (IsAmong (take (n + 1) ls) P)
        (λ l x. (was-there l x.0, x.1))
        (λ l x. elim (old-or-new l x.0) [
          | inl old ↦ (old, x.1)
          | inr new ↦ absurd (not-p (subst P (sym new) x.1))
        ])
        was w

    pub among-step : (b : Bool) → (b ≡ true → P (slice_index ls n)) → (P (slice_index ls n) → b ≡ true) → (was new : Option ℕ) → IsLeast (IsAmong (take n ls) P) was → new ≡ (if b then lesser_of was (Some (slice_index ls n)) else was) → IsLeast (IsAmong (take (n + 1) ls) P) new
    among-step true to back was new w e = among-more (to refl) was w new e
    among-step false to back was new w e = subst (IsLeast (IsAmong (take (n + 1) ls) P)) (sym e) (among-skip (λ x. no-both false (back x) refl) was w)

  pub among-all : (n : ℕ) → length ls ≤ n → (r : Option ℕ) → IsLeast (IsAmong (take n ls) P) r → IsLeast (IsAmong ls P) r
  among-all n h r w = subst (λ xs. IsLeast (IsAmong xs P) r) (take_all n ls h) w
