-- Users and their places.
use Rattle.std.proofs.Common.{◌≡◌, ◌∙◌, ℕ, ◌+◌, ◌<◌, ◌≤◌, Bool, true, false, cond, List, [], ◌∷◌, ◌++◌, length, take, filter, slice_index, inl, inr, arith, refl, sym, ap, subst}
use Rattle.std.proofs.lemmas.Bool.{cases_lt}
use Rattle.std.proofs.lemmas.List.{length_push, get_or_append_left, get_or_push, take_more, take_all}
use Rattle.if1_order.specs.Walks.{Lists, Leads}
use Rattle.if1_order.specs.Feeders.{IsPlace}
use Rattle.if1_reach.specs.declared.ranks.Ranks.{Ranks}
use Rattle.if1_reach.specs.Ranks.{IsRanked}
use Rattle.if1_reach.proofs.Ranking.{leads-up}
use Rattle.take_marks.specs.Standing.{ArePlaces, IsFree}

pub filter-more : (p : ℕ → Bool) (xs : List ℕ) (n : ℕ) → n < length xs → filter p (take (n + 1) xs) ≡ (filter p (take n xs) ++ cond (p (slice_index xs n)) (slice_index xs n ∷ []) [])
filter-more p xs n h = ap (filter p) (take_more xs n 0 h) ∙ push (take n xs) (slice_index xs n)
  where
    push : (ys : List ℕ) (y : ℕ) → filter p (ys ++ y ∷ []) ≡ (filter p ys ++ cond (p y) (y ∷ []) [])
    push [] y = refl
    push (z ∷ ys) y = go (p z) (push ys y)
      where
        go : (b : Bool) → filter p (ys ++ y ∷ []) ≡ (filter p ys ++ cond (p y) (y ∷ []) []) → cond b (z ∷ filter p (ys ++ y ∷ [])) (filter p (ys ++ y ∷ [])) ≡ (cond b (z ∷ filter p ys) (filter p ys) ++ cond (p y) (y ∷ []) [])
        go true e = ap (λ zs. z ∷ zs) e
        go false e = e

append-none : {A : Type 0} (xs : List A) → (xs ++ []) ≡ xs
append-none [] = refl
append-none (x ∷ xs) = ap (λ ys. x ∷ ys) (append-none xs)

pub filter-kept : (p : ℕ → Bool) (xs : List ℕ) (n : ℕ) → n < length xs → p (slice_index xs n) ≡ true → (now new : List ℕ) → now ≡ filter p (take n xs) → new ≡ now ++ slice_index xs n ∷ [] → new ≡ filter p (take (n + 1) xs)
filter-kept p xs n h is now new e f =
    f ∙ (ap (λ ys. ys ++ slice_index xs n ∷ []) e ∙ (ap (λ b. filter p (take n xs) ++ cond b (slice_index xs n ∷ []) []) (sym is) ∙ sym (filter-more p xs n h)))

pub filter-left : (p : ℕ → Bool) (xs : List ℕ) (n : ℕ) → n < length xs → p (slice_index xs n) ≡ false → (now : List ℕ) → now ≡ filter p (take n xs) → now ≡ filter p (take (n + 1) xs)
filter-left p xs n h is now e =
    e ∙ (sym (append-none (filter p (take n xs))) ∙ (ap (λ b. filter p (take n xs) ++ cond b (slice_index xs n ∷ []) []) (sym is) ∙ sym (filter-more p xs n h)))

-- ---- places

pub none-placed : (labels ls places : List ℕ) → places ≡ [] → ArePlaces labels (take 0 ls) places
none-placed labels ls places e = record { fit = ap length e; are = λ k h. absurd (omega (arith, h)) }

pub one-placed : (labels ls places new : List ℕ) (n place : ℕ) → n < length ls → ArePlaces labels (take n ls) places → IsPlace labels place (slice_index ls n) → new ≡ places ++ place ∷ [] → ArePlaces labels (take (n + 1) ls) new
one-placed labels ls places new n place h was is e =
    subst (λ ks. ArePlaces labels ks new) (sym (take_more ls n 0 h))
    (subst (ArePlaces labels (take n ls ++ slice_index ls n ∷ [])) (sym e)
    (record {
      fit = length_push places place ∙ (ap (λ k. k + 1) was.fit ∙ sym (length_push (take n ls) (slice_index ls n)));
      are = λ k lt. elim (cases_lt k (length (take n ls))) [
        | inl less ↦
            subst (λ l. IsPlace labels (slice_index (places ++ place ∷ []) k) l) (sym (get_or_append_left (take n ls) (slice_index ls n ∷ []) 0 k less))
            (subst (λ p. IsPlace labels p (slice_index (take n ls) k)) (sym (get_or_append_left places (place ∷ []) 0 k (omega (arith, less, was.fit)))) (was.are k less))
        | inr ge ↦
            let same : length (take n ls) ≡ k = omega (arith, ge, lt, length_push (take n ls) (slice_index ls n)) in
            subst (λ l. IsPlace labels (slice_index (places ++ place ∷ []) k) l) (sym (get_or_push (take n ls) (slice_index ls n) 0 k same))
            (subst (λ p. IsPlace labels p (slice_index ls n)) (sym (get_or_push places place 0 k (was.fit ∙ same))) is)
      ];
    }))

pub all-placed : (labels ls places : List ℕ) (n : ℕ) → length ls ≤ n → ArePlaces labels (take n ls) places → ArePlaces labels ls places
all-placed labels ls places n h was = subst (λ ks. ArePlaces labels ks places) (take_all n ls h) was

-- ---- ways

pub none-free : (lists : Lists) (t : ℕ) (places : List ℕ) (n : ℕ) → length places ≤ n → ((k : ℕ) → k < n → ¬ Leads lists t (slice_index places k)) → IsFree lists t places
none-free lists t places n h all = λ k lt. all k (omega (arith, lt, h))

pub one-free : (lists : Lists) (t : ℕ) (places : List ℕ) (n : ℕ) → ((k : ℕ) → k < n → ¬ Leads lists t (slice_index places k)) → ¬ Leads lists t (slice_index places n) → (k : ℕ) → k < n + 1 → ¬ Leads lists t (slice_index places k)
one-free lists t places n all this k h w =
    elim (cases_lt k n) [
      | inl lt ↦ all k lt w
      | inr ge ↦ let same : k ≡ n = omega (arith, h, ge) in this (subst (λ j. Leads lists t (slice_index places j)) same w)
    ]

pub no-way-down : (lists : Lists) (r : Ranks) → IsRanked lists r → (from to a b : ℕ) → a ≡ slice_index r.ranks to → b ≡ slice_index r.ranks from → a ≤ b → ¬ Leads lists from to
no-way-down lists r w from to a b e f le l = let x = leads-up lists r w l in omega (arith, x, e, f, le)
