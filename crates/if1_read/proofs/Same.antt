-- Lists with the same elements by a number of each, whatever their order.
use Rattle.std.proofs.Common.{◌≡◌, ℕ, zero, suc, ◌+◌, ◌≤◌, Bool, true, false, cond, not, ◌&&◌, List, [], ◌∷◌, map, length, Option, Some, None, ◌⊎◌, inl, inr, refl, sym, ap, subst, ◌∙◌, arith}
use Rattle.std.specs.Prelude.{◌==◌, All, Contains, filter, find}
use Rattle.std.proofs.lemmas.Bool.{eq-eqb, eqb-true}
use Rattle.std.proofs.lemmas.Bool.Decides.{eqb_tells}
use Rattle.std.proofs.lemmas.List.Elements.{All-nil, All-cons, filter_agree}
use Rattle.std.proofs.lemmas.List.Filters.{length-filter_both}
use Rattle.if1_graph.specs.Formed.{IsOnce}

-- ---- elements

pub contains_here : {A : Type 0} (x : A) (xs : List A) → Contains (x ∷ xs) x
contains_here x xs = (0, omega arith, refl)

pub contains_later : {A : Type 0} (y : A) (xs : List A) (x : A) → Contains xs x → Contains (y ∷ xs) x
contains_later y xs x h = (suc h.0, omega (arith, h.1), h.2)

pub contains_cases : {A : Type 0} (y : A) (xs : List A) (x : A) → Contains (y ∷ xs) x → (y ≡ x) ⊎ Contains xs x
contains_cases y xs x (zero, h, e) = inl e
contains_cases y xs x (suc k, h, e) = inr (k, omega (arith, h), e)

pub contains_none : {A : Type 0} (x : A) → Contains [] x → ⊥
contains_none x h = absurd (omega (arith, h.1))

kept_if : {A : Type 0} (b : Bool) (p : A → Bool) (y : A) (xs : List A) (x : A) → p y ≡ b → (Contains (filter p xs) x → Contains xs x) → Contains (cond b (y ∷ filter p xs) (filter p xs)) x →
    Contains (y ∷ xs) x
kept_if true p y xs x e ih h = elim (contains_cases y (filter p xs) x h) [ inl s ↦ subst (λ z. Contains (y ∷ xs) z) s (contains_here y xs) | inr c ↦ contains_later y xs x (ih c) ]
kept_if false p y xs x e ih h = contains_later y xs x (ih h)

pub filter_contains : {A : Type 0} (p : A → Bool) (xs : List A) (x : A) → Contains (filter p xs) x → Contains xs x
filter_contains p [] x h = h
filter_contains p (y ∷ xs) x h = kept_if (p y) p y xs x refl (filter_contains p xs x) h

keeps_if : {A : Type 0} (b : Bool) (y : A) (ys : List A) (x : A) → Contains ys x → Contains (cond b (y ∷ ys) ys) x
keeps_if true y ys x h = contains_later y ys x h
keeps_if false y ys x h = h

pub contains_filter : {A : Type 0} (p : A → Bool) (xs : List A) (x : A) → p x ≡ true → Contains xs x → Contains (filter p xs) x
contains_filter p [] x e h = h
contains_filter p (y ∷ xs) x e h =
    elim (contains_cases y xs x h) [
      | inl s ↦
          subst (λ b. Contains (cond b (y ∷ filter p xs) (filter p xs)) x) (sym (ap p s ∙ e)) (subst (λ z. Contains (y ∷ filter p xs) z) s (contains_here y (filter p xs)))
      | inr c ↦ keeps_if (p y) y (filter p xs) x (contains_filter p xs x e c)
    ]

pub contains_map : {A B : Type 0} (f : A → B) (xs : List A) (x : A) → Contains xs x → Contains (map f xs) (f x)
contains_map f [] x h = absurd (contains_none x h)
contains_map f (y ∷ xs) x h =
    elim (contains_cases y xs x h) [
      | inl s ↦ subst (λ z. Contains (map f (y ∷ xs)) (f z)) s (contains_here (f y) (map f xs))
      | inr c ↦ contains_later (f y) (map f xs) (f x) (contains_map f xs x c)
    ]

pub all_here : {A : Type 0} (P : A → Type 0) (xs : List A) → ((x : A) → Contains xs x → P x) → All P xs
all_here P [] h = All-nil P
all_here P (x ∷ xs) h = All-cons P x xs (h x (contains_here x xs)) (all_here P xs (λ y c. h y (contains_later x xs y c)))

-- ---- by a number

module _ {A : Type 0} (f : A → ℕ) where
  abbrev pub with_number : ℕ → List A → List A
  with_number l xs = filter (λ x. f x == l) xs

  abbrev pub AreSame : List A → List A → Type 0
  AreSame xs ys = (l : ℕ) → with_number l xs ≡ with_number l ys

  pub same_contains : (xs ys : List A) → AreSame xs ys → (x : A) → Contains xs x → Contains ys x
  same_contains xs ys same x h =
      filter_contains (λ y. f y == f x) ys x
      (subst (λ zs. Contains zs x) (same (f x)) (contains_filter (λ y. f y == f x) xs x (eq-eqb (f x) (f x) refl) h))

  abbrev first : List A → Option A
  first [] = None
  first (x ∷ xs) = Some x

  find_if : (b : Bool) (p : A → Bool) (x : A) (xs : List A) → find p xs ≡ first (filter p xs) → cond b (Some x) (find p xs) ≡ first (cond b (x ∷ filter p xs) (filter p xs))
  find_if true p x xs e = refl
  find_if false p x xs e = e

  find_first : (p : A → Bool) (xs : List A) → find p xs ≡ first (filter p xs)
  find_first p [] = refl
  find_first p (x ∷ xs) = find_if (p x) p x xs (find_first p xs)

  pub same_find : (xs ys : List A) → AreSame xs ys → (l : ℕ) → find (λ x. f x == l) xs ≡ find (λ x. f x == l) ys
  same_find xs ys same l = find_first (λ x. f x == l) xs ∙ (ap first (same l) ∙ sym (find_first (λ x. f x == l) ys))

  -- ---- lengths

  abbrev others : ℕ → List A → List A
  others l xs = filter (λ x. not (f x == l)) xs

  filtered_if : (b : Bool) (p q : A → Bool) (x : A) (xs : List A) → q x ≡ b → filter p (filter q xs) ≡ filter (λ y. q y && p y) xs →
      filter p (cond b (x ∷ filter q xs) (filter q xs)) ≡ cond (b && p x) (x ∷ filter (λ y. q y && p y) xs) (filter (λ y. q y && p y) xs)
  filtered_if true p q x xs e ih = ap (λ ys. cond (p x) (x ∷ ys) ys) ih
  filtered_if false p q x xs e ih = ih

  filtered : (p q : A → Bool) (xs : List A) → filter p (filter q xs) ≡ filter (λ y. q y && p y) xs
  filtered p q [] = refl
  filtered p q (x ∷ xs) = filtered_if (q x) p q x xs refl (filtered p q xs)

  nothing : (xs : List A) → filter (λ x. false) xs ≡ []
  nothing [] = refl
  nothing (x ∷ xs) = nothing xs

  and_false : (b : Bool) → (b && false) ≡ false
  and_false true = refl
  and_false false = refl

  never : (n m : ℕ) → (m ≡ n) → (a : ℕ) → (not (a == m) && (a == n)) ≡ false
  never n m e a = elim (eqb_tells a n) [
    | inl t ↦ ap (λ b. not b && (a == n)) (eq-eqb a m (t.1 ∙ sym e))
    | inr t ↦ ap (λ b. not (a == m) && b) t.0 ∙ and_false (not (a == m))
  ]

  always : (n m : ℕ) → (m ≡ n → ⊥) → (a : ℕ) → (not (a == m) && (a == n)) ≡ (a == n)
  always n m ne a = elim (eqb_tells a m) [
    | inl t ↦ elim (eqb_tells a n) [ inl s ↦ absurd (ne (sym t.1 ∙ s.1)) | inr s ↦ ap (λ b. not (a == m) && b) s.0 ∙ (and_false (not (a == m)) ∙ sym s.0) ]
    | inr t ↦ ap (λ b. not b && (a == n)) t.0
  ]

  same_others : (m : ℕ) (xs ys : List A) → AreSame xs ys → AreSame (others m xs) (others m ys)
  same_others m xs ys same l = elim (eqb_tells m l) [
    | inl t ↦ one t.1 xs ∙ sym (one t.1 ys)
    | inr t ↦ two t.1 xs ∙ (same l ∙ sym (two t.1 ys))
  ]
    where
      one : m ≡ l → (zs : List A) → filter (λ x. f x == l) (filter (λ x. not (f x == m)) zs) ≡ []
      one e zs = filtered (λ x. f x == l) (λ x. not (f x == m)) zs ∙ (filter_agree (λ x. not (f x == m) && (f x == l)) (λ x. false) (λ x. never l m e (f x)) zs ∙ nothing zs)

      two : (m ≡ l → ⊥) → (zs : List A) → filter (λ x. f x == l) (filter (λ x. not (f x == m)) zs) ≡ filter (λ x. f x == l) zs
      two ne zs = filtered (λ x. f x == l) (λ x. not (f x == m)) zs ∙ filter_agree (λ x. not (f x == m) && (f x == l)) (λ x. f x == l) (λ x. always l m ne (f x)) zs

  parted : (m : ℕ) (xs : List A) → length (with_number m xs) + length (others m xs) ≡ length xs
  parted m xs = length-filter_both (λ x. f x == m) (λ x. not (f x == m)) (λ x. refl) xs

  here_first : (x : A) (xs : List A) → with_number (f x) (x ∷ xs) ≡ x ∷ with_number (f x) xs
  here_first x xs = ap (λ b. cond b (x ∷ with_number (f x) xs) (with_number (f x) xs)) (eq-eqb (f x) (f x) refl)

  same_nil : (ys : List A) → AreSame [] ys → length ys ≡ 0
  same_nil [] same = refl
  same_nil (y ∷ ys) same = let e : [] ≡ y ∷ with_number (f y) ys = same (f y) ∙ here_first y ys in absurd cc

  length_within : (n : ℕ) (xs ys : List A) → length xs ≤ n → AreSame xs ys → length xs ≡ length ys
  length_within n [] ys le same = sym (same_nil ys same)
  length_within zero (x ∷ xs) ys le same = absurd (omega (arith, le))
  length_within (suc n) (x ∷ xs) ys le same =
      let one = ap length (here_first x xs) in
      let both = parted (f x) (x ∷ xs) in
      let ih = length_within n (others (f x) (x ∷ xs)) (others (f x) ys) (omega (arith, one, both, le)) (same_others (f x) (x ∷ xs) ys same) in
      omega (arith, ih, both, parted (f x) ys, ap length (same (f x)))

  pub same_length : (xs ys : List A) → AreSame xs ys → length xs ≡ length ys
  same_length xs ys same = length_within (length xs) xs ys (omega arith) same

  -- ---- numbers that stand once

  pub from_map : (xs : List A) (l : ℕ) → Contains (map f xs) l → (x : A) × Contains xs x × (f x ≡ l)
  from_map [] l h = absurd (contains_none l h)
  from_map (x ∷ xs) l h = elim (contains_cases (f x) (map f xs) l h) [
    | inl e ↦ (x, contains_here x xs, e)
    | inr c ↦ let r = from_map xs l c in (r.0, contains_later x xs r.0 r.1, r.2)
  ]

  absent : (xs : List A) (l : ℕ) → (Contains (map f xs) l → ⊥) → with_number l xs ≡ []
  absent [] l h = refl
  absent (x ∷ xs) l h = elim (eqb_tells (f x) l) [
    | inl t ↦ absurd (h (subst (λ (m : ℕ). Contains (f x ∷ map f xs) m) t.1 (contains_here (f x) (map f xs))))
    | inr t ↦ ap (λ b. cond b (x ∷ with_number l xs) (with_number l xs)) t.0 ∙ absent xs l (λ c. h (contains_later (f x) (map f xs) l c))
  ]

  one_if : (b : Bool) (x : A) (ys : List A) → (b ≡ true → ys ≡ []) → length ys ≤ 1 → length (cond b (x ∷ ys) ys) ≤ 1
  one_if true x ys h le = omega (arith, ap length (h refl))
  one_if false x ys h le = le

  once_few : (xs : List A) → IsOnce (map f xs) → (l : ℕ) → length (with_number l xs) ≤ 1
  once_few [] h l = omega arith
  once_few (x ∷ xs) h l =
      one_if (f x == l) x (with_number l xs)
      (λ e. absent xs l (λ c. h.0 (subst (λ (m : ℕ). Contains (map f xs) m) (sym (eqb-true (f x) l e)) c)))
      (once_few xs h.1 l)

  less_if : (b : Bool) (x : A) (ys : List A) → length ys ≤ length (cond b (x ∷ ys) ys)
  less_if true x ys = omega arith
  less_if false x ys = omega arith

  some_length : (ys : List A) (y : A) → Contains ys y → 1 ≤ length ys
  some_length ys y h = omega (arith, h.1)

  few_once : (xs : List A) → ((l : ℕ) → length (with_number l xs) ≤ 1) → IsOnce (map f xs)
  few_once [] h = tt
  few_once (x ∷ xs) h = (
    λ c.
        let r = from_map xs (f x) c in
        let some = some_length (with_number (f x) xs) r.0 (contains_filter (λ y. f y == f x) xs r.0 (eq-eqb (f r.0) (f x) r.2) r.1) in
        omega (arith, h (f x), ap length (here_first x xs), some),
    few_once xs (λ l. omega (arith, h l, less_if (f x == l) x (with_number l xs))),
  )

  pub same_once : (xs ys : List A) → AreSame xs ys → IsOnce (map f xs) → IsOnce (map f ys)
  same_once xs ys same h = few_once ys (λ l. omega (arith, once_few xs h l, ap length (same l)))
