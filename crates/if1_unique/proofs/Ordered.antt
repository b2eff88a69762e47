-- Two lists in order by a key, which have the same elements of each key, are the same.
use Rattle.std.proofs.Common.{◌≡◌, suc, ◌≤◌, Bool, true, false, cond, List, [], ◌∷◌, length, ◌⊎◌, inl, inr, refl, sym, ap, subst, ◌∙◌, arith, true≢false}
use Rattle.std.specs.Prelude.{All, AllPairs, Contains, filter}
use Rattle.std.proofs.lemmas.List.Elements.{All-contains}
use Rattle.if1_read.specs.Made.{Each, none, more}
use Rattle.if1_read.proofs.Same.{contains_here, contains_later, contains_cases}

-- ---- lists that correspond

module _ {A : Type 0} (R : A → A → Type 0) where
  each_length : (xs ys : List A) → Each R xs ys → length xs ≡ length ys
  each_length xs ys none = refl
  each_length xs ys (more x y xs0 ys0 r h) = ap suc (each_length xs0 ys0 h)

  each_head : (x y : A) (xs ys : List A) → Each R (x ∷ xs) (y ∷ ys) → R x y
  each_head x y xs ys (more x0 y0 xs0 ys0 r h) = r

  each_tail : (x y : A) (xs ys : List A) → Each R (x ∷ xs) (y ∷ ys) → Each R xs ys
  each_tail x y xs ys (more x0 y0 xs0 ys0 r h) = h

  tail_if : (b c : Bool) (x y : A) (xs ys : List A) → b ≡ c → Each R (cond b (x ∷ xs) xs) (cond c (y ∷ ys) ys) → Each R xs ys
  tail_if true true x y xs ys e h = each_tail x y xs ys h
  tail_if true false x y xs ys e h = absurd (true≢false e)
  tail_if false true x y xs ys e h = absurd (true≢false (sym e))
  tail_if false false x y xs ys e h = h

  head_if : (b c : Bool) (x y : A) (xs ys : List A) → b ≡ true → c ≡ true → Each R (cond b (x ∷ xs) xs) (cond c (y ∷ ys) ys) → R x y
  head_if true true x y xs ys e f h = each_head x y xs ys h
  head_if true false x y xs ys e f h = absurd (true≢false (sym f))
  head_if false c x y xs ys e f h = absurd (true≢false (sym e))

  filter_if : (b c : Bool) (x y : A) (xs ys : List A) → b ≡ c → R x y → Each R xs ys → Each R (cond b (x ∷ xs) xs) (cond c (y ∷ ys) ys)
  filter_if true true x y xs ys e r h = more x y xs ys r h
  filter_if true false x y xs ys e r h = absurd (true≢false e)
  filter_if false true x y xs ys e r h = absurd (true≢false (sym e))
  filter_if false false x y xs ys e r h = h

  pub each_filter : (p : A → Bool) → ((x y : A) → R x y → p x ≡ p y) → (xs ys : List A) → Each R xs ys → Each R (filter p xs) (filter p ys)
  each_filter p same xs ys none = none
  each_filter p same xs ys (more x y xs0 ys0 r h) = filter_if (p x) (p y) x y (filter p xs0) (filter p ys0) (same x y r) r (each_filter p same xs0 ys0 h)

pub each_equal : {A : Type 0} (xs ys : List A) → Each (λ (x y : A). x ≡ y) xs ys → xs ≡ ys
each_equal xs ys none = refl
each_equal xs ys (more x y xs0 ys0 r h) = λ i. r i ∷ each_equal xs0 ys0 h i

each_itself : {A : Type 0} (xs : List A) → Each (λ (x y : A). x ≡ y) xs xs
each_itself [] = none
each_itself (x ∷ xs) = more x x xs xs refl (each_itself xs)

pub equal_each : {A : Type 0} (xs ys : List A) → xs ≡ ys → Each (λ (x y : A). x ≡ y) xs ys
equal_each xs ys e = subst (λ zs. Each (λ x y. x ≡ y) xs zs) e (each_itself xs)

both_ways : (b c : Bool) → (b ≡ true → c ≡ true) → (c ≡ true → b ≡ true) → b ≡ c
both_ways true c f g = sym (f refl)
both_ways false true f g = g refl
both_ways false false f g = refl

-- ---- by a key

module _ {A K : Type 0} (key : A → K) (is : K → A → Bool) (Le : K → K → Type 0)
    (own : (x : A) → is (key x) x ≡ true) (tells : (k : K) (x : A) → is k x ≡ true → key x ≡ k) (anti : (a b : K) → Le a b → Le b a → a ≡ b) where
  abbrev pub Up : List A → Type 0
  Up [] = Unit {0}
  Up (x ∷ xs) = All (λ y. Le (key x) (key y)) xs × Up xs

  pub up_of : (xs : List A) → AllPairs (λ x y. Le (key x) (key y)) xs → Up xs
  up_of [] h = tt
  up_of (x ∷ xs) h = (
    λ k d i. h 0 (suc k) d (omega arith) (omega (arith, i)),
    up_of xs (λ i j d lt at. h (suc i) (suc j) d (omega (arith, lt)) (omega (arith, at))),
  )

  abbrev pub with_key : K → List A → List A
  with_key k xs = filter (is k) xs

  some_if : (b : Bool) (k : K) (y : A) (ys : List A) → is k y ≡ b → 1 ≤ length (cond b (y ∷ with_key k ys) (with_key k ys)) →
      (1 ≤ length (with_key k ys) → (z : A) × Contains ys z × (is k z ≡ true)) → (z : A) × Contains (y ∷ ys) z × (is k z ≡ true)
  some_if true k y ys e h ih = (y, contains_here y ys, e)
  some_if false k y ys e h ih = let r = ih h in (r.0, contains_later y ys r.0 r.1, r.2)

  -- one of those that are left
  some_kept : (k : K) (ys : List A) → 1 ≤ length (with_key k ys) → (z : A) × Contains ys z × (is k z ≡ true)
  some_kept k [] h = absurd (omega (arith, h))
  some_kept k (y ∷ ys) h = some_if (is k y) k y ys refl h (some_kept k ys)

  kept_first : (x : A) (xs : List A) → with_key (key x) (x ∷ xs) ≡ x ∷ with_key (key x) xs
  kept_first x xs = ap (λ (b : Bool). cond b (x ∷ with_key (key x) xs) (with_key (key x) xs)) (own x)

  some_first : (x : A) (xs : List A) → 1 ≤ length (with_key (key x) (x ∷ xs))
  some_first x xs = omega (arith, ap length (kept_first x xs))

  -- the first key of a list is not above one of its keys
  first_below : (k : K) (y : A) (ys : List A) → Up (y ∷ ys) → (z : A) × Contains (y ∷ ys) z × (is k z ≡ true) → (key y ≡ k) ⊎ Le (key y) k
  first_below k y ys up (z, c, e) = by (contains_cases y ys z c)
    where
      by : (y ≡ z) ⊎ Contains ys z → (key y ≡ k) ⊎ Le (key y) k
      by (inl s) = inl (ap key s ∙ tells k z e)
      by (inr s) = inr (subst (λ j. Le (key y) j) (tells k z e) (All-contains (λ z. Le (key y) (key z)) ys z up.0 s))

  one_key : (a b : K) → (a ≡ b) ⊎ Le a b → (b ≡ a) ⊎ Le b a → a ≡ b
  one_key a b (inl s) t = s
  one_key a b (inr s) (inl t) = sym t
  one_key a b (inr s) (inr t) = anti a b s t

  same_tests : (x y : A) → key x ≡ key y → (k : K) → is k x ≡ is k y
  same_tests x y e k =
      both_ways (is k x) (is k y)
      (λ h. subst (λ j. is j y ≡ true) (sym e ∙ tells k x h) (own y))
      (λ h. subst (λ j. is j x ≡ true) (e ∙ tells k y h) (own x))

  module _ (R : A → A → Type 0) where
    -- those of each key correspond
    abbrev pub Agree : List A → List A → Type 0
    Agree xs ys = (k : K) → Each R (with_key k xs) (with_key k ys)

    first_keys : (x : A) (xs : List A) (y : A) (ys : List A) → Up (x ∷ xs) → Up (y ∷ ys) → Agree (x ∷ xs) (y ∷ ys) → key x ≡ key y
    first_keys x xs y ys up vp h =
        let there = some_kept (key x) (y ∷ ys) (omega (arith, some_first x xs, each_length R (with_key (key x) (x ∷ xs)) (with_key (key x) (y ∷ ys)) (h (key x)))) in
        let back = some_kept (key y) (x ∷ xs) (omega (arith, some_first y ys, each_length R (with_key (key y) (x ∷ xs)) (with_key (key y) (y ∷ ys)) (h (key y)))) in
        one_key (key x) (key y) (first_below (key y) x xs up back) (first_below (key x) y ys vp there)

    pub agreeing : (xs ys : List A) → Up xs → Up ys → Agree xs ys → Each R xs ys
    agreeing [] [] up vp h = none
    agreeing [] (y ∷ ys) up vp h = absurd (omega (arith, some_first y ys, each_length R [] (with_key (key y) (y ∷ ys)) (h (key y))))
    agreeing (x ∷ xs) [] up vp h = absurd (omega (arith, some_first x xs, each_length R (with_key (key x) (x ∷ xs)) [] (h (key x))))
    agreeing (x ∷ xs) (y ∷ ys) up vp h =
        let e = first_keys x xs y ys up vp h in
        let k = key x in
        more x y xs ys
        (head_if R (is k x) (is k y) x y (with_key k xs) (with_key k ys) (own x) (sym (same_tests x y e k) ∙ own x) (h k))
        (agreeing xs ys up.1 vp.1 (λ k. tail_if R (is k x) (is k y) x y (with_key k xs) (with_key k ys) (same_tests x y e k) (h k)))
