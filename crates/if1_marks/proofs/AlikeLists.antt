-- Lists and options that are the same once a function is applied.
use Rattle.std.proofs.Common.{◌≡◌, ℕ, zero, suc, ◌<◌, List, [], ◌∷◌, map, length, get_or, option_map, Option, Some, None, Contains, All, inl, inr, refl, sym, ap, subst, ◌∙◌}
use Rattle.std.specs.Prelude.{slice_get, take, drop, AllPairs}
use Rattle.std.proofs.lemmas.List.Elements.{All-nil, All-cons, All-head, All-tail}
use Rattle.if1_marks.proofs.Lists.{here, there, here-or-there, in-none}

-- both are something, the same once the function is applied, or both are nothing
pub data Matched {A : Type 0} (f : A → A) : Option A → Option A → Type 0 where
  neither : Matched f None None
  both : (x y : A) → f x ≡ f y → Matched f (Some x) (Some y)

some-same : {A : Type 0} (x y : A) → Some x ≡ Some y → x ≡ y
some-same x y e = cc

pub matched : {A : Type 0} (f : A → A) (a b : Option A) → option_map f a ≡ option_map f b → Matched f a b
matched f None None e = neither
matched f None (Some y) e = absurd cc
matched f (Some x) None e = absurd cc
matched f (Some x) (Some y) e = both x y (some-same (f x) (f y) e)

first-same : {A : Type 0} (x y : A) (xs ys : List A) → x ∷ xs ≡ y ∷ ys → x ≡ y
first-same x y xs ys e = cc

rest-same : {A : Type 0} (x y : A) (xs ys : List A) → x ∷ xs ≡ y ∷ ys → xs ≡ ys
rest-same x y xs ys e = cc

pub all-both : {A : Type 0} (P Q R : A → Type 0) → ((x : A) → P x → Q x → R x) → (xs : List A) → All P xs → All Q xs → All R xs
all-both P Q R h [] a b = All-nil R
all-both P Q R h (x ∷ xs) a b = All-cons R x xs (h x (All-head P x xs a) (All-head Q x xs b)) (all-both P Q R h xs (All-tail P x xs a) (All-tail Q x xs b))

module _ {A : Type 0} (f : A → A) where
  -- what holds of one list of two that are the same once the function is applied holds of the other
  pub all-matched : (P Q : A → Type 0) → ((x y : A) → f x ≡ f y → P x → Q y) → (xs ys : List A) → map f xs ≡ map f ys → All P xs → All Q ys
  all-matched P Q h [] [] e a = All-nil Q
  all-matched P Q h [] (y ∷ ys) e a = absurd cc
  all-matched P Q h (x ∷ xs) [] e a = absurd cc
  all-matched P Q h (x ∷ xs) (y ∷ ys) e a =
      All-cons Q y ys (h x y (first-same (f x) (f y) (map f xs) (map f ys) e) (All-head P x xs a)) (all-matched P Q h xs ys (rest-same (f x) (f y) (map f xs) (map f ys) e) (All-tail P x xs a))

  -- and so with what also holds of the second
  pub all-matched-with : (P Q R : A → Type 0) → ((x y : A) → f x ≡ f y → P x → R y → Q y) → (xs ys : List A) → map f xs ≡ map f ys → All P xs → All R ys → All Q ys
  all-matched-with P Q R h [] [] e a b = All-nil Q
  all-matched-with P Q R h [] (y ∷ ys) e a b = absurd cc
  all-matched-with P Q R h (x ∷ xs) [] e a b = absurd cc
  all-matched-with P Q R h (x ∷ xs) (y ∷ ys) e a b =
      All-cons Q y ys (h x y (first-same (f x) (f y) (map f xs) (map f ys) e) (All-head P x xs a) (All-head R y ys b))
      (all-matched-with P Q R h xs ys (rest-same (f x) (f y) (map f xs) (map f ys) e) (All-tail P x xs a) (All-tail R y ys b))

  pub length-matched : (xs ys : List A) → map f xs ≡ map f ys → length xs ≡ length ys
  length-matched [] [] e = refl
  length-matched [] (y ∷ ys) e = absurd cc
  length-matched (x ∷ xs) [] e = absurd cc
  length-matched (x ∷ xs) (y ∷ ys) e = ap suc (length-matched xs ys (rest-same (f x) (f y) (map f xs) (map f ys) e))

  -- an element of the second list comes from one of the first
  pub found-matched : (xs ys : List A) → map f xs ≡ map f ys → (y : A) → Contains ys y → (x : A) × Contains xs x × (f x ≡ f y)
  found-matched [] [] e y h = in-none y h
  found-matched [] (z ∷ ys) e y h = absurd cc
  found-matched (x ∷ xs) [] e y h = in-none y h
  found-matched (x ∷ xs) (z ∷ ys) e y h =
      elim (here-or-there z ys y h) [
        | inl same ↦ (x, here x xs, first-same (f x) (f z) (map f xs) (map f ys) e ∙ ap f same)
        | inr later ↦ let r = found-matched xs ys (rest-same (f x) (f z) (map f xs) (map f ys) e) y later in (r.0, there x xs r.0 r.1, r.2)
      ]

  -- a function that doesn't see the change
  pub over-mapped : {B : Type 0} (p : A → B) → ((x : A) → p (f x) ≡ p x) → (xs : List A) → map p (map f xs) ≡ map p xs
  over-mapped p same [] = refl
  over-mapped p same (x ∷ xs) = ap (λ y. y ∷ map p (map f xs)) (same x) ∙ ap (λ ys. p x ∷ ys) (over-mapped p same xs)

  pub over-all : {B : Type 0} (p : A → B) → ((x : A) → p (f x) ≡ p x) → (xs ys : List A) → map f xs ≡ map f ys → map p xs ≡ map p ys
  over-all p same xs ys e = sym (over-mapped p same xs) ∙ (ap (map p) e ∙ over-mapped p same ys)

  pub slice-mapped : (xs : List A) (k : ℕ) → slice_get (map f xs) k ≡ option_map f (slice_get xs k)
  slice-mapped [] k = refl
  slice-mapped (x ∷ xs) zero = refl
  slice-mapped (x ∷ xs) (suc k) = slice-mapped xs k

  pub take-mapped : (k : ℕ) (xs : List A) → take k (map f xs) ≡ map f (take k xs)
  take-mapped zero xs = refl
  take-mapped (suc k) [] = refl
  take-mapped (suc k) (x ∷ xs) = ap (λ ys. f x ∷ ys) (take-mapped k xs)

  pub drop-mapped : (k : ℕ) (xs : List A) → drop k (map f xs) ≡ map f (drop k xs)
  drop-mapped zero xs = refl
  drop-mapped (suc k) [] = refl
  drop-mapped (suc k) (x ∷ xs) = drop-mapped k xs

  pub place-mapped : (xs : List A) (i : ℕ) (d : A) → get_or (map f xs) i (f d) ≡ f (get_or xs i d)
  place-mapped [] i d = refl
  place-mapped (x ∷ xs) zero d = refl
  place-mapped (x ∷ xs) (suc i) d = place-mapped xs i d

  -- what each two elements have in order
  pub pairs-matched : (R : A → A → Type 0) → ((x y : A) → R x y → R (f x) (f y)) → ((x y : A) → R (f x) (f y) → R x y) → (xs ys : List A) → map f xs ≡ map f ys → AllPairs R xs → AllPairs R ys
  pairs-matched R to from xs ys e h i j d lt within =
      from (get_or ys i d) (get_or ys j d)
      (subst (λ z. R z (f (get_or ys j d))) (at i) (subst (R (f (get_or xs i d))) (at j)
      (to (get_or xs i d) (get_or xs j d) (h i j d lt (subst (λ n. j < n) (sym (length-matched xs ys e)) within)))))
    where
      at : (k : ℕ) → f (get_or xs k d) ≡ f (get_or ys k d)
      at k = sym (place-mapped xs k d) ∙ (ap (λ zs. get_or zs k (f d)) e ∙ place-mapped ys k d)
