-- Items of lists by their places, and lists that keep some items.
use Rattle.std.proofs.Common.{◌≡◌, ◌⊎◌, inl, inr, ℕ, zero, suc, Bool, true, false, cond, List, [], ◌∷◌, map, length, Some, slice_get, Contains, All, refl, sym, ap, ◌∙◌, arith, true≢false}
use Rattle.std.specs.List.{filter}
use Rattle.std.proofs.lemmas.Option.{slice_get_read, slice_get_within, get_or_from_slice_get}
use Rattle.std.proofs.lemmas.List.Elements.{Contains-get_or}
use Rattle.unit_types.proofs.Names.{contains_cases}

-- ---- places

pub place_of : {A : Type 0} (xs : List A) (x : A) → Contains xs x → (k : ℕ) × (slice_get xs k ≡ Some x)
place_of xs x c = (c.0, slice_get_read xs (length xs) c.0 x refl c.1 (sym c.2))

pub at_place : {A : Type 0} (xs : List A) (k : ℕ) (x : A) → slice_get xs k ≡ Some x → Contains xs x
at_place xs k x e = (k, slice_get_within xs k x e, get_or_from_slice_get xs k x x e)

pub all_from_contains : {A : Type 0} (P : A → Type 0) (xs : List A) → ((x : A) → Contains xs x → P x) → All P xs
all_from_contains P xs h = λ k d within. h _ (Contains-get_or xs k d within)

-- the item from which a list of images has one
pub map_has : {A B : Type 0} (f : A → B) (xs : List A) (k : ℕ) (y : B) → slice_get (map f xs) k ≡ Some y → (x : A) × (slice_get xs k ≡ Some x) × (f x ≡ y)
map_has f [] k y e = absurd cc
map_has f (x ∷ xs) zero y e = (x, refl, cc)
map_has f (x ∷ xs) (suc k) y e = map_has f xs k y e

pub map_at : {A B : Type 0} (f : A → B) (xs : List A) (k : ℕ) (x : A) → slice_get xs k ≡ Some x → slice_get (map f xs) k ≡ Some (f x)
map_at f [] k x e = absurd cc
map_at f (y ∷ ys) zero x e = let s : y ≡ x = cc in ap (λ z. Some (f z)) s
map_at f (y ∷ ys) (suc k) x e = map_at f ys k x e

pub contains_map : {A B : Type 0} (f : A → B) (xs : List A) (x : A) → Contains xs x → Contains (map f xs) (f x)
contains_map f xs x c = let p : (k : ℕ) × (slice_get xs k ≡ Some x) = place_of xs x c in at_place (map f xs) p.0 (f x) (map_at f xs p.0 x p.1)

-- an image of an image
pub map_twice : {A B C : Type 0} (g : B → C) (f : A → B) (xs : List A) → map g (map f xs) ≡ map (λ x. g (f x)) xs
map_twice g f [] = refl
map_twice g f (x ∷ xs) = ap (λ l. g (f x) ∷ l) (map_twice g f xs)

-- ---- items that are kept

pub contains_filter : {A : Type 0} (p : A → Bool) (xs : List A) (x : A) → Contains xs x → p x ≡ true → Contains (filter p xs) x
contains_filter p [] x c t = absurd (omega (arith, c.1))
contains_filter {A} p (y ∷ ys) x c t = by (p y) refl (contains_cases y ys x c) (λ d. contains_filter p ys x d t)
  where
    by : (b : Bool) → p y ≡ b → (y ≡ x) ⊎ Contains ys x → (Contains ys x → Contains (filter p ys) x) → Contains (cond b (y ∷ filter p ys) (filter p ys)) x
    by true h (inl e) rest = (0, omega arith, e)
    by true h (inr d) rest = let r : Contains (filter p ys) x = rest d in (suc r.0, omega (arith, r.1), r.2)
    by false h (inl e) rest = absurd (true≢false (sym t ∙ ap p (sym e) ∙ h))
    by false h (inr d) rest = rest d

pub filter_has : {A : Type 0} (p : A → Bool) (xs : List A) (x : A) → Contains (filter p xs) x → Contains xs x × (p x ≡ true)
filter_has p [] x c = absurd (omega (arith, c.1))
filter_has {A} p (y ∷ ys) x c = by (p y) refl c (λ d. filter_has p ys x d)
  where
    by : (b : Bool) → p y ≡ b → Contains (cond b (y ∷ filter p ys) (filter p ys)) x → (Contains (filter p ys) x → Contains ys x × (p x ≡ true)) → Contains (y ∷ ys) x × (p x ≡ true)
    by true h c rest = elim (contains_cases y (filter p ys) x c) [
      | inl e ↦ ((0, omega arith, e), ap p (sym e) ∙ h)
      | inr d ↦ (let r : Contains ys x × (p x ≡ true) = rest d in ((suc r.0.0, omega (arith, r.0.1), r.0.2), r.1))
    ]
    by false h c rest = let r : Contains ys x × (p x ≡ true) = rest c in ((suc r.0.0, omega (arith, r.0.1), r.0.2), r.1)

pub map_filter : {A B : Type 0} (f : A → B) (p : B → Bool) (xs : List A) → map f (filter (λ x. p (f x)) xs) ≡ filter p (map f xs)
map_filter f p [] = refl
map_filter {A} {B} f p (x ∷ xs) = by (p (f x)) (map_filter f p xs)
  where
    by : (b : Bool) → map f (filter (λ x. p (f x)) xs) ≡ filter p (map f xs)
        → map f (cond b (x ∷ filter (λ x. p (f x)) xs) (filter (λ x. p (f x)) xs)) ≡ cond b (f x ∷ filter p (map f xs)) (filter p (map f xs))
    by true h = ap (λ l. f x ∷ l) h
    by false h = h
