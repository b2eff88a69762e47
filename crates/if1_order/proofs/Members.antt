-- What lists that are made of others contain.
use Rattle.std.proofs.Common.{◌≡◌, ℕ, zero, suc, List, [], ◌∷◌, map, slice_get, Some, Option, ◌⊎◌, inl, inr, Contains, arith, refl, sym, ap, subst, ◌∙◌, Bool, true, false, cond, find}
use Rattle.std.specs.List.{flat_map, filter}
use Rattle.std.proofs.lemmas.List.Elements.{Contains-append_left, Contains-append_right, Contains-append_cases}

pub contains_here : {A : Type 0} (x : A) (xs : List A) → Contains (x ∷ xs) x
contains_here x xs = (0, omega arith, refl)

pub contains_there : {A : Type 0} (x : A) (xs : List A) (y : A) → Contains xs y → Contains (x ∷ xs) y
contains_there x xs y h = (suc h.0, omega (arith, h.1), h.2)

pub contains_cases : {A : Type 0} (x : A) (xs : List A) (y : A) → Contains (x ∷ xs) y → (x ≡ y) ⊎ Contains xs y
contains_cases x xs y (zero, h, e) = inl e
contains_cases x xs y (suc k, h, e) = inr (k, omega (arith, h), e)

pub contains_none : {A P : Type 0} (y : A) → Contains [] y → P
contains_none y h = absurd (omega (arith, h.1))

-- the item that a list has at a place
pub contains_got : {A : Type 0} (xs : List A) (k : ℕ) (x : A) → slice_get xs k ≡ Some x → Contains xs x
contains_got [] k x e = cc
contains_got (y ∷ xs) zero x e = let same : y ≡ x = cc in subst (λ z. Contains (y ∷ xs) z) same (contains_here y xs)
contains_got (y ∷ xs) (suc k) x e = contains_there y xs x (contains_got xs k x e)

pub got_contained : {A : Type 0} (xs : List A) (x : A) → Contains xs x → (k : ℕ) × (slice_get xs k ≡ Some x)
got_contained [] x h = contains_none x h
got_contained (y ∷ xs) x (zero, h, e) = (0, ap Some e)
got_contained (y ∷ xs) x (suc k, h, e) = let r = got_contained xs x (k, omega (arith, h), e) in (suc r.0, r.1)

module _ {A B : Type 0} (f : A → List B) where
  pub contains_flat : (xs : List A) (b : B) → Contains (flat_map f xs) b → (x : A) × Contains xs x × Contains (f x) b
  contains_flat [] b h = contains_none b h
  contains_flat (x ∷ xs) b h =
      elim (Contains-append_cases (f x) (flat_map f xs) b h) [
        | inl here ↦ (x, contains_here x xs, here)
        | inr there ↦ let r = contains_flat xs b there in (r.0, contains_there x xs r.0 r.1, r.2)
      ]

  pub flat_contains : (xs : List A) (x : A) (b : B) → Contains xs x → Contains (f x) b → Contains (flat_map f xs) b
  flat_contains [] x b h i = contains_none x h
  flat_contains (y ∷ xs) x b h i =
      elim (contains_cases y xs x h) [
        | inl same ↦ Contains-append_left (f y) (flat_map f xs) b (subst (λ z. Contains (f z) b) (sym same) i)
        | inr there ↦ Contains-append_right (f y) (flat_map f xs) b (flat_contains xs x b there i)
      ]

module _ {A B : Type 0} (f : A → B) where
  pub contains_mapped : (xs : List A) (b : B) → Contains (map f xs) b → (x : A) × Contains xs x × (f x ≡ b)
  contains_mapped [] b h = contains_none b h
  contains_mapped (x ∷ xs) b h =
      elim (contains_cases (f x) (map f xs) b h) [
        | inl e ↦ (x, contains_here x xs, e)
        | inr there ↦ let r = contains_mapped xs b there in (r.0, contains_there x xs r.0 r.1, r.2)
      ]

  pub mapped_contains : (xs : List A) (x : A) → Contains xs x → Contains (map f xs) (f x)
  mapped_contains [] x h = contains_none x h
  mapped_contains (y ∷ xs) x h =
      elim (contains_cases y xs x h) [
        | inl e ↦ subst (λ z. Contains (f y ∷ map f xs) (f z)) e (contains_here (f y) (map f xs))
        | inr there ↦ contains_there (f y) (map f xs) (f x) (mapped_contains xs x there)
      ]

module _ {A : Type 0} (p : A → Bool) where
  -- what is found is in the list, and passes
  found_or : (y : A) (xs : List A) (x : A) (b : Bool) (other : Option A) → p y ≡ b → (other ≡ Some x → Contains xs x × (p x ≡ true)) →
      cond b (Some y) other ≡ Some x → Contains (y ∷ xs) x × (p x ≡ true)
  found_or y xs x true other is there e =
      let same : y ≡ x = cc in (subst (λ z. Contains (y ∷ xs) z) same (contains_here y xs), subst (λ z. p z ≡ true) same is)
  found_or y xs x false other is there e = let r = there e in (contains_there y xs x r.0, r.1)

  pub found_in : (xs : List A) (x : A) → find p xs ≡ Some x → Contains xs x × (p x ≡ true)
  found_in [] x e = cc
  found_in (y ∷ xs) x e = found_or y xs x (p y) (find p xs) refl (found_in xs x) e

  pub filter_contains : (xs : List A) (x : A) → Contains xs x → p x ≡ true → Contains (filter p xs) x
  filter_contains [] x h is = contains_none x h
  filter_contains (y ∷ xs) x h is =
      elim (contains_cases y xs x h) [
        | inl e ↦ subst (λ b. Contains (cond b (y ∷ filter p xs) (filter p xs)) x) (sym (ap p e ∙ is)) (subst (λ z. Contains (y ∷ filter p xs) z) e (contains_here y (filter p xs)))
        | inr there ↦ kept (filter p xs) x y (p y) (filter_contains xs x there is)
      ]
    where
      kept : (zs : List A) (x y : A) (b : Bool) → Contains zs x → Contains (cond b (y ∷ zs) zs) x
      kept zs x y true h = contains_there y zs x h
      kept zs x y false h = h
