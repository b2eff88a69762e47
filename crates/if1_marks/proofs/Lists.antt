-- What lists contain.
use Rattle.std.proofs.Common.{◌≡◌, zero, suc, List, [], ◌∷◌, map, Some, Option, ◌⊎◌, inl, inr, Contains, arith, refl, sym, ap, subst, ◌∙◌, Bool, true, false, cond, find}
use Rattle.std.specs.List.{filter}

pub here : {A : Type 0} (x : A) (xs : List A) → Contains (x ∷ xs) x
here x xs = (0, omega arith, refl)

pub there : {A : Type 0} (x : A) (xs : List A) (y : A) → Contains xs y → Contains (x ∷ xs) y
there x xs y h = (suc h.0, omega (arith, h.1), h.2)

pub here-or-there : {A : Type 0} (x : A) (xs : List A) (y : A) → Contains (x ∷ xs) y → (x ≡ y) ⊎ Contains xs y
here-or-there x xs y (zero, h, e) = inl e
here-or-there x xs y (suc k, h, e) = inr (k, omega (arith, h), e)

pub in-none : {A P : Type 0} (y : A) → Contains [] y → P
in-none y h = absurd (omega (arith, h.1))

pub in-mapped : {A B : Type 0} (f : A → B) (xs : List A) (x : A) → Contains xs x → Contains (map f xs) (f x)
in-mapped f [] x h = in-none x h
in-mapped f (y ∷ xs) x h =
    elim (here-or-there y xs x h) [
      | inl e ↦ subst (λ z. Contains (f y ∷ map f xs) (f z)) e (here (f y) (map f xs))
      | inr later ↦ there (f y) (map f xs) (f x) (in-mapped f xs x later)
    ]

module _ {A : Type 0} (p : A → Bool) where
  found-or : (y : A) (xs : List A) (x : A) (b : Bool) (other : Option A) → p y ≡ b → (other ≡ Some x → Contains xs x × (p x ≡ true)) →
      cond b (Some y) other ≡ Some x → Contains (y ∷ xs) x × (p x ≡ true)
  found-or y xs x true other is later e =
      let same : y ≡ x = cc in (subst (λ z. Contains (y ∷ xs) z) same (here y xs), subst (λ z. p z ≡ true) same is)
  found-or y xs x false other is later e = let r = later e in (there y xs x r.0, r.1)

  -- what is found is in the list, and passes
  pub found-in : (xs : List A) (x : A) → find p xs ≡ Some x → Contains xs x × (p x ≡ true)
  found-in [] x e = cc
  found-in (y ∷ xs) x e = found-or y xs x (p y) (find p xs) refl (found-in xs x) e

  pub in-filter : (xs : List A) (x : A) → Contains xs x → p x ≡ true → Contains (filter p xs) x
  in-filter [] x h is = in-none x h
  in-filter (y ∷ xs) x h is =
      elim (here-or-there y xs x h) [
        | inl e ↦ subst (λ b. Contains (cond b (y ∷ filter p xs) (filter p xs)) x) (sym (ap p e ∙ is)) (subst (λ z. Contains (y ∷ filter p xs) z) e (here y (filter p xs)))
        | inr later ↦ kept (filter p xs) x y (p y) (in-filter xs x later is)
      ]
    where
      kept : (zs : List A) (x y : A) (b : Bool) → Contains zs x → Contains (cond b (y ∷ zs) zs) x
      kept zs x y true h = there y zs x h
      kept zs x y false h = h
