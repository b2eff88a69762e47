-- Tests over lists, and lists of one element.
use Rattle.std.proofs.Common.{◌≡◌, ℕ, Bool, true, false, ◌&&◌, ◌||◌, not, List, [], ◌∷◌, map, length, Contains, All, inl, inr, arith, refl, sym, ap, subst, ◌∙◌, T, ◌==◌}
use Rattle.std.specs.List.{list_any}
use Rattle.std.proofs.Math.Facts.{eqb_yes}
use Rattle.std.proofs.lemmas.List.Elements.{All-nil, All-cons}
use Rattle.if1_marks.proofs.Lists.{here, there, here-or-there, in-none}

pub same-number : (a b : ℕ) → (a == b) ≡ true → a ≡ b
same-number a b e = eqb_yes (subst T (sym e) tt)

pub no-both : (b : Bool) → b ≡ true → b ≡ false → ⊥
no-both true h never = absurd cc
no-both false h never = absurd cc

pub both-left : (a b : Bool) → a && b ≡ true → a ≡ true
both-left true b e = refl
both-left false b e = absurd cc

pub both-right : (a b : Bool) → a && b ≡ true → b ≡ true
both-right true b e = e
both-right false b e = absurd cc

pub both : (a b : Bool) → a ≡ true → b ≡ true → a && b ≡ true
both true b x y = y
both false b x y = absurd cc

pub not-true : (b : Bool) → not b ≡ true → b ≡ false
not-true true e = absurd cc
not-true false e = refl

pub not-false : (b : Bool) → b ≡ false → not b ≡ true
not-false true e = absurd cc
not-false false e = refl

or-true : (a b : Bool) → b ≡ true → (a || b) ≡ true
or-true true b e = refl
or-true false b e = e

module _ {A : Type 0} (p : A → Bool) where
  -- what passes, where something does
  pub any-found : (xs : List A) → list_any p xs ≡ true → (x : A) × Contains xs x × (p x ≡ true)
  any-found [] h = absurd cc
  any-found (y ∷ xs) h = go (p y) refl (any-found xs) h
    where
      go : (b : Bool) → p y ≡ b → (list_any p xs ≡ true → (x : A) × Contains xs x × (p x ≡ true)) → (b || list_any p xs) ≡ true → (x : A) × Contains (y ∷ xs) x × (p x ≡ true)
      go true e later h = (y, here y xs, e)
      go false e later h = let r = later h in (r.0, there y xs r.0 r.1, r.2)

  pub any-there : (xs : List A) (x : A) → Contains xs x → p x ≡ true → list_any p xs ≡ true
  any-there [] x h e = in-none x h
  any-there (y ∷ xs) x h e =
      elim (here-or-there y xs x h) [
        | inl same ↦ ap (λ b. b || list_any p xs) (ap p same ∙ e)
        | inr later ↦ or-true (p y) (list_any p xs) (any-there xs x later e)
      ]

  pub none-found : (xs : List A) → list_any p xs ≡ false → All (λ x. p x ≡ false) xs
  none-found [] h = All-nil (λ x. p x ≡ false)
  none-found (y ∷ xs) h = go (p y) refl (none-found xs) h
    where
      go : (b : Bool) → p y ≡ b → (list_any p xs ≡ false → All (λ x. p x ≡ false) xs) → (b || list_any p xs) ≡ false → All (λ x. p x ≡ false) (y ∷ xs)
      go true e later h = absurd cc
      go false e later h = All-cons (λ x. p x ≡ false) y xs e (later h)

pub any-mapped : {A B : Type 0} (p : B → Bool) (f : A → B) (xs : List A) → list_any p (map f xs) ≡ list_any (λ x. p (f x)) xs
any-mapped p f [] = refl
any-mapped p f (x ∷ xs) = ap (λ b. p (f x) || b) (any-mapped p f xs)

pub any-same : {A : Type 0} (p q : A → Bool) → ((x : A) → p x ≡ q x) → (xs : List A) → list_any p xs ≡ list_any q xs
any-same p q e [] = refl
any-same p q e (x ∷ xs) = ap (λ b. b || list_any p xs) (e x) ∙ ap (λ b. q x || b) (any-same p q e xs)

-- of a list of one element
pub one-only : {A : Type 0} (xs : List A) (x y : A) → length xs ≡ 1 → Contains xs x → Contains xs y → x ≡ y
one-only [] x y one a b = in-none x a
one-only (z ∷ []) x y one a b =
    elim (here-or-there z [] x a) [
      | inl e ↦ elim (here-or-there z [] y b) [
        | inl f ↦ sym e ∙ f
        | inr h ↦ in-none y h
      ]
      | inr h ↦ in-none x h
    ]
one-only (z ∷ w ∷ xs) x y one a b = absurd (omega (arith, one))
