-- Lists, and what a list of one or an option has.
use Rattle.std.proofs.Common.{◌≡◌, ℕ, zero, suc, ◌<◌, ◌≤◌, ◌⊎◌, inl, inr, List, [], ◌∷◌, ◌++◌, length, get_or, set, sym, refl, ap, ◌∙◌, ⊎_elim, arith, drop, true≢false, is_some, Option, None, Some}
use mathlib.Core.Option.{some, some-injective, some-ne-none}
use lib.ListN.{get_elem?}

module _ {A : Type 0} where
  pub only : (x : A) (i : ℕ) (y : A) → get_elem? (x ∷ []) i ≡ some y → (i ≡ 0) × (x ≡ y)
  only x zero y e = (refl, some-injective x y e)
  only x (suc i) y e = absurd (some-ne-none y (sym e))

  pub here_below : (l : List A) (i : ℕ) (a : A) → get_elem? l i ≡ some a → i < length l
  here_below [] i a e = absurd (some-ne-none a (sym e))
  here_below (x ∷ xs) zero a e = omega arith
  here_below (x ∷ xs) (suc i) a e = let r = here_below xs i a e in omega arith

  pub at_end : (l : List A) (a b : A) (j : ℕ) → get_elem? (l ++ a ∷ []) j ≡ some b → (get_elem? l j ≡ some b) ⊎ ((j ≡ length l) × (a ≡ b))
  at_end [] a b zero e = inr (refl, some-injective a b e)
  at_end [] a b (suc j) e = absurd (some-ne-none b (sym e))
  at_end (x ∷ xs) a b zero e = inl e
  at_end (x ∷ xs) a b (suc j) e = ⊎_elim (λ l. inl l) (λ r. inr (ap suc r.0, r.1)) (at_end xs a b j e)

  pub set_one : (l : List A) (y : A) → length l ≡ 1 → set l 0 y ≡ y ∷ []
  set_one [] y e = absurd (omega arith)
  set_one (x ∷ []) y e = refl
  set_one (x ∷ z ∷ zs) y e = absurd (omega arith)

  -- of two beginnings of one list the shorter begins the longer
  pub later : (xs ys rx ry : List A) → length xs ≤ length ys → xs ++ rx ≡ ys ++ ry → (d : List A) × (ys ≡ xs ++ d) × (rx ≡ d ++ ry)
  later [] ys rx ry l e = (ys, refl, e)
  later (x ∷ xs) [] rx ry l e = absurd (omega arith)
  later (x ∷ xs) (y ∷ ys) rx ry l e = let t = later xs ys rx ry (omega arith) (ap (drop 1) e) in
      (t.0, (λ i. get_or (sym e i) 0 x ∷ t.1 i), t.2)

  pub no_length : (l : List A) → length l ≡ 0 → l ≡ []
  no_length [] e = refl
  no_length (x ∷ xs) e = absurd (omega arith)

  pub not_none : {B : Type 0} (o : Option A) (x : A) → o ≡ None → o ≡ Some x → B
  not_none o x e f = absurd (true≢false (sym (ap is_some (sym e ∙ f))))
