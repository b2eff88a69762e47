-- A stable sort keeps the order of those with one key.
use Rattle.std.proofs.Common.{◌≡◌, ℕ, Bool, true, false, not, ◌&&◌, List, [], ◌∷◌, map, refl, sym, ap, subst, ◌∙◌, arith, cond}
use Rattle.std.specs.Prelude.{◌==◌, filter}
use Rattle.std.specs.Ordering.{nat_cmp, is_lt}
use Rattle.std.specs.List.Sorted.{IsPermutation, IsStableByKey, ties}
use Rattle.std.proofs.lemmas.Bool.{eqb-true}
use Rattle.std.proofs.lemmas.Bool.Decides.{nat_tests}
use Rattle.std.proofs.lemmas.List.Sorted.{IsPermutation-map}
use Rattle.if1_read.specs.Arranged.{IsArranged}

tie_is : (a b : ℕ) → (not (is_lt (nat_cmp a b)) && not (is_lt (nat_cmp b a))) ≡ (b == a)
tie_is a b = grind (arith, nat_tests)

module _ {X : Type 0} where
  head_if : (p : X → Bool) (b : Bool) (x z : X) (xs zs : List X) → p x ≡ b → (xs ≡ z ∷ zs → p z ≡ true) → cond b (x ∷ xs) xs ≡ z ∷ zs → p z ≡ true
  head_if p true x z xs zs e h f = let same : x ≡ z = cc in ap p (sym same) ∙ e
  head_if p false x z xs zs e h f = h f

  -- the first of those that pass a test passes it
  filter_head : (p : X → Bool) (xs : List X) (z : X) (zs : List X) → filter p xs ≡ z ∷ zs → p z ≡ true
  filter_head p [] z zs e = absurd cc
  filter_head p (x ∷ xs) z zs e = head_if p (p x) x z (filter p xs) zs refl (filter_head p xs z zs) e

  some_pass : (p : X → Bool) (xs ys us vs : List X) → filter p xs ≡ us → filter p ys ≡ vs → ((z : X) → p z ≡ true → filter p ys ≡ filter p xs) → filter p ys ≡ filter p xs
  some_pass p xs ys [] [] e f h = f ∙ sym e
  some_pass p xs ys (z ∷ us) vs e f h = h z (filter_head p xs z us e)
  some_pass p xs ys [] (z ∷ vs) e f h = h z (filter_head p ys z vs f)

  module _ (key : X → ℕ) where
    tie_with : (z y : X) (l : ℕ) → key z ≡ l → ties (λ x y. is_lt (nat_cmp (key x) (key y))) z y ≡ (key y == l)
    tie_with z y l e = tie_is (key z) (key y) ∙ ap (λ (n : ℕ). key y == n) e

    pub stable_keys : (xs ys : List X) → IsStableByKey key nat_cmp xs ys → (l : ℕ) → filter (λ x. key x == l) ys ≡ filter (λ x. key x == l) xs
    stable_keys xs ys stable l =
        some_pass (λ x. key x == l) xs ys (filter (λ x. key x == l) xs) (filter (λ x. key x == l) ys) refl refl
        (λ z e. subst (λ (p : X → Bool). filter p ys ≡ filter p xs) (λ i y. tie_with z y l (eqb-true (key z) l e) i) (stable z))

module _ {X Y : Type 0} (g : X → Y) (p : Y → Bool) where
  mapped_if : (b : Bool) (x : X) (xs : List X) (ys : List Y) → ys ≡ map g xs → cond b (g x ∷ ys) ys ≡ map g (cond b (x ∷ xs) xs)
  mapped_if true x xs ys e = ap (λ (zs : List Y). g x ∷ zs) e
  mapped_if false x xs ys e = e

  pub filter_mapped : (xs : List X) → filter p (map g xs) ≡ map g (filter (λ x. p (g x)) xs)
  filter_mapped [] = refl
  filter_mapped (x ∷ xs) = mapped_if (p (g x)) x (filter (λ x. p (g x)) xs) (filter p (map g xs)) (filter_mapped xs)

-- the same of parts of the elements, by which they are sorted
pub arranged : {X Y : Type 0} (g : X → Y) (key : Y → ℕ) (xs ys : List X) → IsPermutation xs ys → IsStableByKey (λ x. key (g x)) nat_cmp xs ys → IsArranged key (map g xs) (map g ys)
arranged g key xs ys these stable = record {
  these = IsPermutation-map g xs ys these;
  same = λ l.
      filter_mapped g (λ y. key y == l) ys
      ∙ ap (map g) (stable_keys (λ x. key (g x)) xs ys stable l)
      ∙ sym (filter_mapped g (λ y. key y == l) xs);
}
