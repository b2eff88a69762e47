-- Sets of ports as lists.
use Rattle.std.proofs.Common.{◌≡◌, ◌∙◌, ℕ, Bool, true, false, ◌||◌, List, ◌++◌, Contains, refl, sym, ap, subst, eqb, ◌==◌}
use Rattle.std.specs.List.{dedup}
use Rattle.std.specs.List.Sorted.{IsPermutation, IsSorted, IsStrictlyIncreasing}
use Rattle.std.specs.Ordering.{nat_cmp}
use Rattle.std.proofs.lemmas.Bool.{eq-eqb}
use Rattle.std.proofs.lemmas.List.Kept.{Contains-dedup_nat, Contains-from_dedup}
use Rattle.std.proofs.lemmas.List.Sorted.{Contains-permutation, IsPermutation-sym}
use Rattle.std.proofs.lemmas.List.Folds.{list_any-append}
use Rattle.std.proofs.lemmas.Map.Keys.{IsStrictlyIncreasing-dedup}
use Rattle.if1_marks.proofs.Tests.{same-number, any-found, any-there}
use Rattle.may_take.specs.Ports.{has}

pub in-has : (xs : List ℕ) (p : ℕ) → has xs p ≡ true → Contains xs p
in-has xs p h =
    let r = any-found (λ q. q == p) xs h in subst (Contains xs) (same-number r.0 p r.2) r.1

pub has-in : (xs : List ℕ) (p : ℕ) → Contains xs p → has xs p ≡ true
has-in xs p c = any-there (λ q. q == p) xs p c (itself p)
  where
    itself : (p : ℕ) → (p == p) ≡ true
    itself p = eq-eqb p p refl

pub same-bool : (a b : Bool) → (a ≡ true → b ≡ true) → (b ≡ true → a ≡ true) → a ≡ b
same-bool true true f g = refl
same-bool true false f g = sym (f refl)
same-bool false true f g = g refl
same-bool false false f g = refl

pub same-has : (xs ys : List ℕ) → ((p : ℕ) → Contains xs p → Contains ys p) → ((p : ℕ) → Contains ys p → Contains xs p) → (p : ℕ) → has xs p ≡ has ys p
same-has xs ys f g p = same-bool (has xs p) (has ys p) (λ h. has-in ys p (f p (in-has xs p h))) (λ h. has-in xs p (g p (in-has ys p h)))

pub once-up : (xs ys zs : List ℕ) → IsSorted nat_cmp ys → zs ≡ dedup eqb ys → IsStrictlyIncreasing zs
once-up xs ys zs sorted is = subst IsStrictlyIncreasing (sym is) (IsStrictlyIncreasing-dedup ys sorted)

pub once-same : (xs ys zs : List ℕ) → IsPermutation xs ys → zs ≡ dedup eqb ys → (p : ℕ) → has zs p ≡ has xs p
once-same xs ys zs moved is p =
    ap (λ ls. has ls p) is
    ∙ same-has (dedup eqb ys) xs
    (λ l c. Contains-permutation ys xs l (IsPermutation-sym xs ys moved) (Contains-from_dedup eqb ys l c))
    (λ l c. Contains-dedup_nat ys l (Contains-permutation xs ys l moved c)) p

pub has-append : (xs ys : List ℕ) (p : ℕ) → has (xs ++ ys) p ≡ (has xs p || has ys p)
has-append xs ys p = list_any-append (λ q. q == p) xs ys

pub not-has : (xs : List ℕ) (p : ℕ) → ¬ Contains xs p → has xs p ≡ false
not-has xs p none = go (has xs p) refl
  where
    go : (b : Bool) → has xs p ≡ b → has xs p ≡ false
    go true e = absurd (none (in-has xs p e))
    go false e = e

pub or-grouped : (a b c : Bool) → ((a || b) || c) ≡ (a || (b || c))
or-grouped true b c = refl
or-grouped false b c = refl
