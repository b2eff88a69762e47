-- Names of 32 bits of which none stands twice are few.
use Rattle.std.proofs.Common.{◌≡◌, ◌<◌, ◌≤◌, ◌^◌, ℕ, Bool, true, false, not, ◌||◌, ◌&&◌, eqb, nat_eq, List, [], ◌∷◌, All, length, refl}
use Rattle.std.specs.List.{list_any, IsDistinct, AllByRecursion}
use Rattle.std.proofs.lemmas.Map.Steps.{length-le_from_distinct_below}
use Rattle.std.proofs.lemmas.List.Elements.{All-contains}
use Rattle.indexmap.proofs.CallerLemmas.{Contains-list_any}
use Rattle.std.proofs.lemmas.Bool.{eqb-true}
use Rattle.type_rules.specs.Records.{are_distinct}

both : (a b : Bool) → (a && b) ≡ true → (a ≡ true) × (b ≡ true)
both true b e = (refl, e)
both false b e = cc

none_of : (x : ℕ) (xs : List ℕ) → not (list_any (nat_eq x) xs) ≡ true → AllByRecursion (λ y. eqb x y ≡ false) xs
none_of x [] e = tt
none_of x (y ∷ ys) e = by (nat_eq x y) refl e (none_of x ys)
  where
    by : (b : Bool) → nat_eq x y ≡ b → not (b || list_any (nat_eq x) ys) ≡ true → (not (list_any (nat_eq x) ys) ≡ true → AllByRecursion (λ z. eqb x z ≡ false) ys) → AllByRecursion (λ z. eqb x z ≡ false) (y ∷ ys)
    by true q e rest = cc
    by false q e rest = (q, rest e)

distinct_is : (xs : List ℕ) → are_distinct xs ≡ true → IsDistinct eqb xs
unfolding IsDistinct
distinct_is [] e = tt
distinct_is (x ∷ xs) e = let h = both (not (list_any (nat_eq x) xs)) (are_distinct xs) e in (none_of x xs h.0, distinct_is xs h.1)

pub names_few : (xs : List ℕ) → are_distinct xs ≡ true → All (λ x. x < 2 ^ 32) xs → length xs ≤ 2 ^ 32
names_few xs once small = length-le_from_distinct_below xs (2 ^ 32) (distinct_is xs once) (λ q h. All-contains (λ x. x < 2 ^ 32) xs q small (Contains-list_any nat_eq eqb-true xs q h))
