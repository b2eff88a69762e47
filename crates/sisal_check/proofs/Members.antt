-- The tags of a union, and a list of one.
use Rattle.std.proofs.Common.{◌≡◌, ◌≤◌, ◌<◌, ℕ, List, [], ◌∷◌, length, get_or, Option, Some, None, option_map, refl, arith}
use Rattle.std.proofs.lemmas.Option.{same_Some}
use Rattle.type_table.specs.declared.form.Member.{Member}

pub members_of : (o : Option (List Member)) (xs : List (ℕ × ℕ)) → Some xs ≡ option_map (λ ms. []) o → (ms : List Member) × (o ≡ Some ms) × (xs ≡ [])
members_of None xs e = absurd cc
members_of (Some ms) xs e = (ms, refl, same_Some xs [] e)

pub one_of_one : (xs : List ℕ) → 1 ≤ length xs → length xs < 2 → xs ≡ get_or xs 0 0 ∷ []
one_of_one [] least below = absurd (omega (arith, least))
one_of_one (x ∷ []) least below = refl
one_of_one (x ∷ y ∷ xs) least below = absurd (omega (arith, below))
