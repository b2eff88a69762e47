-- Tags without an arm, as a map tells them.
use Rattle.std.proofs.Common.{◌≡◌, ℕ, Bool, true, false, not, List, [], ◌∷◌, Option, Some, None, nat_eq, if◌then◌else◌, refl}
use Rattle.std.specs.Option.{is_some}
use Rattle.std.specs.Map.{lookup}
use Rattle.type_rules.specs.Arms.{is_free}

pub free_lookup : (cs : List (ℕ × ℕ)) (tag : ℕ) → not (is_some (lookup (nat_eq tag) cs)) ≡ is_free cs tag
free_lookup [] tag = refl
free_lookup (c ∷ cs) tag = by (nat_eq tag c.0) (free_lookup cs tag)
  where
    by : (b : Bool) → not (is_some (lookup (nat_eq tag) cs)) ≡ is_free cs tag → not (is_some (if b then Some c.1 else lookup (nat_eq tag) cs)) ≡ (if b then false else is_free cs tag)
    by true h = refl
    by false h = h

-- what is not there
pub no_value : {A : Type 0} (o : Option A) → not (is_some o) ≡ true → o ≡ None
no_value None e = refl
no_value (Some x) e = absurd cc
