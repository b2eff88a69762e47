-- Names for which no type is left.
use Rattle.std.proofs.Common.{◌≡◌, ℕ, ◌≤◌, List, [], ◌∷◌, length, drop, refl, ap, ◌∙◌}
use Rattle.std.proofs.lemmas.List.{drop_all}
use Rattle.sisal_tree.specs.declared.unit.Named.{Named}
use Rattle.value_names.specs.Names.{Names}
use Rattle.value_names.specs.Scopes.{define_all, under_old}

no_types : (xs : List Named) (s : Names) → define_all xs [] s ≡ s
no_types [] s = refl
no_types (x ∷ xs) s = refl

pub all_defined : (xs : List Named) (ts : List ℕ) (p : ℕ) (s : Names) → length ts ≤ p → define_all xs (drop p ts) s ≡ s
all_defined xs ts p s h = ap (λ l. define_all xs l s) (drop_all p ts h) ∙ no_types xs s

no_old_types : (level : ℕ) (xs : List Named) (s : Names) → under_old level xs [] s ≡ s
no_old_types level [] s = refl
no_old_types level (x ∷ xs) s = refl

pub all_under_old : (level : ℕ) (xs : List Named) (ts : List ℕ) (p : ℕ) (s : Names) → length ts ≤ p → under_old level xs (drop p ts) s ≡ s
all_under_old level xs ts p s h = ap (λ l. under_old level xs l s) (drop_all p ts h) ∙ no_old_types level xs s
