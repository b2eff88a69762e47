-- A number past the end names nothing.
use Rattle.std.proofs.Common.{◌≡◌, ℕ, List, None, inl, inr, slice_get, get_or, sym, ◌∙◌}
use Rattle.std.proofs.lemmas.Option.{slice_get_cases, none-some}
use Rattle.std.proofs.Math.ListN.{get_or-eq_default}

pub no_name : {X : Type 0} (xs : List X) (n : ℕ) (d : X) → slice_get xs n ≡ None → get_or xs n d ≡ d
no_name xs n d none = elim (slice_get_cases xs n).1 [
  | inl s ↦ absurd (none-some s.0 (sym none ∙ s.2))
  | inr p ↦ get_or-eq_default xs d p.0
]
