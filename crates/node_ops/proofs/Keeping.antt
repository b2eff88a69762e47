-- Without a mask all values of a multiple are kept.
use Rattle.std.proofs.Common.{◌≡◌, ℤ, List, [], ◌∷◌, None, refl, ap, ◌∙◌}
use Rattle.flow_value.specs.declared.value.Val.{Val}
use Rattle.loop_folds.specs.declared.folding.Folding.{Folding}
use Rattle.loop_folds.specs.Clauses.{kept_values, first_failure, gathered, unless_failed, fold_value}
use Rattle.node_ops.specs.Multiples.{each_kept}

kept-each : (vs : List Val) → kept_values (each_kept vs) ≡ vs
kept-each [] = refl
kept-each (v ∷ vs) = ap (λ ws. v ∷ ws) (kept-each vs)

none-fails : (vs : List Val) → first_failure (each_kept vs) ≡ None
none-fails [] = refl
none-fails (v ∷ vs) = none-fails vs

pub all_gathered : (f : Folding) (lo : ℤ) (vs : List Val) → fold_value f lo (each_kept vs) ≡ gathered f lo vs
all_gathered f lo vs =
    ap (λ c. unless_failed c (gathered f lo (kept_values (each_kept vs)))) (none-fails vs) ∙ ap (gathered f lo) (kept-each vs)
