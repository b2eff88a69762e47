-- Clauses that are given their values one after another.
use Rattle.std.proofs.Common.{◌≡◌, ◌∙◌, refl, ap, ℕ, ◌≤◌, List, [], ◌∷◌, ◌++◌, take, drop, length}
use Rattle.std.proofs.lemmas.List.{take-append-drop, drop_all}
use Rattle.flow_value.specs.declared.value.Val.{Val}
use Rattle.loop_folds.specs.Clauses.{ClauseCells}
use Rattle.loop_folds.specs.declared.masking.Masking.{Masking}
use Rattle.loop_folds.specs.declared.masking.Masking.TheVariants as masking
use Rattle.typed_tree.specs.declared.expr.ClauseForm.{ClauseForm}
use Rattle.meaning.specs.Rows.{span, cells_in, with_cells}
use Rattle.meaning.specs.Words.{value_at}
use Rattle.source_meaning.specs.Loops.{with_cells_from}

no_cells_more : (fs : List ClauseCells) → with_cells fs [] ≡ fs
no_cells_more [] = refl
no_cells_more (f ∷ fs) = refl

-- every clause has its value
pub row_done : (fs : List ClauseCells) (place : ℕ) (cs : List ClauseForm) (vs : List Val) → length cs ≤ place
    → with_cells_from place fs (cells_in (drop place cs) vs) ≡ fs
row_done fs place cs vs h =
    ap (λ k. take place fs ++ with_cells (drop place fs) (cells_in k vs)) (drop_all place cs h)
    ∙ ap (λ k. take place fs ++ k) (no_cells_more (drop place fs))
    ∙ take-append-drop place fs

pub second_value : (vs : List Val) → value_at (drop 1 vs) 0 ≡ value_at vs 1
second_value [] = refl
second_value (v ∷ vs) = refl

pub two_dropped : (vs : List Val) → drop 1 (drop 1 vs) ≡ drop 2 vs
two_dropped [] = refl
two_dropped (v ∷ vs) = refl

pub masked_span : (m : Masking) → (m ≡ masking.All → ⊥) → span m ≡ 2
masked_span masking.All h = absurd (h refl)
masked_span masking.When h = refl
masked_span masking.Unless h = refl
