-- Clauses of loops, one after another.
use Rattle.std.specs.Prelude.{ℕ, zero, suc, min, Bool, true, false, not, List, [], ◌∷◌, drop, if◌then◌else◌, Option, Some, None}
use Rattle.loop_folds.specs.declared.masking.Masking.{Masking}
use Rattle.loop_folds.specs.declared.masking.Masking.TheVariants as masking
use Rattle.typed_tree.specs.declared.expr.ClauseForm.{ClauseForm}
use Rattle.lowering.specs.Loops.{span, unless_places}
use Rattle.tree_sizes.specs.declared.places.Place.{Place}
use Rattle.lowered_sizes.specs.declared.sizes.Sizes.{Sizes}
use Rattle.lowered_sizes.specs.Counting.{only, joined, a_node}
use Rattle.lowered_sizes.specs.Forms.{fold_sized}

-- the node of a clause, where it has a type
abbrev pub clause_sized : Bool → ClauseForm → (multiples types : ℕ) → Sizes
clause_sized is_limit c m zero = only 0
clause_sized is_limit c m (suc k) = fold_sized is_limit c.folding (min (span c.masking) m)

-- ---- places among the values of clauses

abbrev pub is_unless : Masking → Bool
is_unless masking.Unless = true
is_unless m = false

-- which of the values of clauses are masks of `unless`, from the value or the mask of the first clause on
abbrev pub unless_from : Bool → List ClauseForm → List Bool
unless_from is_mask [] = []
unless_from false (c ∷ cs) = unless_places (c ∷ cs)
unless_from true (c ∷ cs) = is_unless c.masking ∷ unless_places cs

abbrev pub places_left : List ClauseForm → Place → List Bool
places_left cs p = unless_from p.is_mask (drop p.at cs)

abbrev pub first_place : List Bool → Option Bool
first_place [] = None
first_place (b ∷ bs) = Some b

abbrev pub is_true : Option Bool → Bool
is_true (Some b) = b
is_true None = false

-- whether the mask of a clause stands behind its value or its mask
abbrev pub is_masked : Masking → Bool → Bool
is_masked masking.All is_mask = false
is_masked m is_mask = not is_mask

-- ---- what is collected besides the loop names

abbrev pub is_name : Option ℕ → Bool
is_name (Some x) = true
is_name None = false

-- how much is collected at a place
abbrev pub extra_at : Option Bool → Bool → Sizes → Sizes
extra_at None is_name s = only 0
extra_at (Some true) is_name s = joined s (a_node s.values 1)
extra_at (Some false) is_name s = if is_name then only 0 else s
