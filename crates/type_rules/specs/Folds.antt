-- What a clause of a loop makes of values of a type, by the numbers of types (SISAL Language Reference Manual 1.2, the results of
-- loops).
use Rattle.std.specs.Prelude.{◌≡◌, ◌⊎◌, ℕ, Bool, List, Option, Some, None, nat_eq, slice_get, if◌then◌else◌}
use Rattle.sisal_tree.specs.declared.expr.ClauseKind.{ClauseKind}
use Rattle.sisal_tree.specs.declared.expr.ClauseKind.TheVariants as made
use Rattle.sisal_tree.specs.declared.expr.Reduction.{Reduction}
use Rattle.sisal_tree.specs.declared.expr.Reduction.TheVariants as reduction
use Rattle.loop_folds.specs.declared.folding.Folding.{Folding}
use Rattle.loop_folds.specs.declared.folding.Folding.TheVariants as folding
use Rattle.loop_folds.specs.declared.masking.Masking.{Masking}
use Rattle.loop_folds.specs.declared.masking.Masking.TheVariants as keeps
use Rattle.type_table.specs.declared.form.Form.{Form}
use Rattle.type_table.specs.declared.form.Form.TheVariants as form
use Rattle.typed_tree.specs.Operations.{direction_of}
use Rattle.type_rules.specs.declared.fault.Refused.{Refused}
use Rattle.type_rules.specs.declared.fault.Refused.TheVariants as refused
use Rattle.type_rules.specs.declared.folds.Folded.{Folded}
use Rattle.type_rules.specs.declared.folds.Made.{Made}
use Rattle.type_rules.specs.declared.head.Sort.{Sort}
use Rattle.type_rules.specs.declared.head.Sort.TheVariants as sort
use Rattle.type_rules.specs.Parts.{integer, part_if}
use Rattle.type_rules.specs.Applies.{IsSorted, Adds, IsTooDeep}

-- no mask, or one that is `unless` or not
abbrev pub masking_by : Option Bool → Masking
masking_by None = keeps.All
masking_by (Some is_unless) = if is_unless then keeps.Unless else keeps.When

abbrev pub catenation : Form → Option Folding
catenation (form.Array e) = Some folding.CatenateArrays
catenation (form.Stream e) = Some folding.CatenateStreams
catenation _ = None

abbrev pub catenated : List Form → ℕ → Option Folding
catenated forms n = part_if catenation (slice_get forms n)

abbrev pub summed : Folding → ℕ → Option Folding
summed f n = if nat_eq n integer then Some f else None

abbrev pub reduced : List Form → Reduction → ℕ → Option Folding
reduced forms reduction.Sum n = summed folding.Sum n
reduced forms reduction.Product n = summed folding.Product n
reduced forms reduction.Least n = summed folding.Least n
reduced forms reduction.Greatest n = summed folding.Greatest n
reduced forms reduction.Catenate n = catenated forms n

abbrev pub kept : Option Folding → ℕ → Option Folded
kept None n = None
kept (Some f) n = Some (record { folding = f; sort = sort.There n })

abbrev pub makes_of : List Form → ClauseKind → ℕ → Option Folded
makes_of forms made.Array n = Some (record { folding = folding.Array; sort = sort.Made (form.Array n) })
makes_of forms made.Stream n = Some (record { folding = folding.Stream; sort = sort.Made (form.Stream n) })
makes_of forms made.Last n = kept (Some folding.Last) n
makes_of forms (made.Reduce d r) n = kept (reduced forms r n) n

-- this is the clause's form, and the type that it makes, where the table is that one afterwards
pub record IsMade (forms : List Form) (kind : ClauseKind) (mask : Option Bool) (n : ℕ) (m : Made) (after : List Form) : Type 0 where
  pub result : Sort
  pub folded : makes_of forms kind n ≡ Some (record { folding = m.form.folding; sort = result })
  pub direction : m.form.direction ≡ direction_of kind
  pub masking : m.form.masking ≡ masking_by mask
  pub typed : IsSorted after result m.ty
  pub adds : Adds forms result after

-- the clause makes nothing of the values, or a type that is too deep
abbrev pub IsUnmade : List Form → ClauseKind → ℕ → Refused → Type 0
IsUnmade forms kind n refused.NoMemory = Unit {0}
IsUnmade forms kind n (refused.Rule rule) =
    ((makes_of forms kind n ≡ None) × (rule ≡ 23))
    ⊎ ((f : Folded) × (makes_of forms kind n ≡ Some f) × IsTooDeep forms f.sort (refused.Rule rule))
