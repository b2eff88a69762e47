-- What the generators of a loop make in its graph: multiples, whose elements at each place are the names of the source there (SISAL
-- Language Reference Manual 1.2, loops over ranges, arrays and streams; IF1 manual M-170, RangeGenerate, AScatter, ForAll).
use Rattle.std.specs.Prelude.{◌≡◌, ◌⊎◌, ℕ, zero, suc, pos, true, false, List, [], ◌∷◌, ◌++◌, map, take, drop, Some, None}
use Rattle.flow_value.specs.declared.cause.Cause.{Cause}
use Rattle.flow_value.specs.declared.cause.Cause.TheVariants as cause
use Rattle.flow_value.specs.declared.value.Val.{Val}
use Rattle.flow_value.specs.declared.value.Val.TheVariants as val
use Rattle.flow_value.specs.declared.ty.Ty.{Ty}
use Rattle.flow_value.specs.declared.ty.Ty.TheVariants as ty
use Rattle.value_ops.specs.Operations.{op_value}
use Rattle.value_ops.specs.declared.operation.Operation.TheVariants as operation
use Rattle.typed_tree.specs.declared.expr.Source.{Source}
use Rattle.typed_tree.specs.declared.expr.Source.TheVariants as source
use Rattle.meaning.specs.declared.sources.Places.{Places}
use Rattle.meaning.specs.declared.sources.Places.TheVariants as places
use Rattle.meaning.specs.Words.{value_at}
use Rattle.meaning.specs.Sources.{width, places_of, names_at, lower_of}
use Rattle.graph_meaning.specs.Carried.{Carried, Value}
use Rattle.graph_meaning.specs.NodeValues.{range_of, scatter_of}
use Rattle.graph_meaning.specs.Forms.{first_spoiled, are_as_long, rows_of, items}
use Rattle.graph_meaning.specs.Forms as forms
use Rattle.fitting_trees.specs.Fitting.{Goes}
use Rattle.typed_rows.specs.Rows.{AreOf}

-- what the node of a generator makes of its first bounds; without `at` the indices are not taken
abbrev pub generated_by : Source → List Val → List Carried
generated_by source.Range vs = range_of (value_at vs 0 ∷ value_at vs 1 ∷ []) ∷ []
generated_by source.Elements vs = take 1 (scatter_of (value_at vs 0 ∷ []))
generated_by source.Indexed vs = scatter_of (value_at vs 0 ∷ [])

abbrev pub generated : List Source → List Val → List Carried
generated [] vs = []
generated (s ∷ ss) vs = generated_by s vs ++ generated ss (drop (width s) vs)

-- the names at so many places from one on
abbrev pub names_from : List Source → List Val → ℕ → ℕ → List (List Val)
names_from ss vs i zero = []
names_from ss vs i (suc n) = names_at ss vs i ∷ names_from ss vs (suc i) n

-- multiples of one length, whose elements at each place are a row
pub record AreRows (ms : List Carried) (rows : List (List Val)) : Type 0 where
  pub none : first_spoiled ms ≡ None
  pub long : are_as_long ms ≡ true
  pub are : rows_of (forms.places_of ms) (map items ms) ≡ map (map Value) rows

-- the first error among multiples, or `error(size)` where their lengths differ
abbrev pub FailWith : List Carried → Cause → Type 0
FailWith ms c = (first_spoiled ms ≡ Some c) ⊎ ((first_spoiled ms ≡ None) × (are_as_long ms ≡ false) × (c ≡ cause.Size))

abbrev pub GoThrough : List Source → List Val → Places → Type 0
GoThrough ss vs (places.Count n) = AreRows (generated ss vs) (names_from ss vs 0 n)
GoThrough ss vs (places.Failed c) = FailWith (generated ss vs) c

-- Generators on bounds of their types go through the places of the source with the names of the source at each, or give its error.
abbrev pub DoGoThrough : Type 0
DoGoThrough = (ss : List Source) (tys names : List Ty) (vs : List Val) → Goes ss tys names → AreOf tys vs → GoThrough ss vs (places_of ss vs)

-- ---- the lower bound of an `array of`

abbrev pub IsCounted : List Source → List Val → Type 0
IsCounted ss vs = (n : ℕ) × (places_of ss vs ≡ places.Count n)

-- it is the first number of a range, what ALimL gives of an array, and 1 for a stream
pub record AreLowerBounds : Type 0 where
  pub of_range : (ss : List Source) (tys : List Ty) (vs : List Val) → AreOf (ty.Int ∷ ty.Int ∷ tys) vs → IsCounted (source.Range ∷ ss) vs → value_at vs 0 ≡ val.Int (lower_of vs)
  pub of_array : (s : Source) (ss : List Source) (a : Ty) (tys : List Ty) (vs : List Val)
      → AreOf (ty.Arr a ∷ tys) vs → IsCounted (s ∷ ss) vs → op_value operation.LimitLow (value_at vs 0 ∷ []) ≡ val.Int (lower_of vs)
  pub of_stream : (a : Ty) (tys : List Ty) (vs : List Val) → AreOf (ty.Stream a ∷ tys) vs → lower_of vs ≡ pos 1
