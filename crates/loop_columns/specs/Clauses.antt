-- What the clauses of a loop make in its graph: a node for each, on the multiples of its values and of its mask (SISAL Language
-- Reference Manual 1.2, the results of loops; IF1 manual M-170, AGather, FinalValue, Reduce).
use Rattle.std.specs.Prelude.{◌≡◌, ℕ, ◌+◌, ℤ, pos, Bool, true, false, List, [], ◌∷◌, map, take, drop, length}
use Rattle.flow_value.specs.declared.operation.Scalar1.TheVariants as unary
use Rattle.flow_value.specs.declared.value.Val.{Val}
use Rattle.flow_value.specs.declared.value.Val.TheVariants as val
use Rattle.value_ops.specs.Operations.{op_value}
use Rattle.value_ops.specs.declared.operation.Operation.TheVariants as operation
use Rattle.if1_graph.specs.declared.op.Simple.{Simple}
use Rattle.if1_graph.specs.declared.op.Simple.TheVariants as simple
use Rattle.sisal_tree.specs.declared.expr.Direction.{Direction}
use Rattle.loop_folds.specs.declared.folding.Folding.{Folding}
use Rattle.loop_folds.specs.declared.folding.Folding.TheVariants as folding
use Rattle.typed_tree.specs.declared.expr.ClauseForm.{ClauseForm}
use Rattle.meaning.specs.Rows.{span, no_rows, with_rows, made}
use Rattle.graph_meaning.specs.Carried.{Carried, Value, Name}
use Rattle.graph_meaning.specs.NodeValues.{Shape, op, fold_of, gathering, catenation}
use Rattle.graph_meaning.specs.Forms.{columns}
use Rattle.lowering.specs.Loops.{reducer_name, grouping_of, unless_places}

-- how many values clauses have at a place, those of their masks among them
abbrev pub spans : List ClauseForm → ℕ
spans [] = 0
spans (c ∷ cs) = span c.masking + spans cs

-- the Not of each value that is a mask of `unless`
abbrev pub noted : List Bool → List Val → List Val
noted bs [] = []
noted [] vs = vs
noted (true ∷ bs) (v ∷ vs) = op_value (operation.Unary unary.Not) (v ∷ []) ∷ noted bs vs
noted (false ∷ bs) (v ∷ vs) = v ∷ noted bs vs

-- the values of the clauses at a place, as the graph has them
abbrev pub shown : List ClauseForm → List Val → List Carried
shown cs row = map Value (noted (unless_places cs) row)

-- what each clause makes of the multiples of its values and of its mask
abbrev pub folds_of : List ClauseForm → ℤ → List Carried → List Val
folds_of [] lower ms = []
folds_of (c ∷ cs) lower ms = fold_of c.folding lower (take (span c.masking) ms) ∷ folds_of cs lower (drop (span c.masking) ms)

-- each row has so many values
abbrev pub AreWide : ℕ → List (List Val) → Type 0
AreWide n [] = Unit {0}
AreWide n (row ∷ rows) = (length row ≡ n) × AreWide n rows

-- what clauses make of the rows of all places is what their nodes make of the columns of these rows
abbrev pub AreFoldedByColumns : Type 0
AreFoldedByColumns = (cs : List ClauseForm) (lower : ℤ) (rows : List (List Val)) → AreWide (spans cs) rows
    → made lower (with_rows cs (no_rows cs) rows) ≡ folds_of cs lower (columns (spans cs) (map (shown cs) rows))

-- ---- the node of a clause

abbrev pub fold_row : Folding → Direction → Simple
fold_row folding.Array d = simple.AGather
fold_row folding.Stream d = simple.AGather
fold_row folding.Last d = simple.FinalValue
fold_row f d = simple.Reduce (grouping_of d)

-- what fills its ports, by the lower bound and the multiples
abbrev pub fold_operands : Folding → ℤ → List Carried → List Carried
fold_operands folding.Array lower ms = Value (val.Int lower) ∷ ms
fold_operands folding.Stream lower ms = Value (val.Int (pos 1)) ∷ ms
fold_operands folding.Last lower ms = ms
fold_operands f lower ms = Name (reducer_name f) ∷ ms

-- the shape tells streams from arrays
abbrev pub IsShaped : Folding → Shape → Type 0
IsShaped folding.Array s = gathering s ≡ folding.Array
IsShaped folding.Stream s = gathering s ≡ folding.Stream
IsShaped folding.CatenateArrays s = catenation s ≡ folding.CatenateArrays
IsShaped folding.CatenateStreams s = catenation s ≡ folding.CatenateStreams
IsShaped f s = Unit {0}

-- the node of a clause gives what the clause makes of its multiples
abbrev pub AreFoldNodes : Type 0
AreFoldNodes = (f : Folding) (d : Direction) (s : Shape) (lower : ℤ) (ms : List Carried) → IsShaped f s → op (fold_row f d) s (fold_operands f lower ms) ≡ Value (fold_of f lower ms) ∷ []
