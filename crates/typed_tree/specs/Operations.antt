-- The operation that an operator, a conversion or a call that is built in stands for (SISAL Language Reference Manual 1.2,
-- operations), and what a clause makes of its values. On booleans `|` is the sum and `&` the product.
use Rattle.std.specs.Prelude.{Option, Some, None, if◌then◌else◌}
use Rattle.loop_folds.specs.Ty.{Ty, out-Ty}
use Rattle.loop_folds.specs.Ty.TheOpen.{Ty-F}
use Rattle.loop_folds.specs.Scalar1.TheVariants as unary
use Rattle.loop_folds.specs.Scalar2.TheVariants as two
use Rattle.sisal_tree.specs.declared.expr.PrefixOperator.{PrefixOperator}
use Rattle.sisal_tree.specs.declared.expr.PrefixOperator.TheVariants as prefix
use Rattle.sisal_tree.specs.declared.expr.BinaryOperator.{BinaryOperator}
use Rattle.sisal_tree.specs.declared.expr.BinaryOperator.TheVariants as binary
use Rattle.sisal_tree.specs.declared.expr.Scalar.{Scalar}
use Rattle.sisal_tree.specs.declared.expr.Scalar.TheVariants as scalar
use Rattle.sisal_tree.specs.declared.expr.ClauseKind.{ClauseKind}
use Rattle.sisal_tree.specs.declared.expr.ClauseKind.TheVariants as made
use Rattle.sisal_tree.specs.declared.expr.Direction.{Direction}
use Rattle.sisal_tree.specs.declared.expr.Direction.TheVariants as towards
use Rattle.sisal_tree.specs.declared.expr.Reduction.TheVariants as reduction
use Rattle.sisal_tree.specs.declared.expr.Mask.{Mask}
use Rattle.value_ops.specs.declared.operation.Operation.{Operation}
use Rattle.value_ops.specs.declared.operation.Operation.TheVariants as operation
use Rattle.loop_folds.specs.declared.folding.Folding.{Folding}
use Rattle.loop_folds.specs.declared.folding.Folding.TheVariants as folding
use Rattle.loop_folds.specs.declared.masking.Masking.{Masking}
use Rattle.loop_folds.specs.declared.masking.Masking.TheVariants as masking
use Rattle.typed_tree.specs.declared.built_in.BuiltIn.{BuiltIn}
use Rattle.typed_tree.specs.declared.built_in.BuiltIn.TheVariants as call
use Rattle.typed_tree.specs.declared.expr.ClauseForm.{ClauseForm}

abbrev pub prefix_operation : PrefixOperator → Operation
prefix_operation prefix.Negate = operation.Unary unary.Neg
prefix_operation prefix.Not = operation.Unary unary.Not

abbrev pub binary_operation : BinaryOperator → Operation
binary_operation binary.Or = operation.Binary two.Plus
binary_operation binary.And = operation.Binary two.Times
binary_operation binary.Equal = operation.Binary two.Equal
binary_operation binary.NotEqual = operation.Binary two.NotEqual
binary_operation binary.Less = operation.Binary two.Less
binary_operation binary.LessEqual = operation.Binary two.LessEqual
binary_operation binary.Greater = operation.Swapped two.Less
binary_operation binary.GreaterEqual = operation.Swapped two.LessEqual
binary_operation binary.Catenate = operation.Catenate
binary_operation binary.Plus = operation.Binary two.Plus
binary_operation binary.Minus = operation.Binary two.Minus
binary_operation binary.Times = operation.Binary two.Times
binary_operation binary.Divide = operation.Binary two.Div

abbrev pub convert_operation : Scalar → Operation
convert_operation scalar.Integer = operation.Unary unary.Int
convert_operation scalar.Boolean = operation.Unary unary.Bool
convert_operation scalar.Character = operation.Unary unary.Char

abbrev pub built_in_operation : BuiltIn → Operation
built_in_operation call.Mod = operation.Binary two.Mod
built_in_operation call.Abs = operation.Unary unary.Abs
built_in_operation call.Max = operation.Binary two.Max
built_in_operation call.Min = operation.Binary two.Min
built_in_operation call.ArrayFill = operation.Fill
built_in_operation call.ArrayAddHigh = operation.AddHigh
built_in_operation call.ArrayAddLow = operation.AddLow
built_in_operation call.ArrayRemoveHigh = operation.RemoveHigh
built_in_operation call.ArrayRemoveLow = operation.RemoveLow
built_in_operation call.ArraySetLow = operation.SetLow
built_in_operation call.ArrayAdjust = operation.Adjust
built_in_operation call.ArrayLimitLow = operation.LimitLow
built_in_operation call.ArrayLimitHigh = operation.LimitHigh
built_in_operation call.ArraySize = operation.Size
built_in_operation call.StreamAppend = operation.AddHigh
built_in_operation call.StreamSize = operation.Size
built_in_operation call.StreamEmpty = operation.IsEmpty
built_in_operation call.StreamFirst = operation.First
built_in_operation call.StreamRest = operation.Rest

-- ---- clauses

-- what `catenate` goes over
abbrev pub catenation_of : Ty-F Ty → Folding
catenation_of (Ty-F.Stream e) = folding.CatenateStreams
catenation_of _ = folding.CatenateArrays

-- what a clause makes of values of a type
abbrev pub folding_of : ClauseKind → Ty → Folding
folding_of made.Array t = folding.Array
folding_of made.Stream t = folding.Stream
folding_of made.Last t = folding.Last
folding_of (made.Reduce d reduction.Sum) t = folding.Sum
folding_of (made.Reduce d reduction.Product) t = folding.Product
folding_of (made.Reduce d reduction.Least) t = folding.Least
folding_of (made.Reduce d reduction.Greatest) t = folding.Greatest
folding_of (made.Reduce d reduction.Catenate) t = catenation_of (out-Ty t)

abbrev pub direction_of : ClauseKind → Direction
direction_of (made.Reduce d r) = d
direction_of _ = towards.Any

abbrev pub masking_of : Option Mask → Masking
masking_of None = masking.All
masking_of (Some m) = if m.is_unless then masking.Unless else masking.When

-- a clause over values of a type
abbrev pub clause_form : ClauseKind → Ty → Option Mask → ClauseForm
clause_form kind t m = record { folding = folding_of kind t; direction = direction_of kind; masking = masking_of m }
