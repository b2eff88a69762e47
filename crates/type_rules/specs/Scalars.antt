-- What forms over operands of basic types make, by the numbers of types (SISAL Language Reference Manual 1.2, operations).
use Rattle.std.specs.Prelude.{ℕ, Bool, ◌||◌, List, [], ◌∷◌, Option, Some, None, nat_eq, is_some, if◌then◌else◌}
use Rattle.sisal_tree.specs.declared.expr.BinaryOperator.{BinaryOperator}
use Rattle.sisal_tree.specs.declared.expr.BinaryOperator.TheVariants as binary
use Rattle.sisal_tree.specs.declared.expr.PrefixOperator.{PrefixOperator}
use Rattle.sisal_tree.specs.declared.expr.PrefixOperator.TheVariants as prefix
use Rattle.sisal_tree.specs.declared.expr.Scalar.{Scalar}
use Rattle.sisal_tree.specs.declared.expr.Scalar.TheVariants as scalar
use Rattle.flow_value.specs.declared.operation.Scalar1.TheVariants as unary
use Rattle.value_ops.specs.declared.operation.Operation.TheVariants as operation
use Rattle.typed_tree.specs.Operations.{prefix_operation, binary_operation, convert_operation}
use Rattle.type_table.specs.declared.form.Form.{Form}
use Rattle.type_rules.specs.declared.head.Outcome.{Outcome}
use Rattle.type_rules.specs.Parts.{boolean, character, integer, null, sequence_at, there}

abbrev pub error_of : ℕ → List ℕ → Option Outcome
error_of n [] = Some (there operation.Error n)
error_of n _ = None

abbrev pub errs : List ℕ → Option Outcome
errs (a ∷ []) = Some (there (operation.Unary unary.IsError) boolean)
errs _ = None

-- ---- conversions

abbrev pub scalar_number : Scalar → ℕ
scalar_number scalar.Integer = integer
scalar_number scalar.Boolean = boolean
scalar_number scalar.Character = character

abbrev pub is_converted : Scalar → ℕ → Bool
is_converted scalar.Integer a = nat_eq a integer || (nat_eq a boolean || nat_eq a character)
is_converted scalar.Boolean a = nat_eq a boolean || nat_eq a integer
is_converted scalar.Character a = nat_eq a character || nat_eq a integer

abbrev pub converts : Scalar → List ℕ → Option Outcome
converts to (a ∷ []) = if is_converted to a then Some (there (convert_operation to) (scalar_number to)) else None
converts to _ = None

-- ---- operators

abbrev pub prefix_number : PrefixOperator → ℕ
prefix_number prefix.Negate = integer
prefix_number prefix.Not = boolean

abbrev pub prefixed : PrefixOperator → List ℕ → Option Outcome
prefixed o (a ∷ []) = if nat_eq a (prefix_number o) then Some (there (prefix_operation o) (prefix_number o)) else None
prefixed o _ = None

abbrev pub is_scalar : ℕ → Bool
is_scalar a = nat_eq a integer || (nat_eq a boolean || (nat_eq a character || nat_eq a null))

abbrev pub is_ordered : ℕ → Bool
is_ordered a = nat_eq a integer || nat_eq a character

-- what two operands of one type may be
abbrev pub are_operands : List Form → BinaryOperator → ℕ → Bool
are_operands forms binary.Or a = nat_eq a boolean
are_operands forms binary.And a = nat_eq a boolean
are_operands forms binary.Equal a = is_scalar a
are_operands forms binary.NotEqual a = is_scalar a
are_operands forms binary.Less a = is_ordered a
are_operands forms binary.LessEqual a = is_ordered a
are_operands forms binary.Greater a = is_ordered a
are_operands forms binary.GreaterEqual a = is_ordered a
are_operands forms binary.Catenate a = is_some (sequence_at forms a)
are_operands forms binary.Plus a = nat_eq a integer
are_operands forms binary.Minus a = nat_eq a integer
are_operands forms binary.Times a = nat_eq a integer
are_operands forms binary.Divide a = nat_eq a integer

abbrev pub binary_number : BinaryOperator → ℕ → ℕ
binary_number binary.Catenate a = a
binary_number binary.Plus a = integer
binary_number binary.Minus a = integer
binary_number binary.Times a = integer
binary_number binary.Divide a = integer
binary_number _ a = boolean

abbrev pub combines : List Form → BinaryOperator → List ℕ → Option Outcome
combines forms o (a ∷ b ∷ []) =
    if nat_eq a b then (if are_operands forms o a then Some (there (binary_operation o) (binary_number o a)) else None) else None
combines forms o _ = None
