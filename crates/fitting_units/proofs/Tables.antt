-- The tables from the typing rules of operators, conversions, built-in calls and clauses to rows and folds.
use Rattle.std.proofs.Common.{◌≡◌, inl, inr, List, [], ◌∷◌, refl, sym, subst, rules}
use Rattle.flow_value.specs.declared.ty.Ty.{Ty}
use Rattle.flow_value.specs.declared.ty.Ty.TheVariants as ty
use Rattle.flow_value.specs.declared.ty.Ty.TheOpen.{Ty-F}
use Rattle.flow_value.specs.declared.ty.Ty.TheViews as types
use Rattle.flow_value.specs.declared.ty.Ty.TheViews.{out-Ty}
use Rattle.flow_value.specs.declared.operation.Scalar1.TheVariants as one
use Rattle.flow_value.specs.declared.operation.Scalar2.TheVariants as two
use Rattle.sisal_tree.specs.declared.expr.BinaryOperator.{BinaryOperator}
use Rattle.sisal_tree.specs.declared.expr.BinaryOperator.TheVariants as binary
use Rattle.sisal_tree.specs.declared.expr.PrefixOperator.{PrefixOperator}
use Rattle.sisal_tree.specs.declared.expr.PrefixOperator.TheVariants as prefix
use Rattle.sisal_tree.specs.declared.expr.Scalar.{Scalar}
use Rattle.sisal_tree.specs.declared.expr.Scalar.TheVariants as scalar
use Rattle.sisal_tree.specs.declared.expr.ClauseKind.{ClauseKind}
use Rattle.value_ops.specs.declared.operation.Operation.TheVariants as op
use Rattle.typed_tree.specs.declared.built_in.BuiltIn.{BuiltIn}
use Rattle.typed_tree.specs.Types.{AreOperands, binary_type, Gives, IsConverted, scalar_type, prefix_type, Makes}
use Rattle.typed_tree.specs.Types as rule
use Rattle.typed_tree.specs.Operations.{binary_operation, built_in_operation, prefix_operation, convert_operation, folding_of, catenation_of}
use Rattle.fitting_trees.specs.Fitting.{Row}
use Rattle.fitting_trees.specs.Fitting as is

-- ---- rows, a table each

pub operands_row : (o : BinaryOperator) (a : Ty) → AreOperands o a → Row (binary_operation o) (a ∷ a ∷ []) (binary_type o a)
operands_row binary.Or a h = subst (λ a. Row (op.Binary two.Plus) (a ∷ a ∷ []) ty.Bool) (sym h) is.either
operands_row binary.And a h = subst (λ a. Row (op.Binary two.Times) (a ∷ a ∷ []) ty.Bool) (sym h) is.both
operands_row binary.Equal a h = is.equality two.Equal a (inl refl) h
operands_row binary.NotEqual a h = is.equality two.NotEqual a (inr refl) h
operands_row binary.Less a h = is.order two.Less a (inl refl) h
operands_row binary.LessEqual a h = is.order two.LessEqual a (inr refl) h
operands_row binary.Greater a h = is.swapped two.Less a (inl refl) h
operands_row binary.GreaterEqual a h = is.swapped two.LessEqual a (inr refl) h
operands_row binary.Catenate a (element, inl e) = subst (λ a. Row op.Catenate (a ∷ a ∷ []) a) (sym e) (is.catenate_arrays element)
operands_row binary.Catenate a (element, inr e) = subst (λ a. Row op.Catenate (a ∷ a ∷ []) a) (sym e) (is.catenate_streams element)
operands_row binary.Plus a h = subst (λ a. Row (op.Binary two.Plus) (a ∷ a ∷ []) ty.Int) (sym h) (is.arithmetic two.Plus tt)
operands_row binary.Minus a h = subst (λ a. Row (op.Binary two.Minus) (a ∷ a ∷ []) ty.Int) (sym h) (is.arithmetic two.Minus tt)
operands_row binary.Times a h = subst (λ a. Row (op.Binary two.Times) (a ∷ a ∷ []) ty.Int) (sym h) (is.arithmetic two.Times tt)
operands_row binary.Divide a h = subst (λ a. Row (op.Binary two.Div) (a ∷ a ∷ []) ty.Int) (sym h) (is.arithmetic two.Div tt)

pub built_in_row : (b : BuiltIn) (tys : List Ty) (a : Ty) → Gives b tys a → Row (built_in_operation b) tys a
built_in_row _ _ _ rule.a_mod = is.arithmetic two.Mod tt
built_in_row _ _ _ rule.an_abs = is.absolute
built_in_row _ _ _ rule.a_max = is.arithmetic two.Max tt
built_in_row _ _ _ rule.a_min = is.arithmetic two.Min tt
built_in_row _ _ _ (rule.array_fill e) = is.fill e
built_in_row _ _ _ (rule.array_addh e) = is.add_high e
built_in_row _ _ _ (rule.array_addl e) = is.add_low e
built_in_row _ _ _ (rule.array_remh e) = is.remove_high e
built_in_row _ _ _ (rule.array_reml e) = is.remove_low e
built_in_row _ _ _ (rule.array_setl e) = is.set_low e
built_in_row _ _ _ (rule.array_adjust e) = is.adjust e
built_in_row _ _ _ (rule.array_liml e) = is.limit_low e
built_in_row _ _ _ (rule.array_limh e) = is.limit_high e
built_in_row _ _ _ (rule.array_size e) = is.size e
built_in_row _ _ _ (rule.stream_append e) = is.append e
built_in_row _ _ _ (rule.stream_size e) = is.length_of e
built_in_row _ _ _ (rule.stream_empty e) = is.is_empty e
built_in_row _ _ _ (rule.stream_first e) = is.first e
built_in_row _ _ _ (rule.stream_rest e) = is.rest e

pub prefix_row : (o : PrefixOperator) → Row (prefix_operation o) (prefix_type o ∷ []) (prefix_type o)
prefix_row prefix.Negate = is.negated
prefix_row prefix.Not = is.inverted

pub convert_row : (c : Scalar) (a : Ty) → IsConverted c a → Row (convert_operation c) (a ∷ []) (scalar_type c)
convert_row scalar.Integer a (inl e) = subst (λ a. Row (op.Unary one.Int) (a ∷ []) ty.Int) (sym e) is.int_of_int
convert_row scalar.Integer a (inr (inl e)) = subst (λ a. Row (op.Unary one.Int) (a ∷ []) ty.Int) (sym e) is.int_of_bool
convert_row scalar.Integer a (inr (inr e)) = subst (λ a. Row (op.Unary one.Int) (a ∷ []) ty.Int) (sym e) is.int_of_char
convert_row scalar.Boolean a (inl e) = subst (λ a. Row (op.Unary one.Bool) (a ∷ []) ty.Bool) (sym e) is.bool_of_bool
convert_row scalar.Boolean a (inr e) = subst (λ a. Row (op.Unary one.Bool) (a ∷ []) ty.Bool) (sym e) is.bool_of_int
convert_row scalar.Character a (inl e) = subst (λ a. Row (op.Unary one.Char) (a ∷ []) ty.Char) (sym e) is.char_of_char
convert_row scalar.Character a (inr e) = subst (λ a. Row (op.Unary one.Char) (a ∷ []) ty.Char) (sym e) is.char_of_int

out_arr : (a : Ty) → out-Ty (ty.Arr a) ≡ Ty-F.Arr a
out_arr a = search (rules, types.the_lemmas)

out_stream : (a : Ty) → out-Ty (ty.Stream a) ≡ Ty-F.Stream a
out_stream a = search (rules, types.the_lemmas)

pub makes_folding : (kind : ClauseKind) (a b : Ty) → Makes kind a b → is.Makes (folding_of kind a) a b
makes_folding _ _ _ (rule.array_of e) = is.makes_array e
makes_folding _ _ _ (rule.stream_of e) = is.makes_stream e
makes_folding _ a _ rule.value_of = is.makes_last a
makes_folding _ _ _ rule.sum = is.makes_sum
makes_folding _ _ _ rule.product = is.makes_product
makes_folding _ _ _ rule.least = is.makes_least
makes_folding _ _ _ rule.greatest = is.makes_greatest
makes_folding _ _ _ (rule.catenate_arrays e) = subst (λ y. is.Makes (catenation_of y) (ty.Arr e) (ty.Arr e)) (sym (out_arr e)) (is.makes_arrays e)
makes_folding _ _ _ (rule.catenate_streams e) = subst (λ y. is.Makes (catenation_of y) (ty.Stream e) (ty.Stream e)) (sym (out_stream e)) (is.makes_streams e)
