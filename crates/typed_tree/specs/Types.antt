-- What operators, calls that are built in, and clauses want and give (SISAL Language Reference Manual 1.2, operations).
use Rattle.std.specs.Prelude.{◌≡◌, ℕ, zero, suc, ◌≤◌, List, [], ◌∷◌, max, ◌⊎◌, Some, slice_get}
use Rattle.loop_folds.specs.Ty.{Ty}
use Rattle.loop_folds.specs.Ty.TheVariants as ty
use Rattle.loop_folds.specs.Ty.TheOpen.{Ty-F}
use Rattle.loop_folds.specs.Ty.TheFolds.{fold-Ty}
use Rattle.type_table.specs.declared.form.Form.{Form}
use Rattle.type_table.specs.declared.form.Form.TheVariants as form
use Rattle.type_table.specs.declared.form.Member.{Member as NumberedMember}
use Rattle.sisal_tree.specs.declared.expr.BinaryOperator.{BinaryOperator}
use Rattle.sisal_tree.specs.declared.expr.BinaryOperator.TheVariants as binary
use Rattle.sisal_tree.specs.declared.expr.PrefixOperator.{PrefixOperator}
use Rattle.sisal_tree.specs.declared.expr.PrefixOperator.TheVariants as prefix
use Rattle.sisal_tree.specs.declared.expr.Scalar.{Scalar}
use Rattle.sisal_tree.specs.declared.expr.Scalar.TheVariants as scalar
use Rattle.sisal_tree.specs.declared.expr.Constant.{Constant}
use Rattle.sisal_tree.specs.declared.expr.Constant.TheVariants as constant
use Rattle.sisal_tree.specs.declared.expr.ClauseKind.{ClauseKind}
use Rattle.sisal_tree.specs.declared.expr.ClauseKind.TheVariants as made
use Rattle.sisal_tree.specs.declared.expr.Direction.{Direction}
use Rattle.sisal_tree.specs.declared.expr.Reduction.TheVariants as reduction
use Rattle.typed_tree.specs.declared.built_in.BuiltIn.{BuiltIn}
use Rattle.typed_tree.specs.declared.built_in.BuiltIn.TheVariants as call

-- ---- types

-- a field or tag: its name as it is spelled, and its type
abbrev pub Member : Type 0
Member = List ℕ × Ty

-- the field or tag of a name, by its place
abbrev pub IsMember : List Member → List ℕ → ℕ → Ty → Type 0
IsMember members name place t = slice_get members place ≡ Some (name, t)

-- an array or a stream of these elements
abbrev pub IsSequence : Ty → Ty → Type 0
IsSequence t element = (t ≡ ty.Arr element) ⊎ (t ≡ ty.Stream element)

abbrev pub IsScalar : Ty → Type 0
IsScalar t = (t ≡ ty.Int) ⊎ ((t ≡ ty.Bool) ⊎ ((t ≡ ty.Char) ⊎ (t ≡ ty.Null)))

abbrev pub deepest : List (List ℕ × ℕ) → ℕ
deepest [] = 0
deepest (m ∷ ms) = max m.1 (deepest ms)

-- a basic type has depth 1, another one 1 more than its deepest part
abbrev pub depth_step : Ty-F ℕ → ℕ
depth_step (Ty-F.Arr d) = suc d
depth_step (Ty-F.Stream d) = suc d
depth_step (Ty-F.Rec ms) = suc (deepest ms)
depth_step (Ty-F.Uni ms) = suc (deepest ms)
depth_step _ = 1

abbrev pub depth_of : Ty → ℕ
depth_of = fold-Ty ℕ depth_step

-- types may be at most 64 deep
abbrev pub IsShallow : Ty → Type 0
IsShallow t = depth_of t ≤ 64

-- ---- types by number

mutual
  -- the type that a number of the table stands for
  pub data IsNumber (forms : List Form) (spellings : List (List ℕ)) : ℕ → Ty → Type 0 where
    boolean : {n : ℕ} → slice_get forms n ≡ Some form.Boolean → IsNumber forms spellings n ty.Bool
    character : {n : ℕ} → slice_get forms n ≡ Some form.Character → IsNumber forms spellings n ty.Char
    integer : {n : ℕ} → slice_get forms n ≡ Some form.Integer → IsNumber forms spellings n ty.Int
    null : {n : ℕ} → slice_get forms n ≡ Some form.Null → IsNumber forms spellings n ty.Null
    array : {n m : ℕ} {t : Ty} → slice_get forms n ≡ Some (form.Array m) → IsNumber forms spellings m t → IsNumber forms spellings n (ty.Arr t)
    stream : {n m : ℕ} {t : Ty} → slice_get forms n ≡ Some (form.Stream m) → IsNumber forms spellings m t → IsNumber forms spellings n (ty.Stream t)
    a_record : {n : ℕ} {ms : List NumberedMember} {fs : List Member} → slice_get forms n ≡ Some (form.Record ms)
        → AreMembers forms spellings ms fs → IsNumber forms spellings n (ty.Rec fs)
    a_union : {n : ℕ} {ms : List NumberedMember} {fs : List Member} → slice_get forms n ≡ Some (form.Union ms)
        → AreMembers forms spellings ms fs → IsNumber forms spellings n (ty.Uni fs)

  pub data AreMembers (forms : List Form) (spellings : List (List ℕ)) : List NumberedMember → List Member → Type 0 where
    no_member : AreMembers forms spellings [] []
    a_member : {x n : ℕ} {name : List ℕ} {t : Ty} {ms : List NumberedMember} {fs : List Member}
        → slice_get spellings x ≡ Some name → IsNumber forms spellings n t → AreMembers forms spellings ms fs
        → AreMembers forms spellings (record { name = x; ty = n } ∷ ms) ((name, t) ∷ fs)

-- numbers of these types, in order
abbrev pub AreNumbers : List Form → List (List ℕ) → List ℕ → List Ty → Type 0
AreNumbers forms spellings [] [] = Unit {0}
AreNumbers forms spellings (n ∷ ns) (t ∷ ts) = IsNumber forms spellings n t × AreNumbers forms spellings ns ts
AreNumbers forms spellings _ _ = ⊥

-- ---- constants and operators

abbrev pub constant_type : Constant → Ty
constant_type (constant.Integer n) = ty.Int
constant_type (constant.Letter c) = ty.Char
constant_type (constant.Quoted s) = ty.Arr ty.Char
constant_type constant.True = ty.Bool
constant_type constant.False = ty.Bool
constant_type constant.Nil = ty.Null

abbrev pub scalar_type : Scalar → Ty
scalar_type scalar.Integer = ty.Int
scalar_type scalar.Boolean = ty.Bool
scalar_type scalar.Character = ty.Char

-- what may be converted to a type
abbrev pub IsConverted : Scalar → Ty → Type 0
IsConverted scalar.Integer t = (t ≡ ty.Int) ⊎ ((t ≡ ty.Bool) ⊎ (t ≡ ty.Char))
IsConverted scalar.Boolean t = (t ≡ ty.Bool) ⊎ (t ≡ ty.Int)
IsConverted scalar.Character t = (t ≡ ty.Char) ⊎ (t ≡ ty.Int)

-- the type of the operand and of the result
abbrev pub prefix_type : PrefixOperator → Ty
prefix_type prefix.Negate = ty.Int
prefix_type prefix.Not = ty.Bool

-- what two operands of one type may be
abbrev pub AreOperands : BinaryOperator → Ty → Type 0
AreOperands binary.Or t = t ≡ ty.Bool
AreOperands binary.And t = t ≡ ty.Bool
AreOperands binary.Equal t = IsScalar t
AreOperands binary.NotEqual t = IsScalar t
AreOperands binary.Less t = (t ≡ ty.Int) ⊎ (t ≡ ty.Char)
AreOperands binary.LessEqual t = (t ≡ ty.Int) ⊎ (t ≡ ty.Char)
AreOperands binary.Greater t = (t ≡ ty.Int) ⊎ (t ≡ ty.Char)
AreOperands binary.GreaterEqual t = (t ≡ ty.Int) ⊎ (t ≡ ty.Char)
AreOperands binary.Catenate t = (element : Ty) × IsSequence t element
AreOperands binary.Plus t = t ≡ ty.Int
AreOperands binary.Minus t = t ≡ ty.Int
AreOperands binary.Times t = t ≡ ty.Int
AreOperands binary.Divide t = t ≡ ty.Int

-- the type of the result, by that of the operands
abbrev pub binary_type : BinaryOperator → Ty → Ty
binary_type binary.Catenate t = t
binary_type binary.Plus t = ty.Int
binary_type binary.Minus t = ty.Int
binary_type binary.Times t = ty.Int
binary_type binary.Divide t = ty.Int
binary_type _ t = ty.Bool

-- ---- calls that are built in

-- these types of operands give this type
pub data Gives : BuiltIn → List Ty → Ty → Type 0 where
  a_mod : Gives call.Mod (ty.Int ∷ ty.Int ∷ []) ty.Int
  an_abs : Gives call.Abs (ty.Int ∷ []) ty.Int
  a_max : Gives call.Max (ty.Int ∷ ty.Int ∷ []) ty.Int
  a_min : Gives call.Min (ty.Int ∷ ty.Int ∷ []) ty.Int
  array_fill : (e : Ty) → Gives call.ArrayFill (ty.Int ∷ ty.Int ∷ e ∷ []) (ty.Arr e)
  array_addh : (e : Ty) → Gives call.ArrayAddHigh (ty.Arr e ∷ e ∷ []) (ty.Arr e)
  array_addl : (e : Ty) → Gives call.ArrayAddLow (ty.Arr e ∷ e ∷ []) (ty.Arr e)
  array_remh : (e : Ty) → Gives call.ArrayRemoveHigh (ty.Arr e ∷ []) (ty.Arr e)
  array_reml : (e : Ty) → Gives call.ArrayRemoveLow (ty.Arr e ∷ []) (ty.Arr e)
  array_setl : (e : Ty) → Gives call.ArraySetLow (ty.Arr e ∷ ty.Int ∷ []) (ty.Arr e)
  array_adjust : (e : Ty) → Gives call.ArrayAdjust (ty.Arr e ∷ ty.Int ∷ ty.Int ∷ []) (ty.Arr e)
  array_liml : (e : Ty) → Gives call.ArrayLimitLow (ty.Arr e ∷ []) ty.Int
  array_limh : (e : Ty) → Gives call.ArrayLimitHigh (ty.Arr e ∷ []) ty.Int
  array_size : (e : Ty) → Gives call.ArraySize (ty.Arr e ∷ []) ty.Int
  stream_append : (e : Ty) → Gives call.StreamAppend (ty.Stream e ∷ e ∷ []) (ty.Stream e)
  stream_size : (e : Ty) → Gives call.StreamSize (ty.Stream e ∷ []) ty.Int
  stream_empty : (e : Ty) → Gives call.StreamEmpty (ty.Stream e ∷ []) ty.Bool
  stream_first : (e : Ty) → Gives call.StreamFirst (ty.Stream e ∷ []) e
  stream_rest : (e : Ty) → Gives call.StreamRest (ty.Stream e ∷ []) (ty.Stream e)

-- ---- clauses

-- a clause over values of a type makes this type
pub data Makes : ClauseKind → Ty → Ty → Type 0 where
  array_of : (e : Ty) → Makes made.Array e (ty.Arr e)
  stream_of : (e : Ty) → Makes made.Stream e (ty.Stream e)
  value_of : {e : Ty} → Makes made.Last e e
  sum : {d : Direction} → Makes (made.Reduce d reduction.Sum) ty.Int ty.Int
  product : {d : Direction} → Makes (made.Reduce d reduction.Product) ty.Int ty.Int
  least : {d : Direction} → Makes (made.Reduce d reduction.Least) ty.Int ty.Int
  greatest : {d : Direction} → Makes (made.Reduce d reduction.Greatest) ty.Int ty.Int
  catenate_arrays : {d : Direction} (e : Ty) → Makes (made.Reduce d reduction.Catenate) (ty.Arr e) (ty.Arr e)
  catenate_streams : {d : Direction} (e : Ty) → Makes (made.Reduce d reduction.Catenate) (ty.Stream e) (ty.Stream e)

-- the clauses of `for G1 cross G2 ..` are of the same kinds over the results of the inner ones
pub data MakesThrough (kind : ClauseKind) : ℕ → Ty → Ty → Type 0 where
  no_group : {t : Ty} → MakesThrough kind zero t t
  through : {groups : ℕ} {t inner made : Ty} → Makes kind t inner → MakesThrough kind groups inner made → MakesThrough kind (suc groups) t made
