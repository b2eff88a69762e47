-- Which types the operands of each operation may have, and the type of its value; what folds make of values of a type.
use Rattle.std.specs.Prelude.{◌≡◌, ◌⊎◌, ◌≤◌, ℕ, ℤ, true, List, [], ◌∷◌, map, length, Some, slice_get}
use Rattle.flow_value.specs.declared.value.Val.{Val}
use Rattle.flow_value.specs.declared.ty.Ty.{Ty}
use Rattle.flow_value.specs.declared.ty.Ty.TheVariants as ty
use Rattle.flow_value.specs.declared.operation.Scalar1.TheVariants as one
use Rattle.flow_value.specs.declared.operation.Scalar2.{Scalar2}
use Rattle.flow_value.specs.declared.operation.Scalar2.TheVariants as two
use Rattle.flow_value.specs.Well.{is_well}
use Rattle.value_ops.specs.Operations.{op_value}
use Rattle.value_ops.specs.declared.operation.Operation.{Operation}
use Rattle.value_ops.specs.declared.operation.Operation.TheVariants as op
use Rattle.loop_folds.specs.Clauses.{Cell, fold_value}
use Rattle.loop_folds.specs.declared.folding.Folding.{Folding}
use Rattle.loop_folds.specs.declared.folding.Folding.TheVariants as folding

abbrev pub Member : Type 0
Member = List ℕ × Ty

-- ---- values

-- the value belongs to the type
abbrev pub Of : Ty → Val → Type 0
Of t v = is_well t v ≡ true

abbrev pub AreOf : List Ty → List Val → Type 0
AreOf [] [] = Unit {0}
AreOf (t ∷ ts) (v ∷ vs) = Of t v × AreOf ts vs
AreOf [] (v ∷ vs) = ⊥
AreOf (t ∷ ts) [] = ⊥

-- ---- rows

abbrev pub IsArithmetic : Scalar2 → Type 0
IsArithmetic two.Equal = ⊥
IsArithmetic two.NotEqual = ⊥
IsArithmetic two.Less = ⊥
IsArithmetic two.LessEqual = ⊥
IsArithmetic _ = Unit {0}

abbrev pub IsEquality : Scalar2 → Type 0
IsEquality f = (f ≡ two.Equal) ⊎ (f ≡ two.NotEqual)

abbrev pub IsOrder : Scalar2 → Type 0
IsOrder f = (f ≡ two.Less) ⊎ (f ≡ two.LessEqual)

abbrev pub IsOrdered : Ty → Type 0
IsOrdered t = (t ≡ ty.Int) ⊎ (t ≡ ty.Char)

abbrev pub IsScalar : Ty → Type 0
IsScalar t = (t ≡ ty.Int) ⊎ ((t ≡ ty.Bool) ⊎ ((t ≡ ty.Char) ⊎ (t ≡ ty.Null)))

abbrev pub AreAll : Ty → List Ty → Type 0
AreAll a [] = Unit {0}
AreAll a (t ∷ ts) = (t ≡ a) × AreAll a ts

-- fields of these types at these places
abbrev pub AreFields : List Member → List ℕ → List Ty → Type 0
AreFields ms [] [] = Unit {0}
AreFields ms (p ∷ ps) (t ∷ ts) = ((name : List ℕ) × (slice_get ms p ≡ Some (name, t))) × AreFields ms ps ts
AreFields ms [] (t ∷ ts) = ⊥
AreFields ms (p ∷ ps) [] = ⊥

-- operands of these types give a value of this type
pub data Row : Operation → List Ty → Ty → Type 0 where
  negated : Row (op.Unary one.Neg) (ty.Int ∷ []) ty.Int
  absolute : Row (op.Unary one.Abs) (ty.Int ∷ []) ty.Int
  inverted : Row (op.Unary one.Not) (ty.Bool ∷ []) ty.Bool
  int_of_int : Row (op.Unary one.Int) (ty.Int ∷ []) ty.Int
  int_of_bool : Row (op.Unary one.Int) (ty.Bool ∷ []) ty.Int
  int_of_char : Row (op.Unary one.Int) (ty.Char ∷ []) ty.Int
  bool_of_bool : Row (op.Unary one.Bool) (ty.Bool ∷ []) ty.Bool
  bool_of_int : Row (op.Unary one.Bool) (ty.Int ∷ []) ty.Bool
  char_of_char : Row (op.Unary one.Char) (ty.Char ∷ []) ty.Char
  char_of_int : Row (op.Unary one.Char) (ty.Int ∷ []) ty.Char
  is_error : (a : Ty) → Row (op.Unary one.IsError) (a ∷ []) ty.Bool
  arithmetic : (f : Scalar2) → IsArithmetic f → Row (op.Binary f) (ty.Int ∷ ty.Int ∷ []) ty.Int
  either : Row (op.Binary two.Plus) (ty.Bool ∷ ty.Bool ∷ []) ty.Bool
  both : Row (op.Binary two.Times) (ty.Bool ∷ ty.Bool ∷ []) ty.Bool
  equality : (f : Scalar2) (a : Ty) → IsEquality f → IsScalar a → Row (op.Binary f) (a ∷ a ∷ []) ty.Bool
  order : (f : Scalar2) (a : Ty) → IsOrder f → IsOrdered a → Row (op.Binary f) (a ∷ a ∷ []) ty.Bool
  swapped : (f : Scalar2) (a : Ty) → IsOrder f → IsOrdered a → Row (op.Swapped f) (a ∷ a ∷ []) ty.Bool
  an_error : (a : Ty) → Row op.Error [] a
  array : (a : Ty) (tys : List Ty) → AreAll a tys → Row op.Array (ty.Int ∷ tys) (ty.Arr a)
  empty_array : (a : Ty) → Row op.EmptyArray [] (ty.Arr a)
  stream : (a : Ty) (tys : List Ty) → AreAll a tys → Row op.Stream tys (ty.Stream a)
  fill : (a : Ty) → Row op.Fill (ty.Int ∷ ty.Int ∷ a ∷ []) (ty.Arr a)
  element : (a : Ty) → Row op.Element (ty.Arr a ∷ ty.Int ∷ []) a
  update : (a : Ty) → Row op.Update (ty.Arr a ∷ ty.Int ∷ a ∷ []) (ty.Arr a)
  add_high : (a : Ty) → Row op.AddHigh (ty.Arr a ∷ a ∷ []) (ty.Arr a)
  append : (a : Ty) → Row op.AddHigh (ty.Stream a ∷ a ∷ []) (ty.Stream a)
  add_low : (a : Ty) → Row op.AddLow (ty.Arr a ∷ a ∷ []) (ty.Arr a)
  remove_high : (a : Ty) → Row op.RemoveHigh (ty.Arr a ∷ []) (ty.Arr a)
  remove_low : (a : Ty) → Row op.RemoveLow (ty.Arr a ∷ []) (ty.Arr a)
  set_low : (a : Ty) → Row op.SetLow (ty.Arr a ∷ ty.Int ∷ []) (ty.Arr a)
  adjust : (a : Ty) → Row op.Adjust (ty.Arr a ∷ ty.Int ∷ ty.Int ∷ []) (ty.Arr a)
  limit_low : (a : Ty) → Row op.LimitLow (ty.Arr a ∷ []) ty.Int
  limit_high : (a : Ty) → Row op.LimitHigh (ty.Arr a ∷ []) ty.Int
  size : (a : Ty) → Row op.Size (ty.Arr a ∷ []) ty.Int
  length_of : (a : Ty) → Row op.Size (ty.Stream a ∷ []) ty.Int
  is_empty : (a : Ty) → Row op.IsEmpty (ty.Stream a ∷ []) ty.Bool
  is_empty_array : (a : Ty) → Row op.IsEmpty (ty.Arr a ∷ []) ty.Bool
  first : (a : Ty) → Row op.First (ty.Stream a ∷ []) a
  rest : (a : Ty) → Row op.Rest (ty.Stream a ∷ []) (ty.Stream a)
  catenate_arrays : (a : Ty) (tys : List Ty) → AreAll (ty.Arr a) tys → Row op.Catenate (ty.Arr a ∷ tys) (ty.Arr a)
  catenate_streams : (a : Ty) (tys : List Ty) → AreAll (ty.Stream a) tys → Row op.Catenate (ty.Stream a ∷ tys) (ty.Stream a)
  -- a record of at most as many fields as an aggregate may have elements
  a_record : (ms : List Member) → length ms ≤ 4194304 → Row op.Record (map (λ m. m.1) ms) (ty.Rec ms)
  union : (ms : List Member) (tag : ℕ) (m : Member) → slice_get ms tag ≡ Some m → Row (op.Union tag) (m.1 ∷ []) (ty.Uni ms)
  field : (ms : List Member) (place : ℕ) (m : Member) → slice_get ms place ≡ Some m → Row (op.Field place) (ty.Rec ms ∷ []) m.1
  change : (ms : List Member) (places : List ℕ) (tys : List Ty) → AreFields ms places tys → Row (op.Change places) (ty.Rec ms ∷ tys) (ty.Rec ms)
  is_tag : (ms : List Member) (tag : ℕ) (m : Member) → slice_get ms tag ≡ Some m → Row (op.IsTag tag) (ty.Uni ms ∷ []) ty.Bool

-- ---- folds

-- what is made of values of a type
pub data Makes : Folding → Ty → Ty → Type 0 where
  makes_array : (a : Ty) → Makes folding.Array a (ty.Arr a)
  makes_stream : (a : Ty) → Makes folding.Stream a (ty.Stream a)
  makes_last : (a : Ty) → Makes folding.Last a a
  makes_sum : Makes folding.Sum ty.Int ty.Int
  makes_product : Makes folding.Product ty.Int ty.Int
  makes_least : Makes folding.Least ty.Int ty.Int
  makes_greatest : Makes folding.Greatest ty.Int ty.Int
  makes_arrays : (a : Ty) → Makes folding.CatenateArrays (ty.Arr a) (ty.Arr a)
  makes_streams : (a : Ty) → Makes folding.CatenateStreams (ty.Stream a) (ty.Stream a)

-- each value that is folded, kept or not, is of this type
abbrev pub CellsOf : Ty → List Cell → Type 0
CellsOf a [] = Unit {0}
CellsOf a (x ∷ xs) = Of a x.0 × CellsOf a xs

-- ---- the laws

-- operands of the types of a row give a value of its type
abbrev pub AreRowsWell : Type 0
AreRowsWell = (o : Operation) (tys : List Ty) (a : Ty) → Row o tys a → (vs : List Val) → AreOf tys vs → Of a (op_value o vs)

-- values of a type are folded into a value of what is made of them
abbrev pub AreFoldsWell : Type 0
AreFoldsWell = (f : Folding) (a b : Ty) → Makes f a b → (lower : ℤ) (cells : List Cell) → CellsOf a cells → Of b (fold_value f lower cells)
