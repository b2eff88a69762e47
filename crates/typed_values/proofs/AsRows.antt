-- The rows and folds of fitting trees are rows and folds of the laws on typed values.
use Rattle.std.proofs.Common.{ℕ, List, [], ◌∷◌, refl}
use Rattle.flow_value.specs.declared.ty.Ty.{Ty}
use Rattle.flow_value.specs.declared.ty.Ty.TheVariants as ty
use Rattle.flow_value.specs.declared.operation.Scalar2.{Scalar2}
use Rattle.flow_value.specs.declared.operation.Scalar2.TheVariants as two
use Rattle.value_ops.specs.declared.operation.Operation.{Operation}
use Rattle.loop_folds.specs.declared.folding.Folding.{Folding}
use Rattle.typed_tree.specs.Types.{Member}
use Rattle.fitting_units.specs.Fitting.{IsArithmetic, AreAll, AreFields, Row, Makes}
use Rattle.fitting_units.specs.Fitting as is
use Rattle.typed_rows.specs.Rows.{Row as TypedRow, Makes as TypedMakes, IsArithmetic as IsTypedArithmetic, AreAll as AreAllOne, AreFields as AreFieldsOf}
use Rattle.typed_rows.specs.Rows as rows

arithmetic_as : (f : Scalar2) → IsArithmetic f → IsTypedArithmetic f
arithmetic_as two.Equal h = h
arithmetic_as two.NotEqual h = h
arithmetic_as two.Less h = h
arithmetic_as two.LessEqual h = h
arithmetic_as _ h = tt

all_as : (a : Ty) (tys : List Ty) → AreAll a tys → AreAllOne a tys
all_as a [] h = tt
all_as a (t ∷ tys) h = (h.0, all_as a tys h.1)

fields_as : (ms : List Member) (places : List ℕ) (tys : List Ty) → AreFields ms places tys → AreFieldsOf ms places tys
fields_as ms [] [] h = tt
fields_as ms (p ∷ ps) (t ∷ tys) h = (h.0, fields_as ms ps tys h.1)
fields_as ms [] (t ∷ tys) h = h
fields_as ms (p ∷ ps) [] h = h

pub row_as : (o : Operation) (tys : List Ty) (a : Ty) → Row o tys a → TypedRow o tys a
row_as _ _ _ is.negated = rows.negated
row_as _ _ _ is.absolute = rows.absolute
row_as _ _ _ is.inverted = rows.inverted
row_as _ _ _ is.int_of_int = rows.int_of_int
row_as _ _ _ is.int_of_bool = rows.int_of_bool
row_as _ _ _ is.int_of_char = rows.int_of_char
row_as _ _ _ is.bool_of_bool = rows.bool_of_bool
row_as _ _ _ is.bool_of_int = rows.bool_of_int
row_as _ _ _ is.char_of_char = rows.char_of_char
row_as _ _ _ is.char_of_int = rows.char_of_int
row_as _ _ _ (is.is_error a) = rows.is_error a
row_as _ _ _ (is.arithmetic f h) = rows.arithmetic f (arithmetic_as f h)
row_as _ _ _ is.either = rows.either
row_as _ _ _ is.both = rows.both
row_as _ _ _ (is.equality f a h i) = rows.equality f a h i
row_as _ _ _ (is.order f a h i) = rows.order f a h i
row_as _ _ _ (is.swapped f a h i) = rows.swapped f a h i
row_as _ _ _ (is.an_error a) = rows.an_error a
row_as _ _ _ (is.array a tys h) = rows.array a tys (all_as a tys h)
row_as _ _ _ (is.empty_array a) = rows.empty_array a
row_as _ _ _ (is.stream a tys h) = rows.stream a tys (all_as a tys h)
row_as _ _ _ (is.fill a) = rows.fill a
row_as _ _ _ (is.element a) = rows.element a
row_as _ _ _ (is.update a) = rows.update a
row_as _ _ _ (is.add_high a) = rows.add_high a
row_as _ _ _ (is.append a) = rows.append a
row_as _ _ _ (is.add_low a) = rows.add_low a
row_as _ _ _ (is.remove_high a) = rows.remove_high a
row_as _ _ _ (is.remove_low a) = rows.remove_low a
row_as _ _ _ (is.set_low a) = rows.set_low a
row_as _ _ _ (is.adjust a) = rows.adjust a
row_as _ _ _ (is.limit_low a) = rows.limit_low a
row_as _ _ _ (is.limit_high a) = rows.limit_high a
row_as _ _ _ (is.size a) = rows.size a
row_as _ _ _ (is.length_of a) = rows.length_of a
row_as _ _ _ (is.is_empty a) = rows.is_empty a
row_as _ _ _ (is.first a) = rows.first a
row_as _ _ _ (is.rest a) = rows.rest a
row_as _ _ _ (is.catenate_arrays a) = rows.catenate_arrays a (ty.Arr a ∷ []) (refl, tt)
row_as _ _ _ (is.catenate_streams a) = rows.catenate_streams a (ty.Stream a ∷ []) (refl, tt)
row_as _ _ _ (is.a_record ms h) = rows.a_record ms h
row_as _ _ _ (is.union ms tag m h) = rows.union ms tag m h
row_as _ _ _ (is.field ms place m h) = rows.field ms place m h
row_as _ _ _ (is.change ms place places tys h) = rows.change ms (place ∷ places) tys (fields_as ms (place ∷ places) tys h)
row_as _ _ _ (is.is_tag ms tag m h) = rows.is_tag ms tag m h

pub makes_as : (f : Folding) (a b : Ty) → Makes f a b → TypedMakes f a b
makes_as _ _ _ (is.makes_array a) = rows.makes_array a
makes_as _ _ _ (is.makes_stream a) = rows.makes_stream a
makes_as _ _ _ (is.makes_last a) = rows.makes_last a
makes_as _ _ _ is.makes_sum = rows.makes_sum
makes_as _ _ _ is.makes_product = rows.makes_product
makes_as _ _ _ is.makes_least = rows.makes_least
makes_as _ _ _ is.makes_greatest = rows.makes_greatest
makes_as _ _ _ (is.makes_arrays a) = rows.makes_arrays a
makes_as _ _ _ (is.makes_streams a) = rows.makes_streams a
