-- The lower bound of an `array of`.
use Rattle.std.proofs.Common.{◌≡◌, pos, List, [], ◌∷◌, sym, ap, ◌∙◌, drop}
use Rattle.flow_value.specs.declared.cause.Cause.{Cause}
use Rattle.flow_value.specs.declared.value.Val.{Val}
use Rattle.flow_value.specs.declared.value.Val.TheVariants as val
use Rattle.flow_value.specs.declared.value.Val.TheViews.{out-Val}
use Rattle.flow_value.specs.declared.ty.Ty.{Ty}
use Rattle.flow_value.specs.declared.ty.Ty.TheVariants as ty
use Rattle.value_ops.specs.Views.{array_in}
use Rattle.value_ops.specs.Operations.{op_value}
use Rattle.value_ops.specs.declared.operation.Operation.TheVariants as operation
use Rattle.typed_tree.specs.declared.expr.Source.{Source}
use Rattle.typed_tree.specs.declared.expr.Source.TheVariants as source
use Rattle.meaning.specs.declared.sources.Places.{Places}
use Rattle.meaning.specs.declared.sources.Places.TheVariants as places
use Rattle.meaning.specs.Words.{value_at}
use Rattle.meaning.specs.Sources.{width, range_size, list_size, size_of, sizes_of, first_failure, common, unless_failed, first_index, lower_of}
use Rattle.typed_rows.specs.Rows.{AreOf}
use Rattle.typed_rows.proofs.ValueKinds.{IntKind, an_int, no_int, ArrKind, an_arr, no_arr, StreamKind, a_stream, no_stream, as_int, as_arr, as_stream, out_err, out_int, out_arr, out_stream}
use Rattle.loop_columns.specs.Generators.{IsCounted, AreLowerBounds}
use Rattle.loop_columns.proofs.Forms.{passes-array}

abbrev all_places : List Places → Places
all_places ps = unless_failed (first_failure ps) (common ps)

-- a first bound that is an error has no places
failed-size : (s : Source) (c : Cause) (w : Val) → size_of s (val.Err c) w ≡ places.Failed c
failed-size source.Range c w = ap (λ x. range_size x (out-Val w)) (out_err c)
failed-size source.Elements c w = ap list_size (out_err c)
failed-size source.Indexed c w = ap list_size (out_err c)

not-counted : (s : Source) (ss : List Source) (c : Cause) (vs : List Val) → IsCounted (s ∷ ss) (val.Err c ∷ vs) → ⊥
not-counted s ss c vs k =
    let e : places.Failed c ≡ places.Count k.0 = ap (λ q. all_places (q ∷ sizes_of ss (drop (width s) (val.Err c ∷ vs)))) (sym (failed-size s c (value_at (val.Err c ∷ vs) 1))) ∙ k.1 in
    cc

of-range : (ss : List Source) (v : Val) (vs : List Val) → IntKind v → IsCounted (source.Range ∷ ss) (v ∷ vs) → v ≡ val.Int (first_index (out-Val v))
of-range ss _ vs (an_int n f) k = sym (ap (λ y. val.Int (first_index y)) (out_int n))
of-range ss _ vs (no_int c) k = absurd (not-counted source.Range ss c vs k)

of-array : (s : Source) (ss : List Source) (a : Ty) (v : Val) (vs : List Val) → ArrKind a v → IsCounted (s ∷ ss) (v ∷ vs) → op_value operation.LimitLow (v ∷ []) ≡ val.Int (first_index (out-Val v))
of-array s ss a _ vs (an_arr x h) k =
    passes-array x (array_in (λ b. val.Int b.lo) (out-Val (val.Arr x))) ∙ ap (array_in (λ b. val.Int b.lo)) (out_arr x) ∙ sym (ap (λ y. val.Int (first_index y)) (out_arr x))
of-array s ss a _ vs (no_arr c) k = absurd (not-counted s ss c vs k)

of-stream : (a : Ty) (v : Val) → StreamKind a v → first_index (out-Val v) ≡ pos 1
of-stream a _ (a_stream xs h) = ap first_index (out_stream xs)
of-stream a _ (no_stream c) = ap first_index (out_err c)

ranges : (ss : List Source) (tys : List Ty) (vs : List Val) → AreOf (ty.Int ∷ ty.Int ∷ tys) vs → IsCounted (source.Range ∷ ss) vs → value_at vs 0 ≡ val.Int (lower_of vs)
ranges ss tys [] h k = absurd h
ranges ss tys (v ∷ vs) h k = of-range ss v vs (as_int v h.0) k

arrays : (s : Source) (ss : List Source) (a : Ty) (tys : List Ty) (vs : List Val) → AreOf (ty.Arr a ∷ tys) vs → IsCounted (s ∷ ss) vs → op_value operation.LimitLow (value_at vs 0 ∷ []) ≡ val.Int (lower_of vs)
arrays s ss a tys [] h k = absurd h
arrays s ss a tys (v ∷ vs) h k = of-array s ss a v vs (as_arr a v h.0) k

streams : (a : Ty) (tys : List Ty) (vs : List Val) → AreOf (ty.Stream a ∷ tys) vs → lower_of vs ≡ pos 1
streams a tys [] h = absurd h
streams a tys (v ∷ vs) h = of-stream a v (as_stream a v h.0)

pub lower-bounds : AreLowerBounds
lower-bounds = record { of_range = ranges; of_array = arrays; of_stream = streams }
