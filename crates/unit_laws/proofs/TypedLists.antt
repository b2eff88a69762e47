-- The rows of simple nodes with any number of operands, and those of multiples.
use Rattle.std.proofs.Common.{◌≡◌, ℕ, zero, suc, ◌+◌, ◌<◌, pos, List, [], ◌∷◌, map, length, get_or, Option, Some, None, inl, inr, refl, sym, ap, subst, ◌∙◌, arith}
use Rattle.std.specs.Prelude.{slice_get}
use Rattle.flow_value.specs.Scalar.{unless_error}
use Rattle.flow_value.specs.declared.ty.Ty.{Ty}
use Rattle.flow_value.specs.declared.ty.Ty.TheVariants as ty
use Rattle.flow_value.specs.declared.value.Val.{Val}
use Rattle.if1_graph.specs.Ports.{count_from, fields_of}
use Rattle.if1_graph.specs.Tables.{◌>>=◌, at_port}
use Rattle.if1_graph.specs.Types.{Member, Sort, Plain, Many}
use Rattle.if1_graph.specs.Typing.{Known, IsSequence, HasElements, IsReducible, Fits}
use Rattle.if1_graph.specs.declared.op.Reducer.{Reducer}
use Rattle.if1_graph.specs.declared.op.Reducer.TheVariants as reducer
use Rattle.if1_graph.specs.declared.row.Want.{Want}
use Rattle.if1_graph.specs.declared.row.Want.TheVariants as want
use Rattle.loop_folds.specs.declared.folding.Folding.TheVariants as folding
use Rattle.value_ops.specs.Arity.{of_one}
use Rattle.value_ops.specs.Operations.{op_value}
use Rattle.value_ops.specs.declared.operation.Operation.TheVariants as op
use Rattle.graph_meaning.specs.Carried.{Carried, Value, Spoiled, Name, Unfilled, vals, val_of}
use Rattle.graph_meaning.specs.Carried as carried
use Rattle.graph_meaning.specs.NodeValues.{Shape, row_of_elements, range_of, scatter_of, gathering, gather_of, fold_of, catenation, reduction, reduced, fields}
use Rattle.graph_meaning.specs.NodeValues as shape
use Rattle.graph_meaning.specs.Networks.{stream_shape, fields_shape}
use Rattle.typed_rows.specs.Rows.{Of, AreOf, AreAll, Row, Makes}
use Rattle.typed_rows.specs.Rows as row
use Rattle.typed_rows.proofs.Rows.{row_well}
use Rattle.typed_rows.proofs.ValueKinds.{IntKind, an_int, no_int, as_int, as_arr, as_stream, of_error}
use Rattle.unit_laws.specs.Typed.{Belongs}
use Rattle.unit_laws.proofs.TypeLists.{elements-of-array, elements-of-stream, elements-of-many, carried-is, out_arr, out_stream, out_rec}
use Rattle.unit_laws.proofs.TypedRows.{Operand, at-type, again, AllPlain, plain-vals, plain-at, by-row, by-row-1}
use Rattle.unit_laws.proofs.TypedMultiples.{AreScattered, range-of-well, array-scattered, stream-scattered, fold-well, gather-well}

-- ---- values

-- a value of the type
pub record IsValue (t : Ty) (c : Carried) : Type 0 where
  pub value : Val
  pub is : c ≡ Value value
  pub of : Of t value

pub value-of : (t : Ty) (c : Carried) → Belongs (Plain t) c → IsValue t c
value-of t (Value v) h = record { value = v; is = refl; of = h }
value-of t (carried.Many vs) h = absurd h
value-of t (Spoiled c) h = absurd h
value-of t (Name text) h = absurd h
value-of t Unfilled h = absurd h

pub of-value : (t : Ty) (s : Sort) (v : Val) → s ≡ Plain t → Of t v → Belongs s (Value v)
of-value t s v e h = at-type (Value v) (Plain t) s (sym e) h

-- each has this type
abbrev pub EachPlain : Ty → List Carried → Type 0
EachPlain t [] = Unit {0}
EachPlain t (c ∷ cs) = Belongs (Plain t) c × EachPlain t cs

each-plain : (t : Ty) (cs : List Carried) → EachPlain t cs → AllPlain (map (λ c. t) cs) cs
each-plain t [] h = tt
each-plain t (c ∷ cs) h = (h.0, each-plain t cs h.1)

all-one : (t : Ty) (cs : List Carried) → AreAll t (map (λ c. t) cs)
all-one t [] = tt
all-one t (c ∷ cs) = (refl, all-one t cs)

each-vals : (t : Ty) (cs : List Carried) → EachPlain t cs → AreOf (map (λ c. t) cs) (vals cs)
each-vals t cs h = plain-vals (map (λ c. t) cs) cs (each-plain t cs h)

-- ---- shapes

pub no-stream-shape : (t : Ty) (s : Sort) → s ≡ Plain (ty.Arr t) → stream_shape (Some s) ≡ shape.Plain
no-stream-shape t s e = ap (λ z. stream_shape (Some z)) e ∙ rw (out_arr t) refl

pub a-stream-shape : (t : Ty) (s : Sort) → s ≡ Plain (ty.Stream t) → stream_shape (Some s) ≡ shape.Stream
a-stream-shape t s e = ap (λ z. stream_shape (Some z)) e ∙ rw (out_stream t) refl

-- ---- arrays and streams of elements

stream-of : (t : Ty) (v : Val) (cs : List Carried) → IntKind v → EachPlain t cs → Of (ty.Stream t) (unless_error v (op_value op.Stream (vals cs)))
stream-of t _ cs (an_int n f) h = row_well op.Stream (map (λ c. t) cs) (ty.Stream t) (row.stream t (map (λ c. t) cs) (all-one t cs)) (vals cs) (each-vals t cs h)
stream-of t _ cs (no_int c) h = of_error (ty.Stream t) c

pub elements-built : (t : Ty) (s : Sort) (x : Carried) (cs : List Carried) → IsSequence t s → Belongs (Plain ty.Int) x → EachPlain t cs → Belongs s (Value (row_of_elements (stream_shape (Some s)) (vals (x ∷ cs))))
elements-built t s x cs (inl e) b h =
    subst (λ p. Belongs s (Value (row_of_elements p (vals (x ∷ cs))))) (sym (no-stream-shape t s e))
    (by-row op.Array (ty.Int ∷ map (λ c. t) cs) (ty.Arr t) (x ∷ cs) (row.array t (map (λ c. t) cs) (all-one t cs)) (b, each-plain t cs h) s e)
elements-built t s x cs (inr e) b h =
    let v = value-of ty.Int x b in
    subst (λ p. Belongs s (Value (row_of_elements p (vals (x ∷ cs))))) (sym (a-stream-shape t s e))
    (subst (λ z. Belongs s (Value (row_of_elements shape.Stream (vals (z ∷ cs))))) (sym v.is) (of-value (ty.Stream t) s (unless_error v.value (op_value op.Stream (vals cs))) e (stream-of t v.value cs (as_int v.value v.of) h)))

pub catenated-arrays : (t : Ty) (s : Sort) (x : Carried) (cs : List Carried) → s ≡ Plain (ty.Arr t) → Belongs (Plain (ty.Arr t)) x → EachPlain (ty.Arr t) cs → Belongs s (Value (op_value op.Catenate (vals (x ∷ cs))))
catenated-arrays t s x cs e b h = by-row op.Catenate (ty.Arr t ∷ map (λ c. ty.Arr t) cs) (ty.Arr t) (x ∷ cs) (row.catenate_arrays t (map (λ c. ty.Arr t) cs) (all-one (ty.Arr t) cs)) (b, each-plain (ty.Arr t) cs h) s e

pub catenated-streams : (t : Ty) (s : Sort) (x : Carried) (cs : List Carried) → s ≡ Plain (ty.Stream t) → Belongs (Plain (ty.Stream t)) x → EachPlain (ty.Stream t) cs → Belongs s (Value (op_value op.Catenate (vals (x ∷ cs))))
catenated-streams t s x cs e b h = by-row op.Catenate (ty.Stream t ∷ map (λ c. ty.Stream t) cs) (ty.Stream t) (x ∷ cs) (row.catenate_streams t (map (λ c. ty.Stream t) cs) (all-one (ty.Stream t) cs)) (b, each-plain (ty.Stream t) cs h) s e

module _ (k : Known) where
  pub kept : (x : Carried) → (a : Operand k 1 want.Any x) → (s : Sort) → Fits k (want.Same 1) s → Belongs s (Value (of_one (λ v. v) (vals (x ∷ []))))
  kept x a s out =
      let v = value-of a.fits.0 x (plain-at a a.fits.0 a.fits.1) in
      subst (λ z. Belongs s (Value (of_one (λ v. v) (vals (z ∷ []))))) (sym v.is) (of-value a.fits.0 s v.value (again (k.at 1) a.sort s a.known out.1 ∙ a.fits.1) v.of)

  -- ---- multiples

  pub ranged : (x y : Carried) → Operand k 1 want.Integer x → Operand k 2 want.Integer y → (s : Sort) → Fits k want.Integers s → Belongs s (range_of (vals (x ∷ y ∷ [])))
  ranged x y a b s out =
      let v = value-of ty.Int x (plain-at a ty.Int a.fits) in
      let w = value-of ty.Int y (plain-at b ty.Int b.fits) in
      at-type (range_of (vals (x ∷ y ∷ []))) (Many ty.Int) s (sym out)
      (subst (λ z. Belongs (Many ty.Int) (range_of (vals (z ∷ y ∷ [])))) (sym v.is) (subst (λ z. Belongs (Many ty.Int) (range_of (v.value ∷ vals (z ∷ [])))) (sym w.is) (range-of-well v.value w.value (as_int v.value v.of) (as_int w.value w.of))))

  scattered-at : (x : Carried) → (a : Operand k 1 want.Sequence x) → AreScattered a.fits.0 (scatter_of (vals (x ∷ [])))
  scattered-at x a =
      let t = a.fits.0 in
      elim a.fits.1 [
        | inl e ↦ let v = value-of (ty.Arr t) x (plain-at a (ty.Arr t) e) in subst (λ z. AreScattered t (scatter_of (vals (z ∷ [])))) (sym v.is) (array-scattered t v.value (as_arr t v.value v.of))
        | inr e ↦ let v = value-of (ty.Stream t) x (plain-at a (ty.Stream t) e) in subst (λ z. AreScattered t (scatter_of (vals (z ∷ [])))) (sym v.is) (stream-scattered t v.value (as_stream t v.value v.of))
      ]

  sequence-element : (x : Carried) → (a : Operand k 1 want.Sequence x) → (t : Ty) → IsSequence t a.sort → t ≡ a.fits.0
  sequence-element x a t h =
      elim a.fits.1 [
        | inl e ↦ elements-of-array a.fits.0 t a.sort e (inl h)
        | inr e ↦ elements-of-stream a.fits.0 t a.sort e (inl h)
      ]

  pub scattered : (x : Carried) → Operand k 1 want.Sequence x → (s : Sort) → Fits k (want.Elements 1) s → Belongs s (get_or (scatter_of (vals (x ∷ []))) 0 Unfilled)
  scattered x a s out =
      let r = scattered-at x a in
      let t = sequence-element x a out.0 (carried-is (IsSequence out.0) (k.at 1) a.sort a.known out.2) in
      subst (λ cs. Belongs s (get_or cs 0 Unfilled)) (sym r.are) (at-type r.elements (Many a.fits.0) s (sym (out.1 ∙ ap Many t)) r.of_type)

  pub indices : (x : Carried) → Operand k 1 want.Sequence x → (s : Sort) → Fits k want.Integers s → Belongs s (get_or (scatter_of (vals (x ∷ []))) 1 Unfilled)
  indices x a s out =
      let r = scattered-at x a in
      subst (λ cs. Belongs s (get_or cs 1 Unfilled)) (sym r.are) (at-type r.indices (Many ty.Int) s (sym out) r.whole)

  pub gathered : (x y : Carried) (ms : List Carried) → Operand k 1 want.Integer x → (b : Operand k 2 want.Multiple y) → (s : Sort) → Fits k (want.SequenceOfElements 2) s → Belongs s (Value (gather_of (stream_shape (Some s)) (x ∷ y ∷ ms)))
  gathered x y ms a b s out =
      let t = out.0 in
      let v = value-of ty.Int x (plain-at a ty.Int a.fits) in
      let m = at-type y b.sort (Many t) (again (k.at 2) (Many t) b.sort out.2 b.known) b.belongs in
      subst (λ z. Belongs s (Value (gather_of (stream_shape (Some s)) (z ∷ y ∷ ms)))) (sym v.is)
      (elim out.1 [
        | inl e ↦ subst (λ p. Belongs s (Value (gather_of p (Value v.value ∷ y ∷ ms)))) (sym (no-stream-shape t s e)) (of-value (ty.Arr t) s _ e (gather-well folding.Array t (ty.Arr t) (row.makes_array t) v.value y ms (as_int v.value v.of) m))
        | inr e ↦ subst (λ p. Belongs s (Value (gather_of p (Value v.value ∷ y ∷ ms)))) (sym (a-stream-shape t s e)) (of-value (ty.Stream t) s _ e (gather-well folding.Stream t (ty.Stream t) (row.makes_stream t) v.value y ms (as_int v.value v.of) m))
      ])

  pub last-taken : (x : Carried) (ms : List Carried) → (a : Operand k 1 want.Multiple x) → (s : Sort) → Fits k (want.Element 1) s → Belongs s (Value (fold_of folding.Last (pos 1) (x ∷ ms)))
  last-taken x ms a s out =
      let t = a.fits.0 in
      let same = elements-of-many t out.0 a.sort a.fits.1 (carried-is (HasElements out.0) (k.at 1) a.sort a.known out.2) in
      of-value t s (fold_of folding.Last (pos 1) (x ∷ ms)) (out.1 ∙ ap Plain same) (fold-well folding.Last t t (row.makes_last t) (pos 1) x ms (at-type x a.sort (Many t) a.fits.1 a.belongs))

  -- an element of what the second port of a reduction carries
  element-of-second : (x : Carried) {w : Want} → (a : Operand k 2 w x) → (t : Ty) → a.sort ≡ Many t → (s : Sort) → Fits k (want.Element 2) s → s ≡ Plain t
  element-of-second x a t e s out = out.1 ∙ ap Plain (elements-of-many t out.0 a.sort e (carried-is (HasElements out.0) (k.at 2) a.sort a.known out.2))

  reduced-by : (r : Option Reducer) → k.reducer ≡ r → (x : Carried) (ms : List Carried) → (a : Operand k 2 want.Reducible x) → (s : Sort) → Fits k (want.Element 2) s → IsReducible r a.sort → Belongs s (Value (reduced (stream_shape (Some s)) r (x ∷ ms)))
  reduced-by None e x ms a s out h = absurd h
  reduced-by (Some reducer.Sum) e x ms a s out h = of-value ty.Int s _ (element-of-second x a ty.Int h s out) (fold-well folding.Sum ty.Int ty.Int row.makes_sum (pos 1) x ms (at-type x a.sort (Many ty.Int) h a.belongs))
  reduced-by (Some reducer.Product) e x ms a s out h = of-value ty.Int s _ (element-of-second x a ty.Int h s out) (fold-well folding.Product ty.Int ty.Int row.makes_product (pos 1) x ms (at-type x a.sort (Many ty.Int) h a.belongs))
  reduced-by (Some reducer.Least) e x ms a s out h = of-value ty.Int s _ (element-of-second x a ty.Int h s out) (fold-well folding.Least ty.Int ty.Int row.makes_least (pos 1) x ms (at-type x a.sort (Many ty.Int) h a.belongs))
  reduced-by (Some reducer.Greatest) e x ms a s out h = of-value ty.Int s _ (element-of-second x a ty.Int h s out) (fold-well folding.Greatest ty.Int ty.Int row.makes_greatest (pos 1) x ms (at-type x a.sort (Many ty.Int) h a.belongs))
  reduced-by (Some reducer.Catenate) e x ms a s out h =
      let t = h.0 in
      elim h.1 [
        | inl f ↦
            let g = element-of-second x a (ty.Arr t) f s out in
            subst (λ p. Belongs s (Value (reduced p (Some reducer.Catenate) (x ∷ ms)))) (sym (no-stream-shape t s g)) (of-value (ty.Arr t) s _ g (fold-well folding.CatenateArrays (ty.Arr t) (ty.Arr t) (row.makes_arrays t) (pos 1) x ms (at-type x a.sort (Many (ty.Arr t)) f a.belongs)))
        | inr f ↦
            let g = element-of-second x a (ty.Stream t) f s out in
            subst (λ p. Belongs s (Value (reduced p (Some reducer.Catenate) (x ∷ ms)))) (sym (a-stream-shape t s g)) (of-value (ty.Stream t) s _ g (fold-well folding.CatenateStreams (ty.Stream t) (ty.Stream t) (row.makes_streams t) (pos 1) x ms (at-type x a.sort (Many (ty.Stream t)) f a.belongs)))
      ]

  pub reduction-right : (r : Option Reducer) → k.reducer ≡ r → (x : Carried) (ms : List Carried) → (a : Operand k 2 want.Reducible x) → (s : Sort) → Fits k (want.Element 2) s → Belongs s (Value (reduced (stream_shape (Some s)) r (x ∷ ms)))
  reduction-right r e x ms a s out = reduced-by r e x ms a s out (subst (λ z. IsReducible z a.sort) e a.fits)

  -- ---- fields

  counted-place : (f : ℕ → Carried) (n first i : ℕ) → i < n → get_or (map f (count_from first n)) i Unfilled ≡ f (first + i)
  counted-place f zero first i lt = absurd (omega (arith, lt))
  counted-place f (suc n) first zero lt = ap f (omega arith)
  counted-place f (suc n) first (suc i) lt = counted-place f n (suc first) i (omega (arith, lt)) ∙ ap f (omega arith)

  place-below : (ms : List Member) (i : ℕ) (m : Member) → slice_get ms i ≡ Some m → i < length ms
  place-below [] i m e = absurd cc
  place-below (n ∷ ms) zero m e = omega arith
  place-below (n ∷ ms) (suc i) m e = let l = place-below ms i m e in omega (arith, l)

  pub field-given : (x : Carried) → (a : Operand k 1 want.Record x) → (i : ℕ) (s : Sort) → Fits k (want.FieldOf (suc i)) s → Belongs s (get_or (fields (fields_shape (fields_of (k.at 1))) (vals (x ∷ []))) i Unfilled)
  field-given x a i s out =
      let ms = a.fits.0 in
      let known : fields_of (k.at 1) ≡ Some ms = ap fields_of a.known ∙ (ap (λ z. fields_of (Some z)) a.fits.1 ∙ rw (out_rec ms) refl) in
      let found : slice_get ms i ≡ Some out.0 = sym (ap (λ o. o >>= at_port (suc i)) known) ∙ out.1 in
      let inside = place-below ms i out.0 found in
      subst (λ o. Belongs s (get_or (fields (fields_shape o) (vals (x ∷ []))) i Unfilled)) (sym known)
      (subst (Belongs s) (sym (counted-place (λ f. Value (op_value (op.Field f) (vals (x ∷ [])))) (length ms) 0 i inside ∙ ap (λ n. Value (op_value (op.Field n) (vals (x ∷ [])))) zero-plus))
      (by-row-1 (op.Field i) (ty.Rec ms) (out.0).1 x (row.field ms i out.0 found) a a.fits.1 s out.2))
    where
      zero-plus : 0 + i ≡ i
      zero-plus = omega arith
