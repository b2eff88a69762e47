-- Operands of the types that a simple node wants give outputs of the types that it gives.
use Rattle.std.proofs.Common.{◌≡◌, ℕ, List, [], ◌∷◌, Option, Some, inl, inr, refl, sym, ap, subst, ◌∙◌}
use Rattle.flow_value.specs.declared.operation.Scalar1.TheVariants as one
use Rattle.flow_value.specs.declared.operation.Scalar2.{Scalar2}
use Rattle.flow_value.specs.declared.operation.Scalar2.TheVariants as two
use Rattle.flow_value.specs.declared.ty.Ty.{Ty}
use Rattle.flow_value.specs.declared.ty.Ty.TheVariants as ty
use Rattle.if1_graph.specs.Types.{Sort, Plain}
use Rattle.if1_graph.specs.Typing.{Known, HasElements, Fits}
use Rattle.if1_graph.specs.declared.row.Want.{Want}
use Rattle.if1_graph.specs.declared.row.Want.TheVariants as want
use Rattle.value_ops.specs.Operations.{op_value}
use Rattle.value_ops.specs.declared.operation.Operation.{Operation}
use Rattle.value_ops.specs.declared.operation.Operation.TheVariants as op
use Rattle.graph_meaning.specs.Carried.{Carried, Value, Spoiled, Name, Unfilled, vals, val_of}
use Rattle.graph_meaning.specs.Carried as carried
use Rattle.typed_rows.specs.Rows.{Of, AreOf, Row, AreAll}
use Rattle.typed_rows.specs.Rows as row
use Rattle.typed_rows.proofs.Rows.{row_well}
use Rattle.unit_laws.specs.Typed.{Belongs}
use Rattle.unit_laws.proofs.TypeLists.{some-same, elements-of-array, elements-of-stream, carried-is}

-- ---- operands

-- what is carried into a port belongs to a type that is wanted there
pub record Operand (k : Known) (port : ℕ) (w : Want) (c : Carried) : Type 0 where
  pub sort : Sort
  pub known : k.at port ≡ Some sort
  pub fits : Fits k w sort
  pub belongs : Belongs sort c

pub at-type : (c : Carried) (s other : Sort) → s ≡ other → Belongs s c → Belongs other c
at-type c s other e h = subst (λ z. Belongs z c) e h

-- the type at a port is one
pub again : (o : Option Sort) (s other : Sort) → o ≡ Some s → o ≡ Some other → other ≡ s
again o s other e f = some-same other s (sym f ∙ e)

-- values of these types
abbrev pub AllPlain : List Ty → List Carried → Type 0
AllPlain [] [] = Unit {0}
AllPlain (t ∷ ts) (c ∷ cs) = Belongs (Plain t) c × AllPlain ts cs
AllPlain [] (c ∷ cs) = ⊥
AllPlain (t ∷ ts) [] = ⊥

pub plain-vals : (ts : List Ty) (cs : List Carried) → AllPlain ts cs → AreOf ts (vals cs)
plain-vals [] [] h = tt
plain-vals [] (c ∷ cs) h = absurd h
plain-vals (t ∷ ts) [] h = absurd h
plain-vals (t ∷ ts) (Value v ∷ cs) h = (h.0, plain-vals ts cs h.1)
plain-vals (t ∷ ts) (carried.Many vs ∷ cs) h = absurd h.0
plain-vals (t ∷ ts) (Spoiled c ∷ cs) h = absurd h.0
plain-vals (t ∷ ts) (Name text ∷ cs) h = absurd h.0
plain-vals (t ∷ ts) (Unfilled ∷ cs) h = absurd h.0

pub by-row : (o : Operation) (ts : List Ty) (a : Ty) (cs : List Carried) → Row o ts a → AllPlain ts cs → (s : Sort) → s ≡ Plain a → Belongs s (Value (op_value o (vals cs)))
by-row o ts a cs r h s e = at-type (Value (op_value o (vals cs))) (Plain a) s (sym e) (row_well o ts a r (vals cs) (plain-vals ts cs h))

pub plain-at : {k : Known} {port : ℕ} {w : Want} {x : Carried} (b : Operand k port w x) (t : Ty) → b.sort ≡ Plain t → Belongs (Plain t) x
plain-at {x = x} b t e = at-type x b.sort (Plain t) e b.belongs

pub by-row-1 : (o : Operation) (t a : Ty) (x : Carried) → Row o (t ∷ []) a → {k : Known} {port : ℕ} {w : Want} (b : Operand k port w x) → b.sort ≡ Plain t → (out : Sort) → out ≡ Plain a → Belongs out (Value (op_value o (vals (x ∷ []))))
by-row-1 o t a x r b e out f = by-row o (t ∷ []) a (x ∷ []) r (plain-at b t e, tt) out f

pub by-row-2 : (o : Operation) (t u a : Ty) (x y : Carried) → Row o (t ∷ u ∷ []) a → {k : Known} {port other : ℕ} {w z : Want} (b : Operand k port w x) → b.sort ≡ Plain t → (c : Operand k other z y) → c.sort ≡ Plain u → (out : Sort) → out ≡ Plain a
    → Belongs out (Value (op_value o (vals (x ∷ y ∷ []))))
by-row-2 o t u a x y r b e c g out f = by-row o (t ∷ u ∷ []) a (x ∷ y ∷ []) r (plain-at b t e, (plain-at c u g, tt)) out f

pub by-row-3 : (o : Operation) (t u i a : Ty) (x y q : Carried) → Row o (t ∷ u ∷ i ∷ []) a → {k : Known} {port other third : ℕ} {w z v : Want} (b : Operand k port w x) → b.sort ≡ Plain t → (c : Operand k other z y) → c.sort ≡ Plain u → (d : Operand k third v q) → d.sort ≡ Plain i
    → (out : Sort) → out ≡ Plain a → Belongs out (Value (op_value o (vals (x ∷ y ∷ q ∷ []))))
by-row-3 o t u i a x y q r b e c g d h out f = by-row o (t ∷ u ∷ i ∷ []) a (x ∷ y ∷ q ∷ []) r (plain-at b t e, (plain-at c u g, (plain-at d i h, tt))) out f

module _ (k : Known) where
  -- the type at port 1, where a want says that it is the same
  same : {port : ℕ} {w : Want} {c : Carried} (x : Operand k port w c) (s : Sort) → Fits k (want.Same port) s → s ≡ x.sort
  same {port = port} x s f = again (k.at port) x.sort s x.known f.1

  -- ---- scalars

  sums : (f : Scalar2) → (Row (op.Binary f) (ty.Int ∷ ty.Int ∷ []) ty.Int) → (Row (op.Binary f) (ty.Bool ∷ ty.Bool ∷ []) ty.Bool) → (x y : Carried) → Operand k 1 want.IntegerOrBoolean x → Operand k 2 (want.Same 1) y → (s : Sort) → Fits k (want.Same 1) s → Belongs s (Value (op_value (op.Binary f) (vals (x ∷ y ∷ []))))
  sums f ints bools x y a b s out =
      elim a.fits [
        | inl e ↦ by-row-2 (op.Binary f) ty.Int ty.Int ty.Int x y ints a e b (same a b.sort b.fits ∙ e) s (same a s out ∙ e)
        | inr e ↦ by-row-2 (op.Binary f) ty.Bool ty.Bool ty.Bool x y bools a e b (same a b.sort b.fits ∙ e) s (same a s out ∙ e)
      ]

  pub plus : (x y : Carried) → Operand k 1 want.IntegerOrBoolean x → Operand k 2 (want.Same 1) y → (s : Sort) → Fits k (want.Same 1) s → Belongs s (Value (op_value (op.Binary two.Plus) (vals (x ∷ y ∷ []))))
  plus x y a b s out = sums two.Plus (row.arithmetic two.Plus tt) row.either x y a b s out

  pub times : (x y : Carried) → Operand k 1 want.IntegerOrBoolean x → Operand k 2 (want.Same 1) y → (s : Sort) → Fits k (want.Same 1) s → Belongs s (Value (op_value (op.Binary two.Times) (vals (x ∷ y ∷ []))))
  times x y a b s out = sums two.Times (row.arithmetic two.Times tt) row.both x y a b s out

  pub arithmetic : (f : Scalar2) → Row (op.Binary f) (ty.Int ∷ ty.Int ∷ []) ty.Int → (x y : Carried) → Operand k 1 want.Integer x → Operand k 2 want.Integer y → (s : Sort) → Fits k want.Integer s → Belongs s (Value (op_value (op.Binary f) (vals (x ∷ y ∷ []))))
  arithmetic f r x y a b s out = by-row-2 (op.Binary f) ty.Int ty.Int ty.Int x y r a a.fits b b.fits s out

  equality-at : (f : Scalar2) → row.IsEquality f → (t : Ty) → row.IsScalar t → (x y : Carried) → (a : Operand k 1 want.Scalar x) → Operand k 2 (want.Same 1) y → a.sort ≡ Plain t → (s : Sort) → Fits k want.Boolean s → Belongs s (Value (op_value (op.Binary f) (vals (x ∷ y ∷ []))))
  equality-at f i t scalar x y a b e s out = by-row-2 (op.Binary f) t t ty.Bool x y (row.equality f t i scalar) a e b (same a b.sort b.fits ∙ e) s out

  pub equality : (f : Scalar2) → row.IsEquality f → (x y : Carried) → Operand k 1 want.Scalar x → Operand k 2 (want.Same 1) y → (s : Sort) → Fits k want.Boolean s → Belongs s (Value (op_value (op.Binary f) (vals (x ∷ y ∷ []))))
  equality f i x y a b s out =
      elim a.fits [
        | inl e ↦ equality-at f i ty.Int (inl refl) x y a b e s out
        | inr r ↦ elim r [
          | inl e ↦ equality-at f i ty.Bool (inr (inl refl)) x y a b e s out
          | inr q ↦ elim q [
            | inl e ↦ equality-at f i ty.Char (inr (inr (inl refl))) x y a b e s out
            | inr e ↦ equality-at f i ty.Null (inr (inr (inr refl))) x y a b e s out
          ]
        ]
      ]

  pub order : (f : Scalar2) → row.IsOrder f → (x y : Carried) → Operand k 1 want.IntegerOrCharacter x → Operand k 2 (want.Same 1) y → (s : Sort) → Fits k want.Boolean s → Belongs s (Value (op_value (op.Binary f) (vals (x ∷ y ∷ []))))
  order f i x y a b s out =
      elim a.fits [
        | inl e ↦ by-row-2 (op.Binary f) ty.Int ty.Int ty.Bool x y (row.order f ty.Int i (inl refl)) a e b (same a b.sort b.fits ∙ e) s out
        | inr e ↦ by-row-2 (op.Binary f) ty.Char ty.Char ty.Bool x y (row.order f ty.Char i (inr refl)) a e b (same a b.sort b.fits ∙ e) s out
      ]

  pub unary : (o : Operation) (t r : Ty) → Row o (t ∷ []) r → (x : Carried) {w : Want} (a : Operand k 1 w x) → a.sort ≡ Plain t → (out : Sort) → out ≡ Plain r → Belongs out (Value (op_value o (vals (x ∷ []))))
  unary o t r is x a e out f = by-row-1 o t r x is a e out f

  pub to-int : (x : Carried) → Operand k 1 want.Discrete x → (s : Sort) → Fits k want.Integer s → Belongs s (Value (op_value (op.Unary one.Int) (vals (x ∷ []))))
  to-int x a s out =
      elim a.fits [
        | inl e ↦ unary (op.Unary one.Int) ty.Int ty.Int row.int_of_int x a e s out
        | inr r ↦ elim r [
          | inl e ↦ unary (op.Unary one.Int) ty.Bool ty.Int row.int_of_bool x a e s out
          | inr e ↦ unary (op.Unary one.Int) ty.Char ty.Int row.int_of_char x a e s out
        ]
      ]

  pub to-bool : (x : Carried) → Operand k 1 want.IntegerOrBoolean x → (s : Sort) → Fits k want.Boolean s → Belongs s (Value (op_value (op.Unary one.Bool) (vals (x ∷ []))))
  to-bool x a s out =
      elim a.fits [
        | inl e ↦ unary (op.Unary one.Bool) ty.Int ty.Bool row.bool_of_int x a e s out
        | inr e ↦ unary (op.Unary one.Bool) ty.Bool ty.Bool row.bool_of_bool x a e s out
      ]

  pub to-char : (x : Carried) → Operand k 1 want.IntegerOrCharacter x → (s : Sort) → Fits k want.Character s → Belongs s (Value (op_value (op.Unary one.Char) (vals (x ∷ []))))
  to-char x a s out =
      elim a.fits [
        | inl e ↦ unary (op.Unary one.Char) ty.Int ty.Char row.char_of_int x a e s out
        | inr e ↦ unary (op.Unary one.Char) ty.Char ty.Char row.char_of_char x a e s out
      ]

  pub is-error : (x : Carried) → Operand k 1 want.Any x → (s : Sort) → Fits k want.Boolean s → Belongs s (Value (op_value (op.Unary one.IsError) (vals (x ∷ []))))
  is-error x a s out = unary (op.Unary one.IsError) a.fits.0 ty.Bool (row.is_error a.fits.0) x a a.fits.1 s out

  -- ---- arrays and streams

  -- a value that is wanted as an element of what port 1 carries
  element-of : {w : Want} {c : Carried} (x : Operand k 1 w c) (a : Ty) → (((t : Ty) → HasElements t x.sort → t ≡ a)) → (s : Sort) → Fits k (want.Element 1) s → s ≡ Plain a
  element-of x a h s f = f.1 ∙ ap Plain (h f.0 (carried-is (HasElements f.0) (k.at 1) x.sort x.known f.2))

  of-array : {w : Want} {c : Carried} (x : Operand k 1 w c) (a : Ty) → x.sort ≡ Plain (ty.Arr a) → (s : Sort) → Fits k (want.Element 1) s → s ≡ Plain a
  of-array x a e s f = element-of x a (λ t h. elements-of-array a t x.sort e h) s f

  of-stream : {w : Want} {c : Carried} (x : Operand k 1 w c) (a : Ty) → x.sort ≡ Plain (ty.Stream a) → (s : Sort) → Fits k (want.Element 1) s → s ≡ Plain a
  of-stream x a e s f = element-of x a (λ t h. elements-of-stream a t x.sort e h) s f

  pub fill : (x y z : Carried) → Operand k 1 want.Integer x → Operand k 2 want.Integer y → Operand k 3 want.Any z → (s : Sort) → Fits k (want.ArrayOf 3) s → Belongs s (Value (op_value op.Fill (vals (x ∷ y ∷ z ∷ []))))
  fill x y z a b c s out = by-row-3 op.Fill ty.Int ty.Int out.0 (ty.Arr out.0) x y z (row.fill out.0) a a.fits b b.fits c (again (k.at 3) (Plain out.0) c.sort out.2 c.known) s out.1

  pub element : (x y : Carried) → Operand k 1 want.Array x → Operand k 2 want.Integer y → (s : Sort) → Fits k (want.Element 1) s → Belongs s (Value (op_value op.Element (vals (x ∷ y ∷ []))))
  element x y a b s out = by-row-2 op.Element (ty.Arr a.fits.0) ty.Int a.fits.0 x y (row.element a.fits.0) a a.fits.1 b b.fits s (of-array a a.fits.0 a.fits.1 s out)

  pub replace : (x y z : Carried) → Operand k 1 want.Array x → Operand k 2 want.Integer y → Operand k 3 (want.Element 1) z → (s : Sort) → Fits k (want.Same 1) s → Belongs s (Value (op_value op.Update (vals (x ∷ y ∷ z ∷ []))))
  replace x y z a b c s out =
      by-row-3 op.Update (ty.Arr a.fits.0) ty.Int a.fits.0 (ty.Arr a.fits.0) x y z (row.update a.fits.0) a a.fits.1 b b.fits c (of-array a a.fits.0 a.fits.1 c.sort c.fits) s (same a s out ∙ a.fits.1)

  pub add-high : (x y : Carried) → Operand k 1 want.Sequence x → Operand k 2 (want.Element 1) y → (s : Sort) → Fits k (want.Same 1) s → Belongs s (Value (op_value op.AddHigh (vals (x ∷ y ∷ []))))
  add-high x y a b s out =
      let t = a.fits.0 in
      elim a.fits.1 [
        | inl e ↦ by-row-2 op.AddHigh (ty.Arr t) t (ty.Arr t) x y (row.add_high t) a e b (of-array a t e b.sort b.fits) s (same a s out ∙ e)
        | inr e ↦ by-row-2 op.AddHigh (ty.Stream t) t (ty.Stream t) x y (row.append t) a e b (of-stream a t e b.sort b.fits) s (same a s out ∙ e)
      ]

  pub add-low : (x y : Carried) → Operand k 1 want.Array x → Operand k 2 (want.Element 1) y → (s : Sort) → Fits k (want.Same 1) s → Belongs s (Value (op_value op.AddLow (vals (x ∷ y ∷ []))))
  add-low x y a b s out = by-row-2 op.AddLow (ty.Arr a.fits.0) a.fits.0 (ty.Arr a.fits.0) x y (row.add_low a.fits.0) a a.fits.1 b (of-array a a.fits.0 a.fits.1 b.sort b.fits) s (same a s out ∙ a.fits.1)

  pub array-kept : (o : Operation) → ((t : Ty) → Row o (ty.Arr t ∷ []) (ty.Arr t)) → (x : Carried) → Operand k 1 want.Array x → (s : Sort) → Fits k (want.Same 1) s → Belongs s (Value (op_value o (vals (x ∷ []))))
  array-kept o r x a s out = by-row-1 o (ty.Arr a.fits.0) (ty.Arr a.fits.0) x (r a.fits.0) a a.fits.1 s (same a s out ∙ a.fits.1)

  pub array-to-int : (o : Operation) → ((t : Ty) → Row o (ty.Arr t ∷ []) ty.Int) → (x : Carried) → Operand k 1 want.Array x → (s : Sort) → Fits k want.Integer s → Belongs s (Value (op_value o (vals (x ∷ []))))
  array-to-int o r x a s out = by-row-1 o (ty.Arr a.fits.0) ty.Int x (r a.fits.0) a a.fits.1 s out

  pub set-low : (x y : Carried) → Operand k 1 want.Array x → Operand k 2 want.Integer y → (s : Sort) → Fits k (want.Same 1) s → Belongs s (Value (op_value op.SetLow (vals (x ∷ y ∷ []))))
  set-low x y a b s out = by-row-2 op.SetLow (ty.Arr a.fits.0) ty.Int (ty.Arr a.fits.0) x y (row.set_low a.fits.0) a a.fits.1 b b.fits s (same a s out ∙ a.fits.1)

  pub adjust : (x y z : Carried) → Operand k 1 want.Array x → Operand k 2 want.Integer y → Operand k 3 want.Integer z → (s : Sort) → Fits k (want.Same 1) s → Belongs s (Value (op_value op.Adjust (vals (x ∷ y ∷ z ∷ []))))
  adjust x y z a b c s out =
      by-row-3 op.Adjust (ty.Arr a.fits.0) ty.Int ty.Int (ty.Arr a.fits.0) x y z (row.adjust a.fits.0) a a.fits.1 b b.fits c c.fits s (same a s out ∙ a.fits.1)

  pub size : (x : Carried) → Operand k 1 want.Sequence x → (s : Sort) → Fits k want.Integer s → Belongs s (Value (op_value op.Size (vals (x ∷ []))))
  size x a s out =
      let t = a.fits.0 in
      elim a.fits.1 [
        | inl e ↦ by-row-1 op.Size (ty.Arr t) ty.Int x (row.size t) a e s out
        | inr e ↦ by-row-1 op.Size (ty.Stream t) ty.Int x (row.length_of t) a e s out
      ]

  pub is-empty : (x : Carried) → Operand k 1 want.Sequence x → (s : Sort) → Fits k want.Boolean s → Belongs s (Value (op_value op.IsEmpty (vals (x ∷ []))))
  is-empty x a s out =
      let t = a.fits.0 in
      elim a.fits.1 [
        | inl e ↦ by-row-1 op.IsEmpty (ty.Arr t) ty.Bool x (row.is_empty_array t) a e s out
        | inr e ↦ by-row-1 op.IsEmpty (ty.Stream t) ty.Bool x (row.is_empty t) a e s out
      ]

  pub first : (x : Carried) → Operand k 1 want.Stream x → (s : Sort) → Fits k (want.Element 1) s → Belongs s (Value (op_value op.First (vals (x ∷ []))))
  first x a s out = by-row-1 op.First (ty.Stream a.fits.0) a.fits.0 x (row.first a.fits.0) a a.fits.1 s (of-stream a a.fits.0 a.fits.1 s out)

  pub rest : (x : Carried) → Operand k 1 want.Stream x → (s : Sort) → Fits k (want.Same 1) s → Belongs s (Value (op_value op.Rest (vals (x ∷ []))))
  rest x a s out = by-row-1 op.Rest (ty.Stream a.fits.0) (ty.Stream a.fits.0) x (row.rest a.fits.0) a a.fits.1 s (same a s out ∙ a.fits.1)
