-- What is carried into a simple node of a ready unit fits its row.
use Rattle.std.proofs.Common.{◌≡◌, ◌≢◌, ℕ, zero, suc, ◌+◌, ◌-◌, ◌≤◌, Bool, true, false, List, [], ◌∷◌, length, get_or, option_map, Option, Some, None, Contains, ◌⊎◌, inl, inr, not, ◌&&◌, refl, sym, ap, subst, ◌∙◌, arith}
use Rattle.std.specs.Prelude.{slice_get}
use Rattle.std.proofs.lemmas.Bool.{and_parts}
use Rattle.flow_value.specs.declared.cause.Cause.{Cause}
use Rattle.flow_value.specs.declared.operation.Scalar1.TheVariants as one
use Rattle.flow_value.specs.declared.operation.Scalar2.TheVariants as two
use Rattle.flow_value.specs.declared.ty.Ty.{Ty}
use Rattle.flow_value.specs.declared.ty.Ty.TheVariants as ty
use Rattle.flow_value.specs.declared.value.Val.{Val}
use Rattle.if1_graph.specs.declared.graph.Edge.{Edge}
use Rattle.if1_graph.specs.declared.graph.Graph.TheViews.{out-Graph}
use Rattle.if1_graph.specs.declared.graph.Node.{Node, out-Node}
use Rattle.if1_graph.specs.declared.graph.Unit1.{Unit1}
use Rattle.if1_graph.specs.declared.op.Grouping.{Grouping}
use Rattle.if1_graph.specs.declared.op.Reducer.{Reducer}
use Rattle.if1_graph.specs.declared.op.Reducer.TheVariants as reducer
use Rattle.if1_graph.specs.declared.op.Simple.{Simple}
use Rattle.if1_graph.specs.declared.op.Simple.TheVariants as simple
use Rattle.if1_graph.specs.declared.row.Rest.{Rest}
use Rattle.if1_graph.specs.declared.row.Rest.TheVariants.{Nothing, Mask, More, Arguments, Fields, NewFields}
use Rattle.if1_graph.specs.declared.row.Use.{Use}
use Rattle.if1_graph.specs.declared.row.Want.{Want}
use Rattle.if1_graph.specs.declared.row.Want.TheVariants as want
use Rattle.if1_graph.specs.Ops.{simple_at, compound_at, reducer_at}
use Rattle.if1_graph.specs.Ports.{AreFilled}
use Rattle.if1_graph.specs.Ready.{IsReady}
use Rattle.if1_graph.specs.Rows.{Operand, operand_of, of_rest, row_of}
use Rattle.if1_graph.specs.Tables.{or_else}
use Rattle.if1_graph.specs.Types.{Sort, Plain, Many}
use Rattle.if1_graph.specs.Typing.{Known, known, IsReducible}
use Rattle.if1_graph.specs.Units.{label_of, edge_into, ports_into, width, Place, places}
use Rattle.graph_meaning.specs.Carried.{Carried, Value, Spoiled, Name, Unfilled}
use Rattle.graph_meaning.specs.Carried as carried
use Rattle.graph_meaning.specs.Strict.{AnyValue, AnInteger, AMultiple, AReduction, taken_of, is_integer, Takes, AllTake, MayHaveValues, FitsRest, Fits as FitsRow, IsFit}
use Rattle.typed_rows.proofs.ValueKinds.{IntKind, an_int, no_int, as_int}
use Rattle.unit_laws.specs.Typed.{Belongs}
use Rattle.unit_laws.proofs.TypedRows as rows
use Rattle.unit_laws.proofs.TypedSimple.{wanted, GivenAt, GivenFrom, IsWhollyFilled}
use Rattle.unit_laws.proofs.TypedNodes.{first-width, first-edge, filled-port}
use Rattle.unit_laws.proofs.TypedEdges.{IsValueWant}
use Rattle.unit_laws.proofs.TypedOutputs.{NotPartial, wholly-rest, no-reduce-or, OperandsOf, filled, operand-at, wholly, all-given}
use Rattle.unit_laws.proofs.TypedTables.{no-reduction}

-- ---- one operand

takes-value : (t : Ty) (c : Carried) → Belongs (Plain t) c → Takes AnyValue c
takes-value t (Value v) h = tt
takes-value t (carried.Many vs) h = absurd h
takes-value t (Spoiled e) h = absurd h
takes-value t (Name text) h = absurd h
takes-value t Unfilled h = absurd h

int-value : (v : Val) → IntKind v → is_integer v ≡ true
int-value _ (an_int n f) = refl
int-value _ (no_int c) = refl

takes-integer : (c : Carried) → Belongs (Plain ty.Int) c → Takes AnInteger c
takes-integer (Value v) h = int-value v (as_int v h)
takes-integer (carried.Many vs) h = absurd h
takes-integer (Spoiled e) h = absurd h
takes-integer (Name text) h = absurd h
takes-integer Unfilled h = absurd h

takes-many : (t : Ty) (c : Carried) → Belongs (Many t) c → Takes AMultiple c
takes-many t (carried.Many vs) h = tt
takes-many t (Spoiled e) h = tt
takes-many t (Value v) h = absurd h
takes-many t (Name text) h = absurd h
takes-many t Unfilled h = absurd h

module _ (k : Known) (port : ℕ) where
  plain-taken : {w : Want} {c : Carried} (a : rows.Operand k port w c) (t : Ty) → a.sort ≡ Plain t → Takes AnyValue c
  plain-taken {c = c} a t e = takes-value t c (rows.plain-at a t e)

  many-taken : {w : Want} {c : Carried} (a : rows.Operand k port w c) (t : Ty) → a.sort ≡ Many t → Takes AMultiple c
  many-taken {c = c} a t e = takes-many t c (rows.at-type c a.sort (Many t) e a.belongs)

  reducible : (r : Option Reducer) (s : Sort) → IsReducible r s → (t : Ty) × (s ≡ Many t)
  reducible None s h = absurd h
  reducible (Some reducer.Sum) s h = (ty.Int, h)
  reducible (Some reducer.Product) s h = (ty.Int, h)
  reducible (Some reducer.Least) s h = (ty.Int, h)
  reducible (Some reducer.Greatest) s h = (ty.Int, h)
  reducible (Some reducer.Catenate) s h =
      elim h.1 [
        | inl e ↦ (ty.Arr h.0, e)
        | inr e ↦ (ty.Stream h.0, e)
      ]

  -- what is given at a port is what the row takes there
  taken : (w : Want) (c : Carried) → w ≢ want.Function → ((text : List ℕ) → w ≡ want.Reduction → k.reducer ≡ reducer_at text → (r : Reducer) × (reducer_at text ≡ Some r)) → GivenAt k port (Some w) c → Takes (taken_of w) c
  taken want.Integer c f r a = takes-integer c (rows.plain-at a ty.Int a.fits)
  taken want.Boolean c f r a = plain-taken a ty.Bool a.fits
  taken want.Character c f r a = plain-taken a ty.Char a.fits
  taken want.IntegerOrBoolean c f r a = elim a.fits [ inl e ↦ plain-taken a ty.Int e | inr e ↦ plain-taken a ty.Bool e ]
  taken want.IntegerOrCharacter c f r a = elim a.fits [ inl e ↦ plain-taken a ty.Int e | inr e ↦ plain-taken a ty.Char e ]
  taken want.Discrete c f r a = elim a.fits [ inl e ↦ plain-taken a ty.Int e | inr x ↦ elim x [ inl e ↦ plain-taken a ty.Bool e | inr e ↦ plain-taken a ty.Char e ] ]
  taken want.Scalar c f r a = elim a.fits [ inl e ↦ plain-taken a ty.Int e | inr x ↦ elim x [ inl e ↦ plain-taken a ty.Bool e | inr y ↦ elim y [ inl e ↦ plain-taken a ty.Char e | inr e ↦ plain-taken a ty.Null e ] ] ]
  taken want.Any c f r a = plain-taken a a.fits.0 a.fits.1
  taken want.Array c f r a = plain-taken a (ty.Arr a.fits.0) a.fits.1
  taken want.Stream c f r a = plain-taken a (ty.Stream a.fits.0) a.fits.1
  taken want.Sequence c f r a = elim a.fits.1 [ inl e ↦ plain-taken a (ty.Arr a.fits.0) e | inr e ↦ plain-taken a (ty.Stream a.fits.0) e ]
  taken want.Record c f r a = plain-taken a (ty.Rec a.fits.0) a.fits.1
  taken want.Multiple c f r a = many-taken a a.fits.0 a.fits.1
  taken want.Integers c f r a = many-taken a ty.Int a.fits
  taken want.Booleans c f r a = many-taken a ty.Bool a.fits
  taken want.Reducible c f r a = let x = reducible k.reducer a.sort a.fits in many-taken a x.0 x.1
  taken want.Function c f r a = absurd (f refl)
  taken want.Reduction c f r a = subst (Takes AReduction) (sym a.1) (r a.0 refl a.2)
  taken (want.Same q) c f r a = plain-taken a (a.fits.0).0 (a.fits.0).1
  taken (want.Element q) c f r a = plain-taken a a.fits.0 a.fits.1
  taken (want.ArrayOf q) c f r a = plain-taken a (ty.Arr a.fits.0) a.fits.1
  taken (want.SequenceOf q) c f r a = elim a.fits.1 [ inl e ↦ plain-taken a (ty.Arr a.fits.0) e | inr e ↦ plain-taken a (ty.Stream a.fits.0) e ]
  taken (want.SequenceOfElements q) c f r a = elim a.fits.1 [ inl e ↦ plain-taken a (ty.Arr a.fits.0) e | inr e ↦ plain-taken a (ty.Stream a.fits.0) e ]
  taken (want.Elements q) c f r a = many-taken a a.fits.0 a.fits.1
  taken want.Built c f r a = elim a.fits [ inl x ↦ plain-taken a (ty.Rec x.0) x.1 | inr x ↦ plain-taken a (ty.Uni x.0) x.2 ]
  taken (want.Argument q) c f r a = plain-taken a a.fits.0 a.fits.2
  taken (want.Output q) c f r a = plain-taken a a.fits.0 a.fits.2
  taken (want.FieldOf q) c f r a = plain-taken a (a.fits.0).1 a.fits.2

-- ---- rows

abbrev NoNames : List Operand → Type 0
NoNames [] = Unit {0}
NoNames (x ∷ xs) = (x.1 ≢ want.Function) × NoNames xs

-- the names of functions stand in calls alone
abbrev RestNames : Rest → Type 0
RestNames (More how w) = w ≢ want.Function
RestNames _ = Unit {0}

module _ (k : Known) (o : Simple) (reductions : (g : Grouping) → o ≡ simple.Reduce g → (text : List ℕ) → k.reducer ≡ reducer_at text → (r : Reducer) × (reducer_at text ≡ Some r)) where
  at-reduction : (place : ℕ) (w : Want) → wanted o (suc place) ≡ Some w → (text : List ℕ) → w ≡ want.Reduction → k.reducer ≡ reducer_at text → (r : Reducer) × (reducer_at text ≡ Some r)
  at-reduction place w e text q =
      elim (no-reduce-or o) [
        | inl h ↦ absurd (no-reduction o h place (e ∙ ap Some q))
        | inr g ↦ reductions g.0 g.1 text
      ]

  rest-fits : (place : ℕ) (cs : List Carried) → ((j : ℕ) → operand_of o (suc (place + j)) ≡ of_rest (row_of o).rest (suc (place + j))) → (r : Rest) → (row_of o).rest ≡ r → NotPartial r → RestNames r → (r ≡ Mask → length cs ≤ 1) → GivenFrom k o (suc place) cs → FitsRest r cs
  rest-fits place cs at r e part names mask g = go cs r e part names mask place at g
    where
      moved : (place : ℕ) → ((j : ℕ) → operand_of o (suc (place + j)) ≡ of_rest (row_of o).rest (suc (place + j))) → (j : ℕ) → operand_of o (suc (suc place + j)) ≡ of_rest (row_of o).rest (suc (suc place + j))
      moved place at j = let next : place + suc j ≡ suc place + j = omega arith in subst (λ q. operand_of o (suc q) ≡ of_rest (row_of o).rest (suc q)) next (at (suc j))

      here-is : (place : ℕ) → ((j : ℕ) → operand_of o (suc (place + j)) ≡ of_rest (row_of o).rest (suc (place + j))) → operand_of o (suc place) ≡ of_rest (row_of o).rest (suc place)
      here-is place at = let start : place + 0 ≡ place = omega arith in subst (λ q. operand_of o (suc q) ≡ of_rest (row_of o).rest (suc q)) start (at 0)

      all-more : (how : Use) (w : Want) → w ≢ want.Function → (row_of o).rest ≡ More how w → (cs : List Carried) (place : ℕ) → ((j : ℕ) → operand_of o (suc (place + j)) ≡ of_rest (row_of o).rest (suc (place + j))) → GivenFrom k o (suc place) cs → AllTake (taken_of w) cs
      all-more how w f e [] place at g = tt
      all-more how w f e (c ∷ cs) place at g = (
        let is = ap (option_map (λ (x : Operand). x.1)) (here-is place at ∙ ap (λ r. of_rest r (suc place)) e) in
            taken k (suc place) w c f (at-reduction place w is) (subst (λ x. GivenAt k (suc place) x c) is g.0),
        all-more how w f e cs (suc place) (moved place at) g.1,
      )

      go : (cs : List Carried) (r : Rest) → (row_of o).rest ≡ r → NotPartial r → RestNames r → (r ≡ Mask → length cs ≤ 1) → (place : ℕ) → ((j : ℕ) → operand_of o (suc (place + j)) ≡ of_rest (row_of o).rest (suc (place + j))) → GivenFrom k o (suc place) cs → FitsRest r cs
      go [] Nothing e part names mask place at g = tt
      go (c ∷ cs) Nothing e part names mask place at g = absurd (subst (λ x. GivenAt k (suc place) x c) (ap (option_map (λ (x : Operand). x.1)) (here-is place at ∙ ap (λ r. of_rest r (suc place)) e)) g.0)
      go [] Mask e part names mask place at g = tt
      go (c ∷ []) Mask e part names mask place at g =
          taken k (suc place) want.Booleans c (λ z. cc) (λ text q. absurd cc) (subst (λ x. GivenAt k (suc place) x c) (ap (option_map (λ (x : Operand). x.1)) (here-is place at ∙ ap (λ r. of_rest r (suc place)) e)) g.0)
      go (c ∷ d ∷ cs) Mask e part names mask place at g = absurd (let le = mask refl in omega (arith, le))
      go cs (More how w) e part names mask place at g = all-more how w names e cs place at g
      go cs Arguments e part names mask place at g = absurd part
      go cs Fields e part names mask place at g = absurd part
      go cs NewFields e part names mask place at g = absurd part

  pub row-fits : (place : ℕ) (os : List Operand) (cs : List Carried) → ((j : ℕ) → slice_get (row_of o).operands (place + j) ≡ slice_get os j) → NoNames os → length os ≤ length cs → NotPartial (row_of o).rest → RestNames (row_of o).rest → ((row_of o).rest ≡ Mask → length cs ≤ suc (length os)) → GivenFrom k o (suc place) cs → FitsRow os (row_of o).rest cs
  row-fits place [] cs at names few part rest mask g =
      rest-fits place cs (λ j. ap (λ x. or_else x (of_rest (row_of o).rest (suc (place + j)))) (at j)) (row_of o).rest refl part rest (λ e. let le = mask e in omega (arith, le)) g
  row-fits place (x ∷ os) [] at names few part rest mask g = absurd (omega (arith, few))
  row-fits place (x ∷ os) (c ∷ cs) at names few part rest mask g = (
    taken k (suc place) x.1 c names.0 (at-reduction place x.1 here) (subst (λ y. GivenAt k (suc place) y c) here g.0),
    row-fits (suc place) os cs (λ j. let next : place + suc j ≡ suc place + j = omega arith in subst (λ q. slice_get (row_of o).operands q ≡ slice_get os j) next (at (suc j))) names.1 (omega (arith, few)) part rest (λ e. let le = mask e in omega (arith, le)) g.1,
  )
    where
      here : wanted o (suc place) ≡ Some x.1
      here = let start : place + 0 ≡ place = omega arith in ap (λ y. option_map (λ (x : Operand). x.1) (or_else y (of_rest (row_of o).rest (suc place)))) (subst (λ q. slice_get (row_of o).operands q ≡ Some x) start (at 0))

-- ---- the table has no names of functions but in calls

abbrev is_function : Want → Bool
is_function want.Function = true
is_function _ = false

abbrev unnamed : List Operand → Bool
unnamed [] = true
unnamed (x ∷ xs) = not (is_function x.1) && unnamed xs

abbrev rest_unnamed : Rest → Bool
rest_unnamed (More how w) = not (is_function w)
rest_unnamed _ = true

no-function : (w : Want) → not (is_function w) ≡ true → w ≢ want.Function
no-function w h e = let b : false ≡ true = ap (λ w. not (is_function w)) (sym e) ∙ h in cc

no-names : (os : List Operand) → unnamed os ≡ true → NoNames os
no-names [] h = tt
no-names (x ∷ xs) h = let q = and_parts (not (is_function x.1)) (unnamed xs) h in (no-function x.1 q.0, no-names xs q.1)

rest-names : (r : Rest) → rest_unnamed r ≡ true → RestNames r
rest-names (More how w) h = no-function w h
rest-names Nothing h = tt
rest-names Mask h = tt
rest-names Arguments h = tt
rest-names Fields h = tt
rest-names NewFields h = tt

names-of : (o : Simple) → IsWhollyFilled o → (unnamed (row_of o).operands ≡ true) × (rest_unnamed (row_of o).rest ≡ true)
names-of (simple.Two two.Plus) h = (refl, refl)
names-of (simple.Two two.Minus) h = (refl, refl)
names-of (simple.Two two.Times) h = (refl, refl)
names-of (simple.Two two.Div) h = (refl, refl)
names-of (simple.Two two.Mod) h = (refl, refl)
names-of (simple.Two two.Max) h = (refl, refl)
names-of (simple.Two two.Min) h = (refl, refl)
names-of (simple.Two two.Equal) h = (refl, refl)
names-of (simple.Two two.NotEqual) h = (refl, refl)
names-of (simple.Two two.Less) h = (refl, refl)
names-of (simple.Two two.LessEqual) h = (refl, refl)
names-of (simple.One one.Neg) h = (refl, refl)
names-of (simple.One one.Abs) h = (refl, refl)
names-of (simple.One one.Not) h = (refl, refl)
names-of (simple.One one.Int) h = (refl, refl)
names-of (simple.One one.Bool) h = (refl, refl)
names-of (simple.One one.Char) h = (refl, refl)
names-of (simple.One one.IsError) h = (refl, refl)
names-of simple.Call h = absurd h
names-of simple.RBuild h = absurd h
names-of simple.RReplace h = absurd h
names-of _ h = (refl, refl)

-- ---- nodes

may-have : (cs : List Carried) → ((i : ℕ) → (get_or cs i Unfilled ≡ Unfilled) ⊎ ((t : Ty) × Belongs (Plain t) (get_or cs i Unfilled))) → MayHaveValues cs
may-have [] h = tt
may-have (Value v ∷ cs) h = may-have cs (λ i. h (suc i))
may-have (Unfilled ∷ cs) h = may-have cs (λ i. h (suc i))
may-have (carried.Many vs ∷ cs) h = absurd (elim (h 0) [ inl e ↦ no-unfilled vs e | inr x ↦ x.1 ])
  where
    no-unfilled : (vs : List Val) → carried.Many vs ≡ Unfilled → ⊥
    no-unfilled vs e = cc
may-have (Spoiled c ∷ cs) h = absurd (elim (h 0) [ inl e ↦ no-unfilled c e | inr x ↦ x.1 ])
  where
    no-unfilled : (c : Cause) → Spoiled c ≡ Unfilled → ⊥
    no-unfilled c e = cc
may-have (Name text ∷ cs) h = absurd (elim (h 0) [ inl e ↦ no-unfilled text e | inr x ↦ x.1 ])
  where
    no-unfilled : (text : List ℕ) → Name text ≡ Unfilled → ⊥
    no-unfilled text e = cc

module _ (u : Unit1) (ready : IsReady u) (p : Place) (place : Contains (places u) p) (n : Node) (inside : Contains (out-Graph p.graph).nodes n) where
  abbrev l : ℕ
  l = label_of n

  module _ (o : Simple) (is : simple_at (out-Node n).op ≡ Some o) (none : compound_at (out-Node n).op ≡ None) (ks : List Carried) (given : OperandsOf u p.graph l ks) where
    abbrev k : Known
    k = known u p.graph l

    -- the reduction is known, since what it is to fold fits it
    reduction-known : (g : Grouping) → o ≡ simple.Reduce g → (text : List ℕ) → k.reducer ≡ reducer_at text → (r : Reducer) × (reducer_at text ≡ Some r)
    reduction-known g e text same =
        let is-reduce = is ∙ ap Some e in
        let w = wholly u ready p place n inside (simple.Reduce g) is-reduce none ks given tt in
        let f = first-edge p.graph l w.count w.first 1 (let enough = w.enough in omega (arith, enough)) in
        let x = operand-at u ready p place n inside (simple.Reduce g) is-reduce none ks given 1 want.Reducible refl tt f.0 f.1 in
        go k.reducer refl x.sort x.fits
      where
        go : (r : Option Reducer) → k.reducer ≡ r → (s : Sort) → IsReducible r s → (r : Reducer) × (reducer_at text ≡ Some r)
        go None q s h = absurd h
        go (Some r) q s h = (r, sym same ∙ q)

    mask-few : (r : Rest) → r ≡ Mask → AreFilled u p.graph l (length (row_of o).operands) r (ports_into p.graph l) → width p.graph l ≤ suc (length (row_of o).operands)
    mask-few Mask e (inl f) = let w = first-width (length (row_of o).operands) (ports_into p.graph l) f in omega (arith, w)
    mask-few Mask e (inr f) = let w = first-width (suc (length (row_of o).operands)) (ports_into p.graph l) f in omega (arith, w)
    mask-few Nothing e f = absurd cc
    mask-few (More how w) e f = absurd cc
    mask-few Arguments e f = absurd cc
    mask-few Fields e f = absurd cc
    mask-few NewFields e f = absurd cc

    whole-fit : IsWhollyFilled o → IsFit o ks
    whole-fit h =
        let a = all-given u ready p place n inside o is none ks given h in
        let names = names-of o h in
        row-fits k o reduction-known 0 (row_of o).operands ks (λ j. ap (slice_get (row_of o).operands) (zero-plus j)) (no-names (row_of o).operands names.0) a.1 (wholly-rest o h) (rest-names (row_of o).rest names.1)
        (λ e. let few = mask-few (row_of o).rest e (filled u ready p place n inside o is none).ports in let long = given.long in omega (arith, few, long)) a.0
      where
        zero-plus : (j : ℕ) → 0 + j ≡ j
        zero-plus j = omega arith

    -- a port is not filled, or has a value
    value-or-none : (i : ℕ) (w : Want) → wanted o (suc i) ≡ Some w → IsValueWant (Some w) → ((a : rows.Operand k (suc i) w (get_or ks i Unfilled)) → (t : Ty) × (a.sort ≡ Plain t)) → (get_or ks i Unfilled ≡ Unfilled) ⊎ ((t : Ty) × Belongs (Plain t) (get_or ks i Unfilled))
    value-or-none i w e v plain = go (edge_into p.graph l (suc i)) refl
      where
        go : (x : Option Edge) → edge_into p.graph l (suc i) ≡ x → (get_or ks i Unfilled ≡ Unfilled) ⊎ ((t : Ty) × Belongs (Plain t) (get_or ks i Unfilled))
        go None f = inl (given.unfilled i f)
        go (Some x) f =
            let a = operand-at u ready p place n inside o is none ks given i w e v x f in
            let t = plain a in
            inr (t.0, rows.plain-at a t.0 t.1)

  any-wanted : (i : ℕ) → wanted simple.RBuild (suc i) ≡ Some want.Any
  any-wanted zero = refl
  any-wanted (suc i) = refl

  built-fit : simple_at (out-Node n).op ≡ Some simple.RBuild → compound_at (out-Node n).op ≡ None → (ks : List Carried) → OperandsOf u p.graph l ks → IsFit simple.RBuild ks
  built-fit is none ks given = may-have ks (λ i. value-or-none simple.RBuild is none ks given i want.Any (any-wanted i) tt (λ a. a.fits))

  changed-fit : simple_at (out-Node n).op ≡ Some simple.RReplace → compound_at (out-Node n).op ≡ None → (ks : List Carried) → OperandsOf u p.graph l ks → IsFit simple.RReplace ks
  changed-fit is none ks given = go ks refl
    where
      first : (e : Edge) × (edge_into p.graph l 1 ≡ Some e)
      first = filled-port p.graph l 1 (filled u ready p place n inside simple.RReplace is none).ports.0

      a : rows.Operand (known u p.graph l) 1 want.Record (get_or ks 0 Unfilled)
      a = operand-at u ready p place n inside simple.RReplace is none ks given 0 want.Record refl tt first.0 first.1

      field-wanted : (i : ℕ) → wanted simple.RReplace (suc (suc i)) ≡ Some (want.FieldOf (suc i))
      field-wanted i = let less : suc (suc i) - 1 ≡ suc i = omega arith in ap (λ q. Some (want.FieldOf q)) less

      go : (cs : List Carried) → ks ≡ cs → IsFit simple.RReplace cs
      go [] e = absurd (subst (λ z. Belongs (Plain (ty.Rec a.fits.0)) (get_or z 0 Unfilled)) e (rows.plain-at a (ty.Rec a.fits.0) a.fits.1))
      go (c ∷ cs) e = (
        takes-value (ty.Rec a.fits.0) c (subst (λ z. Belongs (Plain (ty.Rec a.fits.0)) (get_or z 0 Unfilled)) e (rows.plain-at a (ty.Rec a.fits.0) a.fits.1)),
        may-have cs (λ i. subst (λ z. (get_or z (suc i) Unfilled ≡ Unfilled) ⊎ ((t : Ty) × Belongs (Plain t) (get_or z (suc i) Unfilled))) e
            (value-or-none simple.RReplace is none ks given (suc i) (want.FieldOf (suc i)) (field-wanted i) tt (λ b. ((b.fits.0).1, b.fits.2)))),
      )

  -- what is carried into a simple node other than a Call fits its row
  pub node-fits : (o : Simple) → simple_at (out-Node n).op ≡ Some o → compound_at (out-Node n).op ≡ None → o ≢ simple.Call → (ks : List Carried) → OperandsOf u p.graph l ks → IsFit o ks
  node-fits simple.Call is none ne ks given = absurd (ne refl)
  node-fits simple.RBuild is none ne ks given = built-fit is none ks given
  node-fits simple.RReplace is none ne ks given = changed-fit is none ks given
  node-fits o is none ne ks given = whole-fit o is none ks given tt
