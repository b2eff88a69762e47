-- Each row of the table gives outputs of its types on operands of its types.
use Rattle.std.proofs.Common.{◌≡◌, ℕ, zero, suc, ◌≤◌, List, [], ◌∷◌, length, get_or, option_map, Option, Some, None, inl, inr, refl, sym, ap, subst, ◌∙◌, arith}
use Rattle.flow_value.specs.declared.operation.Scalar1.TheVariants as one
use Rattle.flow_value.specs.declared.operation.Scalar2.TheVariants as two
use Rattle.flow_value.specs.declared.ty.Ty.{Ty}
use Rattle.flow_value.specs.declared.ty.Ty.TheVariants as ty
use Rattle.if1_graph.specs.Ops.{reducer_at}
use Rattle.if1_graph.specs.Ports.{fields_of, tags_of}
use Rattle.if1_graph.specs.Rows.{operand_of, output_of, row_of}
use Rattle.if1_graph.specs.Tables.{at_port}
use Rattle.if1_graph.specs.Types.{Sort, Plain}
use Rattle.if1_graph.specs.Typing.{Known, IfCarried, Fits}
use Rattle.if1_graph.specs.declared.op.Simple.{Simple}
use Rattle.if1_graph.specs.declared.op.Simple.TheVariants as simple
use Rattle.if1_graph.specs.declared.row.Want.{Want}
use Rattle.if1_graph.specs.declared.row.Want.TheVariants as want
use Rattle.value_ops.specs.Operations.{op_value}
use Rattle.value_ops.specs.declared.operation.Operation.TheVariants as op
use Rattle.graph_meaning.specs.Carried.{Carried, Value, Name, Unfilled, vals}
use Rattle.graph_meaning.specs.NodeValues.{Shape}
use Rattle.graph_meaning.specs.NodeValues as nodes
use Rattle.graph_meaning.specs.Networks.{stream_shape, union_shape, fields_shape}
use Rattle.typed_rows.specs.Rows as row
use Rattle.unit_laws.specs.Typed.{Belongs}
use Rattle.unit_laws.proofs.TypeLists.{some-same}
use Rattle.unit_laws.proofs.TypedRows.{Operand, again, plain-at, by-row, unary, plus, times, arithmetic, equality, order, to-int, to-bool, to-char, is-error, fill, element, replace, add-high, add-low, array-kept, array-to-int, set-low, adjust, size, is-empty, first, rest}
use Rattle.unit_laws.proofs.TypedLists.{EachPlain, elements-built, catenated-arrays, catenated-streams, kept, ranged, scattered, indices, gathered, last-taken, reduction-right, field-given}

-- the type that is wanted at a port
abbrev pub wanted : Simple → ℕ → Option Want
wanted o port = option_map (λ x. x.1) (operand_of o port)

-- what is carried into a port is the name of a reduction, or belongs to a type that is wanted; of the name of a function nothing
-- is said
abbrev pub GivenAt : Known → ℕ → Option Want → Carried → Type 0
GivenAt k port None c = ⊥
GivenAt k port (Some want.Function) c = Unit {0}
GivenAt k port (Some want.Reduction) c = (text : List ℕ) × (c ≡ Name text) × (k.reducer ≡ reducer_at text)
GivenAt k port (Some w) c = Operand k port w c

abbrev pub GivenFrom : Known → Simple → ℕ → List Carried → Type 0
GivenFrom k o port [] = Unit {0}
GivenFrom k o port (c ∷ cs) = GivenAt k port (wanted o port) c × GivenFrom k o (suc port) cs

-- what the types on its edges tell of a node whose output of this type is asked for
abbrev pub ShapeFor : Known → Simple → Sort → Shape → Type 0
ShapeFor k simple.ABuild s p = p ≡ stream_shape (Some s)
ShapeFor k simple.AGather s p = p ≡ stream_shape (Some s)
ShapeFor k (simple.Reduce grouping) s p = p ≡ stream_shape (Some s)
ShapeFor k simple.RBuild s p = p ≡ union_shape (tags_of (Some s))
ShapeFor k simple.RElements s p = p ≡ fields_shape (fields_of (k.at 1))
ShapeFor k _ s p = Unit {0}

-- every port of these nodes is filled, and they enter no graph
abbrev pub IsWhollyFilled : Simple → Type 0
IsWhollyFilled simple.Call = ⊥
IsWhollyFilled simple.RBuild = ⊥
IsWhollyFilled simple.RReplace = ⊥
IsWhollyFilled _ = Unit {0}

module _ (k : Known) where
  -- ---- operands

  args0 : (o : Simple) (P : List Carried → Type 0) → P [] → wanted o 1 ≡ None → (cs : List Carried) → GivenFrom k o 1 cs → P cs
  args0 o P f none [] h = f
  args0 o P f none (x ∷ cs) h = absurd (subst (λ w. GivenAt k 1 w x) none h.0)

  args1 : (o : Simple) (P : List Carried → Type 0) → ((x : Carried) → GivenAt k 1 (wanted o 1) x → P (x ∷ [])) → wanted o 2 ≡ None → (cs : List Carried) → GivenFrom k o 1 cs → 1 ≤ length cs → P cs
  args1 o P f none [] h n = absurd (omega (arith, n))
  args1 o P f none (x ∷ []) h n = f x h.0
  args1 o P f none (x ∷ y ∷ cs) h n = absurd (subst (λ w. GivenAt k 2 w y) none h.1.0)

  args2 : (o : Simple) (P : List Carried → Type 0) → ((x y : Carried) → GivenAt k 1 (wanted o 1) x → GivenAt k 2 (wanted o 2) y → P (x ∷ y ∷ [])) → wanted o 3 ≡ None → (cs : List Carried) → GivenFrom k o 1 cs → 2 ≤ length cs → P cs
  args2 o P f none [] h n = absurd (omega (arith, n))
  args2 o P f none (x ∷ []) h n = absurd (omega (arith, n))
  args2 o P f none (x ∷ y ∷ []) h n = f x y h.0 h.1.0
  args2 o P f none (x ∷ y ∷ z ∷ cs) h n = absurd (subst (λ w. GivenAt k 3 w z) none h.1.1.0)

  args3 : (o : Simple) (P : List Carried → Type 0) → ((x y z : Carried) → GivenAt k 1 (wanted o 1) x → GivenAt k 2 (wanted o 2) y → GivenAt k 3 (wanted o 3) z → P (x ∷ y ∷ z ∷ [])) → wanted o 4 ≡ None → (cs : List Carried) → GivenFrom k o 1 cs → 3 ≤ length cs → P cs
  args3 o P f none [] h n = absurd (omega (arith, n))
  args3 o P f none (x ∷ []) h n = absurd (omega (arith, n))
  args3 o P f none (x ∷ y ∷ []) h n = absurd (omega (arith, n))
  args3 o P f none (x ∷ y ∷ z ∷ []) h n = f x y z h.0 h.1.0 h.1.1.0
  args3 o P f none (x ∷ y ∷ z ∷ q ∷ cs) h n = absurd (subst (λ w. GivenAt k 4 w q) none h.1.1.1.0)

  more1 : (o : Simple) (P : List Carried → Type 0) → ((x : Carried) (cs : List Carried) → GivenAt k 1 (wanted o 1) x → GivenFrom k o 2 cs → P (x ∷ cs)) → (cs : List Carried) → GivenFrom k o 1 cs → 1 ≤ length cs → P cs
  more1 o P f [] h n = absurd (omega (arith, n))
  more1 o P f (x ∷ cs) h n = f x cs h.0 h.1

  more2 : (o : Simple) (P : List Carried → Type 0) → ((x y : Carried) (cs : List Carried) → GivenAt k 1 (wanted o 1) x → GivenAt k 2 (wanted o 2) y → GivenFrom k o 3 cs → P (x ∷ y ∷ cs)) → (cs : List Carried) → GivenFrom k o 1 cs → 2 ≤ length cs → P cs
  more2 o P f [] h n = absurd (omega (arith, n))
  more2 o P f (x ∷ []) h n = absurd (omega (arith, n))
  more2 o P f (x ∷ y ∷ cs) h n = f x y cs h.0 h.1.0 h.1.1

  -- ---- outputs

  out1 : (s : Sort) (r : Want) (c : Carried) → (Fits k r s → Belongs s c) → (i : ℕ) (w : Want) → at_port (suc i) (r ∷ []) ≡ Some w → Fits k w s → Belongs s (get_or (c ∷ []) i Unfilled)
  out1 s r c f zero w e h = f (subst (λ z. Fits k z s) (sym (some-same r w e)) h)
  out1 s r c f (suc i) w e h = absurd cc

  -- ---- further operands

  same-as-second : (t : Ty) → IfCarried (k.at 2) (λ e. e ≡ Plain t) → (j : ℕ) (cs : List Carried) → GivenFrom k simple.ABuild (suc (suc j)) cs → EachPlain t cs
  same-as-second t h j [] g = tt
  same-as-second t h j (c ∷ cs) g = (here g.0, same-as-second t h (suc j) cs g.1)
    where
      here : Operand k (suc (suc j)) (want.Same 2) c → Belongs (Plain t) c
      here a = plain-at a t (subst (λ o. IfCarried o (λ e. e ≡ Plain t)) a.fits.1 h)

  same-as-first : (t : Ty) → k.at 1 ≡ Some (Plain t) → (j : ℕ) (cs : List Carried) → GivenFrom k simple.ACatenate (suc (suc (suc j))) cs → EachPlain t cs
  same-as-first t h j [] g = tt
  same-as-first t h j (c ∷ cs) g = (here g.0, same-as-first t h (suc j) cs g.1)
    where
      here : Operand k (suc (suc (suc j))) (want.Same 1) c → Belongs (Plain t) c
      here a = plain-at a t (again (k.at 1) (Plain t) a.sort h a.fits.1)

  catenated : (x y : Carried) (cs : List Carried) → Operand k 1 want.Sequence x → Operand k 2 (want.Same 1) y → GivenFrom k simple.ACatenate 3 cs → (s : Sort) → Fits k (want.Same 1) s → Belongs s (Value (op_value op.Catenate (vals (x ∷ y ∷ cs))))
  catenated x y cs a b g s out =
      let t = a.fits.0 in
      elim a.fits.1 [
        | inl e ↦
            let known : k.at 1 ≡ Some (Plain (ty.Arr t)) = a.known ∙ ap Some e in
            catenated-arrays t s x (y ∷ cs) (again (k.at 1) a.sort s a.known out.1 ∙ e) (plain-at a (ty.Arr t) e)
            (plain-at b (ty.Arr t) (again (k.at 1) (Plain (ty.Arr t)) b.sort known b.fits.1), same-as-first (ty.Arr t) known 0 cs g)
        | inr e ↦
            let known : k.at 1 ≡ Some (Plain (ty.Stream t)) = a.known ∙ ap Some e in
            catenated-streams t s x (y ∷ cs) (again (k.at 1) a.sort s a.known out.1 ∙ e) (plain-at a (ty.Stream t) e)
            (plain-at b (ty.Stream t) (again (k.at 1) (Plain (ty.Stream t)) b.sort known b.fits.1), same-as-first (ty.Stream t) known 0 cs g)
      ]

  -- ---- the table

  abbrev Right : Simple → Shape → Sort → ℕ → List Carried → Type 0
  Right o p s i cs = Belongs s (get_or (nodes.op o p cs) i Unfilled)

  pub simple-right : (o : Simple) (p : Shape) (cs : List Carried) → IsWhollyFilled o → GivenFrom k o 1 cs → length (row_of o).operands ≤ length cs → (s : Sort) → ShapeFor k o s p → (i : ℕ) (w : Want) → output_of o (suc i) ≡ Some w → Fits k w s → Right o p s i cs
  simple-right (simple.Two two.Plus) p cs f g n s q i w e h = args2 (simple.Two two.Plus) (Right (simple.Two two.Plus) p s i) (λ x y a b. out1 s (want.Same 1) _ (plus k x y a b s) i w e h) refl cs g n
  simple-right (simple.Two two.Times) p cs f g n s q i w e h = args2 (simple.Two two.Times) (Right (simple.Two two.Times) p s i) (λ x y a b. out1 s (want.Same 1) _ (times k x y a b s) i w e h) refl cs g n
  simple-right (simple.Two two.Minus) p cs f g n s q i w e h = args2 (simple.Two two.Minus) (Right (simple.Two two.Minus) p s i) (λ x y a b. out1 s want.Integer _ (arithmetic k two.Minus (row.arithmetic two.Minus tt) x y a b s) i w e h) refl cs g n
  simple-right (simple.Two two.Div) p cs f g n s q i w e h = args2 (simple.Two two.Div) (Right (simple.Two two.Div) p s i) (λ x y a b. out1 s want.Integer _ (arithmetic k two.Div (row.arithmetic two.Div tt) x y a b s) i w e h) refl cs g n
  simple-right (simple.Two two.Mod) p cs f g n s q i w e h = args2 (simple.Two two.Mod) (Right (simple.Two two.Mod) p s i) (λ x y a b. out1 s want.Integer _ (arithmetic k two.Mod (row.arithmetic two.Mod tt) x y a b s) i w e h) refl cs g n
  simple-right (simple.Two two.Max) p cs f g n s q i w e h = args2 (simple.Two two.Max) (Right (simple.Two two.Max) p s i) (λ x y a b. out1 s want.Integer _ (arithmetic k two.Max (row.arithmetic two.Max tt) x y a b s) i w e h) refl cs g n
  simple-right (simple.Two two.Min) p cs f g n s q i w e h = args2 (simple.Two two.Min) (Right (simple.Two two.Min) p s i) (λ x y a b. out1 s want.Integer _ (arithmetic k two.Min (row.arithmetic two.Min tt) x y a b s) i w e h) refl cs g n
  simple-right (simple.Two two.Equal) p cs f g n s q i w e h = args2 (simple.Two two.Equal) (Right (simple.Two two.Equal) p s i) (λ x y a b. out1 s want.Boolean _ (equality k two.Equal (inl refl) x y a b s) i w e h) refl cs g n
  simple-right (simple.Two two.NotEqual) p cs f g n s q i w e h = args2 (simple.Two two.NotEqual) (Right (simple.Two two.NotEqual) p s i) (λ x y a b. out1 s want.Boolean _ (equality k two.NotEqual (inr refl) x y a b s) i w e h) refl cs g n
  simple-right (simple.Two two.Less) p cs f g n s q i w e h = args2 (simple.Two two.Less) (Right (simple.Two two.Less) p s i) (λ x y a b. out1 s want.Boolean _ (order k two.Less (inl refl) x y a b s) i w e h) refl cs g n
  simple-right (simple.Two two.LessEqual) p cs f g n s q i w e h = args2 (simple.Two two.LessEqual) (Right (simple.Two two.LessEqual) p s i) (λ x y a b. out1 s want.Boolean _ (order k two.LessEqual (inr refl) x y a b s) i w e h) refl cs g n
  simple-right (simple.One one.Neg) p cs f g n s q i w e h = args1 (simple.One one.Neg) (Right (simple.One one.Neg) p s i) (λ x a. out1 s want.Integer _ (unary k (op.Unary one.Neg) ty.Int ty.Int row.negated x a a.fits s) i w e h) refl cs g n
  simple-right (simple.One one.Abs) p cs f g n s q i w e h = args1 (simple.One one.Abs) (Right (simple.One one.Abs) p s i) (λ x a. out1 s want.Integer _ (unary k (op.Unary one.Abs) ty.Int ty.Int row.absolute x a a.fits s) i w e h) refl cs g n
  simple-right (simple.One one.Not) p cs f g n s q i w e h = args1 (simple.One one.Not) (Right (simple.One one.Not) p s i) (λ x a. out1 s want.Boolean _ (unary k (op.Unary one.Not) ty.Bool ty.Bool row.inverted x a a.fits s) i w e h) refl cs g n
  simple-right (simple.One one.Int) p cs f g n s q i w e h = args1 (simple.One one.Int) (Right (simple.One one.Int) p s i) (λ x a. out1 s want.Integer _ (to-int k x a s) i w e h) refl cs g n
  simple-right (simple.One one.Bool) p cs f g n s q i w e h = args1 (simple.One one.Bool) (Right (simple.One one.Bool) p s i) (λ x a. out1 s want.Boolean _ (to-bool k x a s) i w e h) refl cs g n
  simple-right (simple.One one.Char) p cs f g n s q i w e h = args1 (simple.One one.Char) (Right (simple.One one.Char) p s i) (λ x a. out1 s want.Character _ (to-char k x a s) i w e h) refl cs g n
  simple-right (simple.One one.IsError) p cs f g n s q i w e h = args1 (simple.One one.IsError) (Right (simple.One one.IsError) p s i) (λ x a. out1 s want.Boolean _ (is-error k x a s) i w e h) refl cs g n
  simple-right simple.NoOp p cs f g n s q i w e h = args1 simple.NoOp (Right simple.NoOp p s i) (λ x a. out1 s (want.Same 1) _ (kept k x a s) i w e h) refl cs g n
  simple-right simple.Error p cs f g n s q i w e h = args0 simple.Error (Right simple.Error p s i) (out1 s want.Any _ (λ out. by-row op.Error [] out.0 [] (row.an_error out.0) tt s out.1) i w e h) refl cs g
  simple-right simple.Call p cs f g n s q i w e h = absurd f
  simple-right simple.ABuild p cs f g n s q i w e h =
      more1 simple.ABuild (Right simple.ABuild p s i)
      (λ x cs a g. out1 s (want.SequenceOf 2) _
      (λ out. subst (λ z. Belongs s (Value (nodes.row_of_elements z (vals (x ∷ cs))))) (sym q) (elements-built out.0 s x cs out.1 (plain-at a ty.Int a.fits) (same-as-second out.0 out.2 0 cs g))) i w e h) cs g n
  simple-right simple.AFill p cs f g n s q i w e h = args3 simple.AFill (Right simple.AFill p s i) (λ x y z a b c. out1 s (want.ArrayOf 3) _ (fill k x y z a b c s) i w e h) refl cs g n
  simple-right simple.AElement p cs f g n s q i w e h = args2 simple.AElement (Right simple.AElement p s i) (λ x y a b. out1 s (want.Element 1) _ (element k x y a b s) i w e h) refl cs g n
  simple-right simple.AReplace p cs f g n s q i w e h = args3 simple.AReplace (Right simple.AReplace p s i) (λ x y z a b c. out1 s (want.Same 1) _ (replace k x y z a b c s) i w e h) refl cs g n
  simple-right simple.AAddH p cs f g n s q i w e h = args2 simple.AAddH (Right simple.AAddH p s i) (λ x y a b. out1 s (want.Same 1) _ (add-high k x y a b s) i w e h) refl cs g n
  simple-right simple.AAddL p cs f g n s q i w e h = args2 simple.AAddL (Right simple.AAddL p s i) (λ x y a b. out1 s (want.Same 1) _ (add-low k x y a b s) i w e h) refl cs g n
  simple-right simple.ARemH p cs f g n s q i w e h = args1 simple.ARemH (Right simple.ARemH p s i) (λ x a. out1 s (want.Same 1) _ (array-kept k op.RemoveHigh row.remove_high x a s) i w e h) refl cs g n
  simple-right simple.ARemL p cs f g n s q i w e h = args1 simple.ARemL (Right simple.ARemL p s i) (λ x a. out1 s (want.Same 1) _ (array-kept k op.RemoveLow row.remove_low x a s) i w e h) refl cs g n
  simple-right simple.ASetL p cs f g n s q i w e h = args2 simple.ASetL (Right simple.ASetL p s i) (λ x y a b. out1 s (want.Same 1) _ (set-low k x y a b s) i w e h) refl cs g n
  simple-right simple.AAdjust p cs f g n s q i w e h = args3 simple.AAdjust (Right simple.AAdjust p s i) (λ x y z a b c. out1 s (want.Same 1) _ (adjust k x y z a b c s) i w e h) refl cs g n
  simple-right simple.ALimL p cs f g n s q i w e h = args1 simple.ALimL (Right simple.ALimL p s i) (λ x a. out1 s want.Integer _ (array-to-int k op.LimitLow row.limit_low x a s) i w e h) refl cs g n
  simple-right simple.ALimH p cs f g n s q i w e h = args1 simple.ALimH (Right simple.ALimH p s i) (λ x a. out1 s want.Integer _ (array-to-int k op.LimitHigh row.limit_high x a s) i w e h) refl cs g n
  simple-right simple.ASize p cs f g n s q i w e h = args1 simple.ASize (Right simple.ASize p s i) (λ x a. out1 s want.Integer _ (size k x a s) i w e h) refl cs g n
  simple-right simple.AIsEmpty p cs f g n s q i w e h = args1 simple.AIsEmpty (Right simple.AIsEmpty p s i) (λ x a. out1 s want.Boolean _ (is-empty k x a s) i w e h) refl cs g n
  simple-right simple.ACatenate p cs f g n s q i w e h = more2 simple.ACatenate (Right simple.ACatenate p s i) (λ x y cs a b g. out1 s (want.Same 1) _ (catenated x y cs a b g s) i w e h) cs g n
  simple-right simple.FirstValue p cs f g n s q i w e h = args1 simple.FirstValue (Right simple.FirstValue p s i) (λ x a. out1 s (want.Element 1) _ (first k x a s) i w e h) refl cs g n
  simple-right simple.RestValues p cs f g n s q i w e h = args1 simple.RestValues (Right simple.RestValues p s i) (λ x a. out1 s (want.Same 1) _ (rest k x a s) i w e h) refl cs g n
  simple-right simple.RBuild p cs f g n s q i w e h = absurd f
  simple-right simple.RElements p cs f g n s q i w e h =
      args1 simple.RElements (Right simple.RElements p s i)
      (λ x a. subst (λ z. Belongs s (get_or (nodes.fields z (vals (x ∷ []))) i Unfilled)) (sym q) (field-given k x a i s (subst (λ z. Fits k z s) (sym (some-same (want.FieldOf (suc i)) w e)) h))) refl cs g n
  simple-right simple.RReplace p cs f g n s q i w e h = absurd f
  simple-right simple.RangeGenerate p cs f g n s q i w e h = args2 simple.RangeGenerate (Right simple.RangeGenerate p s i) (λ x y a b. out1 s want.Integers _ (ranged k x y a b s) i w e h) refl cs g n
  simple-right simple.AScatter p cs f g n s q i w e h = args1 simple.AScatter (Right simple.AScatter p s i) (λ x a. two-outs x a i w e h) refl cs g n
    where
      two-outs : (x : Carried) → Operand k 1 want.Sequence x → (i : ℕ) (w : Want) → at_port (suc i) (want.Elements 1 ∷ want.Integers ∷ []) ≡ Some w → Fits k w s → Belongs s (get_or (nodes.scatter_of (vals (x ∷ []))) i Unfilled)
      two-outs x a zero w e h = scattered k x a s (subst (λ z. Fits k z s) (sym (some-same (want.Elements 1) w e)) h)
      two-outs x a (suc zero) w e h = indices k x a s (subst (λ z. Fits k z s) (sym (some-same want.Integers w e)) h)
      two-outs x a (suc (suc i)) w e h = absurd cc
  simple-right simple.AGather p cs f g n s q i w e h =
      more2 simple.AGather (Right simple.AGather p s i) (λ x y cs a b g. out1 s (want.SequenceOfElements 2) _ (λ out. subst (λ z. Belongs s (Value (nodes.gather_of z (x ∷ y ∷ cs)))) (sym q) (gathered k x y cs a b s out)) i w e h) cs g n
  simple-right simple.FinalValue p cs f g n s q i w e h = more1 simple.FinalValue (Right simple.FinalValue p s i) (λ x cs a g. out1 s (want.Element 1) _ (last-taken k x cs a s) i w e h) cs g n
  simple-right (simple.Reduce grouping) p cs f g n s q i w e h =
      more2 (simple.Reduce grouping) (Right (simple.Reduce grouping) p s i)
      (λ x y cs a b g. out1 s (want.Element 2) _
      (λ out. subst (λ z. Belongs s (Value (nodes.reduce_of p (z ∷ y ∷ cs)))) (sym a.1)
      (subst (λ z. Belongs s (Value (nodes.reduced z (reducer_at a.0) (y ∷ cs)))) (sym q) (reduction-right k (reducer_at a.0) a.2 y cs b s out))) i w e h) cs g n
