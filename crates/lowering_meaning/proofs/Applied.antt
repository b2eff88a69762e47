-- What each operation gives that is covered.
use Rattle.std.proofs.Common.{◌≡◌, ℕ, zero, suc, Bool, true, false, ◌+◌, ◌<◌, pos, List, [], ◌∷◌, ◌++◌, map, length, get_or, slice_get, Some, refl, ap, ◌∙◌, subst, arith, nat_eq, if◌then◌else◌}
use Rattle.std.specs.Prelude.{drop}
use Rattle.flow_value.specs.declared.value.Val.{Val}
use Rattle.flow_value.specs.declared.ty.Ty.{Ty}
use Rattle.flow_value.specs.declared.ty.Ty.TheVariants as ty
use Rattle.typed_rows.specs.Rows.{Member, AreOf}
use Rattle.if1_graph.specs.Units.{greatest}
use Rattle.if1_graph.specs.declared.op.Simple.{Simple}
use Rattle.if1_graph.specs.declared.op.Simple.TheVariants as simple
use Rattle.if1_graph.specs.Ports.{count_from}
use Rattle.std.proofs.lemmas.Option.{slice_get_within}
use Rattle.lowered_units.proofs.Heads.{In}
use Rattle.typed_tree.specs.Types.{IsNumber}
use Rattle.type_table.specs.declared.form.Form.{Form}
use Rattle.value_ops.specs.Operations.{op_value}
use Rattle.value_ops.specs.declared.operation.Operation.{Operation}
use Rattle.value_ops.specs.declared.operation.Operation.TheVariants as operation
use Rattle.typed_values.specs.Fitting.{Row, AreFields}
use Rattle.typed_values.specs.Fitting as is
use Rattle.meaning.specs.Timed.{given}
use Rattle.flow_value.specs.declared.value.Val.TheVariants as val
use Rattle.sisal_tree.specs.declared.expr.Constant.TheVariants as constant
use Rattle.graph_meaning.specs.Carried.{Carried as Carrying, Value, Unfilled, vals, filled_from}
use Rattle.graph_meaning.specs.Plain.{fixed}
use Rattle.lowering_meaning.proofs.Told.{Telling}
use Rattle.graph_meaning.specs.NodeValues.{Shape, op, union_of, built}
use Rattle.graph_meaning.specs.NodeValues as shapes
use Rattle.graph_meaning.specs.Demand.{Network}
use Rattle.lowering.specs.declared.feed.Carried.{Carried}
use Rattle.lowering.specs.declared.feed.Carried.TheVariants.{One, Many, Callee}
use Rattle.lowering.specs.declared.feed.Wire.{Wire}
use Rattle.lowering.specs.declared.graph.Action.TheVariants.{Row as RowAction}
use Rattle.lowering.specs.Operations.{one, absent, absents, wire_at, at_place, changed, row_lowered, field_lowered, reversed}
use Rattle.lowering.specs.Choices.{applied}
use Rattle.lowering_meaning.specs.Coverage.{is_plain_operation, all_apart}
use Rattle.lowering_meaning.proofs.From.{always}
use Rattle.lowering_meaning.proofs.Timed.{given-is}
use Rattle.lowering_meaning.proofs.Sites.{Site, ShapeOf, Carries, AllCarry, AllCarried, Placed, Done, made-done, as-carried}
use Rattle.lowering_meaning.proofs.Changes.{value_for, cell, cells, changed-alike}
use Rattle.lowering_meaning.proofs.Wires.{AllWires, both-wires, FromNames}
use Rattle.lowering_meaning.proofs.Nodes.{row-made, row-done, row-seen, values-of}
use Rattle.lowering_meaning.proofs.IsTags.{is-tag-drawn}
use Rattle.lowering_meaning.proofs.Forms.{HasType, WiresOf, FreeOn, DrawnOn}
use Rattle.lowering_meaning.proofs.Ifs.{node-from}
use Rattle.lowering_meaning.proofs.Operations.{reversed-from, held-literal, row-on, shaped-on, swapped-on, empty-on}

row-free : (o : Simple) (f : List Wire → List Wire) (t : ℕ) → ((env ws : List Wire) → AllWires (FromNames env) ws → AllWires (FromNames env) (f ws)) → FreeOn (λ env ws. row_lowered o (f ws) (t ∷ []))
row-free o f t h env ws k q w = node-from env (RowAction o) (f ws) 1 (One t ∷ []) k q (h env ws w)

placed-from : (env : List Wire) (p : ℕ) (places : List ℕ) (ws : List Wire) → AllWires (FromNames env) ws → FromNames env (at_place p places ws)
placed-from env p [] ws h = tt
placed-from env p (x ∷ xs) [] h = tt
placed-from env p (x ∷ xs) (w ∷ ws) h = by (nat_eq x p) (placed-from env p xs ws h.1)
  where
    by : (b : Bool) → FromNames env (at_place p xs ws) → FromNames env (if b then w else at_place p xs ws)
    by true r = h.0
    by false r = r

changed-from : (env : List Wire) (p n : ℕ) (places : List ℕ) (ws : List Wire) → AllWires (FromNames env) ws → AllWires (FromNames env) (changed p n places ws)
changed-from env p zero places ws h = tt
changed-from env p (suc n) places ws h = (placed-from env p places ws h, changed-from env (suc p) n places ws h)

-- the record, and a port for each field up to the last one that changes
abbrev replacing : List ℕ → List Wire → List Wire
replacing places ws = wire_at ws 0 ∷ changed 0 (suc (greatest places)) places (drop 1 ws)

replacing-from : (places : List ℕ) (env ws : List Wire) → AllWires (FromNames env) ws → AllWires (FromNames env) (replacing places ws)
replacing-from places env [] h = (tt, changed-from env 0 (suc (greatest places)) places [] tt)
replacing-from places env (w ∷ ws) h = (h.0, changed-from env 0 (suc (greatest places)) places ws h.1)

module _ (u : Network) (number : ℕ → ℕ) (shape : Telling) where
  unfilled : (s : Site) → Carries u number shape s absent Unfilled
  unfilled s h = always _ (λ d. fixed d s.graph s.ins Unfilled)

  place-carried : (s : Site) (p : ℕ) (places : List ℕ) (ws : List Wire) (vs : List Val) → AllCarry u number shape s ws vs → Carries u number shape s (at_place p places ws) (cell (value_for p places vs))
  place-carried s p [] ws vs a = unfilled s
  place-carried s p (x ∷ xs) [] [] a = unfilled s
  place-carried s p (x ∷ xs) (w ∷ ws) (v ∷ vs) a = by (nat_eq x p) (place-carried s p xs ws vs a.1)
    where
      by : (b : Bool) → Carries u number shape s (at_place p xs ws) (cell (value_for p xs vs)) → Carries u number shape s (if b then w else at_place p xs ws) (cell (if b then Some v else value_for p xs vs))
      by true r = a.0
      by false r = r
  place-carried s p (x ∷ xs) [] (v ∷ vs) a = absurd a
  place-carried s p (x ∷ xs) (w ∷ ws) [] a = absurd a

  ports-carried : (s : Site) (p n : ℕ) (places : List ℕ) (ws : List Wire) (vs : List Val) → AllCarry u number shape s ws vs → AllCarried u number shape s (changed p n places ws) (cells places vs p n)
  ports-carried s p zero places ws vs a = tt
  ports-carried s p (suc n) places ws vs a = (place-carried s p places ws vs a, ports-carried s (suc p) n places ws vs a)

  change-on : (forms : List Form) (spellings : List (List ℕ)) (γ : List Ty) (ms : List Member) (places : List ℕ) (tys : List Ty) (t : ℕ) → all_apart places ≡ true → AreFields ms places tys
      → DrawnOn u number shape forms spellings γ (ty.Rec ms ∷ tys) 0 7 (λ env ws. row_lowered simple.RReplace (replacing places ws) (t ∷ [])) (λ names vs. given (op_value (operation.Change places) vs ∷ []))
  change-on forms spellings γ ms places tys t apart h names vs rs j o b e = record {
    limit = 1;
    bound = omega arith;
    draws = λ s k q env ws w1 w2 c d pl.
        subst (λ xs. Done u number shape s k (row_lowered simple.RReplace (replacing places ws) (t ∷ []) k q) xs 1) (given-is (op_value (operation.Change places) vs ∷ []) rs j e).0 (fires s k q ws vs b d pl);
  }
    where
      fires : (s : Site) (k q : ℕ) (ws : List Wire) (vs : List Val) → AreOf (ty.Rec ms ∷ tys) vs → AllCarry u number shape s ws vs → Placed u number shape s k q (row_lowered simple.RReplace (replacing places ws) (t ∷ []) k q)
          → Done u number shape s k (row_lowered simple.RReplace (replacing places ws) (t ∷ []) k q) (op_value (operation.Change places) vs ∷ []) 1
      fires s k q (w ∷ ws) (r ∷ vs) b d pl =
          row-done u number shape s k q simple.RReplace (replacing places (w ∷ ws)) t (Value r ∷ cells places vs 0 (suc (greatest places))) (op_value (operation.Change places) (r ∷ vs))
          (ap (λ v. Value v ∷ []) (changed-alike ms places tys r vs apart h b)) pl (d.0, ports-carried s 0 (suc (greatest places)) places ws vs d.1)
      fires s k q ws [] b d pl = absurd b
      fires s k q [] (r ∷ vs) b d pl = absurd d

-- ---- unions

absents-from : (env : List Wire) (n : ℕ) → AllWires (FromNames env) (absents n)
absents-from env zero = tt
absents-from env (suc n) = (tt, absents-from env n)

-- ports that are not filled
abbrev gaps : ℕ → List Carrying
gaps zero = []
gaps (suc n) = Unfilled ∷ gaps n

filled-behind : (n tag : ℕ) (v : Val) → filled_from n (gaps tag ++ Value v ∷ []) ≡ (n + tag) ∷ []
filled-behind n zero v = let e : n ≡ n + 0 = omega arith in ap (λ i. i ∷ []) e
filled-behind n (suc tag) v = let e : suc n + tag ≡ n + suc tag = omega arith in filled-behind (suc n) tag v ∙ ap (λ i. i ∷ []) e

vals-behind : (tag : ℕ) (v : Val) → vals (gaps tag ++ Value v ∷ []) ≡ v ∷ []
vals-behind zero v = refl
vals-behind (suc tag) v = vals-behind tag v

-- the content of a union stands behind gaps
built-union : (tag : ℕ) (v : Val) → Value (built shapes.Union (gaps tag ++ Value v ∷ [])) ∷ [] ≡ Value (val.Uni tag v) ∷ []
built-union tag v =
    let e : 0 + tag ≡ tag = omega arith in
    ap (λ ts. Value (union_of ts (vals (gaps tag ++ Value v ∷ []))) ∷ []) (filled-behind 0 tag v ∙ ap (λ n. n ∷ []) e) ∙ ap (λ vs. Value (union_of (tag ∷ []) vs) ∷ []) (vals-behind tag v)

module _ (u : Network) (number : ℕ → ℕ) (shape : Telling) (forms : List Form) (spellings : List (List ℕ)) where
  -- a stream of the operands, whose lower bound is 1
  stream-on : (γ tys : List Ty) (t : ℕ) → ShapeOf u number shape simple.ABuild t shapes.Stream
      → DrawnOn u number shape forms spellings γ tys 0 7 (λ env ws. row_lowered simple.ABuild (one ∷ ws) (t ∷ [])) (λ names vs. given (op_value operation.Stream vs ∷ []))
  stream-on γ tys t flat names vs rs j o b e = record {
    limit = 1;
    bound = omega arith;
    draws = λ s k q env ws w1 w2 c d pl.
        subst (λ xs. Done u number shape s k (row_lowered simple.ABuild (one ∷ ws) (t ∷ []) k q) xs 1) (given-is (op_value operation.Stream vs ∷ []) rs j e).0
        (row-seen u number shape s k q simple.ABuild (one ∷ ws) t (Value (val.Int (pos 1)) ∷ map Value vs) (op_value operation.Stream vs)
        (λ y. ap (λ x. op simple.ABuild x (Value (val.Int (pos 1)) ∷ map Value vs)) (flat s.graph k y) ∙ ap (λ xs. Value (op_value operation.Stream xs) ∷ []) (values-of vs))
        pl ((λ _. held-literal u number shape s (constant.Integer (pos 1)) (val.Int (pos 1)) refl), as-carried u number shape s ws vs d));
  }

  gaps-carried : (s : Site) (n : ℕ) (ws : List Wire) (v : Val) → AllCarry u number shape s ws (v ∷ []) → AllCarried u number shape s (absents n ++ ws) (gaps n ++ Value v ∷ [])
  gaps-carried s zero ws v a = as-carried u number shape s ws (v ∷ []) a
  gaps-carried s (suc n) ws v a = (unfilled u number shape s, gaps-carried s n ws v a)

  -- a union of its content
  union-on : (γ : List Ty) (tag : ℕ) (a : Ty) (t : ℕ) → ShapeOf u number shape simple.RBuild t shapes.Union
      → DrawnOn u number shape forms spellings γ (a ∷ []) 0 7 (λ env ws. row_lowered simple.RBuild (absents tag ++ ws) (t ∷ [])) (λ names vs. given (op_value (operation.Union tag) vs ∷ []))
  union-on γ tag a t flat names vs rs j o b e = record {
    limit = 1;
    bound = omega arith;
    draws = λ s k q env ws w1 w2 c d pl.
        subst (λ xs. Done u number shape s k (row_lowered simple.RBuild (absents tag ++ ws) (t ∷ []) k q) xs 1) (given-is (op_value (operation.Union tag) vs ∷ []) rs j e).0 (fires s k q ws vs b d pl);
  }
    where
      fires : (s : Site) (k q : ℕ) (ws : List Wire) (vs : List Val) → AreOf (a ∷ []) vs → AllCarry u number shape s ws vs → Placed u number shape s k q (row_lowered simple.RBuild (absents tag ++ ws) (t ∷ []) k q)
          → Done u number shape s k (row_lowered simple.RBuild (absents tag ++ ws) (t ∷ []) k q) (op_value (operation.Union tag) vs ∷ []) 1
      fires s k q ws [] b d pl = absurd b
      fires s k q ws (v ∷ w ∷ vs) b d pl = absurd b.1
      fires s k q ws (v ∷ []) b d pl =
          row-seen u number shape s k q simple.RBuild (absents tag ++ ws) t (gaps tag ++ Value v ∷ []) (op_value (operation.Union tag) (v ∷ []))
          (λ y. ap (λ x. op simple.RBuild x (gaps tag ++ Value v ∷ [])) (flat s.graph k y) ∙ built-union tag v) pl (gaps-carried s tag ws v d)

count-at : (g : ℕ → Carrying) (a n i : ℕ) → i < n → get_or (map g (count_from a n)) i Unfilled ≡ g (a + i)
count-at g a zero i h = absurd (omega (arith, h))
count-at g a (suc n) zero h = ap g (omega arith)
count-at g a (suc n) (suc i) h = count-at g (suc a) n i (omega (arith, h)) ∙ ap g (omega arith)

plain-free : (o : Simple) (t : ℕ) → FreeOn (λ env ws. row_lowered o ws (t ∷ []))
plain-free o t = row-free o (λ ws. ws) t (λ env ws w. w)

module _ (u : Network) (number : ℕ → ℕ) (shape : Telling) (forms : List Form) (spellings : List (List ℕ))
    (arrays : (t : ℕ) (a : Ty) → IsNumber forms spellings t (ty.Arr a) → ShapeOf u number shape simple.ABuild t shapes.Plain)
    (streams : (t : ℕ) (a : Ty) → IsNumber forms spellings t (ty.Stream a) → ShapeOf u number shape simple.ABuild t shapes.Stream)
    (records : (t : ℕ) (ms : List Member) → IsNumber forms spellings t (ty.Rec ms) → ShapeOf u number shape simple.RBuild t shapes.Plain)
    (unions : (t : ℕ) (ms : List Member) → IsNumber forms spellings t (ty.Uni ms) → ShapeOf u number shape simple.RBuild t shapes.Union)
    (elements : (n : ℕ) (ms : List Member) → In (One n) shape.lines → IsNumber forms spellings n (ty.Rec ms) → shape.elements (One n) ≡ shapes.Fields (length ms)) where
  abbrev Does : Operation → List Ty → List Ty → ℕ → Type 0
  Does o γ tys t = FreeOn (λ env ws. applied forms o ws (t ∷ [])) × DrawnOn u number shape forms spellings γ tys 0 7 (λ env ws. applied forms o ws (t ∷ [])) (λ names vs. given (op_value o vs ∷ []))

  gives : (o : Operation) (vs : List Val) → Value (op_value o (vals (map Value vs))) ∷ [] ≡ Value (op_value o vs) ∷ []
  gives o vs = ap (λ ws. Value (op_value o ws) ∷ []) (values-of vs)

  typed-elements : (ms : List Member) (c : Carried) → HasType forms spellings c (ty.Rec ms) → In c shape.lines → shape.elements c ≡ shapes.Fields (length ms)
  typed-elements ms (One n) h i = elements n ms i h
  typed-elements ms (Many n) h i = absurd h
  typed-elements ms (Callee f) h i = absurd h

  -- a field of a record leaves at its own port
  field-on : (γ : List Ty) (ms : List Member) (f : ℕ) (m : Member) (t : ℕ) → slice_get ms f ≡ Some m
      → DrawnOn u number shape forms spellings γ (ty.Rec ms ∷ []) 0 7 (λ env ws. field_lowered f ws (t ∷ [])) (λ names vs. given (op_value (operation.Field f) vs ∷ []))
  field-on γ ms f m t there names vs rs j o b e = record {
    limit = 1;
    bound = omega arith;
    draws = λ s k q env ws w1 w2 c d pl. subst (λ xs. Done u number shape s k (field_lowered f ws (t ∷ []) k q) xs 1) (given-is (op_value (operation.Field f) vs ∷ []) rs j e).0 (fires s k q ws w2 d pl);
  }
    where
      fires : (s : Site) (k q : ℕ) (ws : List Wire) → WiresOf forms spellings (ty.Rec ms ∷ []) ws → AllCarry u number shape s ws vs → Placed u number shape s k q (field_lowered f ws (t ∷ []) k q)
          → Done u number shape s k (field_lowered f ws (t ∷ []) k q) (op_value (operation.Field f) vs ∷ []) 1
      fires s k q [] h d pl = absurd h
      fires s k q (w ∷ v ∷ ws) h d pl = absurd h.1
      fires s k q (w ∷ []) h d pl =
          let told = pl.told.0 in
          let is : shape.row s.graph (suc k) simple.RElements ≡ shapes.Fields (length ms) = told.0 ∙ typed-elements ms w.ty h.0 told.1 in
          made-done u number shape s k (field_lowered f (w ∷ []) (t ∷ []) k q) (op_value (operation.Field f) vs ∷ []) 1
          (row-made u number shape s k q f simple.RElements (w ∷ []) (One t ∷ []) (map Value vs) (Value (op_value (operation.Field f) vs) ∷ []) pl (as-carried u number shape s (w ∷ []) vs d) refl (outs is))
        where
          outs : {x : Shape} → x ≡ shapes.Fields (length ms) → (i : ℕ) → i < 1 → get_or (op simple.RElements x (map Value vs)) (f + i) Unfilled ≡ get_or (Value (op_value (operation.Field f) vs) ∷ []) i Unfilled
          outs is (suc i) n = absurd (omega (arith, n))
          outs is zero n =
              let z : f + 0 ≡ f = omega arith in
              let y : 0 + f ≡ f = omega arith in
              ap (λ x. get_or (op simple.RElements x (map Value vs)) (f + 0) Unfilled) is
              ∙ (ap (λ i. get_or (op simple.RElements (shapes.Fields (length ms)) (map Value vs)) i Unfilled) z
              ∙ (count-at (λ i. Value (op_value (operation.Field i) (vals (map Value vs)))) 0 (length ms) f (slice_get_within ms f m there)
              ∙ (ap (λ i. Value (op_value (operation.Field i) (vals (map Value vs)))) y ∙ ap (λ ws. Value (op_value (operation.Field f) ws)) (values-of vs))))

  pub operation-drawn : (o : Operation) → is_plain_operation o ≡ true → (γ tys : List Ty) (a : Ty) (t : ℕ) → IsNumber forms spellings t a → Row o tys a → Does o γ tys t
  operation-drawn (operation.Unary f) c γ tys a t n r = (plain-free (simple.One f) t, row-on u number shape forms spellings γ tys (simple.One f) (operation.Unary f) t (λ s k vs. gives (operation.Unary f) vs))
  operation-drawn (operation.Binary f) c γ tys a t n r = (plain-free (simple.Two f) t, row-on u number shape forms spellings γ tys (simple.Two f) (operation.Binary f) t (λ s k vs. gives (operation.Binary f) vs))
  operation-drawn (operation.Swapped _) c γ _ _ t n (is.swapped f a h i) = (row-free (simple.Two f) reversed t (λ env ws w. reversed-from (FromNames env) ws w), swapped-on u number shape forms spellings γ a f t)
  operation-drawn operation.Error c γ tys a t n r = (plain-free simple.Error t, row-on u number shape forms spellings γ tys simple.Error operation.Error t (λ s k vs. gives operation.Error vs))
  operation-drawn operation.Array c γ _ _ t n (is.array a tys h) =
      (plain-free simple.ABuild t, shaped-on u number shape forms spellings γ (ty.Int ∷ tys) simple.ABuild operation.Array t shapes.Plain (arrays t a n) (λ vs. gives operation.Array vs))
  operation-drawn operation.EmptyArray c γ _ _ t n (is.empty_array a) = (row-free simple.ABuild (λ ws. one ∷ ws) t (λ env ws w. (tt, w)), empty-on u number shape forms spellings γ t (arrays t a n))
  operation-drawn operation.Stream c γ _ _ t n (is.stream a tys h) = (row-free simple.ABuild (λ ws. one ∷ ws) t (λ env ws w. (tt, w)), stream-on u number shape forms spellings γ tys t (streams t a n))
  operation-drawn operation.Fill c γ tys a t n r = (plain-free simple.AFill t, row-on u number shape forms spellings γ tys simple.AFill operation.Fill t (λ s k vs. gives operation.Fill vs))
  operation-drawn operation.Element c γ tys a t n r = (plain-free simple.AElement t, row-on u number shape forms spellings γ tys simple.AElement operation.Element t (λ s k vs. gives operation.Element vs))
  operation-drawn operation.Update c γ tys a t n r = (plain-free simple.AReplace t, row-on u number shape forms spellings γ tys simple.AReplace operation.Update t (λ s k vs. gives operation.Update vs))
  operation-drawn operation.AddHigh c γ tys a t n r = (plain-free simple.AAddH t, row-on u number shape forms spellings γ tys simple.AAddH operation.AddHigh t (λ s k vs. gives operation.AddHigh vs))
  operation-drawn operation.AddLow c γ tys a t n r = (plain-free simple.AAddL t, row-on u number shape forms spellings γ tys simple.AAddL operation.AddLow t (λ s k vs. gives operation.AddLow vs))
  operation-drawn operation.RemoveHigh c γ tys a t n r = (plain-free simple.ARemH t, row-on u number shape forms spellings γ tys simple.ARemH operation.RemoveHigh t (λ s k vs. gives operation.RemoveHigh vs))
  operation-drawn operation.RemoveLow c γ tys a t n r = (plain-free simple.ARemL t, row-on u number shape forms spellings γ tys simple.ARemL operation.RemoveLow t (λ s k vs. gives operation.RemoveLow vs))
  operation-drawn operation.SetLow c γ tys a t n r = (plain-free simple.ASetL t, row-on u number shape forms spellings γ tys simple.ASetL operation.SetLow t (λ s k vs. gives operation.SetLow vs))
  operation-drawn operation.Adjust c γ tys a t n r = (plain-free simple.AAdjust t, row-on u number shape forms spellings γ tys simple.AAdjust operation.Adjust t (λ s k vs. gives operation.Adjust vs))
  operation-drawn operation.LimitLow c γ tys a t n r = (plain-free simple.ALimL t, row-on u number shape forms spellings γ tys simple.ALimL operation.LimitLow t (λ s k vs. gives operation.LimitLow vs))
  operation-drawn operation.LimitHigh c γ tys a t n r = (plain-free simple.ALimH t, row-on u number shape forms spellings γ tys simple.ALimH operation.LimitHigh t (λ s k vs. gives operation.LimitHigh vs))
  operation-drawn operation.Size c γ tys a t n r = (plain-free simple.ASize t, row-on u number shape forms spellings γ tys simple.ASize operation.Size t (λ s k vs. gives operation.Size vs))
  operation-drawn operation.IsEmpty c γ tys a t n r = (plain-free simple.AIsEmpty t, row-on u number shape forms spellings γ tys simple.AIsEmpty operation.IsEmpty t (λ s k vs. gives operation.IsEmpty vs))
  operation-drawn operation.Catenate c γ tys a t n r = (plain-free simple.ACatenate t, row-on u number shape forms spellings γ tys simple.ACatenate operation.Catenate t (λ s k vs. gives operation.Catenate vs))
  operation-drawn operation.First c γ tys a t n r = (plain-free simple.FirstValue t, row-on u number shape forms spellings γ tys simple.FirstValue operation.First t (λ s k vs. gives operation.First vs))
  operation-drawn operation.Rest c γ tys a t n r = (plain-free simple.RestValues t, row-on u number shape forms spellings γ tys simple.RestValues operation.Rest t (λ s k vs. gives operation.Rest vs))
  operation-drawn operation.Record c γ _ _ t n (is.a_record ms l) =
      (plain-free simple.RBuild t, shaped-on u number shape forms spellings γ (map (λ m. m.1) ms) simple.RBuild operation.Record t shapes.Plain (records t ms n) (λ vs. gives operation.Record vs))
  operation-drawn (operation.Union _) c γ _ _ t n (is.union ms tag m e) =
      (row-free simple.RBuild (λ ws. absents tag ++ ws) t (λ env ws w. both-wires (FromNames env) (absents tag) ws (absents-from env tag) w), union-on u number shape forms spellings γ tag m.1 t (unions t ms n))
  operation-drawn (operation.Field _) c γ _ _ t n (is.field ms place m there) = ((λ env ws k q w. node-from env (RowAction simple.RElements) ws (suc place) (One t ∷ []) k q w), field-on γ ms place m t there)
  operation-drawn (operation.Change _) c γ _ _ t n (is.change ms place places tys h) =
      (row-free simple.RReplace (replacing (place ∷ places)) t (replacing-from (place ∷ places)), change-on u number shape forms spellings γ ms (place ∷ places) tys t c h)
  operation-drawn (operation.IsTag tag) c γ _ _ t n (is.is_tag ms _ m e) = is-tag-drawn u number shape forms spellings tag t γ ms
