-- The values of clauses, where a mask of `unless` is the Not of its expression.
use Rattle.std.proofs.Common.{◌≡◌, ℕ, ◌+◌, Bool, true, false, ◌&&◌, ◌||◌, List, [], ◌∷◌, ◌++◌, length, Some, ◌⊎◌, inl, inr, refl, sym, ap, ◌∙◌, subst, arith, nat_eq, T, if◌then◌else◌}
use Rattle.std.proofs.Math.Facts.{eqb_yes}
use Rattle.std.proofs.lemmas.List.{length-append}
use Rattle.flow_value.specs.declared.value.Val.{Val}
use Rattle.flow_value.specs.declared.operation.Scalar1.TheVariants as unary
use Rattle.flow_value.specs.declared.ty.Ty.{Ty}
use Rattle.value_ops.specs.Operations.{op_value}
use Rattle.value_ops.specs.declared.operation.Operation.TheVariants as operation
use Rattle.if1_graph.specs.declared.op.Simple.TheVariants as simple
use Rattle.type_table.specs.declared.form.Form.{Form}
use Rattle.typed_tree.specs.declared.program.Function.{Function}
use Rattle.typed_values.specs.Fitting.{Header}
use Rattle.typed_rows.specs.Rows.{AreOf}
use Rattle.meaning.specs.Timed.{Timed, given, plus, andthen}
use Rattle.meaning.specs.Meaning.{Gives as Means, all_of, defined, body_of}
use Rattle.graph_meaning.specs.Carried.{Value}
use Rattle.lowering_meaning.proofs.Told.{Telling}
use Rattle.graph_meaning.specs.Demand.{Network}
use Rattle.lowering.specs.declared.feed.Carried.TheVariants.{One}
use Rattle.lowering.specs.declared.feed.Wire.{Wire}
use Rattle.lowering.specs.declared.graph.Action.TheVariants.{Row}
use Rattle.lowering.specs.Graphs.{Lowering}
use Rattle.lowering.specs.Operations.{Lowers, boolean, all_lowered, defs_lowered, body_lowered, row_lowered}
use Rattle.lowering.specs.Loops.{Phrase, with_not, clauses_lowered}
use Rattle.lowering.specs.Phrases.{each}
use Rattle.loop_columns.specs.Clauses.{noted}
use Rattle.lowering_meaning.specs.Coverage.{Coverage, no_true, all_one, total}
use Rattle.lowering_meaning.proofs.Timed.{then-some, given-is}
use Rattle.lowering_meaning.proofs.Sites.{Site, AllCarry, Placed, Done, done-both, placed-left, placed-right, firings-first, as-carried}
use Rattle.lowering_meaning.proofs.Nodes.{row-done}
use Rattle.lowering_meaning.proofs.Forms.{Wired, Typed, Drawn, then-drawn, on-drawn, nil-drawn, join-drawn, drawn-when, less-drawn, from-fewer, from-both, values-from}
use Rattle.lowering_meaning.proofs.Ifs.{node-from}
use Rattle.lowering_meaning.proofs.Widths.{Wide}
use Rattle.lowering_meaning.proofs.ReadForms.{Read, nil-read, cons-read}
use Rattle.lowering_meaning.proofs.Trees.{EachDrawn, EachOf, each-all}
use Rattle.lowering_meaning.proofs.TreeReads.{EachRead, no_read, a_read}

-- ---- values

-- the Not of the first
abbrev nots : List Val → List Val
nots [] = []
nots (v ∷ vs) = op_value (operation.Unary unary.Not) (v ∷ []) ∷ vs

abbrev pub not_means : Means → Means
not_means k names = andthen (k names) (λ vs. given (nots vs))

-- the values of clauses as the graph has them
abbrev pub noted_means : List Bool → List Means → Means
noted_means bs ks names = andthen (all_of ks names) (λ row. given (noted bs row))

-- ---- clauses behind definitions

abbrev pub noted_body : List Bool → List (List Means) → List Means → Means
noted_body bs kd ks names = andthen (defined kd names) (noted_means bs ks)

pub noted-given : (bs : List Bool) (kd : List (List Means)) (ks : List Means) (names row : List Val) (i : ℕ) → body_of kd ks names ≡ Some (row, i) → noted_body bs kd ks names ≡ Some (noted bs row, i)
noted-given bs kd ks names row i e =
    let x = then-some (defined kd names) (all_of ks) row i e in
    let r : noted_means bs ks x.mid ≡ Some (noted bs row, x.k + 0) = ap (λ r. andthen r (λ row. given (noted bs row))) x.second in
    ap (λ r. andthen r (noted_means bs ks)) x.first ∙ ap (λ r. plus x.j r) r ∙ ap (λ n. Some (noted bs row, n)) (count x.j x.k i x.sum)
  where
    count : (a b i : ℕ) → a + b ≡ i → a + (b + 0) ≡ i
    count a b i e = omega (arith, e)

none-noted : (bs : List Bool) (vs : List Val) → no_true bs ≡ true → noted bs vs ≡ vs
none-noted bs [] h = refl
none-noted [] (v ∷ vs) h = refl
none-noted (true ∷ bs) (v ∷ vs) h = absurd cc
none-noted (false ∷ bs) (v ∷ vs) h = ap (λ ws. v ∷ ws) (none-noted bs vs h)

none-lowered : (bs : List Bool) (gs : List Lowers) → no_true bs ≡ true → clauses_lowered bs gs ≡ gs
none-lowered bs [] h = refl
none-lowered [] (g ∷ gs) h = refl
none-lowered (true ∷ bs) (g ∷ gs) h = absurd cc
none-lowered (false ∷ bs) (g ∷ gs) h = ap (λ fs. g ∷ fs) (none-lowered bs gs h)

and-both : (a b : Bool) → (a && b) ≡ true → (a ≡ true) × (b ≡ true)
and-both true b e = (refl, e)
and-both false b e = absurd cc

or-one : (a b : Bool) → (a || b) ≡ true → (a ≡ true) ⊎ (b ≡ true)
or-one true b e = inl refl
or-one false b e = inr e

is-one : (n : ℕ) → nat_eq n 1 ≡ true → n ≡ 1
is-one n e = eqb_yes (subst T (sym e) tt)

-- one value of a type
pub single : (tys : List Ty) (vs : List Val) → length tys ≡ 1 → AreOf tys vs → (v : Val) × (vs ≡ v ∷ [])
single [] vs l o = absurd (omega (arith, l))
single (t ∷ []) [] l o = absurd o
single (t ∷ []) (v ∷ []) l o = (v, refl)
single (t ∷ []) (v ∷ w ∷ vs) l o = absurd o.1
single (t ∷ s ∷ tys) vs l o = absurd (omega (arith, l))

rebuilt : (h t : Timed (List Val)) (v w : List Val) (a b : ℕ) → h ≡ Some (v, a) → t ≡ Some (w, b) → andthen h (λ vs. andthen t (λ ws. given (vs ++ ws))) ≡ Some (v ++ w, a + (b + 0))
rebuilt h t v w a b e f = ap (λ o. andthen o (λ vs. andthen t (λ ws. given (vs ++ ws)))) e ∙ ap (λ o. plus a (andthen o (λ ws. given (v ++ ws)))) f

module _ (u : Network) (number : ℕ → ℕ) (shape : Telling) (forms : List Form) (spellings : List (List ℕ)) where
  -- ---- a Not

  abbrev the_not : List Wire → Lowering
  the_not ws = row_lowered (simple.One unary.Not) ws (boolean ∷ [])

  not-done : (s : Site) (k q : ℕ) (ws : List Wire) (vs : List Val) (tys : List Ty) → length tys ≡ 1 → AreOf tys vs → AllCarry u number shape s ws vs → Placed u number shape s k q (the_not ws k q) → Done u number shape s k (the_not ws k q) (nots vs) 1
  not-done s k q ws vs tys l o a pl =
      let x = single tys vs l o in
      subst (λ vs. Done u number shape s k (the_not ws k q) (nots vs) 1) (sym x.1)
      (row-done u number shape s k q (simple.One unary.Not) ws boolean (Value x.0 ∷ []) (op_value (operation.Unary unary.Not) (x.0 ∷ [])) refl pl (as-carried u number shape s ws (x.0 ∷ []) (subst (λ vs. AllCarry u number shape s ws vs) x.1 a)))

  pub not-drawn : (γ tys : List Ty) (g : Lowers) (k : Means) → Drawn u number shape forms spellings γ 1 0 g k → Typed γ k tys → length tys ≡ 1 → Drawn u number shape forms spellings γ 0 0 (with_not g) (not_means k)
  not-drawn γ tys g k d t l = record {
    free = λ env n q.
        let m = g env n q in
        from-both env m (the_not m.values (n + length m.nodes) (q + length m.graphs)) (d.free env n q)
        (node-from env (Row (simple.One unary.Not)) m.values 1 (One boolean ∷ []) (n + length m.nodes) (q + length m.graphs) (values-from env m (d.free env n q)));
    runs = λ names vs i o e.
        let x = then-some (k names) (λ vs. given (nots vs)) vs i e in
        let r = d.runs names x.mid x.j o x.first in
        let z = given-is (nots x.mid) vs x.k x.second in
        record {
          limit = r.limit + 1;
          bound = omega (arith, r.bound, x.sum);
          draws = λ s n q env e0 c pl.
              let m = g env n q in
              let w = the_not m.values (n + length m.nodes) (q + length m.graphs) in
              let a = r.draws s n q env e0 c (placed-left u number shape s n q m w pl) in
              subst (λ vs. Done u number shape s n (with_not g env n q) vs (r.limit + 1)) z.0
              (done-both u number shape s n m w x.mid (nots x.mid) r.limit 1 a (not-done s (n + length m.nodes) (q + length m.graphs) m.values x.mid tys l (t names x.mid x.j o x.first) a.held (placed-right u number shape s n q m w pl)));
        };
  }

  pub not-wide : (g : Lowers) → Wide 1 (with_not g)
  not-wide g env n q = refl

module _ (u : Network) (number : ℕ → ℕ) (shape : Telling) (forms : List Form) (spellings : List (List ℕ)) (hs : List Header) (p : List Function) (cover : Coverage) where
  abbrev EachD : List Ty → List Phrase → List Means → Type 0
  EachD γ gs ks = EachDrawn u number shape forms spellings hs p cover γ gs ks

  abbrev EachO : List Ty → List Phrase → List Means → List ℕ → Type 0
  EachO γ gs ks cs = EachOf u number shape forms spellings hs p cover γ gs ks cs

  -- ---- clauses, forward

  none-drawn : (γ : List Ty) (bs : List Bool) (gs : List Phrase) (ks : List Means) → EachD γ gs ks → no_true bs ≡ true → Drawn u number shape forms spellings γ 0 0 (all_lowered (clauses_lowered bs (each gs))) (noted_means bs ks)
  none-drawn γ bs gs ks d n =
      subst (λ fs. Drawn u number shape forms spellings γ 0 0 (all_lowered fs) (noted_means bs ks)) (sym (none-lowered bs (each gs) n))
      (drawn-when u number shape forms spellings γ 0 0 (all_lowered (each gs)) (all_of ks) (noted_means bs ks)
      (less-drawn u number shape forms spellings γ (length gs) 0 0 0 (all_lowered (each gs)) (all_of ks) (omega arith) (omega arith) (each-all u number shape forms spellings hs p cover γ gs ks d))
      (λ names vs i o e.
      let x = then-some (all_of ks names) (λ row. given (noted bs row)) vs i e in
      let z = given-is (noted bs x.mid) vs x.k x.second in
      let w : x.j ≡ i = omega (arith, x.sum, z.1) in
      x.first ∙ ap (λ r. Some (r, x.j)) (sym (none-noted bs x.mid n) ∙ z.0) ∙ ap (λ k. Some (vs, k)) w))

  -- the first clause before the others
  first-noted : (γ tys : List Ty) (b : Bool) (bs : List Bool) (k : Means) (ks : List Means) (h : Means) → Typed γ k tys → length tys ≡ 1
      → ((names : List Val) (v : Val) (a : ℕ) → k names ≡ Some (v ∷ [], a) → h names ≡ Some ((if b then op_value (operation.Unary unary.Not) (v ∷ []) else v) ∷ [], a + 0))
      → (names vs : List Val) (i : ℕ) → AreOf γ names → noted_means (b ∷ bs) (k ∷ ks) names ≡ Some (vs, i)
      → andthen (h names) (λ vs. andthen (noted_means bs ks names) (λ ws. given (vs ++ ws))) ≡ Some (vs, i)
  first-noted γ tys b bs k ks h t l eh names vs i o e =
      let x = then-some (all_of (k ∷ ks) names) (λ row. given (noted (b ∷ bs) row)) vs i e in
      let y = then-some (k names) (λ vs. andthen (all_of ks names) (λ ws. given (vs ++ ws))) x.mid x.j x.first in
      let z = then-some (all_of ks names) (λ ws. given (y.mid ++ ws)) x.mid y.k y.second in
      let m = given-is (y.mid ++ z.mid) x.mid z.k z.second in
      let g = given-is (noted (b ∷ bs) x.mid) vs x.k x.second in
      let v = single tys y.mid l (t names y.mid y.j o y.first) in
      let first : k names ≡ Some (v.0 ∷ [], y.j) = y.first ∙ ap (λ w. Some (w, y.j)) v.1 in
      let rest : noted_means bs ks names ≡ Some (noted bs z.mid, z.j + 0) = ap (λ r. andthen r (λ row. given (noted bs row))) z.first in
      let values : x.mid ≡ v.0 ∷ z.mid = sym m.0 ∙ ap (λ w. w ++ z.mid) v.1 in
      rebuilt (h names) (noted_means bs ks names) _ (noted bs z.mid) (y.j + 0) (z.j + 0) (eh names v.0 y.j first) rest
      ∙ ap (λ w. Some (w, y.j + 0 + (z.j + 0 + 0))) (shown-first b bs v.0 z.mid ∙ sym (ap (noted (b ∷ bs)) values) ∙ g.0)
      ∙ ap (λ n. Some (vs, n)) (count y.j z.j z.k x.k x.j i y.k x.sum y.sum z.sum m.1 g.1)
    where
      shown-first : (b : Bool) (bs : List Bool) (v : Val) (ws : List Val) → (if b then op_value (operation.Unary unary.Not) (v ∷ []) else v) ∷ [] ++ noted bs ws ≡ noted (b ∷ bs) (v ∷ ws)
      shown-first true bs v ws = refl
      shown-first false bs v ws = refl

      count : (a b c d e i f : ℕ) → e + d ≡ i → a + f ≡ e → b + c ≡ f → 0 ≡ c → 0 ≡ d → a + 0 + (b + 0 + 0) ≡ i
      count a b c d e i f x y z m g = omega (arith, x, y, z, m, g)

  ones-drawn : (γ : List Ty) (bs : List Bool) (gs : List Phrase) (ks : List Means) (cs : List ℕ) → EachD γ gs ks → EachO γ gs ks cs → all_one cs ≡ true → Drawn u number shape forms spellings γ 0 0 (all_lowered (clauses_lowered bs (each gs))) (noted_means bs ks)
  ones-drawn γ [] gs ks cs d o h = none-drawn γ [] gs ks d refl
  ones-drawn γ (b ∷ bs) [] [] cs d o h =
      drawn-when u number shape forms spellings γ 0 0 (all_lowered []) (all_of []) (noted_means (b ∷ bs) []) (nil-drawn u number shape forms spellings γ) (λ names vs i o e. e)
  ones-drawn γ (b ∷ bs) (g ∷ gs) (k ∷ ks) (c ∷ cs) d o h =
      let one = and-both (nat_eq c 1) (all_one cs) h in
      let t = o.0.0 in
      let l : length t.0 ≡ 1 = t.2 ∙ is-one c one.0 in
      by b t.0 t.1 l (ones-drawn γ bs gs ks cs d.1 o.1 one.1)
    where
      by : (b : Bool) (tys : List Ty) → Typed γ k tys → length tys ≡ 1 → Drawn u number shape forms spellings γ 0 0 (all_lowered (clauses_lowered bs (each gs))) (noted_means bs ks) → Drawn u number shape forms spellings γ 0 0 (all_lowered (clauses_lowered (b ∷ bs) (each (g ∷ gs)))) (noted_means (b ∷ bs) (k ∷ ks))
      by true tys t l rest =
          drawn-when u number shape forms spellings γ 0 0 (all_lowered (with_not g.lowers ∷ clauses_lowered bs (each gs))) (λ names. andthen (not_means k names) (λ vs. andthen (noted_means bs ks names) (λ ws. given (vs ++ ws)))) (noted_means (true ∷ bs) (k ∷ ks))
          (join-drawn u number shape forms spellings γ 0 0 (with_not g.lowers) (clauses_lowered bs (each gs)) (not_means k) (noted_means bs ks) (not-drawn u number shape forms spellings γ tys g.lowers k d.0 t l) rest)
          (first-noted γ tys true bs k ks (not_means k) t l (λ names v a e. ap (λ r. andthen r (λ vs. given (nots vs))) e))
      by false tys t l rest =
          drawn-when u number shape forms spellings γ 0 0 (all_lowered (g.lowers ∷ clauses_lowered bs (each gs))) (λ names. andthen (k names) (λ vs. andthen (noted_means bs ks names) (λ ws. given (vs ++ ws)))) (noted_means (false ∷ bs) (k ∷ ks))
          (join-drawn u number shape forms spellings γ 0 0 g.lowers (clauses_lowered bs (each gs)) k (noted_means bs ks) (less-drawn u number shape forms spellings γ 1 0 0 0 g.lowers k (omega arith) (omega arith) d.0) rest)
          (first-noted γ tys false bs k ks k t l (λ names v a e. e ∙ ap (λ n. Some (v ∷ [], n)) (plus-none a)))
        where
          plus-none : (a : ℕ) → a ≡ a + 0
          plus-none a = omega arith
  ones-drawn γ (b ∷ bs) [] (k ∷ ks) cs d o h = absurd d
  ones-drawn γ (b ∷ bs) (g ∷ gs) [] cs d o h = absurd d
  ones-drawn γ (b ∷ bs) (g ∷ gs) (k ∷ ks) [] d o h = absurd o

  pub clauses-drawn : (γ : List Ty) (bs : List Bool) (gs : List Phrase) (ks : List Means) (cs : List ℕ) → EachD γ gs ks → EachO γ gs ks cs → (no_true bs || all_one cs) ≡ true
      → Drawn u number shape forms spellings γ 0 0 (all_lowered (clauses_lowered bs (each gs))) (noted_means bs ks)
  clauses-drawn γ bs gs ks cs d o h = by (or-one (no_true bs) (all_one cs) h)
    where
      by : (no_true bs ≡ true) ⊎ (all_one cs ≡ true) → Drawn u number shape forms spellings γ 0 0 (all_lowered (clauses_lowered bs (each gs))) (noted_means bs ks)
      by (inl n) = none-drawn γ bs gs ks d n
      by (inr n) = ones-drawn γ bs gs ks cs d o n

  -- ---- clauses behind definitions

  pub noted-body-drawn : (γ δ : List Ty) (bs : List Bool) (ds : List (List Lowers)) (kd : List (List Means)) (gs : List Phrase) (ks : List Means) (cs : List ℕ)
      → Drawn u number shape forms spellings γ 0 0 (defs_lowered ds) (defined kd) → Typed γ (defined kd) (γ ++ δ) → Wired forms spellings γ (defs_lowered ds) (γ ++ δ) → EachD (γ ++ δ) gs ks → EachO (γ ++ δ) gs ks cs → (no_true bs || all_one cs) ≡ true
      → Drawn u number shape forms spellings γ 0 0 (body_lowered ds (clauses_lowered bs (each gs))) (noted_body bs kd ks)
  noted-body-drawn γ δ bs ds kd gs ks cs d t wr e o h =
      let c = clauses-drawn (γ ++ δ) bs gs ks cs e o h in
      then-drawn u number shape forms spellings γ (γ ++ δ) 0 0 0 (defs_lowered ds) (defined kd) (λ env ws. all_lowered (clauses_lowered bs (each gs)) ws) (λ names. noted_means bs ks) d t wr
      (λ env ws k q w. from-fewer env ws (all_lowered (clauses_lowered bs (each gs)) ws k q) w (c.free ws k q))
      (on-drawn u number shape forms spellings γ (γ ++ δ) 0 0 0 (all_lowered (clauses_lowered bs (each gs))) (noted_means bs ks) (less-drawn u number shape forms spellings (γ ++ δ) 0 (0 + 0) 0 0 (all_lowered (clauses_lowered bs (each gs))) (noted_means bs ks) (omega arith) (omega arith) c))

  -- ---- clauses, backward

  not-read : (m : ℕ) (γ : List Ty) (g : Lowers) (k : ℕ → Means) → Read u number shape forms spellings m γ g k → Read u number shape forms spellings m γ (with_not g) k
  not-read m γ g k r names o s n q env c w a pl f =
      let x = g env n q in
      let y = the_not u number shape forms spellings x.values (n + length x.nodes) (q + length x.graphs) in
      let h = firings-first u number shape m s n x y c f in
      r names o s n q env h.0 w a (placed-left u number shape s n q x y pl) h.1

  pub clauses-read : (m : ℕ) (γ : List Ty) (bs : List Bool) (gs : List Phrase) (ks : ℕ → List Means) → EachRead u number shape forms spellings hs p cover m γ gs ks
      → Read u number shape forms spellings m γ (all_lowered (clauses_lowered bs (each gs))) (λ j. all_of (ks j))
  clauses-read m γ bs _ _ no_read = nil-read u number shape forms spellings m γ
  clauses-read m γ [] _ _ (a_read g gs k ks r rs) =
      cons-read u number shape forms spellings m γ g.lowers (each gs) k ks r (clauses-read-none m γ gs ks rs)
    where
      clauses-read-none : (m : ℕ) (γ : List Ty) (gs : List Phrase) (ks : ℕ → List Means) → EachRead u number shape forms spellings hs p cover m γ gs ks → Read u number shape forms spellings m γ (all_lowered (each gs)) (λ j. all_of (ks j))
      clauses-read-none m γ _ _ no_read = nil-read u number shape forms spellings m γ
      clauses-read-none m γ _ _ (a_read g gs k ks r rs) = cons-read u number shape forms spellings m γ g.lowers (each gs) k ks r (clauses-read-none m γ gs ks rs)
  clauses-read m γ (true ∷ bs) _ _ (a_read g gs k ks r rs) = cons-read u number shape forms spellings m γ (with_not g.lowers) (clauses_lowered bs (each gs)) k ks (not-read m γ g.lowers k r) (clauses-read m γ bs gs ks rs)
  clauses-read m γ (false ∷ bs) _ _ (a_read g gs k ks r rs) = cons-read u number shape forms spellings m γ g.lowers (clauses_lowered bs (each gs)) k ks r (clauses-read m γ bs gs ks rs)

  -- ---- how wide they are

  each-wide : (γ : List Ty) (gs : List Phrase) (ks : List Means) (cs : List ℕ) → EachO γ gs ks cs → Wide (total cs) (all_lowered (each gs))
  each-wide γ [] [] [] o env n q = refl
  each-wide γ (g ∷ gs) (k ∷ ks) (c ∷ cs) o env n q =
      let m = g.lowers env n q in
      let x = all_lowered (each gs) env (n + length m.nodes) (q + length m.graphs) in
      length-append m.values x.values ∙ (ap (λ i. i + length x.values) (o.0.1 env n q) ∙ ap (λ i. c + i) (each-wide γ gs ks cs o.1 env (n + length m.nodes) (q + length m.graphs)))
  each-wide γ [] [] (c ∷ cs) o env n q = absurd o
  each-wide γ [] (k ∷ ks) cs o env n q = absurd o
  each-wide γ (g ∷ gs) [] cs o env n q = absurd o
  each-wide γ (g ∷ gs) (k ∷ ks) [] o env n q = absurd o

  none-wide : (γ : List Ty) (bs : List Bool) (gs : List Phrase) (ks : List Means) (cs : List ℕ) → EachO γ gs ks cs → no_true bs ≡ true → Wide (total cs) (all_lowered (clauses_lowered bs (each gs)))
  none-wide γ bs gs ks cs o h = subst (λ fs. Wide (total cs) (all_lowered fs)) (sym (none-lowered bs (each gs) h)) (each-wide γ gs ks cs o)

  ones-wide : (γ : List Ty) (bs : List Bool) (gs : List Phrase) (ks : List Means) (cs : List ℕ) → EachO γ gs ks cs → all_one cs ≡ true → Wide (total cs) (all_lowered (clauses_lowered bs (each gs)))
  ones-wide γ [] gs ks cs o h env n q = none-wide γ [] gs ks cs o refl env n q
  ones-wide γ (b ∷ bs) [] [] [] o h env n q = refl
  ones-wide γ (true ∷ bs) (g ∷ gs) (k ∷ ks) (c ∷ cs) o h env n q =
      let one = and-both (nat_eq c 1) (all_one cs) h in
      let m = with_not g.lowers env n q in
      let x = all_lowered (clauses_lowered bs (each gs)) env (n + length m.nodes) (q + length m.graphs) in
      length-append m.values x.values ∙ (ap (λ i. i + length x.values) (sym (is-one c one.0)) ∙ ap (λ i. c + i) (ones-wide γ bs gs ks cs o.1 one.1 env (n + length m.nodes) (q + length m.graphs)))
  ones-wide γ (false ∷ bs) (g ∷ gs) (k ∷ ks) (c ∷ cs) o h env n q =
      let one = and-both (nat_eq c 1) (all_one cs) h in
      let m = g.lowers env n q in
      let x = all_lowered (clauses_lowered bs (each gs)) env (n + length m.nodes) (q + length m.graphs) in
      length-append m.values x.values ∙ (ap (λ i. i + length x.values) (o.0.1 env n q) ∙ ap (λ i. c + i) (ones-wide γ bs gs ks cs o.1 one.1 env (n + length m.nodes) (q + length m.graphs)))
  ones-wide γ (b ∷ bs) [] [] (c ∷ cs) o h env n q = absurd o
  ones-wide γ (b ∷ bs) [] (k ∷ ks) cs o h env n q = absurd o
  ones-wide γ (b ∷ bs) (g ∷ gs) [] cs o h env n q = absurd o
  ones-wide γ (b ∷ bs) (g ∷ gs) (k ∷ ks) [] o h env n q = absurd o

  pub clauses-wide : (γ : List Ty) (bs : List Bool) (gs : List Phrase) (ks : List Means) (cs : List ℕ) → EachO γ gs ks cs → (no_true bs || all_one cs) ≡ true → Wide (total cs) (all_lowered (clauses_lowered bs (each gs)))
  clauses-wide γ bs gs ks cs o h = by (or-one (no_true bs) (all_one cs) h)
    where
      by : (no_true bs ≡ true) ⊎ (all_one cs ≡ true) → Wide (total cs) (all_lowered (clauses_lowered bs (each gs)))
      by (inl n) = none-wide γ bs gs ks cs o n
      by (inr n) = ones-wide γ bs gs ks cs o n
