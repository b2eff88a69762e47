-- The outputs of simple nodes of a ready unit belong to the types of the edges that leave them.
use Rattle.std.proofs.Common.{◌≡◌, ◌≢◌, ℕ, zero, suc, ◌+◌, ◌-◌, ◌<◌, ◌≤◌, List, [], ◌∷◌, length, get_or, option_map, Option, Some, None, Contains, All, ◌⊎◌, inl, inr, refl, sym, ap, subst, ◌∙◌, arith, ◌==◌}
use Rattle.std.specs.Prelude.{MatchOption}
use Rattle.std.proofs.lemmas.Bool.{eq-eqb, and_from}
use Rattle.std.proofs.lemmas.List.Elements.{All-contains, All-head}
use Rattle.flow_value.specs.declared.operation.Scalar1.TheVariants as one
use Rattle.flow_value.specs.declared.operation.Scalar2.TheVariants as two
use Rattle.flow_value.specs.declared.ty.Ty.TheVariants as ty
use Rattle.if1_graph.specs.declared.graph.Edge.{Edge}
use Rattle.if1_graph.specs.declared.graph.Graph.{Graph}
use Rattle.if1_graph.specs.declared.graph.Graph.TheViews.{out-Graph}
use Rattle.if1_graph.specs.declared.graph.Node.{Node, out-Node}
use Rattle.if1_graph.specs.declared.graph.Origin.TheVariants as origin
use Rattle.if1_graph.specs.declared.graph.Unit1.{Unit1}
use Rattle.if1_graph.specs.declared.op.Grouping.{Grouping}
use Rattle.if1_graph.specs.declared.op.Simple.{Simple}
use Rattle.if1_graph.specs.declared.op.Simple.TheVariants as simple
use Rattle.if1_graph.specs.declared.row.Rest.{Rest}
use Rattle.if1_graph.specs.declared.row.Rest.TheVariants.{Nothing, Mask, More, Arguments, Fields, NewFields}
use Rattle.if1_graph.specs.declared.row.Want.{Want}
use Rattle.if1_graph.specs.declared.row.Want.TheVariants as want
use Rattle.if1_graph.specs.Formed.{want_at}
use Rattle.if1_graph.specs.Ops.{simple_at, compound_at, reducer_at}
use Rattle.if1_graph.specs.Ports.{AreFirst, AreParts, AreFilled, IsOnePort, IsSimpleFilled, IsFilledAs, carried, literal_at, leaves, edges_from, fields_of, tags_of}
use Rattle.if1_graph.specs.Ready.{IsReady}
use Rattle.if1_graph.specs.Rows.{Operand, operand_of, output_of, row_of}
use Rattle.if1_graph.specs.Tables.{◌>>=◌}
use Rattle.if1_graph.specs.Types.{Member, Sort, Plain, sort_at}
use Rattle.if1_graph.specs.Typing.{Known, known, Fits, FitsNode, FitsOutputAs, FitsOutput, IsGiven, AgreesWith}
use Rattle.if1_graph.specs.Units.{label_of, node_at, edge_into, ports_into, width, Place, places}
use Rattle.if1_graph.specs.Spelling.{IsLabel}
use Rattle.if1_marks.proofs.Lists.{here-or-there, in-none, in-filter}
use Rattle.graph_meaning.specs.Carried.{Carried, Name, Unfilled}
use Rattle.graph_meaning.specs.NodeValues.{op}
use Rattle.graph_meaning.specs.Networks.{first_type, output_type, stream_shape, union_shape, shape_of}
use Rattle.unit_laws.specs.Typed.{Belongs, Fills, valued, typed_at}
use Rattle.unit_laws.proofs.TypeLists.{some-same, out_rec, out_uni}
use Rattle.unit_laws.proofs.TypedRows as rows
use Rattle.unit_laws.proofs.TypedSimple.{wanted, GivenAt, GivenFrom, ShapeFor, IsWhollyFilled, simple-right}
use Rattle.unit_laws.proofs.TypedRecords.{IsFilledFor, built-right, MayChange, changed-right}
use Rattle.unit_laws.proofs.TypedTables.{IsNoReduce, no-reduction, record-of-few}
use Rattle.unit_laws.proofs.TypedEdges.{IsValueWant, node-formed, edge-agrees, Leaving}
use Rattle.unit_laws.proofs.TypedNodes.{first-width, first-edge, filled-port, port-filled, node-found, node-filled, wanted-at, want-is}

-- ---- rows

abbrev pub NotPartial : Rest → Type 0
NotPartial Fields = ⊥
NotPartial NewFields = ⊥
NotPartial Arguments = ⊥
NotPartial _ = Unit {0}

pub wholly-rest : (o : Simple) → IsWhollyFilled o → NotPartial (row_of o).rest
wholly-rest (simple.Two two.Plus) h = tt
wholly-rest (simple.Two two.Minus) h = tt
wholly-rest (simple.Two two.Times) h = tt
wholly-rest (simple.Two two.Div) h = tt
wholly-rest (simple.Two two.Mod) h = tt
wholly-rest (simple.Two two.Max) h = tt
wholly-rest (simple.Two two.Min) h = tt
wholly-rest (simple.Two two.Equal) h = tt
wholly-rest (simple.Two two.NotEqual) h = tt
wholly-rest (simple.Two two.Less) h = tt
wholly-rest (simple.Two two.LessEqual) h = tt
wholly-rest (simple.One one.Neg) h = tt
wholly-rest (simple.One one.Abs) h = tt
wholly-rest (simple.One one.Not) h = tt
wholly-rest (simple.One one.Int) h = tt
wholly-rest (simple.One one.Bool) h = tt
wholly-rest (simple.One one.Char) h = tt
wholly-rest (simple.One one.IsError) h = tt
wholly-rest simple.Call h = absurd h
wholly-rest simple.RBuild h = absurd h
wholly-rest simple.RReplace h = absurd h
wholly-rest _ h = tt

pub no-reduce-or : (o : Simple) → IsNoReduce o ⊎ ((g : Grouping) × (o ≡ simple.Reduce g))
no-reduce-or (simple.Reduce g) = inr (g, refl)
no-reduce-or _ = inl tt

-- only the first port of a Reduce takes the name of a reduction
pub reduction-first : (o : Simple) (i : ℕ) → wanted o (suc i) ≡ Some want.Reduction → i ≡ 0
reduction-first o i e =
    elim (no-reduce-or o) [
      | inl h ↦ absurd (no-reduction o h i e)
      | inr r ↦ go r.0 i (subst (λ z. wanted z (suc i) ≡ Some want.Reduction) r.1 e)
    ]
  where
    go : (g : Grouping) (i : ℕ) → wanted (simple.Reduce g) (suc i) ≡ Some want.Reduction → i ≡ 0
    go g zero e = refl
    go g (suc zero) e = absurd cc
    go g (suc (suc i)) e = absurd cc

-- the ports are the first so many
pub record AreLed (least : ℕ) (ports : List ℕ) : Type 0 where
  pub count : ℕ
  pub enough : least ≤ count
  pub first : AreFirst count ports

led : (u : Unit1) (g : Graph) (l k : ℕ) (r : Rest) (ports : List ℕ) → NotPartial r → AreFilled u g l k r ports → AreLed k ports
led u g l k Nothing ports h f = record { count = k; enough = omega arith; first = f }
led u g l k Mask ports h (inl f) = record { count = k; enough = omega arith; first = f }
led u g l k Mask ports h (inr f) = record { count = suc k; enough = omega arith; first = f }
led u g l k (More how w) ports h f = record { count = f.0; enough = f.1; first = f.2 }
led u g l k Arguments ports h f = absurd h
led u g l k Fields ports h f = absurd h
led u g l k NewFields ports h f = absurd h

given-from : (k : Known) (o : Simple) (first : ℕ) (cs : List Carried) → ((i : ℕ) → i < length cs → GivenAt k (first + i) (wanted o (first + i)) (get_or cs i Unfilled)) → GivenFrom k o first cs
given-from k o first [] h = tt
given-from k o first (c ∷ cs) h =
    let start : first + 0 ≡ first = omega arith in (
      subst (λ q. GivenAt k q (wanted o q) c) start (h 0 (omega arith)),
      given-from k o (suc first) cs (λ i lt. let next : first + suc i ≡ suc first + i = omega arith in subst (λ q. GivenAt k q (wanted o q) (get_or cs i Unfilled)) next (h (suc i) (omega (arith, lt)))),
    )

valued-value : (w : Option Want) → IsValueWant w → (o : Option Sort) → valued w o ≡ o
valued-value (Some want.Function) v o = absurd v
valued-value (Some want.Reduction) v o = absurd v
valued-value _ v o = refl

first-sort : (u : Unit1) (es : List Edge) (e : Edge) → Contains es e → All (λ f. sort_at u.types f.ty ≡ sort_at u.types e.ty) es → first_type u es ≡ sort_at u.types e.ty
first-sort u [] e c h = in-none e c
first-sort u (f ∷ es) e c h = All-head (λ f. sort_at u.types f.ty ≡ sort_at u.types e.ty) f es h

-- what is carried into the ports of a node
pub record OperandsOf (u : Unit1) (g : Graph) (l : ℕ) (ks : List Carried) : Type 0 where
  pub long : length ks ≡ width g l
  pub fills : Fills (λ i. typed_at u g l (suc i)) ks
  pub named : (i : ℕ) → want_at g l (suc i) ≡ Some want.Reduction → (e : Edge) → edge_into g l (suc i) ≡ Some e → (text : List ℕ) × (get_or ks i Unfilled ≡ Name text) × (literal_at g l (suc i) ≡ Some text)
  pub unfilled : (i : ℕ) → edge_into g l (suc i) ≡ None → get_or ks i Unfilled ≡ Unfilled

module _ (u : Unit1) (ready : IsReady u) (p : Place) (place : Contains (places u) p) (n : Node) (inside : Contains (out-Graph p.graph).nodes n) where
  abbrev l : ℕ
  l = label_of n

  label-is : IsLabel l
  label-is = (node-formed u ready p place n inside).label

  output-of : (l port : ℕ) (s : Sort) → 1 ≤ l → IsGiven u p (origin.Port l port) s → FitsOutput u p.graph (node_at (out-Graph p.graph).nodes l) port s
  output-of zero port s le h = absurd (omega (arith, le))
  output-of (suc l) port s le h = h

  pub leaving-output : (port : ℕ) (s : Sort) → Leaving u ready p place l port s → FitsOutputAs u p.graph n (compound_at (out-Node n).op) (simple_at (out-Node n).op) port s
  leaving-output port s x = subst (λ o. FitsOutput u p.graph o port s) (node-found u ready p place n inside) (output-of l port s label-is.0 x.given)

  agreed : (e : Edge) (l port : ℕ) → 1 ≤ l → AgreesWith u p.graph e (origin.Port l port) → All (λ f. sort_at u.types f.ty ≡ sort_at u.types e.ty) (edges_from p.graph l port)
  agreed e zero port le h = absurd (omega (arith, le))
  agreed e (suc l) port le h = h

  leaves-it : (e : Edge) (port : ℕ) → e.from ≡ origin.Port l port → Contains (out-Graph p.graph).edges e → Contains (edges_from p.graph l port) e
  leaves-it e port f c = in-filter (λ e. leaves l port e.from) (out-Graph p.graph).edges e c (ap (leaves l port) f ∙ and_from (l == l) (port == port) (eq-eqb l l refl) (eq-eqb port port refl))

  pub output-type : (s : Sort) → Leaving u ready p place l 1 s → output_type u p.graph l ≡ Some s
  output-type s x =
      first-sort u (edges_from p.graph l 1) x.edge (leaves-it x.edge 1 x.from x.there)
      (agreed x.edge l 1 label-is.0 (subst (AgreesWith u p.graph x.edge) x.from (edge-agrees u ready p place x.edge x.there)))
      ∙ x.sort

  module _ (o : Simple) (is_simple : simple_at (out-Node n).op ≡ Some o) (none : compound_at (out-Node n).op ≡ None) where
    abbrev k : Known
    k = known u p.graph l

    pub filled : IsSimpleFilled u p.graph n o
    filled = subst (λ x. IsFilledAs u p.graph n None x) is_simple (subst (λ c. IsFilledAs u p.graph n c (simple_at (out-Node n).op)) none (node-filled u ready p place n inside))

    node-wants : (port : ℕ) (s : Sort) → FitsNode u p.graph l (compound_at (out-Node n).op) (simple_at (out-Node n).op) port s → MatchOption (operand_of o port) ⊥ (λ x. Fits k x.1 s)
    node-wants port s h = subst (λ x. FitsNode u p.graph l None x port s) is_simple (subst (λ c. FitsNode u p.graph l c (simple_at (out-Node n).op) port s) none h)

    pub output-given : (port : ℕ) (s : Sort) → Leaving u ready p place l port s → (w : Want) × (output_of o port ≡ Some w) × Fits k w s
    output-given port s x = go (output_of o port) refl (subst (λ x. FitsOutputAs u p.graph n None x port s) is_simple (subst (λ c. FitsOutputAs u p.graph n c (simple_at (out-Node n).op) port s) none (leaving-output port s x)))
      where
        go : (q : Option Want) → output_of o port ≡ q → MatchOption q ⊥ (λ w. Fits k w s) → (w : Want) × (output_of o port ≡ Some w) × Fits k w s
        go None e h = absurd h
        go (Some w) e h = (w, e, h)

    module _ (ks : List Carried) (given : OperandsOf u p.graph l ks) where
      fits-here : (w : Want) (s : Sort) (q : Option Operand) → option_map (λ (x : Operand). x.1) q ≡ Some w → MatchOption q ⊥ (λ (x : Operand). Fits k x.1 s) → Fits k w s
      fits-here w s None e h = absurd h
      fits-here w s (Some x) e h = subst (λ z. Fits k z s) (some-same x.1 w e) h

      pub operand-at : (i : ℕ) (w : Want) → wanted o (suc i) ≡ Some w → IsValueWant (Some w) → (e : Edge) → edge_into p.graph l (suc i) ≡ Some e → rows.Operand k (suc i) w (get_or ks i Unfilled)
      operand-at i w is v e f =
          let wa : want_at p.graph l (suc i) ≡ Some w = want-is u ready p place n inside (suc i) o is_simple ∙ is in
          let x = wanted-at u ready p place n inside (suc i) e f (subst IsValueWant (sym wa) v) in
          record {
            sort = x.sort;
            known = x.carries;
            fits = fits-here w x.sort (operand_of o (suc i)) is (node-wants (suc i) x.sort x.fits);
            belongs = given.fills i x.sort (ap (λ q. valued q (carried u p.graph l (suc i))) wa ∙ (valued-value (Some w) v (carried u p.graph l (suc i)) ∙ x.carries));
          }

      none-wanted : (i : ℕ) → wanted o (suc i) ≡ None → (e : Edge) → edge_into p.graph l (suc i) ≡ Some e → ⊥
      none-wanted i is e f =
          let wa : want_at p.graph l (suc i) ≡ None = want-is u ready p place n inside (suc i) o is_simple ∙ is in
          let x = wanted-at u ready p place n inside (suc i) e f (subst IsValueWant (sym wa) tt) in
          go (λ (y : Operand). Fits k y.1 x.sort) (operand_of o (suc i)) is (node-wants (suc i) x.sort x.fits)
        where
          go : (P : Operand → Type 0) (q : Option Operand) → option_map (λ (x : Operand). x.1) q ≡ None → MatchOption q ⊥ P → ⊥
          go P None e h = h
          go P (Some x) e h = absurd cc

      reduction-named : (i : ℕ) → wanted o (suc i) ≡ Some want.Reduction → (e : Edge) → edge_into p.graph l (suc i) ≡ Some e → (text : List ℕ) × (get_or ks i Unfilled ≡ Name text) × (k.reducer ≡ reducer_at text)
      reduction-named i is e f =
          let x = given.named i (want-is u ready p place n inside (suc i) o is_simple ∙ is) e f in
          (x.0, x.1, ap (λ o. o >>= reducer_at) (subst (λ j. literal_at p.graph l (suc j) ≡ Some x.0) (reduction-first o i is) x.2))

      given-at : (i : ℕ) (e : Edge) → edge_into p.graph l (suc i) ≡ Some e → GivenAt k (suc i) (wanted o (suc i)) (get_or ks i Unfilled)
      given-at i e f = go (wanted o (suc i)) refl
        where
          go : (w : Option Want) → wanted o (suc i) ≡ w → GivenAt k (suc i) w (get_or ks i Unfilled)
          go None is = none-wanted i is e f
          go (Some want.Reduction) is = reduction-named i is e f
          go (Some want.Function) is = tt
          go (Some w) is = operand-at i w is tt e f

      -- the ports, all of which are filled
      pub wholly : IsWhollyFilled o → AreLed (length (row_of o).operands) (ports_into p.graph l)
      wholly h = led u p.graph l (length (row_of o).operands) (row_of o).rest (ports_into p.graph l) (wholly-rest o h) filled.ports

      pub all-given : IsWhollyFilled o → GivenFrom k o 1 ks × (length (row_of o).operands ≤ length ks)
      all-given h =
          let w = wholly h in
          let many : length ks ≡ w.count = given.long ∙ first-width w.count (ports_into p.graph l) w.first in (
            given-from k o 1 ks
                (λ i lt.
                let x = first-edge p.graph l w.count w.first i (omega (arith, lt, many)) in
                let next : suc i ≡ 1 + i = omega arith in
                subst (λ q. GivenAt k q (wanted o q) (get_or ks i Unfilled)) next (given-at i x.0 x.1)),
            let enough = w.enough in omega (arith, enough, many),
          )

  -- ---- shapes

  shape-for : (o : Simple) (i : ℕ) (s : Sort) → Leaving u ready p place l (suc i) s → (w : Want) → output_of o (suc i) ≡ Some w → ShapeFor (known u p.graph l) o s (shape_of u p.graph l o)
  shape-for simple.ABuild zero s x w e = ap stream_shape (output-type s x)
  shape-for simple.ABuild (suc i) s x w e = absurd cc
  shape-for simple.AGather zero s x w e = ap stream_shape (output-type s x)
  shape-for simple.AGather (suc i) s x w e = absurd cc
  shape-for (simple.Reduce g) zero s x w e = ap stream_shape (output-type s x)
  shape-for (simple.Reduce g) (suc i) s x w e = absurd cc
  shape-for simple.RBuild zero s x w e = ap (λ t. union_shape (tags_of t)) (output-type s x)
  shape-for simple.RBuild (suc i) s x w e = absurd cc
  shape-for simple.RElements i s x w e = refl
  shape-for _ i s x w e = tt

  pub whole-outputs : (o : Simple) → simple_at (out-Node n).op ≡ Some o → compound_at (out-Node n).op ≡ None → IsWhollyFilled o → (ks : List Carried) → OperandsOf u p.graph l ks → (i : ℕ) (s : Sort) → Leaving u ready p place l (suc i) s
      → Belongs s (get_or (op o (shape_of u p.graph l o) ks) i Unfilled)
  whole-outputs o is none h ks given i s x =
      let a = all-given o is none ks given h in
      let w = output-given o is none (suc i) s x in
      simple-right (known u p.graph l) o (shape_of u p.graph l o) ks h a.0 a.1 s (shape-for o i s x w.0 w.1) i w.0 w.1 w.2

  -- ---- records and unions

  any-wanted : (i : ℕ) → wanted simple.RBuild (suc i) ≡ Some want.Any
  any-wanted zero = refl
  any-wanted (suc i) = refl

  one-only : (ports : List ℕ) (a b : ℕ) → IsOnePort ports → Contains ports a → Contains ports b → a ≡ b
  one-only ports a b one h k =
      let x : Contains (one.0 ∷ []) a = subst (λ z. Contains z a) one.1 h in
      let y : Contains (one.0 ∷ []) b = subst (λ z. Contains z b) one.1 k in
      sym (only (here-or-there one.0 [] a x)) ∙ only (here-or-there one.0 [] b y)
    where
      only : {c : ℕ} → (one.0 ≡ c) ⊎ Contains [] c → one.0 ≡ c
      only (inl e) = e
      only {c = c} (inr none) = in-none c none

  built : simple_at (out-Node n).op ≡ Some simple.RBuild → compound_at (out-Node n).op ≡ None → (ks : List Carried) → OperandsOf u p.graph l ks → (s : Sort) → Leaving u ready p place l 1 s → IsFilledFor (known u p.graph l) s ks
  built is none ks given s x =
      record {
        fills = λ i t e.
            given.fills i t
            (ap (λ q. valued q (carried u p.graph l (suc i))) (want-is u ready p place n inside (suc i) simple.RBuild is ∙ any-wanted i) ∙ e);
        all = λ ms e. (given.long ∙ first-width (length ms) (ports_into p.graph l) (record-ports ms e), let few = record-of-few u.types (x.edge).ty s ms x.sort e in let most = ready.formed.types.few in omega (arith, few, most));
        one = λ ms e i t f j ne. given.unfilled j (no-edge ms e i t f j ne);
      }
    where
      parts : (fields tags : Option (List Member)) → fields_of (Some s) ≡ fields → tags_of (Some s) ≡ tags → AreParts fields tags (ports_into p.graph l)
      parts fields tags e f =
          let a = All-contains (λ e. AreParts (fields_of (sort_at u.types e.ty)) (tags_of (sort_at u.types e.ty)) (ports_into p.graph l)) (edges_from p.graph l 1) x.edge (filled simple.RBuild is none).ports.1 (leaves-it x.edge 1 x.from x.there) in
          subst (λ z. AreParts z tags (ports_into p.graph l)) e (subst (λ z. AreParts (fields_of (Some s)) z (ports_into p.graph l)) f (subst (λ z. AreParts (fields_of z) (tags_of z) (ports_into p.graph l)) x.sort a))

      record-ports : (ms : List Member) → s ≡ Plain (ty.Rec ms) → AreFirst (length ms) (ports_into p.graph l)
      record-ports ms e = parts (Some ms) (tags_of (Some s)) (ap (λ z. fields_of (Some z)) e ∙ rw (out_rec ms) refl) refl

      union-ports : (ms : List Member) → s ≡ Plain (ty.Uni ms) → IsOnePort (ports_into p.graph l)
      union-ports ms e = (parts None (Some ms) (ap (λ z. fields_of (Some z)) e ∙ rw (out_uni ms) refl) (ap (λ z. tags_of (Some z)) e ∙ rw (out_uni ms) refl)).0

      edge-there : (i : ℕ) (t : Sort) (o : Option Edge) → edge_into p.graph l (suc i) ≡ o → (o >>= λ e. sort_at u.types e.ty) ≡ Some t → Contains (ports_into p.graph l) (suc i)
      edge-there i t None e f = absurd cc
      edge-there i t (Some x) e f = port-filled p.graph l (suc i) x e

      no-edge : (ms : List Member) → s ≡ Plain (ty.Uni ms) → (i : ℕ) (t : Sort) → (known u p.graph l).at (suc i) ≡ Some t → (j : ℕ) → j ≢ i → edge_into p.graph l (suc j) ≡ None
      no-edge ms e i t f j ne = go (edge_into p.graph l (suc j)) refl
        where
          go : (o : Option Edge) → edge_into p.graph l (suc j) ≡ o → o ≡ None
          go None g = refl
          go (Some y) g = absurd (ne (let same = one-only (ports_into p.graph l) (suc j) (suc i) (union-ports ms e) (port-filled p.graph l (suc j) y g) (edge-there i t (edge_into p.graph l (suc i)) refl f) in omega (arith, same)))

  pub built-outputs : simple_at (out-Node n).op ≡ Some simple.RBuild → compound_at (out-Node n).op ≡ None → (ks : List Carried) → OperandsOf u p.graph l ks → (i : ℕ) (s : Sort) → Leaving u ready p place l (suc i) s → Belongs s (get_or (op simple.RBuild (shape_of u p.graph l simple.RBuild) ks) i Unfilled)
  built-outputs is none ks given zero s x =
      let w = output-given simple.RBuild is none 1 s x in
      subst (λ t. Belongs s (get_or (op simple.RBuild (union_shape (tags_of t)) ks) 0 Unfilled)) (sym (output-type s x))
      (built-right (known u p.graph l) s ks (built is none ks given s x) (subst (λ z. Fits (known u p.graph l) z s) (sym (some-same want.Built w.0 w.1)) w.2))
  built-outputs is none ks given (suc i) s x = let w = output-given simple.RBuild is none (suc (suc i)) s x in absurd (let e = w.1 in cc)

  changes-from : simple_at (out-Node n).op ≡ Some simple.RReplace → compound_at (out-Node n).op ≡ None → (ks : List Carried) → OperandsOf u p.graph l ks → (i : ℕ) (cs : List Carried) → ((j : ℕ) → get_or cs j Unfilled ≡ get_or ks (suc i + j) Unfilled) → MayChange (known u p.graph l) i cs
  changes-from is none ks given i [] h = tt
  changes-from is none ks given i (c ∷ cs) h = (
    go (edge_into p.graph l (suc (suc i))) refl,
    changes-from is none ks given (suc i) cs (λ j. h (suc j) ∙ ap (λ q. get_or ks q Unfilled) (shift i j)),
  )
    where
      shift : (i j : ℕ) → suc i + suc j ≡ suc (suc i) + j
      shift i j = omega arith

      at-i : suc i + 0 ≡ suc i
      at-i = omega arith

      is-c : c ≡ get_or ks (suc i) Unfilled
      is-c = h 0 ∙ ap (λ q. get_or ks q Unfilled) at-i

      port-less : suc (suc i) - 1 ≡ suc i
      port-less = omega arith

      go : (o : Option Edge) → edge_into p.graph l (suc (suc i)) ≡ o → (c ≡ Unfilled) ⊎ rows.Operand (known u p.graph l) (suc (suc i)) (want.FieldOf (suc i)) c
      go None e = inl (is-c ∙ given.unfilled (suc i) e)
      go (Some x) e =
          inr (subst (rows.Operand (known u p.graph l) (suc (suc i)) (want.FieldOf (suc i))) (sym is-c)
          (operand-at simple.RReplace is none ks given (suc i) (want.FieldOf (suc i)) (ap (λ q. Some (want.FieldOf q)) port-less) tt x e))

  pub changed-outputs : simple_at (out-Node n).op ≡ Some simple.RReplace → compound_at (out-Node n).op ≡ None → (ks : List Carried) → OperandsOf u p.graph l ks → (i : ℕ) (s : Sort) → Leaving u ready p place l (suc i) s → Belongs s (get_or (op simple.RReplace (shape_of u p.graph l simple.RReplace) ks) i Unfilled)
  changed-outputs is none ks given (suc i) s x = let w = output-given simple.RReplace is none (suc (suc i)) s x in absurd (let e = w.1 in cc)
  changed-outputs is none ks given zero s x = go ks refl (given.fills)
    where
      first : (e : Edge) × (edge_into p.graph l 1 ≡ Some e)
      first = filled-port p.graph l 1 (filled simple.RReplace is none).ports.0

      record-at : rows.Operand (known u p.graph l) 1 want.Record (get_or ks 0 Unfilled)
      record-at = operand-at simple.RReplace is none ks given 0 want.Record refl tt first.0 first.1

      w : (w : Want) × (output_of simple.RReplace 1 ≡ Some w) × Fits (known u p.graph l) w s
      w = output-given simple.RReplace is none 1 s x

      out : Fits (known u p.graph l) (want.Same 1) s
      out = subst (λ z. Fits (known u p.graph l) z s) (sym (some-same (want.Same 1) w.0 w.1)) w.2

      go : (cs : List Carried) → ks ≡ cs → Fills (λ i. typed_at u p.graph l (suc i)) ks → Belongs s (get_or (op simple.RReplace (shape_of u p.graph l simple.RReplace) ks) 0 Unfilled)
      go [] e f = absurd (no-record (subst (λ z. rows.Operand (known u p.graph l) 1 want.Record (get_or z 0 Unfilled)) e record-at))
        where
          no-record : rows.Operand (known u p.graph l) 1 want.Record Unfilled → ⊥
          no-record a = rows.at-type Unfilled a.sort (Plain (ty.Rec a.fits.0)) a.fits.1 a.belongs
      go (c ∷ cs) e f =
          subst (λ z. Belongs s (get_or (op simple.RReplace (shape_of u p.graph l simple.RReplace) z) 0 Unfilled)) (sym e)
          (changed-right (known u p.graph l) c cs (subst (λ z. rows.Operand (known u p.graph l) 1 want.Record (get_or z 0 Unfilled)) e record-at)
          (changes-from is none ks given 0 cs (λ j. let shift : suc 0 + j ≡ suc j = omega arith in sym (ap (λ z. get_or z (suc j) Unfilled) e) ∙ ap (λ q. get_or ks q Unfilled) (sym shift))) s out)
