-- What each node of a ready unit does on what is carried into its ports.
use Rattle.std.proofs.Common.{◌≡◌, ◌≢◌, ℕ, zero, suc, ◌+◌, ◌<◌, ◌≤◌, List, [], ◌∷◌, length, drop, get_or, option_map, Option, Some, None, Contains, ◌⊎◌, inl, inr, refl, sym, ap, subst, ◌∙◌, arith}
use Rattle.flow_value.specs.declared.operation.Scalar1.TheVariants as one
use Rattle.flow_value.specs.declared.operation.Scalar2.TheVariants as two
use Rattle.if1_graph.specs.declared.graph.Edge.{Edge}
use Rattle.if1_graph.specs.declared.graph.Graph.{Graph}
use Rattle.if1_graph.specs.declared.graph.Graph.TheViews.{out-Graph}
use Rattle.if1_graph.specs.declared.graph.Node.{Node, out-Node}
use Rattle.if1_graph.specs.declared.graph.Origin.{Origin}
use Rattle.if1_graph.specs.declared.graph.Origin.TheVariants as origin
use Rattle.if1_graph.specs.declared.graph.Unit1.{Unit1}
use Rattle.if1_graph.specs.declared.op.Compound.{Compound}
use Rattle.if1_graph.specs.declared.op.Compound.TheVariants as compound
use Rattle.if1_graph.specs.declared.op.Simple.{Simple}
use Rattle.if1_graph.specs.declared.op.Simple.TheVariants as simple
use Rattle.if1_graph.specs.declared.row.Want.TheVariants as want
use Rattle.if1_graph.specs.Formed.{want_at}
use Rattle.if1_graph.specs.Ops.{simple_at, compound_at}
use Rattle.if1_graph.specs.Ports.{IsNamed, IsFilledAs, carried, literal_at, text_of, fields_of, compound_outputs, given_outputs, outputs, outputs_as}
use Rattle.if1_graph.specs.Ready.{IsReady}
use Rattle.if1_graph.specs.Rows.{row_of}
use Rattle.if1_graph.specs.Tables.{◌>>=◌}
use Rattle.if1_graph.specs.Types.{Member, Sort}
use Rattle.if1_graph.specs.Units.{label_of, edge_into, width, Place, places}
use Rattle.graph_meaning.specs.Carried.{Carried, Name, Unfilled}
use Rattle.graph_meaning.specs.NodeValues.{op}
use Rattle.graph_meaning.specs.Forms.{Form, next_of, first}
use Rattle.graph_meaning.specs.Forms as form
use Rattle.graph_meaning.specs.Demand.{Source, Fixed, Kind, Plain as Simply, Whole}
use Rattle.graph_meaning.specs.Laws.{outputs_by}
use Rattle.graph_meaning.specs.Networks.{source_from, source_by, source_at, sources, fields_shape, shape_of, form_of, kind_as, kind_of, ins_of, callee_number}
use Rattle.graph_meaning.proofs.Outputs.{outputs-counted}
use Rattle.unit_laws.specs.Typed.{Belongs, Fills, typed_at}
use Rattle.unit_laws.proofs.TypeLists.{out_rec}
use Rattle.unit_laws.proofs.TypedEdges.{Leaving}
use Rattle.unit_laws.proofs.TypedNodes.{node-filled, want-is, first-edge, port-filled, width-over}
use Rattle.unit_laws.proofs.TypedSimple.{IsWhollyFilled}
use Rattle.unit_laws.proofs.TypedOutputs.{reduction-first, OperandsOf, filled, operand-at, wholly, whole-outputs, built-outputs, changed-outputs}
use Rattle.unit_laws.proofs.TypedPlans.{Plan, SourceAt, AllGive, sources-count, source-found, ports-give}
use Rattle.unit_laws.proofs.TypedParts.{OutputsBelong, no-want, outputs-are}
use Rattle.unit_laws.proofs.TypedChoices.{select-plan, select-begins, arms-plan, arms-begin}
use Rattle.unit_laws.proofs.TypedLoops.{plan-a, begins-a, plan-b, begins-b, all-plan, all-begins}
use Rattle.unit_laws.proofs.TypedCalls.{call-plan, call-begins}

-- a plan, and where it begins
pub record Going (u : Unit1) (f : Form) (ks : List Carried) (Outs : List Carried → Type 0) : Type 1 where
  pub plan : Plan u f ks Outs
  pub begins : plan.Goes (next_of (first f ks))

-- what a node of this kind gives has a property
pub record HasOutputs (Outs : List Carried → Type 0) (rs : List Carried) : Type 1 where
  pub holds : Outs rs

abbrev pub KindGoes : Unit1 → Kind → List Carried → (List Carried → Type 0) → Type 1
KindGoes u (Simply row shape) ks Outs = HasOutputs Outs (op row shape ks)
KindGoes u (Whole f) ks Outs = Going u f ks Outs

beyond-end : (cs : List Carried) (i : ℕ) → length cs ≤ i → get_or cs i Unfilled ≡ Unfilled
beyond-end [] i le = refl
beyond-end (c ∷ cs) zero le = absurd (omega (arith, le))
beyond-end (c ∷ cs) (suc i) le = beyond-end cs i (omega (arith, le))

edge-below : (u : Unit1) (g : Graph) (l i : ℕ) (e : Edge) → edge_into g l (suc i) ≡ Some e → i < width g l
edge-below u g l i e f = let w = width-over g l (suc i) (port-filled g l (suc i) e f) in omega (arith, w)

by-order : (a b : ℕ) → (a < b) ⊎ (b ≤ a)
by-order a b = grind arith

module _ (u : Unit1) (ready : IsReady u) (p : Place) (place : Contains (places u) p) (n : Node) (inside : Contains (out-Graph p.graph).nodes n) where
  abbrev l : ℕ
  l = label_of n

  abbrev pub OutputsFor : List Carried → Type 0
  OutputsFor = OutputsBelong u ready p place n inside (outputs u p.graph n)

  module _ (ks : List Carried) where
    -- ---- all ports

    module _ (a : AllGive u ready p place (sources u p.graph l 1 (width p.graph l)) ks) where
      long : length ks ≡ width p.graph l
      long = a.count ∙ sources-count u ready p place l 1 (width p.graph l)

      fixed-at : (i : ℕ) (c : Carried) → i < width p.graph l → source_at u p.graph l (suc i) ≡ Fixed c → get_or ks i Unfilled ≡ c
      fixed-at i c lt e =
          let next : 1 + i ≡ suc i = omega arith in
          a.fixed i c (source-found u ready p place l 1 (width p.graph l) i lt ∙ (ap (λ q. Some (source_at u p.graph l q)) next ∙ ap Some e))

      unfilled-at : (i : ℕ) → edge_into p.graph l (suc i) ≡ None → get_or ks i Unfilled ≡ Unfilled
      unfilled-at i e =
          elim (by-order i (width p.graph l)) [
            | inl lt ↦ fixed-at i Unfilled lt (ap (source_by u (want_at p.graph l (suc i))) e)
            | inr le ↦ beyond-end ks i (let w = long in omega (arith, le, w))
          ]

      operands-of : ((i : ℕ) → want_at p.graph l (suc i) ≡ Some want.Reduction → (e : Edge) → edge_into p.graph l (suc i) ≡ Some e → (text : List ℕ) × (get_or ks i Unfilled ≡ Name text) × (literal_at p.graph l (suc i) ≡ Some text)) → OperandsOf u p.graph l ks
      operands-of named =
          record {
            long = long;
            fills = a.fills (λ i. typed_at u p.graph l (suc i)) (λ i s e. ports-give u ready p place l i s e);
            named = named;
            unfilled = unfilled-at;
          }

    -- ---- compound nodes

    module _ (c : Compound) (is : compound_at (out-Node n).op ≡ Some c) where
      no-names : (i : ℕ) → want_at p.graph l (suc i) ≡ Some want.Reduction → (e : Edge) → edge_into p.graph l (suc i) ≡ Some e → (text : List ℕ) × (get_or ks i Unfilled ≡ Name text) × (literal_at p.graph l (suc i) ≡ Some text)
      no-names i w e f = absurd (nothing-some (sym (no-want u ready p place n inside c is (suc i)) ∙ w))
        where
          nothing-some : None ≡ Some want.Reduction → ⊥
          nothing-some h = cc

      outputs-same : Some (compound_outputs c (out-Node n).subs) ≡ outputs u p.graph n
      outputs-same = sym (outputs-are u ready p place n inside c is)

    compound-plan : (c : Compound) → compound_at (out-Node n).op ≡ Some c → AllGive u ready p place (ins_of u p.graph l (Whole (form_of c (out-Node n).subs (out-Node n).assoc))) ks → Going u (form_of c (out-Node n).subs (out-Node n).assoc) ks (OutputsBelong u ready p place n inside (Some (compound_outputs c (out-Node n).subs)))
    compound-plan compound.Select is a = let g = operands-of a (no-names compound.Select is) in record { plan = select-plan u ready p place n inside ks g is; begins = select-begins u ready p place n inside ks g is }
    compound-plan compound.TagCase is a = let g = operands-of a (no-names compound.TagCase is) in record { plan = arms-plan u ready p place n inside ks g is; begins = arms-begin u ready p place n inside ks g is }
    compound-plan compound.LoopA is a = let g = operands-of a (no-names compound.LoopA is) in record { plan = plan-a u ready p place n inside ks g is; begins = begins-a u ready p place n inside ks g is }
    compound-plan compound.LoopB is a = let g = operands-of a (no-names compound.LoopB is) in record { plan = plan-b u ready p place n inside ks g is; begins = begins-b u ready p place n inside ks g is }
    compound-plan compound.ForAll is a = let g = operands-of a (no-names compound.ForAll is) in record { plan = all-plan u ready p place n inside ks g is; begins = all-begins u ready p place n inside ks g is }

    -- ---- calls

    args-give : (os : List Source) → AllGive u ready p place (drop 1 os) ks → (at : ℕ → Option Sort) → ((i : ℕ) (s : Sort) → at i ≡ Some s → SourceAt u ready p place os (suc i) s) → Fills at ks
    args-give [] a at h = a.fills at (λ i s e. h i s e)
    args-give (o ∷ os) a at h = a.fills at (λ i s e. h i s e)

    call-goes : simple_at (out-Node n).op ≡ Some simple.Call → compound_at (out-Node n).op ≡ None → AllGive u ready p place (ins_of u p.graph l (Whole (form.Call (callee_number u p.graph l)))) ks → Going u (form.Call (callee_number u p.graph l)) ks OutputsFor
    call-goes is none a =
        let f = args-give (sources u p.graph l 1 (width p.graph l)) a (λ i. typed_at u p.graph l (suc (suc i))) (λ i s e. ports-give u ready p place l (suc i) s e) in
        record { plan = call-plan u ready p place n inside is none ks f; begins = call-begins u ready p place n inside is none ks f }

    -- ---- simple nodes

    module _ (o : Simple) (is : simple_at (out-Node n).op ≡ Some o) (none : compound_at (out-Node n).op ≡ None) (a : AllGive u ready p place (sources u p.graph l 1 (width p.graph l)) ks) where
      name-filled : (i : ℕ) → want_at p.graph l (suc i) ≡ Some want.Reduction → i ≡ 0
      name-filled i w = reduction-first o i (sym (want-is u ready p place n inside (suc i) o is) ∙ w)

      named-at : (i : ℕ) → want_at p.graph l (suc i) ≡ Some want.Reduction → (e : Edge) → edge_into p.graph l (suc i) ≡ Some e → (text : List ℕ) × (get_or ks i Unfilled ≡ Name text) × (literal_at p.graph l (suc i) ≡ Some text)
      named-at i w e f = go (literal_at p.graph l (suc i)) refl (subst (λ x. IsNamed x (literal_at p.graph l (suc i))) w (subst (λ j. IsNamed (want_at p.graph l (suc j)) (literal_at p.graph l (suc j))) (sym (name-filled i w)) (filled u ready p place n inside o is none).name))
        where
          by-origin : (from : Origin) (text : List ℕ) → text_of from ≡ Some text → source_from u (Some want.Reduction) e.ty from ≡ Fixed (Name text)
          by-origin (origin.Port node port) text h = absurd cc
          by-origin (origin.Lit t) text h = ap (λ z. Fixed (Name z)) (text-same t text h)
            where
              text-same : (s t : List ℕ) → Some s ≡ Some t → s ≡ t
              text-same s t h = cc

          go : (x : Option (List ℕ)) → literal_at p.graph l (suc i) ≡ x → IsNamed (Some want.Reduction) x → (text : List ℕ) × (get_or ks i Unfilled ≡ Name text) × (literal_at p.graph l (suc i) ≡ Some text)
          go None g h = absurd cc
          go (Some text) g h =
              let lit : text_of e.from ≡ Some text = sym (ap (λ o. o >>= λ e. text_of e.from) f) ∙ g in
              (text, named-port text lit, g)
            where
              named-port : (text : List ℕ) → text_of e.from ≡ Some text → get_or ks i Unfilled ≡ Name text
              named-port text lit =
                  elim (by-order i (width p.graph l)) [
                    | inl lt ↦ fixed-at a i (Name text) lt (ap (λ w. source_by u w (edge_into p.graph l (suc i))) w ∙ (ap (source_by u (Some want.Reduction)) f ∙ by-origin e.from text lit))
                    | inr le ↦ absurd (over le)
                  ]
                where
                  over : width p.graph l ≤ i → ⊥
                  over le = let x = edge-below u p.graph l i e f in omega (arith, le, x)

      pub operands : OperandsOf u p.graph l ks
      operands = operands-of a named-at

      typed-out : (i : ℕ) (s : Sort) → Leaving u ready p place l (suc i) s → (o ≢ simple.Call) → Belongs s (get_or (op o (shape_of u p.graph l o) ks) i Unfilled)
      typed-out i s x ne = by-kind o refl
        where
          by-kind : (q : Simple) → o ≡ q → Belongs s (get_or (op o (shape_of u p.graph l o) ks) i Unfilled)
          by-kind simple.Call e = absurd (ne e)
          by-kind simple.RBuild e = subst (λ z. Belongs s (get_or (op z (shape_of u p.graph l z) ks) i Unfilled)) (sym e) (built-outputs u ready p place n inside (is ∙ ap Some e) none ks operands i s x)
          by-kind simple.RReplace e = subst (λ z. Belongs s (get_or (op z (shape_of u p.graph l z) ks) i Unfilled)) (sym e) (changed-outputs u ready p place n inside (is ∙ ap Some e) none ks operands i s x)
          by-kind q e = whole-outputs u ready p place n inside o is none (subst IsWhollyFilled (sym e) tt) ks operands i s x

      record-known : o ≡ simple.RElements → (ms : List Member) × (fields_of (carried u p.graph l 1) ≡ Some ms)
      record-known e =
          let is-elements = is ∙ ap Some e in
          let w = wholly u ready p place n inside simple.RElements is-elements none ks operands tt in
          let f = first-edge p.graph l w.count w.first 0 (let enough = w.enough in omega (arith, enough)) in
          let x = operand-at u ready p place n inside simple.RElements is-elements none ks operands 0 want.Record refl tt f.0 f.1 in
          (x.fits.0, ap fields_of x.known ∙ (ap (λ z. fields_of (Some z)) x.fits.1 ∙ rw (out_rec x.fits.0) refl))

      given-count : (q : Simple) → o ≡ q → (q ≢ simple.Call) → given_outputs u p.graph l (row_of q).gives ≡ Some (outputs_by (row_of q).gives (shape_of u p.graph l q))
      given-count (simple.Two two.Plus) e ne = refl
      given-count (simple.Two two.Minus) e ne = refl
      given-count (simple.Two two.Times) e ne = refl
      given-count (simple.Two two.Div) e ne = refl
      given-count (simple.Two two.Mod) e ne = refl
      given-count (simple.Two two.Max) e ne = refl
      given-count (simple.Two two.Min) e ne = refl
      given-count (simple.Two two.Equal) e ne = refl
      given-count (simple.Two two.NotEqual) e ne = refl
      given-count (simple.Two two.Less) e ne = refl
      given-count (simple.Two two.LessEqual) e ne = refl
      given-count (simple.One one.Neg) e ne = refl
      given-count (simple.One one.Abs) e ne = refl
      given-count (simple.One one.Not) e ne = refl
      given-count (simple.One one.Int) e ne = refl
      given-count (simple.One one.Bool) e ne = refl
      given-count (simple.One one.Char) e ne = refl
      given-count (simple.One one.IsError) e ne = refl
      given-count simple.Call e ne = absurd (ne refl)
      given-count simple.RElements e ne = go (fields_of (carried u p.graph l 1)) (record-known e)
        where
          go : (f : Option (List Member)) → (ms : List Member) × (f ≡ Some ms) → option_map length f ≡ Some (outputs_by (row_of simple.RElements).gives (fields_shape f))
          go None x = absurd (let e = x.1 in cc)
          go (Some ms) x = refl
      given-count _ e ne = refl

      pub simple-out : o ≢ simple.Call → OutputsFor (op o (shape_of u p.graph l o) ks)
      simple-out ne =
          record {
            long =
                ap (λ c. outputs_as u p.graph n c (simple_at (out-Node n).op)) none
                ∙ (ap (outputs_as u p.graph n None) is ∙ (given-count o refl ne ∙ ap Some (sym (outputs-counted o (shape_of u p.graph l o) ks))));
            typed = λ i s x. typed-out i s x ne;
          }

    -- ---- any node

    pub simple-kind-is : (o : Simple) → o ≢ simple.Call → simple_at (out-Node n).op ≡ Some o → compound_at (out-Node n).op ≡ None → kind_of u p.graph n ≡ Simply o (shape_of u p.graph l o)
    simple-kind-is o ne is none = ap (λ c. kind_as u p.graph n c (simple_at (out-Node n).op)) none ∙ (ap (kind_as u p.graph n None) is ∙ go o ne)
      where
        go : (o : Simple) → o ≢ simple.Call → kind_as u p.graph n None (Some o) ≡ Simply o (shape_of u p.graph l o)
        go simple.Call ne = absurd (ne refl)
        go o ne = refl

    by-simple : (o : Simple) → simple_at (out-Node n).op ≡ Some o → compound_at (out-Node n).op ≡ None → (k : Kind) → kind_as u p.graph n None (Some o) ≡ k → AllGive u ready p place (ins_of u p.graph l k) ks → KindGoes u k ks OutputsFor
    by-simple simple.Call is none k e a = subst (λ k. AllGive u ready p place (ins_of u p.graph l k) ks → KindGoes u k ks OutputsFor) e (λ a. call-goes is none a) a
    by-simple o is none k e a = plainly o is none refl k e a
      where
        plainly : (o : Simple) → simple_at (out-Node n).op ≡ Some o → compound_at (out-Node n).op ≡ None → kind_as u p.graph n None (Some o) ≡ Simply o (shape_of u p.graph l o) → (k : Kind) → kind_as u p.graph n None (Some o) ≡ k → AllGive u ready p place (ins_of u p.graph l k) ks → KindGoes u k ks OutputsFor
        plainly o is none f k e a =
            subst (λ k. AllGive u ready p place (ins_of u p.graph l k) ks → KindGoes u k ks OutputsFor) (sym f ∙ e) (λ a. record { holds = simple-out o is none a (no-call o f) }) a
          where
            no-call : (o : Simple) → kind_as u p.graph n None (Some o) ≡ Simply o (shape_of u p.graph l o) → o ≢ simple.Call
            no-call o f e = not-whole (subst (λ z. kind_as u p.graph n None (Some z) ≡ Simply z (shape_of u p.graph l z)) e f)
              where
                not-whole : Whole (form.Call (callee_number u p.graph l)) ≡ Simply simple.Call (shape_of u p.graph l simple.Call) → ⊥
                not-whole h = cc

    pub node-goes : (k : Kind) → kind_of u p.graph n ≡ k → AllGive u ready p place (ins_of u p.graph l k) ks → KindGoes u k ks OutputsFor
    node-goes k e a = go (compound_at (out-Node n).op) refl (simple_at (out-Node n).op) refl e
      where
        go : (c : Option Compound) → compound_at (out-Node n).op ≡ c → (o : Option Simple) → simple_at (out-Node n).op ≡ o → kind_as u p.graph n c o ≡ k → KindGoes u k ks OutputsFor
        go (Some c) is o f e =
            subst (λ k. AllGive u ready p place (ins_of u p.graph l k) ks → KindGoes u k ks OutputsFor) e
            (λ a. subst (λ z. Going u (form_of c (out-Node n).subs (out-Node n).assoc) ks (OutputsBelong u ready p place n inside z)) (outputs-same c is) (compound-plan c is a)) a
        go None none (Some o) is e = by-simple o is none k e a
        go None none None f e = absurd (subst (λ x. IsFilledAs u p.graph n None x) f (subst (λ c. IsFilledAs u p.graph n c (simple_at (out-Node n).op)) none (node-filled u ready p place n inside)))
