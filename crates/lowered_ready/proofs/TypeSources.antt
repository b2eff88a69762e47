-- What the ports of a graph give from which its wires come.
use Rattle.std.proofs.Common.{◌≡◌, ℕ, zero, suc, ◌<◌, Bool, true, false, List, [], ◌∷◌, map, slice_get, Option, Some, None, refl, sym, ap, subst, ◌∙◌, nat_eq}
use Rattle.std.specs.Prelude.{MatchOption, if◌then◌else◌}
use Rattle.std.proofs.lemmas.Bool.{eqb-true}
use Rattle.if1_graph.specs.declared.graph.Graph.{Graph}
use Rattle.if1_graph.specs.declared.graph.Graph.TheViews.{out-Graph}
use Rattle.if1_graph.specs.declared.graph.Node.{Node, out-Node}
use Rattle.if1_graph.specs.declared.graph.Unit1.{Unit1}
use Rattle.if1_graph.specs.declared.op.Compound.{Compound}
use Rattle.if1_graph.specs.declared.op.Part.{Part}
use Rattle.if1_graph.specs.declared.op.Simple.{Simple}
use Rattle.if1_graph.specs.declared.op.Simple.TheVariants as simple
use Rattle.if1_graph.specs.Ops.{simple_at, compound_at}
use Rattle.if1_graph.specs.Rows.{output_of}
use Rattle.if1_graph.specs.Types.{Sort}
use Rattle.if1_graph.specs.Typing.{Known, known, Fits, giving_part, FitsOutputAs, FitsOutput}
use Rattle.if1_graph.specs.Units.{node_at}
use Rattle.type_table.specs.declared.form.Form.{Form}
use Rattle.typed_tree.specs.declared.program.Program.{Program}
use Rattle.lowering.specs.declared.feed.Carried.{Carried}
use Rattle.lowering.specs.declared.feed.Wire.{Wire}
use Rattle.lowering.specs.declared.graph.Action.{Action}
use Rattle.lowering.specs.declared.graph.Action.TheVariants.{Row, Call, Whole}
use Rattle.lowering.specs.declared.graph.LoweredNode.{LoweredNode}
use Rattle.lowering.specs.declared.graph.LoweredGraph.{LoweredGraph}
use Rattle.lowering.specs.Programs.{graph_at}
use Rattle.lowered_units.specs.Fitting.{IsFitting}
use Rattle.lowered_units.specs.Units.{simple_code, compound_code, listed_node, IsTranslated}
use Rattle.lowered_units.proofs.Built.{Fills, fills_row, fills_reduction, fills_call}
use Rattle.lowered_units.proofs.Codes.{simple-is, no-compound, compound-is}
use Rattle.lowered_units.proofs.Nets.{op-of, parts-of}
use Rattle.lowered_units.proofs.Programs.{functions, right-of}
use Rattle.lowered_units.proofs.Rights.{AreRight as AreRightNodes, IsRightNode}
use Rattle.lowered_ready.specs.Sorts.{sort_of}
use Rattle.lowered_ready.specs.SortLaws.{IsReadBack}
use Rattle.lowered_ready.specs.Ports.{Outs, type_from, type_at, IsGiven, AreGiven, IsKnown, IsNamedRight, IsSimple}
use Rattle.lowered_ready.specs.Parts.{IsCompound, AreOutputs}
use Rattle.lowered_ready.specs.Parts as rules
use Rattle.lowered_ready.specs.Rules.{AreFrom, IsNode, AreNodes}
use Rattle.lowered_ready.specs.Shapes.{IsGraphOf, ArePartsLowered}
use Rattle.lowered_ready.proofs.Ends.{IsAtNode, own-node}
use Rattle.lowered_ready.proofs.Known.{node-known, IsCalledIn}
use Rattle.lowered_ready.proofs.Parts.{pairs, result-same}

-- ---- the output at a port

given-at : (sort : Carried → Sort) (k : Known) (op : Simple) (port : ℕ) (cs : List Carried) → AreGiven sort k op port cs → (q : ℕ) (c : Carried) → type_from port cs q ≡ Some c → IsGiven sort k op q c
given-at sort k op port [] h q c e = absurd cc
given-at sort k op port (x ∷ cs) h q c e = by (nat_eq port q) refl e (λ f. given-at sort k op (suc port) cs h.1 q c f)
  where
    by : (b : Bool) → nat_eq port q ≡ b → (if b then Some x else type_from (suc port) cs q) ≡ Some c → (type_from (suc port) cs q ≡ Some c → IsGiven sort k op q c) → IsGiven sort k op q c
    by true s e later = subst (λ y. IsGiven sort k op q y) (same e) (subst (λ y. IsGiven sort k op y x) (eqb-true port q s) h.0)
      where
        same : Some x ≡ Some c → x ≡ c
        same e = cc
    by false s e later = later e

outputs-at : (sort : Carried → Sort) (c : Compound) (gs : List LoweredGraph) (port : ℕ) (cs : List Carried) → AreOutputs sort c gs port cs → (q : ℕ) (x : Carried) → type_from port cs q ≡ Some x
    → rules.result_of sort gs (giving_part c) q ≡ Some (sort x)
outputs-at sort c gs port [] h q x e = absurd cc
outputs-at sort c gs port (y ∷ cs) h q x e = by (nat_eq port q) refl e (λ f. outputs-at sort c gs (suc port) cs h.1 q x f)
  where
    by : (b : Bool) → nat_eq port q ≡ b → (if b then Some y else type_from (suc port) cs q) ≡ Some x → (type_from (suc port) cs q ≡ Some x → rules.result_of sort gs (giving_part c) q ≡ Some (sort x))
        → rules.result_of sort gs (giving_part c) q ≡ Some (sort x)
    by true s e later = subst (λ i. rules.result_of sort gs (giving_part c) i ≡ Some (sort x)) (eqb-true port q s) (h.0.1 ∙ ap (λ z. Some (sort z)) (same e))
      where
        same : Some y ≡ Some x → y ≡ x
        same e = cc
    by false s e later = later e

-- ---- nodes with what they give

module _ (sort : Carried → Sort) (at : ℕ → Option LoweredGraph) (part : Option (Compound × Part)) (In : ℕ → Sort → Type 0) (outs : List Outs) where
  pub record IsRuled (v : LoweredNode) (o : Outs) : Type 0 where
    pub node : IsNode sort at part v.action v.ins o
    pub from : AreFrom sort at In outs v.ins

  pub ruled-node : (vs : List LoweredNode) (os : List Outs) → AreNodes sort at part In outs vs os → (i : ℕ) (v : LoweredNode) → slice_get vs i ≡ Some v → (o : Outs) × (slice_get os i ≡ Some o) × IsRuled v o
  ruled-node [] os h i v e = absurd cc
  ruled-node (x ∷ vs) [] h i v e = absurd h
  ruled-node (x ∷ vs) (o ∷ os) h zero v e = (o, refl, subst (λ y. IsRuled y o) (same e) (record { node = h.0.0; from = h.0.1 }))
    where
      same : Some x ≡ Some v → x ≡ v
      same e = cc
  ruled-node (x ∷ vs) (o ∷ os) h (suc i) v e = ruled-node vs os h.1 i v e

  pub giving-node : (vs : List LoweredNode) (os : List Outs) → AreNodes sort at part In outs vs os → (i : ℕ) (o : Outs) → slice_get os i ≡ Some o → (v : LoweredNode) × (slice_get vs i ≡ Some v) × IsRuled v o
  giving-node [] [] h i o e = absurd cc
  giving-node [] (y ∷ os) h i o e = absurd h
  giving-node (x ∷ vs) [] h i o e = absurd cc
  giving-node (x ∷ vs) (y ∷ os) h zero o e = (x, refl, subst (λ z. IsRuled x z) (same e) (record { node = h.0.0; from = h.0.1 }))
    where
      same : Some y ≡ Some o → y ≡ o
      same e = cc
  giving-node (x ∷ vs) (y ∷ os) h (suc i) o e = giving-node vs os h.1 i o e

-- ---- nodes of a unit

right-at : (forms : List Form) (count : ℕ) (at : ℕ → Option LoweredGraph) (vs : List LoweredNode) → AreRightNodes forms count at vs → (i : ℕ) (v : LoweredNode) → slice_get vs i ≡ Some v → IsRightNode forms count at v.action v.ins
right-at forms count at [] h i v e = absurd cc
right-at forms count at (x ∷ vs) h zero v e = subst (λ (y : LoweredNode). IsRightNode forms count at y.action y.ins) (same e) h.0
  where
    same : Some x ≡ Some v → x ≡ v
    same e = cc
right-at forms count at (x ∷ vs) h (suc i) v e = right-at forms count at vs h.1 i v e

called-in : (forms : List Form) (count : ℕ) (at : ℕ → Option LoweredGraph) (a : Action) (ws : List Wire) → IsRightNode forms count at a ws → IsCalledIn count a
called-in forms count at (Row op) ws h = tt
called-in forms count at (Whole c gs arms given outs) ws h = tt
called-in forms count at (Call f) ws h = by (Call f) ws h refl
  where
    by : (a : Action) (ws : List Wire) → Fills forms count a ws → a ≡ Call f → f < count
    by _ _ (fills_row op ws h k) e = absurd cc
    by _ _ (fills_reduction g name ws h k) e = absurd cc
    by _ _ (fills_call x ws h k) e = subst (λ y. y < count) (same e) h
      where
        same : Call x ≡ Call f → x ≡ f
        same e = cc

module _ (p : Program) (u : Unit1) (fit : IsFitting p) (t : IsTranslated p u) (back : IsReadBack p u) where
  abbrev sort : Carried → Sort
  sort c = sort_of p c

  module _ (g : Graph) (d : LoweredGraph) (a : IsGraphOf p g d) (part : Option (Compound × Part)) (In : ℕ → Sort → Type 0) where
    pub right-node : (i : ℕ) (n : Node) (v : LoweredNode) → IsAtNode p g d a i n v → IsRightNode p.types (functions p fit) (graph_at p) v.action v.ins
    right-node i n v h = right-at p.types (functions p fit) (graph_at p) d.nodes (right-of p fit (out-Graph g).number d a.there).0 i v h.lowered

    pub op-is : (i : ℕ) (n : Node) (v : LoweredNode) → IsAtNode p g d a i n v → (b : Action) → v.action ≡ b → (out-Node n).op ≡ (listed_node (suc i) b).op
    op-is i n v h b e = op-of n (listed_node (suc i) v.action) h.stands.listed ∙ ap (λ (x : Action). (listed_node (suc i) x).op) e

    -- what is known of the node
    pub simple-known : (i : ℕ) (n : Node) (v : LoweredNode) → IsAtNode p g d a i n v → (b : Action) → v.action ≡ b → IsNamedRight sort b v.ins → IsKnown sort b v.ins (known u g (suc i))
    simple-known i n v h b e r =
        subst (λ x. IsKnown sort x v.ins (known u g (suc i))) e
        (node-known p u back g d a fit t i n v h (subst (λ x. IsNamedRight sort x v.ins) (sym e) r) (called-in p.types (functions p fit) (graph_at p) v.action v.ins (right-node i n v h)))

    -- ---- outputs

    abbrev OutputAs : Node → ℕ → ℕ → Sort → Type 0
    OutputAs n op q s = FitsOutputAs u g n (compound_at op) (simple_at op) q s

    simple-output : (i : ℕ) (n : Node) (v : LoweredNode) → IsAtNode p g d a i n v → (b : Action) (op : Simple) → v.action ≡ b → (listed_node (suc i) b).op ≡ simple_code op → (o : Outs) → IsSimple sort part b op v.ins o
        → (q : ℕ) (c : Carried) → type_at o q ≡ Some c → OutputAs n (out-Node n).op q (sort c)
    simple-output i n v h b op e code o s q c f =
        let k = simple-known i n v h b e s.name in
        let given = given-at sort (known u g (suc i)) op o.port o.types (s.gives (known u g (suc i)) k) q c f in
        subst (λ x. OutputAs n x q (sort c)) (sym (op-is i n v h b e ∙ code))
        (subst (λ x. FitsOutputAs u g n x (simple_at (simple_code op)) q (sort c)) (sym (no-compound op))
        (subst (λ x. FitsOutputAs u g n None x q (sort c)) (sym (simple-is op))
        (subst (λ l. MatchOption (output_of op q) ⊥ (λ want. Fits (known u g l) want (sort c))) (sym h.label) given.1)))

    whole-output : (i : ℕ) (n : Node) (v : LoweredNode) → IsAtNode p g d a i n v → ArePartsLowered p n → (x : Compound) (numbers arms : List ℕ) (given outs : ℕ) → v.action ≡ Whole x numbers arms given outs
        → (o : Outs) (gs : List LoweredGraph) → map (graph_at p) numbers ≡ map Some gs → IsCompound sort x v.ins arms gs o → (q : ℕ) (c : Carried) → type_at o q ≡ Some c → OutputAs n (out-Node n).op q (sort c)
    whole-output i n v h inside x numbers arms given outs e o gs s r q c f =
        let are = parts-of n (listed_node (suc i) v.action) h.stands.listed ∙ ap (λ (y : Action). (listed_node (suc i) y).parts) e in
        let paired = pairs p n numbers gs inside are s in
        subst (λ z. OutputAs n z q (sort c)) (sym (op-is i n v h (Whole x numbers arms given outs) e))
        (subst (λ z. FitsOutputAs u g n z (simple_at (compound_code x)) q (sort c)) (sym (compound-is x))
        (result-same p u fit back (out-Node n).subs gs paired (giving_part x) q ∙ outputs-at sort x gs o.port o.types r.outputs q c f))

    pub node-output : (i : ℕ) (n : Node) (v : LoweredNode) → IsAtNode p g d a i n v → ArePartsLowered p n → (b : Action) → v.action ≡ b → (o : Outs) → IsNode sort (graph_at p) part b v.ins o
        → (q : ℕ) (c : Carried) → type_at o q ≡ Some c → OutputAs n (out-Node n).op q (sort c)
    node-output i n v h inside (Row op) e o s q c f = simple-output i n v h (Row op) op e refl o s q c f
    node-output i n v h inside (Call x) e o s q c f = simple-output i n v h (Call x) simple.Call e refl o s q c f
    node-output i n v h inside (Whole x numbers arms given outs) e o s q c f = whole-output i n v h inside x numbers arms given outs e o s.0 s.1 s.2 q c f

    -- an output of a node gives what a wire from there carries
    pub output-fits : (outs : List Outs) → AreNodes sort (graph_at p) part In outs d.nodes outs → ((i : ℕ) (n : Node) → slice_get (out-Graph g).nodes i ≡ Some n → ArePartsLowered p n)
        → (i : ℕ) (o : Outs) → slice_get outs i ≡ Some o → (q : ℕ) (c : Carried) → type_at o q ≡ Some c → FitsOutput u g (node_at (out-Graph g).nodes (suc i)) q (sort c)
    output-fits outs nodes inside i o e q c f =
        let v = giving-node sort (graph_at p) part In outs d.nodes outs nodes i o e in
        let n = own-node p g d a i v.0 v.1 in
        subst (λ x. FitsOutput u g x q (sort c)) (sym n.1.stands.found) (node-output i n.0 v.0 n.1 (inside i n.0 n.1.own) v.0.action refl o v.2.node q c f)
