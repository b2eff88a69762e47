-- The ports of each node of a unit are filled, and are there, by the rules on its lowered node.
use Rattle.std.proofs.Common.{◌≡◌, ℕ, zero, suc, ◌≤◌, Bool, true, false, cond, ◌&&◌, List, [], ◌∷◌, map, length, slice_get, Option, Some, None, refl, sym, ap, subst, ◌∙◌, arith, ◌==◌}
use Rattle.std.specs.Prelude.{All, filter, pos}
use Rattle.std.proofs.lemmas.Bool.{eqb-true}
use Rattle.std.proofs.lemmas.List.Elements.{All-nil, All-cons, All-head, All-tail}
use Rattle.if1_graph.specs.declared.graph.Edge.{Edge}
use Rattle.if1_graph.specs.declared.graph.Graph.{Graph}
use Rattle.if1_graph.specs.declared.graph.Graph.TheViews.{out-Graph}
use Rattle.if1_graph.specs.declared.graph.Node.{Node, out-Node}
use Rattle.if1_graph.specs.declared.graph.Origin.{Origin}
use Rattle.if1_graph.specs.declared.graph.Origin.TheVariants as origin
use Rattle.if1_graph.specs.declared.graph.Unit1.{Unit1}
use Rattle.if1_graph.specs.declared.op.Compound.{Compound}
use Rattle.if1_graph.specs.declared.op.Part.{Part}
use Rattle.if1_graph.specs.declared.op.Simple.{Simple}
use Rattle.if1_graph.specs.declared.op.Simple.TheVariants as simple
use Rattle.if1_graph.specs.declared.row.Gives.{Gives}
use Rattle.if1_graph.specs.declared.row.Gives.TheVariants as gives
use Rattle.if1_graph.specs.declared.row.Rest.{Rest}
use Rattle.if1_graph.specs.declared.row.Rest.TheVariants as rest
use Rattle.if1_graph.specs.declared.row.Want.{Want}
use Rattle.if1_graph.specs.declared.row.Want.TheVariants as want
use Rattle.if1_graph.specs.Formed.{want_at}
use Rattle.if1_graph.specs.Literals.{integer}
use Rattle.if1_graph.specs.Ops.{simple_at}
use Rattle.if1_graph.specs.Parts.{HasParts}
use Rattle.if1_graph.specs.Ports.{carried, literal_at, leaves, edges_from, fields_of, tags_of, is_stream, AreFirst, AreAtLeast, IsOnePort, AreParts, IsUpTo, IsNamed, IsOne, HasBound, IsBounded, IsSimpleFilled, IsAssociation, least_width, IsCompoundFilled, IsFilledAs, IsNodeFilled, given_outputs, outputs_as, outputs, count_from}
use Rattle.if1_graph.specs.Ports as unit_ports
use Rattle.if1_graph.specs.Rows.{row_of, operand_of}
use Rattle.if1_graph.specs.Tables.{◌>>=◌}
use Rattle.if1_graph.specs.Types.{Sort, sort_at}
use Rattle.if1_graph.specs.Typing.{Known, known}
use Rattle.if1_graph.specs.Units.{ports_into}
use Rattle.typed_tree.specs.declared.program.Program.{Program}
use Rattle.lowering.specs.declared.feed.Carried.{Carried}
use Rattle.lowering.specs.declared.feed.Wire.{Wire}
use Rattle.lowering.specs.declared.graph.Action.{Action}
use Rattle.lowering.specs.declared.graph.Action.TheVariants.{Row, Call, Whole}
use Rattle.lowering.specs.declared.graph.LoweredNode.{LoweredNode}
use Rattle.lowering.specs.declared.graph.LoweredGraph.{LoweredGraph}
use Rattle.lowering.specs.Programs.{graph_at}
use Rattle.lowered_units.specs.Fitting.{IsFitting}
use Rattle.lowered_units.specs.Units.{listed_node, IsTranslated}
use Rattle.lowered_units.proofs.Built.{Fills, fills_row, fills_reduction, fills_call}
use Rattle.lowered_units.proofs.Codes.{wanted, plain-want}
use Rattle.lowered_units.proofs.Literals.{IsValueWant, integer_read}
use Rattle.lowered_units.proofs.Named.{row_of as listed_row}
use Rattle.lowered_units.proofs.Nets.{op-of, row-wants}
use Rattle.lowered_units.proofs.Programs.{functions}
use Rattle.lowered_units.proofs.Rights.{IsRightNode}
use Rattle.lowered_ready.specs.Ports.{Outs, type_from, type_at, filled, sort_if, sort_in, sort_into, IsKnown, outputs_by, IsGiven, AreGiven, IsSimple}
use Rattle.lowered_ready.specs.Ports as rules
use Rattle.lowered_ready.specs.Parts.{AreInputs, AreOutputs, IsCompound, compound_outputs}
use Rattle.lowered_ready.specs.Rules.{IsNode, AreNodes, AreFrom}
use Rattle.lowered_ready.specs.Shapes.{IsGraphOf, ArePartsLowered}
use Rattle.lowered_ready.proofs.Ends.{IsAtNode}
use Rattle.lowered_ready.proofs.Reading.{text_in, AreShown, shown-ports, IsGraphSorted, first_text, node-filled, node-text}
use Rattle.lowered_ready.proofs.Nodes.{IsSimpleNode, row-node, call-node, whole-node, are-of, length-of, AllShown, outputs-same}
use Rattle.lowered_ready.proofs.Knowing.{AreHeadersSorted, node-known}
use Rattle.lowered_ready.proofs.Lists.{first-count, one-some, type-holds}
use Rattle.lowered_ready.proofs.PortSources.{Gives as Sourced, IsSourced, all-sourced}

and-true : (a b : Bool) → (a && b) ≡ true → (a ≡ true) × (b ≡ true)
and-true true b e = (refl, e)
and-true false b e = absurd cc

value-named : (w : Option Want) (text : Option (List ℕ)) → IsValueWant w → IsNamed w text
value-named None text h = tt
value-named (Some want.Function) text h = absurd h
value-named (Some want.Reduction) text h = absurd h
value-named (Some w) text h = tt

inputs-shown : (sort : Carried → Sort) (c : Compound) (port : ℕ) (ws : List Wire) → AreInputs sort c port ws → AreShown ws
inputs-shown sort c port [] h = tt
inputs-shown sort c port (w ∷ ws) h = (h.0.0, inputs-shown sort c (suc port) ws h.1)

-- ---- nodes beside their outputs

module _ (sort : Carried → Sort) (at : ℕ → Option LoweredGraph) (part : Option (Compound × Part)) (In : ℕ → Sort → Type 0) (outs : List Outs) where
  pub outs-node : (vs : List LoweredNode) (os : List Outs) → AreNodes sort at part In outs vs os → (i : ℕ) (v : LoweredNode) → slice_get vs i ≡ Some v
      → (o : Outs) × (slice_get os i ≡ Some o) × IsNode sort at part v.action v.ins o
  outs-node [] os h i v e = absurd cc
  outs-node (x ∷ vs) [] h i v e = absurd h
  outs-node (x ∷ vs) (o ∷ os) h zero v e = (o, refl, subst (λ (y : LoweredNode). IsNode sort at part y.action y.ins o) (one-some x v e) h.0.0)
  outs-node (x ∷ vs) (o ∷ os) h (suc i) v e = outs-node vs os h.1 i v e

  pub node-outs : (vs : List LoweredNode) (os : List Outs) → AreNodes sort at part In outs vs os → (i : ℕ) (o : Outs) → slice_get os i ≡ Some o
      → (v : LoweredNode) × (slice_get vs i ≡ Some v) × IsNode sort at part v.action v.ins o
  node-outs vs [] h i o e = absurd cc
  node-outs [] (x ∷ os) h i o e = absurd h
  node-outs (v ∷ vs) (x ∷ os) h zero o e = (v, refl, subst (IsNode sort at part v.action v.ins) (one-some x o e) h.0.0)
  node-outs (v ∷ vs) (x ∷ os) h (suc i) o e = node-outs vs os h.1 i o e

-- ---- outputs

given-at : (sort : Carried → Sort) (k : Known) (op : Simple) (o : Outs) → AreGiven sort k op o.port o.types → (q : ℕ) (c : Carried) → type_at o q ≡ Some c → IsGiven sort k op q c
given-at sort k op o h q c e = type-holds (IsGiven sort k op) (AreGiven sort k op) (λ port t ts a. a) o.port o.types h q c e

pub output-at : (sort : Carried → Sort) (c : Compound) (gs : List LoweredGraph) (o : Outs) → AreOutputs sort c gs o.port o.types → (q : ℕ) (t : Carried) → type_at o q ≡ Some t → q ≤ compound_outputs c gs
output-at sort c gs o h q t e = type-holds (λ q t. q ≤ compound_outputs c gs) (AreOutputs sort c gs) (λ port t ts a. (a.0.0, a.1)) o.port o.types h q t e

type-among : (P : Carried → Type 0) (o : Outs) → All P o.types → (q : ℕ) (c : Carried) → type_at o q ≡ Some c → P c
type-among P o h q c e = type-holds (λ q c. P c) (λ port ts. All P ts) (λ port t ts a. (All-head P t ts a, All-tail P t ts a)) o.port o.types h q c e

given-same : (sort : Carried → Sort) (u : Unit1) (g : Graph) (l : ℕ) (x : Gives) → given_outputs u g l x ≡ outputs_by sort (known u g l) x
given-same sort u g l (gives.One a) = refl
given-same sort u g l (gives.Pair a b) = refl
given-same sort u g l gives.Results = refl
given-same sort u g l gives.AllFields = refl

-- ---- a graph of the unit

module _ (p : Program) (u : Unit1) (fit : IsFitting p) (t : IsTranslated p u) (sort : Carried → Sort) (headers : AreHeadersSorted p u sort) where
  abbrev Right : Action → List Wire → Type 0
  Right a ws = IsRightNode p.types (functions p fit) (graph_at p) a ws

  module _ (g : Graph) (d : LoweredGraph) (is : IsGraphOf p g d) (sorts : IsGraphSorted p u sort d)
      (part : Option (Compound × Part)) (In : ℕ → Sort → Type 0) (outs : List Outs) (nodes : AreNodes sort (graph_at p) part In outs d.nodes outs) (results : AreFrom sort (graph_at p) In outs d.results) where
    abbrev Source : Edge → Type 0
    Source e = IsSourced p u sort (graph_at p) In outs e

    pub edges-sourced : All Source (out-Graph g).edges
    edges-sourced = subst (All Source) (sym is.edges) (all-sourced p u sort (graph_at p) In outs part 1 d.nodes outs d.results nodes results sorts.0 sorts.1)

    -- ---- the edges that leave an output

    leaves-output : (i port : ℕ) (o : Outs) → slice_get outs i ≡ Some o → (x : Origin) (c : Carried) → leaves (suc i) port x ≡ true → Sourced p u sort (graph_at p) In outs x c → type_at o port ≡ Some c
    leaves-output i port o e (origin.Lit text) c k h = absurd cc
    leaves-output i port o e (origin.Port zero q) c k h = let z = eqb-true 0 (suc i) (and-true (0 == suc i) (q == port) k).0 in absurd (omega (arith, z))
    leaves-output i port o e (origin.Port (suc m) q) c k h =
        let both = and-true (suc m == suc i) (q == port) k in
        let at : suc m ≡ suc i = eqb-true (suc m) (suc i) both.0 in
        let same : m ≡ i = omega (arith, at) in
        let out : h.0 ≡ o = one-some h.0 o (sym h.1 ∙ (ap (slice_get outs) same ∙ e)) in
        subst (λ y. type_at y port ≡ Some c) out (subst (λ r. type_at h.0 r ≡ Some c) (eqb-true q port both.1) h.2)

    pub from-output : (i port : ℕ) (o : Outs) → slice_get outs i ≡ Some o → (P : Option Sort → Type 0) → ((c : Carried) → type_at o port ≡ Some c → P (Some (sort c)))
        → All (λ e. P (sort_at u.types e.ty)) (edges_from g (suc i) port)
    from-output i port o e P f = go (out-Graph g).edges edges-sourced
      where
        go : (es : List Edge) → All Source es → All (λ (e : Edge). P (sort_at u.types e.ty)) (filter (λ (e : Edge). leaves (suc i) port e.from) es)
        go [] h = All-nil (λ (e : Edge). P (sort_at u.types e.ty))
        go (x ∷ es) h = by (leaves (suc i) port x.from) refl (go es (All-tail Source x es h))
          where
            by : (b : Bool) → leaves (suc i) port x.from ≡ b → All (λ (e : Edge). P (sort_at u.types e.ty)) (filter (λ (e : Edge). leaves (suc i) port e.from) es)
                → All (λ (e : Edge). P (sort_at u.types e.ty)) (cond b (x ∷ filter (λ (e : Edge). leaves (suc i) port e.from) es) (filter (λ (e : Edge). leaves (suc i) port e.from) es))
            by false k r = r
            by true k r =
                let s = All-head Source x es h in
                All-cons (λ (e : Edge). P (sort_at u.types e.ty)) x (filter (λ (e : Edge). leaves (suc i) port e.from) es)
                (subst P (sym (ap (sort_at u.types) s.ty ∙ s.sort_is)) (f s.carried (leaves-output i port o e x.from s.carried k s.gives))) r

    -- ---- a node

    module _ (i : ℕ) (n : Node) (v : LoweredNode) (s : IsAtNode p g d is i n v) (right : Right v.action v.ins) (o : Outs) (out : slice_get outs i ≡ Some o) where
      abbrev k : Known
      k = known u g (suc i)

      its-known : IsKnown sort v.action v.ins k
      its-known = node-known p u fit t sort headers g d is sorts i n v s right

      known-as : (a : Action) → v.action ≡ a → IsKnown sort a v.ins k
      known-as a e = subst (λ a. IsKnown sort a v.ins k) e its-known

      ports-as : (a : Action) → v.action ≡ a → ports_into g (suc i) ≡ filled a v.ins
      ports-as a e = node-filled p g d is i n v s ∙ ap (λ a. filled a v.ins) e

      text-as : (a : Action) → v.action ≡ a → literal_at g (suc i) 1 ≡ first_text p a v.ins
      text-as a e = node-text p g d is i n v s ∙ ap (λ a. first_text p a v.ins) e

      listed-as : (a : Action) → v.action ≡ a → listed_row n ≡ listed_node (suc i) a
      listed-as a e = s.stands.listed ∙ ap (listed_node (suc i)) e

      right-as : (a : Action) → v.action ≡ a → Right a v.ins
      right-as a e = subst (λ a. Right a v.ins) e right

      built-as : (ports : List ℕ) → All (λ c. AreParts (fields_of (Some (sort c))) (tags_of (Some (sort c))) ports) o.types
          → All (λ e. AreParts (fields_of (sort_at u.types e.ty)) (tags_of (sort_at u.types e.ty)) ports) (edges_from g (suc i) 1)
      built-as ports h =
          from-output i 1 o out (λ s. AreParts (fields_of s) (tags_of s) ports)
          (λ c e. type-among (λ c. AreParts (fields_of (Some (sort c))) (tags_of (Some (sort c))) ports) o h 1 c e)

      filled-as : (m : ℕ) (r : Rest) (ports : List ℕ) → rules.AreFilled sort k m r o.types ports → unit_ports.AreFilled u g (suc i) m r ports
      filled-as m rest.Nothing ports h = h
      filled-as m rest.Mask ports h = h
      filled-as m (rest.More how w) ports h = h
      filled-as m rest.Arguments ports h = h
      filled-as m rest.Fields ports h = (h.0, built-as ports h.1)
      filled-as m rest.NewFields ports h = h

      -- the lower bound of a stream
      one-as : (op : Simple) → v.action ≡ Row op → rules.IsOne sort v.ins → IsOne (carried u g (suc i) 1) (literal_at g (suc i) 1)
      one-as op e h = by v.ins h ((known-as (Row op) e).at 1) (text-as (Row op) e)
        where
          by : (ws : List Wire) → rules.IsOne sort ws → carried u g (suc i) 1 ≡ sort_in sort ws 1 → literal_at g (suc i) 1 ≡ (slice_get ws 0 >>= λ w. text_in w.feed) → IsOne (carried u g (suc i) 1) (literal_at g (suc i) 1)
          by [] h c l = absurd h
          by (w ∷ ws) h c l = (c ∙ (ap (λ f. sort_if sort f w.ty) h.0 ∙ ap Some h.1), ap (λ x. x >>= integer) (l ∙ ap text_in h.0) ∙ integer_read (pos 1) refl)

      bound-as : (op : Simple) → v.action ≡ Row op → All (λ c. is_stream (Some (sort c)) ≡ true → rules.IsOne sort v.ins) o.types → HasBound u g (suc i)
      bound-as op e h =
          from-output i 1 o out (λ s. is_stream s ≡ true → IsOne (carried u g (suc i) 1) (literal_at g (suc i) 1))
          (λ c y is_one. one-as op e (type-among (λ c. is_stream (Some (sort c)) ≡ true → rules.IsOne sort v.ins) o h 1 c y is_one))

      bounded-as : (op : Simple) → v.action ≡ Row op → rules.IsBounded sort op v.ins o.types → IsBounded u g (suc i) op
      bounded-as simple.ABuild e h = bound-as simple.ABuild e h
      bounded-as simple.AGather e h = bound-as simple.AGather e h
      bounded-as op e h = tt

      -- the name of a reduction
      row-named : (op : Simple) → v.action ≡ Row op → IsNamed (want_at g (suc i) 1) (literal_at g (suc i) 1)
      row-named op e =
          let w = row-wants p u t.types (functions p fit) g (suc i) n op s.stands.found (op-of n (listed_node (suc i) (Row op)) (listed-as (Row op) e)) 1 in
          subst (λ x. IsNamed x (literal_at g (suc i) 1)) (sym w) (subst (IsNamed (wanted (operand_of op 1))) (sym (text-as (Row op) e)) (by (Row op) v.ins (right-as (Row op) e) refl))
        where
          by : (a : Action) (ws : List Wire) → Fills p.types (functions p fit) a ws → a ≡ Row op → IsNamed (wanted (operand_of op 1)) (slice_get ws 0 >>= λ w. text_in w.feed)
          by _ _ (fills_row x ws h q) e = subst (λ y. IsNamed (wanted (operand_of y 1)) (slice_get ws 0 >>= λ w. text_in w.feed)) (same x e) (value-named (wanted (operand_of x 1)) (slice_get ws 0 >>= λ w. text_in w.feed) (plain-want x 1 h))
            where
              same : (x : Simple) → Row x ≡ Row op → x ≡ op
              same x e = cc
          by _ _ (fills_reduction r name ws h q) e = subst (λ y. IsNamed (wanted (operand_of y 1)) (Some name)) (same (simple.Reduce r) e) refl
            where
              same : (x : Simple) → Row x ≡ Row op → x ≡ op
              same x e = cc
          by _ _ (fills_call f ws h q) e = absurd cc

      call-named : (f : ℕ) → v.action ≡ Call f → IsNamed (want_at g (suc i) 1) (literal_at g (suc i) 1)
      call-named f e =
          let w = row-wants p u t.types (functions p fit) g (suc i) n simple.Call s.stands.found (op-of n (listed_node (suc i) (Call f)) (listed-as (Call f) e)) 1 in
          subst (λ x. IsNamed x (literal_at g (suc i) 1)) (sym w) (subst (IsNamed (wanted (operand_of simple.Call 1))) (sym (text-as (Call f) e)) refl)

      -- a row or a call
      simple-filled : (a : Action) (op : Simple) → v.action ≡ a → IsSimpleNode n op → IsNamed (want_at g (suc i) 1) (literal_at g (suc i) 1) → IsBounded u g (suc i) op
          → IsSimple sort part a op v.ins o → IsNodeFilled u g n
      simple-filled a op e m name bound h =
          subst (λ c. IsFilledAs u g n c (simple_at (out-Node n).op)) (sym m.no_compound)
          (subst (λ x. IsFilledAs u g n None x) (sym m.simple) (record {
            ports = subst (λ l. unit_ports.AreFilled u g l (length (row_of op).operands) (row_of op).rest (ports_into g l)) (sym s.label)
                (subst (unit_ports.AreFilled u g (suc i) (length (row_of op).operands) (row_of op).rest) (sym (ports-as a e)) (filled-as (length (row_of op).operands) (row_of op).rest (filled a v.ins) (h.ports k (known-as a e))));
            name = subst (λ l. IsNamed (want_at g l 1) (literal_at g l 1)) (sym s.label) name;
            bound = subst (λ l. IsBounded u g l op) (sym s.label) bound;
            no_graphs = m.no_graphs;
            no_list = m.no_list;
          }))

      whole-filled : (c : Compound) (numbers arms : List ℕ) (given many : ℕ) → v.action ≡ Whole c numbers arms given many → ArePartsLowered p n
          → (gs : List LoweredGraph) → map (graph_at p) numbers ≡ map Some gs → IsCompound sort c v.ins arms gs o → IsNodeFilled u g n
      whole-filled c numbers arms given many e inside gs same h =
          let act = Whole c numbers arms given many in
          let m = whole-node n (suc i) c numbers arms given many (listed-as act e) in
          let are = are-of p (out-Node n).subs inside gs (ap (map (graph_at p)) m.parts ∙ same) in
          let size : length (out-Node n).subs ≡ length gs = length-of p (out-Node n).subs gs are in
          let carries : carried u g (suc i) 1 ≡ sort_in sort v.ins 1 = (known-as act e).at 1 in
          let count : ports_into g (suc i) ≡ count_from 1 (length v.ins) = ports-as act e ∙ shown-ports 1 v.ins (inputs-shown sort c 1 v.ins h.inputs) in
          subst (λ x. IsFilledAs u g n x (simple_at (out-Node n).op)) (sym m.kind) (record {
            parts = subst (HasParts c) (sym size) h.parts;
            ports = subst (λ l. AreAtLeast (least_width c) (ports_into g l)) (sym s.label) (subst (AreAtLeast (least_width c)) (sym count) (length v.ins, h.width, first-count (length v.ins)));
            list = subst (λ l. IsAssociation c (tags_of (carried u g l 1)) (length (out-Node n).subs) (out-Node n).assoc) (sym s.label)
                (subst (IsAssociation c (tags_of (carried u g (suc i) 1)) (length (out-Node n).subs)) (sym m.list)
                (subst (λ x. IsAssociation c (tags_of (carried u g (suc i) 1)) x arms) (sym size) (subst (λ x. IsAssociation c (tags_of x) (length gs) arms) (sym carries) h.list)));
          })

      pub its-filled : ArePartsLowered p n → IsNode sort (graph_at p) part v.action v.ins o → IsNodeFilled u g n
      its-filled inside h = by v.action refl h
        where
          by : (a : Action) → v.action ≡ a → IsNode sort (graph_at p) part a v.ins o → IsNodeFilled u g n
          by (Row op) e h = simple-filled (Row op) op e (row-node n (suc i) op (listed-as (Row op) e)) (row-named op e) (bounded-as op e h.bound) h
          by (Call f) e h = simple-filled (Call f) simple.Call e (call-node n (suc i) f (listed-as (Call f) e)) (call-named f e) tt h
          by (Whole c numbers arms given many) e h = whole-filled c numbers arms given many e inside h.0 h.1 h.2

      -- ---- its outputs are there

      simple-outputs : (a : Action) (op : Simple) → v.action ≡ a → IsSimpleNode n op → IsSimple sort part a op v.ins o → (q : ℕ) (c : Carried) → type_at o q ≡ Some c → IsUpTo (outputs u g n) q
      simple-outputs a op e m h q c y =
          subst (λ x. IsUpTo (outputs_as u g n x (simple_at (out-Node n).op)) q) (sym m.no_compound)
          (subst (λ x. IsUpTo (outputs_as u g n None x) q) (sym m.simple)
          (subst (λ l. IsUpTo (given_outputs u g l (row_of op).gives) q) (sym s.label)
          (subst (λ x. IsUpTo x q) (sym (given-same sort u g (suc i) (row_of op).gives)) (given-at sort k op o (h.gives k (known-as a e)) q c y).0)))

      whole-outputs : (c : Compound) (numbers arms : List ℕ) (given many : ℕ) → v.action ≡ Whole c numbers arms given many → ArePartsLowered p n
          → (gs : List LoweredGraph) → map (graph_at p) numbers ≡ map Some gs → AllShown p gs → IsCompound sort c v.ins arms gs o → (q : ℕ) (ty : Carried) → type_at o q ≡ Some ty → IsUpTo (outputs u g n) q
      whole-outputs c numbers arms given many e inside gs same shown h q ty y =
          let m = whole-node n (suc i) c numbers arms given many (listed-as (Whole c numbers arms given many) e) in
          let are = are-of p (out-Node n).subs inside gs (ap (map (graph_at p)) m.parts ∙ same) in
          subst (λ x. IsUpTo (outputs_as u g n x (simple_at (out-Node n).op)) q) (sym m.kind)
          (subst (λ x. q ≤ x) (sym (outputs-same p c (out-Node n).subs gs are shown)) (output-at sort c gs o h.outputs q ty y))

      pub its-outputs : ArePartsLowered p n → ((gs : List LoweredGraph) (numbers : List ℕ) → map (graph_at p) numbers ≡ map Some gs → AllShown p gs) → IsNode sort (graph_at p) part v.action v.ins o → (q : ℕ) (ty : Carried) → type_at o q ≡ Some ty → IsUpTo (outputs u g n) q
      its-outputs inside shown h q ty y = by v.action refl h
        where
          by : (a : Action) → v.action ≡ a → IsNode sort (graph_at p) part a v.ins o → IsUpTo (outputs u g n) q
          by (Row op) e h = simple-outputs (Row op) op e (row-node n (suc i) op (listed-as (Row op) e)) h q ty y
          by (Call f) e h = simple-outputs (Call f) simple.Call e (call-node n (suc i) f (listed-as (Call f) e)) h q ty y
          by (Whole c numbers arms given many) e h = whole-outputs c numbers arms given many e inside h.0 h.1 (shown h.0 numbers h.1) h.2 q ty y
