-- A graph of a translated unit runs as the lowered graph of its number.
use Rattle.std.proofs.Common.{◌≡◌, ℕ, zero, suc, ◌+◌, ◌<◌, ◌≤◌, inl, inr, List, [], ◌∷◌, map, length, drop, slice_get, Option, Some, None, refl, sym, ap, subst, ◌∙◌, arith}
use Rattle.std.specs.Prelude.{find, filter}
use Rattle.if1_graph.specs.declared.graph.Graph.{Graph}
use Rattle.if1_graph.specs.declared.graph.Graph.TheViews.{out-Graph}
use Rattle.if1_graph.specs.declared.graph.Node.{Node, out-Node}
use Rattle.if1_graph.specs.declared.graph.Edge.{Edge}
use Rattle.if1_graph.specs.declared.graph.Origin.TheVariants as origin
use Rattle.if1_graph.specs.declared.graph.Unit1.{Unit1}
use Rattle.if1_graph.specs.declared.op.Grouping.{Grouping}
use Rattle.if1_graph.specs.declared.op.Simple.{Simple}
use Rattle.if1_graph.specs.declared.op.Simple.TheVariants as simple
use Rattle.if1_graph.specs.declared.op.Compound.{Compound}
use Rattle.if1_graph.specs.declared.op.Compound.TheVariants as compound
use Rattle.if1_graph.specs.declared.row.Want.{Want}
use Rattle.if1_graph.specs.Ops.{simple_at, compound_at}
use Rattle.if1_graph.specs.Rows.{operand_of}
use Rattle.if1_graph.specs.Tables.{◌>>=◌}
use Rattle.if1_graph.specs.Units.{greatest, label_of, node_at, edge_into, width, results}
use Rattle.if1_graph.specs.Units as units
use Rattle.if1_graph.specs.Formed.{function_named, want_at}
use Rattle.if1_graph.specs.Ports.{count_from, literal_at, text_of}
use Rattle.graph_meaning.specs.Carried.{Name}
use Rattle.graph_meaning.specs.Demand.{Fixed, Plain, Whole}
use Rattle.graph_meaning.specs.Forms as form
use Rattle.graph_meaning.specs.Networks as net
use Rattle.graph_meaning.specs.Networks.{source_by, source_at, shape_of, number_or_zero, callee_number, simple_kind, kind_as, ins_of, vertex_of}
use Rattle.typed_tree.specs.declared.program.Program.{Program}
use Rattle.lowering.specs.declared.feed.Feed.TheVariants.{Named}
use Rattle.lowering.specs.declared.feed.Carried.TheVariants.{One, Callee}
use Rattle.lowering.specs.declared.feed.Wire.{Wire}
use Rattle.lowering.specs.Feeds.{wire}
use Rattle.lowering.specs.declared.graph.Action.{Action}
use Rattle.lowering.specs.declared.graph.Action.TheVariants.{Row, Call}
use Rattle.lowering.specs.declared.graph.LoweredNode.{LoweredNode}
use Rattle.lowering.specs.declared.graph.LoweredGraph.{LoweredGraph}
use Rattle.lowering.specs.Graphs.{node}
use Rattle.lowering.specs.declared.graph.Action.TheVariants as lowered
use Rattle.lowering.specs.Operations.{integer}
use Rattle.lowering.specs.Programs.{graph_at, number_of}
use Rattle.lowering.specs.Types.{table, label_of as type_label_of}
use Rattle.lowered_units.specs.Listed.{ListedNode, NodeListing, first_number, listing}
use Rattle.lowered_units.specs.Networks.{sources_of, form_of, kind_of, vertex, vertices, net_of, shapes}
use Rattle.lowered_units.specs.Units.{simple_code, compound_code, edge, edges_into, node_edges, edges_of, called_name, listed_node, listed_nodes, entries_from}
use Rattle.lowered_units.proofs.Built.{AreParts, AreGood, AreFilled, Fills, fills_row, fills_reduction, fills_call, IsPlainRow}
use Rattle.lowered_units.proofs.Built as built
use Rattle.lowered_units.proofs.Literals.{IsValueWant}
use Rattle.lowered_units.proofs.Rights.{count, IsRightNode, AreRight, IsRightGraph}
use Rattle.lowered_units.proofs.OneUnit.{node-listing-at, nodes_in}
use Rattle.lowered_units.proofs.Heads.{In, listing-is}
use Rattle.lowered_units.proofs.Blocks.{to_node, to_port, find-filtered, edges-at, results-at, port_of, over-ports, source_for, block-sources, behind-sources, block-width, behind-width}
use Rattle.lowered_units.proofs.Codes.{simple-is, no-compound, compound-is, no-simple, wanted, plain-want, call-want, reduce-want, number_in, form-is}
use Rattle.lowered_units.proofs.Named.{row_of, Match, match, none-before, Standing, standing}

-- ---- what the listing of a node tells

pub row-is : (n : Node) → row_of n ≡ record { label = (out-Node n).label; op = (out-Node n).op; parts = map first_number (map listing (out-Node n).subs); assoc = (out-Node n).assoc; before = (out-Node n).before; name = (out-Node n).name }
row-is n = ap (λ (i : NodeListing). i.node) (node-listing-at n)

pub op-of : (n : Node) (x : ListedNode) → row_of n ≡ x → (out-Node n).op ≡ x.op
op-of n x e = ap (λ (y : ListedNode). y.op) (sym (row-is n) ∙ e)

pub before-of : (n : Node) (x : ListedNode) → row_of n ≡ x → (out-Node n).before ≡ x.before
before-of n x e = ap (λ (y : ListedNode). y.before) (sym (row-is n) ∙ e)

pub assoc-of : (n : Node) (x : ListedNode) → row_of n ≡ x → (out-Node n).assoc ≡ x.assoc
assoc-of n x e = ap (λ (y : ListedNode). y.assoc) (sym (row-is n) ∙ e)

firsts : (gs : List Graph) → map number_in gs ≡ map first_number (map listing gs)
firsts [] = refl
firsts (g ∷ gs) = ap (λ k. k ∷ map number_in gs) (sym (ap first_number (listing-is g))) ∙ ap (λ l. first_number (listing g) ∷ l) (firsts gs)

pub parts-of : (n : Node) (x : ListedNode) → row_of n ≡ x → map number_in (out-Node n).subs ≡ x.parts
parts-of n x e = firsts (out-Node n).subs ∙ ap (λ (y : ListedNode). y.parts) (sym (row-is n) ∙ e)

-- every row but Call is a plain one
plain-kind : (u : Unit1) (g : Graph) (l : ℕ) (op : Simple) → IsPlainRow op → simple_kind u g l op ≡ Plain op (shape_of u g l op)
plain-kind u g l simple.Call h = absurd h
plain-kind u g l op h = refl

reduce-kind : (u : Unit1) (g : Graph) (l : ℕ) (r : Grouping) → simple_kind u g l (simple.Reduce r) ≡ Plain (simple.Reduce r) (shape_of u g l (simple.Reduce r))
reduce-kind u g l r = refl

whole-ins : (u : Unit1) (g : Graph) (l : ℕ) (c : Compound) (gs arms : List ℕ) (given outs : ℕ) → ins_of u g l (Whole (form_of c gs arms given outs)) ≡ net.sources u g l 1 (width g l)
whole-ins u g l compound.Select gs arms given outs = refl
whole-ins u g l compound.TagCase gs arms given outs = refl
whole-ins u g l compound.ForAll gs arms given outs = refl
whole-ins u g l compound.LoopA gs arms given outs = refl
whole-ins u g l compound.LoopB gs arms given outs = refl

none-wanted : (port : ℕ) → IsValueWant None
none-wanted port = tt

module _ (p : Program) (u : Unit1) (is : u.types ≡ entries_from p 1 (table p)) (functions : ℕ) where
  abbrev RightNode : Action → List Wire → Type 0
  RightNode a ws = IsRightNode p.types functions (graph_at p) a ws

  -- what is known of a graph of the unit and of a lowered graph
  pub record Agrees (g : Graph) (d : LoweredGraph) (q : ℕ) : Type 0 where
    pub nodes : nodes_in (out-Graph g).nodes ≡ listed_nodes 1 d.nodes
    pub edges : (out-Graph g).edges ≡ edges_of p 1 d.nodes d.results
    pub right : IsRightGraph p.types functions (graph_at p) d
    pub parts : (n : Node) (s : Graph) → In n (out-Graph g).nodes → In s (out-Node n).subs → results s ≡ count p.types functions (graph_at p) (number_in s)
    pub shape : (l : ℕ) (op : Simple) → shape_of u g l op ≡ shapes u q l op

  -- the functions of the program are found by their names
  abbrev pub AreCalled : Type 0
  AreCalled = (f : ℕ) → f < functions → number_or_zero (function_named u.graphs (called_name p (slice_get p.functions f))) ≡ number_of p f

  module _ (g : Graph) where
    -- what fills the ports of a node whose edges are these
    sources-as : (l : ℕ) (es : List Edge) (wants : ℕ → Option Want) (n : ℕ) → units.edges_into g l ≡ es → ((port : ℕ) → want_at g l port ≡ wants port) → greatest (map (port_of p) es) ≡ n
        → net.sources u g l 1 (width g l) ≡ map (source_for p u is functions wants es) (count_from 1 n)
    sources-as l es wants n e w k =
        ap (λ i. map (source_at u g l) (count_from 1 i)) (ap (λ (x : List Edge). greatest (map (port_of p) x)) e ∙ k)
        ∙ over-ports p (source_at u g l) (source_for p u is functions wants es) 1 n
        (λ j h. ap (λ x. source_by u x (edge_into g l j)) (w j) ∙ ap (source_by u (wants j)) (find-filtered l j (out-Graph g).edges ∙ ap (find (to_port j)) e))

    -- the wants of a node of a label
    pub row-wants : (l : ℕ) (n : Node) (op : Simple) → node_at (out-Graph g).nodes l ≡ Some n → (out-Node n).op ≡ simple_code op → (port : ℕ) → want_at g l port ≡ wanted (operand_of op port)
    row-wants l n op f e port =
        ap (λ o. o >>= λ n. simple_at (out-Node n).op >>= λ op. operand_of op port >>= λ operand. Some operand.1) f
        ∙ (ap (λ o. simple_at o >>= λ op. operand_of op port >>= λ operand. Some operand.1) e
        ∙ ap (λ o. o >>= λ op. operand_of op port >>= λ operand. Some operand.1) (simple-is op))

    pub whole-wants : (l : ℕ) (n : Node) (c : Compound) → node_at (out-Graph g).nodes l ≡ Some n → (out-Node n).op ≡ compound_code c → (port : ℕ) → want_at g l port ≡ None
    whole-wants l n c f e port =
        ap (λ o. o >>= λ n. simple_at (out-Node n).op >>= λ op. operand_of op port >>= λ operand. Some operand.1) f
        ∙ (ap (λ o. simple_at o >>= λ op. operand_of op port >>= λ operand. Some operand.1) e
        ∙ ap (λ o. o >>= λ op. operand_of op port >>= λ operand. Some operand.1) (no-simple c))

    pub boundary-wants : node_at (out-Graph g).nodes 0 ≡ None → (port : ℕ) → want_at g 0 port ≡ None
    boundary-wants f port = ap (λ o. o >>= λ n. simple_at (out-Node n).op >>= λ op. operand_of op port >>= λ operand. Some operand.1) f

    row-kind : (n : Node) (op : Simple) → (out-Node n).op ≡ simple_code op → net.kind_of u g n ≡ simple_kind u g (label_of n) op
    row-kind n op e =
        ap (λ o. kind_as u g n (compound_at o) (simple_at o)) e
        ∙ (ap (λ c. kind_as u g n c (simple_at (simple_code op))) (no-compound op) ∙ ap (kind_as u g n None) (simple-is op))

    whole-kind : (n : Node) (c : Compound) → (out-Node n).op ≡ compound_code c → net.kind_of u g n ≡ Whole (net.form_of c (out-Node n).subs (out-Node n).assoc)
    whole-kind n c e =
        ap (λ o. kind_as u g n (compound_at o) (simple_at o)) e
        ∙ ap (λ o. kind_as u g n o (simple_at (compound_code c))) (compound-is c)

    module _ (d : LoweredGraph) (q : ℕ) (a : Agrees g d q) (calls : AreCalled) where
      abbrev Does : Node → ℕ → Action → List Wire → Type 0
      Does n l act ws =
          (net.kind_of u g n ≡ kind_of (shapes u q) (number_of p) l act) × (ins_of u g l (kind_of (shapes u q) (number_of p) l act) ≡ sources_of ws)

      plain-does : (n : Node) (l : ℕ) (op : Simple) (ws : List Wire) → node_at (out-Graph g).nodes l ≡ Some n → label_of n ≡ l → (out-Node n).op ≡ simple_code op → units.edges_into g l ≡ edges_into p l 1 ws
          → IsPlainRow op → AreFilled p.types functions ws → Does n l (Row op) ws
      plain-does n l op ws f lab e es h k = (
        row-kind n op e ∙ (plain-kind u g (label_of n) op h ∙ (ap (λ i. Plain op (shape_of u g i op)) lab ∙ ap (Plain op) (a.shape l op))),
        sources-as l (edges_into p l 1 ws) (λ port. wanted (operand_of op port)) (length ws) es (row-wants l n op f e) (block-width p functions l ws k)
            ∙ block-sources p u is functions (λ port. wanted (operand_of op port)) l 1 ws k (λ j i. plain-want op j h),
      )

      reduction-does : (n : Node) (l : ℕ) (r : Grouping) (name : List ℕ) (ws : List Wire) → node_at (out-Graph g).nodes l ≡ Some n → label_of n ≡ l → (out-Node n).op ≡ simple_code (simple.Reduce r)
          → units.edges_into g l ≡ edges_into p l 1 (wire (Named name) (One integer) ∷ ws) → AreGood p.types functions ws → Does n l (Row (simple.Reduce r)) (wire (Named name) (One integer) ∷ ws)
      reduction-does n l r name ws f lab e es k =
          let op = simple.Reduce r in
          let ty = type_label_of p (One integer) in
          let block = edge l 1 ty (origin.Lit name) ∷ edges_into p l 2 ws in
          let filled = built.good-filled p.types functions ws k in (
            row-kind n op e ∙ (reduce-kind u g (label_of n) r ∙ (ap (λ i. Plain op (shape_of u g i op)) lab ∙ ap (Plain op) (a.shape l op))),
            sources-as l block (λ port. wanted (operand_of op port)) (suc (length ws)) es (row-wants l n op f e) (behind-width p functions l ty (origin.Lit name) ws filled)
                ∙ ap (λ x. Fixed (Name name) ∷ x) (behind-sources p u is functions (λ port. wanted (operand_of op port)) l ty (origin.Lit name) ws filled (λ j i. later j i)),
          )
        where
          later : (j : ℕ) → 2 ≤ j → IsValueWant (wanted (operand_of (simple.Reduce r) j))
          later zero i = absurd (omega (arith, i))
          later (suc zero) i = absurd (omega (arith, i))
          later (suc (suc j)) i = reduce-want r j

      call-does : (n : Node) (l f : ℕ) (ws : List Wire) → node_at (out-Graph g).nodes l ≡ Some n → label_of n ≡ l → (out-Node n).op ≡ simple_code simple.Call
          → units.edges_into g l ≡ node_edges p l (Call f) ws → f < functions → AreGood p.types functions ws → Does n l (Call f) ws
      call-does n l f ws s lab e es i k =
          let ty = type_label_of p (Callee f) in
          let name = called_name p (slice_get p.functions f) in
          let block = edge l 1 ty (origin.Lit name) ∷ edges_into p l 2 ws in
          let filled = built.good-filled p.types functions ws k in
          let wants : ℕ → Option Want = λ port. wanted (operand_of simple.Call port) in
          let literal : literal_at g l 1 ≡ Some name = ap (λ o. o >>= λ e. text_of e.from) (find-filtered l 1 (out-Graph g).edges ∙ ap (find (to_port 1)) es) in (
            row-kind n simple.Call e ∙ (ap (λ i. Whole (form.Call (callee_number u g i))) lab ∙ ap (λ k. Whole (form.Call k)) (ap (λ o. number_or_zero (o >>= λ name. function_named u.graphs name)) literal ∙ calls f i)),
            ap (drop 1) (sources-as l block wants (suc (length ws)) es (row-wants l n simple.Call s e) (behind-width p functions l ty (origin.Lit name) ws filled))
                ∙ behind-sources p u is functions wants l ty (origin.Lit name) ws filled (λ j i. later j i),
          )
        where
          later : (j : ℕ) → 2 ≤ j → IsValueWant (wanted (operand_of simple.Call j))
          later zero i = absurd (omega (arith, i))
          later (suc zero) i = absurd (omega (arith, i))
          later (suc (suc j)) i = call-want j

      counts-of : (gs : List Graph) → ((s : Graph) → In s gs → results s ≡ count p.types functions (graph_at p) (number_in s)) → map results gs ≡ map (count p.types functions (graph_at p)) (map number_in gs)
      counts-of [] h = refl
      counts-of (s ∷ gs) h = ap (λ k. k ∷ map results gs) (h s (inl refl)) ∙ ap (λ l. count p.types functions (graph_at p) (number_in s) ∷ l) (counts-of gs (λ x i. h x (inr i)))

      whole-does : (n : Node) (l : ℕ) (c : Compound) (gs arms : List ℕ) (given outs : ℕ) (ws : List Wire) → In n (out-Graph g).nodes → node_at (out-Graph g).nodes l ≡ Some n → (out-Node n).op ≡ compound_code c → (out-Node n).assoc ≡ arms → map number_in (out-Node n).subs ≡ gs
          → units.edges_into g l ≡ edges_into p l 1 ws → AreGood p.types functions ws → AreParts c (map (count p.types functions (graph_at p)) gs) given outs → Does n l (lowered.Whole c gs arms given outs) ws
      whole-does n l c gs arms given outs ws there f e lists ns es k h =
          let filled = built.good-filled p.types functions ws k in
          let have : AreParts c (map results (out-Node n).subs) given outs =
          subst (λ z. AreParts c z given outs) (sym (counts-of (out-Node n).subs (λ s i. a.parts n s there i) ∙ ap (map (count p.types functions (graph_at p))) ns)) h in (
            whole-kind n c e ∙ ap Whole (ap (net.form_of c (out-Node n).subs) lists ∙ (form-is c (out-Node n).subs arms given outs have ∙ ap (λ z. form_of c z arms given outs) ns)),
            whole-ins u g l c gs arms given outs
                ∙ (sources-as l (edges_into p l 1 ws) (λ port. None) (length ws) es (whole-wants l n c f e) (block-width p functions l ws filled)
                ∙ block-sources p u is functions (λ port. None) l 1 ws filled (λ j i. tt)),
          )

      node-does : (n : Node) (l : ℕ) (act : Action) (ws : List Wire) → Standing (out-Graph g).nodes l n (node act ws) → label_of n ≡ l → units.edges_into g l ≡ node_edges p l act ws → RightNode act ws → Does n l act ws
      node-does n l (Row op) ws s lab es h = by op ws h (op-of n (listed_node l (Row op)) s.listed) es
        where
          filling : (op : Simple) (ws : List Wire) (act : Action) → Fills p.types functions act ws → act ≡ Row op → (out-Node n).op ≡ simple_code op → units.edges_into g l ≡ edges_into p l 1 ws → Does n l act ws
          filling op _ _ (fills_row x ws h k) e c es = plain-does n l x ws s.found lab (c ∙ ap simple_code (sym (same-row x op e))) es h k
            where
              same-row : (x y : Simple) → Row x ≡ Row y → x ≡ y
              same-row x y e = cc
          filling op _ _ (fills_reduction r name ws h k) e c es = reduction-does n l r name ws s.found lab (c ∙ ap simple_code (sym (same-row (simple.Reduce r) op e))) es k
            where
              same-row : (x y : Simple) → Row x ≡ Row y → x ≡ y
              same-row x y e = cc
          filling op _ _ (fills_call f ws h k) e c es = absurd cc

          by : (op : Simple) (ws : List Wire) → Fills p.types functions (Row op) ws → (out-Node n).op ≡ simple_code op → units.edges_into g l ≡ edges_into p l 1 ws → Does n l (Row op) ws
          by op ws h c es = filling op ws (Row op) h refl c es
      node-does n l (Call f) ws s lab es h = filling ws (Call f) h refl es
        where
          filling : (ws : List Wire) (act : Action) → Fills p.types functions act ws → act ≡ Call f → units.edges_into g l ≡ node_edges p l (Call f) ws → Does n l act ws
          filling _ _ (fills_row x ws h k) e es = absurd cc
          filling _ _ (fills_reduction r name ws h k) e es = absurd cc
          filling _ _ (fills_call x ws h k) e es =
              call-does n l x ws s.found lab (op-of n (listed_node l (Call f)) s.listed) (es ∙ ap (λ i. node_edges p l (Call i) ws) (sym (same-call x f e))) h k
            where
              same-call : (x y : ℕ) → Call x ≡ Call y → x ≡ y
              same-call x y e = cc
      node-does n l (lowered.Whole c gs arms given outs) ws s lab es h =
          let x = listed_node l (lowered.Whole c gs arms given outs) in
          whole-does n l c gs arms given outs ws s.there s.found (op-of n x s.listed) (assoc-of n x s.listed) (parts-of n x s.listed) es h.0 h.1

      listed-before : (l : ℕ) (act : Action) → (listed_node l act).before ≡ []
      listed-before l (Row op) = refl
      listed-before l (Call f) = refl
      listed-before l (lowered.Whole c gs arms given outs) = refl

      listed-label : (l : ℕ) (act : Action) → (listed_node l act).label ≡ l
      listed-label l (Row op) = refl
      listed-label l (Call f) = refl
      listed-label l (lowered.Whole c gs arms given outs) = refl

      node-vertex : (n : Node) (l : ℕ) (v : LoweredNode) → Standing (out-Graph g).nodes l n v → units.edges_into g l ≡ node_edges p l v.action v.ins → RightNode v.action v.ins
          → vertex_of u g n ≡ vertex (shapes u q) (number_of p) l v
      node-vertex n l v s es h =
          let lab : label_of n ≡ l = ap (λ (y : ListedNode). y.label) (sym (row-is n) ∙ s.listed) ∙ listed-label l v.action in
          let does = node-does n l v.action v.ins s lab es h in
          let ins = ap (λ i. ins_of u g i (net.kind_of u g n)) lab ∙ (ap (ins_of u g l) does.0 ∙ does.1) in
          let before = before-of n (listed_node l v.action) s.listed ∙ listed-before l v.action in
          λ j. record { label = lab j; kind = does.0 j; ins = ins j; before = before j }

      right-node : (vs : List LoweredNode) (i : ℕ) (v : LoweredNode) → AreRight p.types functions (graph_at p) vs → slice_get vs i ≡ Some v → RightNode v.action v.ins
      right-node [] i v h e = absurd cc
      right-node (x ∷ vs) zero v h e = subst (λ (y : LoweredNode). RightNode y.action y.ins) (same e) h.0
        where
          same : Some x ≡ Some v → x ≡ v
          same e = cc
      right-node (x ∷ vs) (suc i) v h e = right-node vs i v h.1 e

      all-vertices : (label : ℕ) (ns : List Node) (vs : List LoweredNode) → Match label ns vs → ((i : ℕ) (n : Node) (v : LoweredNode) → slice_get ns i ≡ Some n → slice_get vs i ≡ Some v → vertex_of u g n ≡ vertex (shapes u q) (number_of p) (label + i) v)
          → map (vertex_of u g) ns ≡ vertices (shapes u q) (number_of p) label vs
      all-vertices label [] [] m h = refl
      all-vertices label [] (v ∷ vs) m h = absurd m
      all-vertices label (n ∷ ns) [] m h = absurd m
      all-vertices label (n ∷ ns) (v ∷ vs) m h =
          ap (λ x. x ∷ map (vertex_of u g) ns) (h 0 n v refl refl ∙ ap (λ l. vertex (shapes u q) (number_of p) l v) (omega arith))
          ∙ ap (λ l. vertex (shapes u q) (number_of p) label v ∷ l) (all-vertices (suc label) ns vs m.1 (λ i x y e k. h (suc i) x y e k ∙ ap (λ l. vertex (shapes u q) (number_of p) l y) (omega arith)))

      pub net-is : net.net_of u g ≡ net_of (shapes u q) (number_of p) d
      net-is =
          let ns = (out-Graph g).nodes in
          let m = match 1 ns d.nodes a.nodes in
          let nodes = all-vertices 1 ns d.nodes m
          (λ i n v e k. node-vertex n (1 + i) v (standing 1 ns d.nodes m i n v e k) (ap (λ es. filter (to_node (1 + i)) es) a.edges ∙ edges-at p 1 d.nodes d.results i v (omega arith) k) (right-node d.nodes i v a.right.0 k)) in
          let filled = built.good-filled p.types functions d.results a.right.1 in
          let results = sources-as 0 (edges_into p 0 1 d.results) (λ port. None) (length d.results) (ap (λ es. filter (to_node 0) es) a.edges ∙ results-at p 1 d.nodes d.results (omega arith)) (boundary-wants (none-before 1 ns d.nodes m 0 (omega arith))) (block-width p functions 0 d.results filled)
          ∙ block-sources p u is functions (λ port. None) 0 1 d.results filled (λ j i. tt) in
          λ j. record { nodes = nodes j; results = results j }
