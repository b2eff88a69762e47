-- The nodes and edges of each graph of a translated unit are formed.
use Rattle.std.proofs.Common.{◌≡◌, ℕ, zero, suc, ◌+◌, ◌<◌, ◌≤◌, inl, List, [], ◌∷◌, map, length, slice_get, Some, None, refl, sym, ap, subst, ◌∙◌, arith}
use Rattle.std.specs.Prelude.{All, Contains, IsSome, is_some, get_or}
use Rattle.std.proofs.lemmas.List.{length-map}
use Rattle.std.proofs.lemmas.List.Elements.{All-nil, All-cons, All-head, All-tail, All-append}
use Rattle.if1_graph.specs.declared.graph.Graph.{Graph}
use Rattle.if1_graph.specs.declared.graph.Graph.TheViews.{out-Graph}
use Rattle.if1_graph.specs.declared.graph.Unit1.{Unit1}
use Rattle.if1_graph.specs.Formed.{function_named, most, IsNode, IsOnce, IsEdge}
use Rattle.if1_graph.specs.Ports.{count_from}
use Rattle.if1_graph.specs.Units.{label_of, most_levels, Place, places}
use Rattle.typed_tree.specs.declared.program.Program.{Program}
use Rattle.lowering.specs.declared.feed.Carried.{Carried}
use Rattle.lowering.specs.declared.feed.Wire.{Wire}
use Rattle.lowering.specs.declared.graph.LoweredNode.{LoweredNode}
use Rattle.lowering.specs.declared.graph.LoweredGraph.{LoweredGraph}
use Rattle.lowering.specs.Graphs.{graph_lines}
use Rattle.lowering.specs.Programs.{function_lowered, functions_lowered, graphs, graph_at}
use Rattle.lowering.specs.TooMany.{most_nodes, most_graphs, types_over, program_over, too_many, header_ports}
use Rattle.lowering.specs.Types.{basics, needs}
use Rattle.lowered_units.specs.Fitting.{HaveMembers, IsFitting}
use Rattle.lowered_units.specs.Listed.{all_of}
use Rattle.lowered_units.specs.Small.{AreSmall, IsSmallGraph, HasSmallPorts}
use Rattle.lowered_units.specs.Units.{called_name, edges_into, node_edges, edges_of, IsTranslated}
use Rattle.lowered_units.proofs.Built as built
use Rattle.lowered_units.proofs.Counted.{IsGraphCounted, nodes-small, all-counted, few-in-all}
use Rattle.lowered_units.proofs.Entries.{whole_listing, length-new, entry}
use Rattle.lowered_units.proofs.Forming.{AreFew, few-graphs, or-right, nodes-formed, block-formed, node-edges-formed}
use Rattle.lowered_units.proofs.Heads.{In, listing-is, Lie, unit-lies, all-within}
use Rattle.lowered_units.proofs.Lined.{IsCalleeIn, WiresIn, NodesIn, IsGraphIn, GraphsIn, program-lined}
use Rattle.lowered_units.proofs.Literals.{IsValueWant}
use Rattle.lowered_units.proofs.Named.{match, none-before, standing}
use Rattle.lowered_units.proofs.Nested.{AreNested}
use Rattle.lowered_units.proofs.Nets.{boundary-wants}
use Rattle.lowered_units.proofs.Normality.{node-beside}
use Rattle.lowered_units.proofs.OneUnit.{head_of}
use Rattle.lowered_units.proofs.Ordered.{labels-are}
use Rattle.lowered_units.proofs.Programs.{functions, program-built, right-of}
use Rattle.lowered_units.proofs.Rights.{IsRightNode, AreRight}
use Rattle.lowered_units.proofs.Running.{found-function}

-- what is formed in a graph beside its number and its header
pub record IsBodyFormed (u : Unit1) (p : Place) : Type 0 where
  pub nodes : All IsNode (out-Graph p.graph).nodes
  pub labels : IsOnce (map label_of (out-Graph p.graph).nodes)
  pub few : length (out-Graph p.graph).nodes ≤ most
  pub edges : All (IsEdge u p.graph) (out-Graph p.graph).edges

-- ---- each label once

once-from : (l n : ℕ) → IsOnce (count_from l n)
once-from l zero = tt
once-from l (suc n) = (λ c. later (suc l) n (omega arith) c, once-from (suc l) n)
  where
    index : (m n k d : ℕ) → k < n → get_or (count_from m n) k d ≡ m + k
    index m zero k d h = absurd (omega (arith, h))
    index m (suc n) zero d h = omega arith
    index m (suc n) (suc k) d h = index (suc m) n k d (omega (arith, h)) ∙ omega arith

    size : (m n : ℕ) → length (count_from m n) ≡ n
    size m zero = refl
    size m (suc n) = ap suc (size (suc m) n)

    later : (m n : ℕ) → l < m → Contains (count_from m n) l → ⊥
    later m n h c = omega (arith, h, index m n c.0 l (omega (arith, c.1, size m n)), c.2)

-- ---- lists by place

few-at : (ds : List LoweredGraph) → AreFew ds → (i : ℕ) (d : LoweredGraph) → slice_get ds i ≡ Some d → length d.nodes ≤ most_nodes
few-at [] h i d e = absurd cc
few-at (x ∷ ds) h zero d e = subst (λ (y : LoweredGraph). length y.nodes ≤ most_nodes) (same e) h.0
  where
    same : Some x ≡ Some d → x ≡ d
    same e = cc
few-at (x ∷ ds) h (suc i) d e = few-at ds h.1 i d e

in-at : (l : List Carried) (ds : List LoweredGraph) → GraphsIn l ds → (i : ℕ) (d : LoweredGraph) → slice_get ds i ≡ Some d → IsGraphIn l d
in-at l [] h i d e = absurd cc
in-at l (x ∷ ds) h zero d e = subst (IsGraphIn l) (same e) h.0
  where
    same : Some x ≡ Some d → x ≡ d
    same e = cc
in-at l (x ∷ ds) h (suc i) d e = in-at l ds h.1 i d e

all-at : {A : Type 0} (P : A → Type 0) (xs : List A) → All P xs → (i : ℕ) (x : A) → slice_get xs i ≡ Some x → P x
all-at P [] h i x e = absurd cc
all-at P (y ∷ xs) h zero x e = subst P (same e) (All-head P y xs h)
  where
    same : Some y ≡ Some x → y ≡ x
    same e = cc
all-at P (y ∷ xs) h (suc i) x e = all-at P xs (All-tail P y xs h) i x e

by-number : (p : Program) (P : LoweredGraph → Type 0) → ((i : ℕ) (d : LoweredGraph) → slice_get (graphs p) i ≡ Some d → P d) → (q : ℕ) (d : LoweredGraph) → graph_at p q ≡ Some d → P d
by-number p P h zero d e = absurd cc
by-number p P h (suc q) d e = h q d e

nodes-in-at : (l : List Carried) (vs : List LoweredNode) → NodesIn l vs → (i : ℕ) (v : LoweredNode) → slice_get vs i ≡ Some v → IsCalleeIn l v.action × WiresIn l v.ins
nodes-in-at l [] h i v e = absurd cc
nodes-in-at l (x ∷ vs) h zero v e = subst (λ (y : LoweredNode). IsCalleeIn l y.action × WiresIn l y.ins) (same e) h.0
  where
    same : Some x ≡ Some v → x ≡ v
    same e = cc
nodes-in-at l (x ∷ vs) h (suc i) v e = nodes-in-at l vs h.1 i v e

below-length : {A : Type 0} (xs : List A) (i : ℕ) (x : A) → slice_get xs i ≡ Some x → i < length xs
below-length [] i x e = absurd cc
below-length (y ∷ xs) zero x e = omega arith
below-length (y ∷ xs) (suc i) x e = omega (arith, below-length xs i x e)

module _ (p : Program) (u : Unit1) (fit : IsFitting p) (members : HaveMembers p.types) (t : IsTranslated p u) (within : too_many p ≡ None) (small : HasSmallPorts p) (nests : AreNested u) where
  abbrev count : ℕ
  count = functions p fit

  named : (f : ℕ) → f < count → IsSome (function_named u.graphs (called_name p (slice_get p.functions f)))
  named f i = let h = found-function p u fit t nests f i in ap (λ o. is_some (function_named u.graphs (called_name p o))) h.1 ∙ ap is_some h.2.found

  as-many : length p.functions ≡ length (functions_lowered p)
  as-many = sym (length-new p 1 (map (function_lowered p.types) p.functions) ∙ length-map p.functions (function_lowered p.types))

  not-over : program_over p ≡ None
  not-over = or-right (types_over (needs p) basics) (program_over p) within

  abbrev headers : ℕ
  headers = header_ports p.functions

  few : AreFew (graphs p)
  few = few-graphs p.functions (functions_lowered p) 0 headers as-many not-over

  counts : All (IsGraphCounted most_graphs) (graphs p)
  counts =
      let all = few-in-all p.functions (functions_lowered p) 0 headers as-many (omega arith) not-over in
      all-counted p.types count most_graphs [] 0 0 1 (functions_lowered p) (program-built p fit) (omega (arith, all))

  edges-join : (g : Graph) (label : ℕ) (vs : List LoweredNode) (results : List Wire) → ((i : ℕ) (v : LoweredNode) → slice_get vs i ≡ Some v → All (IsEdge u g) (node_edges p (label + i) v.action v.ins)) → All (IsEdge u g) (edges_into p 0 1 results) → All (IsEdge u g) (edges_of p label vs results)
  edges-join g label [] results h r = r
  edges-join g label (v ∷ vs) results h r =
      All-append (IsEdge u g) (node_edges p label v.action v.ins) (edges_of p (suc label) vs results) (subst (λ l. All (IsEdge u g) (node_edges p l v.action v.ins)) (omega arith) (h 0 v refl))
      (edges-join g (suc label) vs results (λ i x e. subst (λ l. All (IsEdge u g) (node_edges p l x.action x.ins)) (omega arith) (h (suc i) x e)) r)

  right-node : (vs : List LoweredNode) (i : ℕ) (v : LoweredNode) → AreRight p.types count (graph_at p) vs → slice_get vs i ≡ Some v → IsRightNode p.types count (graph_at p) v.action v.ins
  right-node [] i v h e = absurd cc
  right-node (x ∷ vs) zero v h e = subst (λ (y : LoweredNode). IsRightNode p.types count (graph_at p) y.action y.ins) (same e) h.0
    where
      same : Some x ≡ Some v → x ≡ v
      same e = cc
  right-node (x ∷ vs) (suc i) v h e = right-node vs i v h.1 e

  body-formed : (x : Place) → In (head_of x.graph) (whole_listing p) → IsBodyFormed u x
  body-formed x h =
      let g = x.graph in
      let ns = (out-Graph g).nodes in
      let e = entry p (head_of g) h in
      let d = e.graph in
      let q = (out-Graph g).number in
      let m = match 1 ns d.nodes e.nodes in
      let right = right-of p fit q d e.there in
      let lined = by-number p (IsGraphIn (graph_lines (functions_lowered p))) (in-at (graph_lines (functions_lowered p)) (graphs p) (program-lined p fit)) q d e.there in
      let s = by-number p IsSmallGraph (all-at IsSmallGraph (graphs p) small) q d e.there in
      let most = by-number p (λ (d : LoweredGraph). length d.nodes ≤ most_nodes) (few-at (graphs p) few) q d e.there in
      let labels = labels-are 1 ns d.nodes m in
      let size : length ns ≡ length d.nodes = sym (length-map ns label_of) ∙ (ap length labels ∙ size-of 1 (length d.nodes)) in
      record {
        nodes = nodes-formed 1 ns d.nodes m (omega arith) (omega (arith, most)) (nodes-small d.nodes (by-number p (IsGraphCounted most_graphs) (all-at (IsGraphCounted most_graphs) (graphs p) counts) q d e.there));
        labels = subst IsOnce (sym labels) (once-from 1 (length d.nodes));
        few = omega (arith, size, most);
        edges = subst (All (IsEdge u g)) (sym e.edges)
            (edges-join g 1 d.nodes d.results
            (λ i v k.
            let n = node-beside 1 ns d.nodes m i v k in
            let c = nodes-in-at (graph_lines (functions_lowered p)) d.nodes lined.0 i v k in
            node-edges-formed p u fit members t within named g n.0 (1 + i) v.action v.ins (standing 1 ns d.nodes m i n.0 v n.1 k) (omega (arith, below-length d.nodes i v k, most)) (right-node d.nodes i v right.0 k) c.0 c.1 (all-at (λ (v : LoweredNode). AreSmall v.ins) d.nodes s.nodes i v k))
            (block-formed p u fit members t within named g 0 1 d.results (omega arith) (omega arith) (omega (arith, s.results.few)) (built.good-filled p.types count d.results right.1) lined.1 s.results.feeds
            (λ j i. subst IsValueWant (sym (boundary-wants p u t.types count g (none-before 1 ns d.nodes m 0 (omega arith)) j)) tt)));
      }
    where
      size-of : (l n : ℕ) → length (count_from l n) ≡ n
      size-of l zero = refl
      size-of l (suc n) = ap suc (size-of (suc l) n)

  each-formed : (ps : List Place) → Lie (whole_listing p) ps → All (IsBodyFormed u) ps
  each-formed [] l = All-nil (IsBodyFormed u)
  each-formed (x ∷ ps) l =
      All-cons (IsBodyFormed u) x ps (body-formed x (l.0 (head_of x.graph) (subst (In (head_of x.graph)) (sym (listing-is x.graph)) (inl refl)))) (each-formed ps l.1)

  pub bodies-formed : All (IsBodyFormed u) (places u)
  bodies-formed =
      each-formed (places u) (unit-lies most_levels 0 (whole_listing p) u.graphs (λ g i x k. subst (In x) (ap all_of t.graphs) (all-within u.graphs g i x k)))
