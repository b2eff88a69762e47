-- Nodes by their labels, and functions by their names.
use Rattle.std.proofs.Common.{◌≡◌, ℕ, zero, suc, ◌+◌, ◌<◌, inl, inr, Bool, true, false, cond, List, [], ◌∷◌, map, length, get_or, slice_get, Some, None, refl, sym, ap, ◌∙◌, arith}
use Rattle.std.specs.Prelude.{find, bytes_eq}
use Rattle.std.proofs.lemmas.Slice.Eq.{bytes_eq-Decides}
use Rattle.std.proofs.lemmas.Bool.Decides.{eqb_tells}
use Rattle.if1_graph.specs.declared.graph.Graph.{Graph}
use Rattle.if1_graph.specs.declared.graph.Graph.TheViews.{out-Graph}
use Rattle.if1_graph.specs.declared.graph.Node.{Node}
use Rattle.if1_graph.specs.Units.{label_of, node_at}
use Rattle.typed_tree.specs.declared.program.Function.{Function}
use Rattle.typed_tree.specs.declared.program.Program.{Program}
use Rattle.lowering.specs.declared.graph.Action.{Action}
use Rattle.lowering.specs.declared.graph.Action.TheVariants.{Row, Call, Whole}
use Rattle.lowering.specs.declared.graph.LoweredNode.{LoweredNode}
use Rattle.lowering.specs.declared.graph.Lowered.{Lowered}
use Rattle.lowering.specs.Graphs.{size, numbers, closed}
use Rattle.lowered_units.specs.Listed.{ListedNode, ListedGraph, NodeListing, listing, node_listing}
use Rattle.lowered_units.specs.Units.{listed_node, listed_nodes, inner_graphs, name_of, function_graph, function_listings}
use Rattle.lowered_units.proofs.OneUnit.{node-listing-at, nodes_in, head_of, inside_in, nil-is-no-cons, heads, tails}
use Rattle.lowered_units.proofs.Heads.{In, listing-is}

-- ---- lists

same-some : {A : Type 0} (x y : A) → Some x ≡ Some y → x ≡ y
same-some x y e = cc

-- ---- nodes

abbrev pub row_of : Node → ListedNode
row_of n = (node_listing n).node

pub label-is : (n : Node) → (row_of n).label ≡ label_of n
label-is n = ap (λ (i : NodeListing). i.node.label) (node-listing-at n)

listed-label : (label : ℕ) (v : LoweredNode) → (listed_node label v.action).label ≡ label
listed-label label v = by v.action
  where
    by : (a : Action) → (listed_node label a).label ≡ label
    by (Row op) = refl
    by (Call f) = refl
    by (Whole c gs arms given outs) = refl

-- nodes are listed as these lowered nodes, one for one
abbrev pub Match : ℕ → List Node → List LoweredNode → Type 0
Match label [] [] = Unit {0}
Match label (n ∷ ns) (v ∷ vs) = (row_of n ≡ listed_node label v.action) × Match (suc label) ns vs
Match label _ _ = ⊥

pub match : (label : ℕ) (ns : List Node) (vs : List LoweredNode) → nodes_in ns ≡ listed_nodes label vs → Match label ns vs
match label [] [] e = tt
match label [] (v ∷ vs) e = nil-is-no-cons (listed_node label v.action) (listed_nodes (suc label) vs) e
match label (n ∷ ns) [] e = nil-is-no-cons (row_of n) (nodes_in ns) (sym e)
match label (n ∷ ns) (v ∷ vs) e =
    (heads (row_of n) (listed_node label v.action) (nodes_in ns) (listed_nodes (suc label) vs) e, match (suc label) ns vs (tails (row_of n) (listed_node label v.action) (nodes_in ns) (listed_nodes (suc label) vs) e))

-- the node of a label, the lowered node beside it, and that it is one of them
pub record Standing (ns : List Node) (label : ℕ) (n : Node) (v : LoweredNode) : Type 0 where
  pub found : node_at ns label ≡ Some n
  pub listed : row_of n ≡ listed_node label v.action
  pub there : In n ns

pub label-at : (label : ℕ) (n : Node) (v : LoweredNode) → row_of n ≡ listed_node label v.action → label_of n ≡ label
label-at label n v e = sym (label-is n) ∙ (ap (λ (x : ListedNode). x.label) e ∙ listed-label label v)

pub none-before : (label : ℕ) (ns : List Node) (vs : List LoweredNode) → Match label ns vs → (l : ℕ) → l < label → node_at ns l ≡ None
none-before label [] [] m l h = refl
none-before label [] (v ∷ vs) m l h = absurd m
none-before label (n ∷ ns) [] m l h = absurd m
none-before label (n ∷ ns) (v ∷ vs) m l h =
    elim (eqb_tells (label_of n) l) [
      | inl t ↦ absurd (omega (arith, t.1, label-at label n v m.0, h))
      | inr f ↦ ap (λ b. cond b (Some n) (node_at ns l)) f.0 ∙ none-before (suc label) ns vs m.1 l (omega (arith, h))
    ]

pub standing : (label : ℕ) (ns : List Node) (vs : List LoweredNode) → Match label ns vs → (i : ℕ) (n : Node) (v : LoweredNode) → slice_get ns i ≡ Some n → slice_get vs i ≡ Some v → Standing ns (label + i) n v
standing label [] vs m i n v e k = absurd cc
standing label (x ∷ ns) [] m i n v e k = absurd m
standing label (x ∷ ns) (y ∷ vs) m zero n v e k =
    let xn = same-some x n e in
    let yv = same-some y v k in
    let at : label_of x ≡ label + 0 = label-at label x y m.0 ∙ omega arith in
    record {
      found = elim (eqb_tells (label_of x) (label + 0)) [ inl t ↦ ap (λ b. cond b (Some x) (node_at ns (label + 0))) t.0 ∙ ap Some xn | inr f ↦ absurd (f.1 at) ];
      listed = ap row_of (sym xn) ∙ (m.0 ∙ (ap (λ l. listed_node l y.action) (omega arith) ∙ ap (λ (z : LoweredNode). listed_node (label + 0) z.action) yv));
      there = inl (sym xn);
    }
standing label (x ∷ ns) (y ∷ vs) m (suc i) n v e k =
    let rest = standing (suc label) ns vs m.1 i n v e k in
    let at : label_of x ≡ label = label-at label x y m.0 in
    record {
      found = elim (eqb_tells (label_of x) (label + suc i)) [
        | inl t ↦ absurd (omega (arith, t.1, at))
        | inr f ↦ ap (λ b. cond b (Some x) (node_at ns (label + suc i))) f.0 ∙ (ap (node_at ns) (omega arith) ∙ rest.found)
      ];
      listed = rest.listed ∙ ap (λ l. listed_node l v.action) (omega arith);
      there = inr rest.there;
    }

-- ---- functions

-- the first graph of a name is that of the function of the name
pub record Called (p : Program) (gs : List Graph) (f : Function) (q : ℕ) : Type 0 where
  pub graph : Graph
  pub found : find (λ g. bytes_eq (out-Graph g).name (name_of p f)) gs ≡ Some graph
  pub number : (out-Graph graph).number ≡ q

pub called : (p : Program) (place q : ℕ) (fs : List Function) (ms : List Lowered) (gs : List Graph) → length fs ≡ length ms → map listing gs ≡ function_listings p place q fs ms
    → (i : ℕ) (f : Function) → slice_get fs i ≡ Some f → ((j : ℕ) (h : Function) → slice_get fs j ≡ Some h → name_of p h ≡ name_of p f → j ≡ i) → Called p gs f (get_or (numbers q ms) i 0)
called p place q [] ms gs l e i f s d = absurd cc
called p place q (x ∷ fs) [] gs l e i f s d = absurd (omega (arith, l))
called p place q (x ∷ fs) (m ∷ ms) [] l e i f s d =
    nil-is-no-cons (function_graph p place x q (closed [] 0 0 m) ∷ inner_graphs p (suc q) m.graphs) (function_listings p (suc place) (q + size m) fs ms) e
called p place q (x ∷ fs) (m ∷ ms) (g ∷ gs) l e i f s d =
    let here = sym (listing-is g) ∙ heads (listing g) (function_graph p place x q (closed [] 0 0 m) ∷ inner_graphs p (suc q) m.graphs) (map listing gs) (function_listings p (suc place) (q + size m) fs ms) e in
    let head = heads (head_of g) (function_graph p place x q (closed [] 0 0 m)) (inside_in (out-Graph g).nodes) (inner_graphs p (suc q) m.graphs) here in
    let rest = tails (listing g) (function_graph p place x q (closed [] 0 0 m) ∷ inner_graphs p (suc q) m.graphs) (map listing gs) (function_listings p (suc place) (q + size m) fs ms) e in
    by i s d (ap (λ (y : ListedGraph). y.name) head) (ap (λ (y : ListedGraph). y.number) head)
    (λ k t n. called p (suc place) (q + size m) fs ms gs (omega (arith, l)) rest k f t n)
  where
    by : (i : ℕ) → slice_get (x ∷ fs) i ≡ Some f → ((j : ℕ) (h : Function) → slice_get (x ∷ fs) j ≡ Some h → name_of p h ≡ name_of p f → j ≡ i) → (out-Graph g).name ≡ name_of p x → (out-Graph g).number ≡ q
        → ((k : ℕ) → slice_get fs k ≡ Some f → ((j : ℕ) (h : Function) → slice_get fs j ≡ Some h → name_of p h ≡ name_of p f → j ≡ k) → Called p gs f (get_or (numbers (q + size m) ms) k 0))
        → Called p (g ∷ gs) f (get_or (numbers q (m ∷ ms)) i 0)
    by zero s d name number later = record {
      graph = g;
      found = ap (λ b. cond b (Some g) (find (λ g. bytes_eq (out-Graph g).name (name_of p f)) gs)) ((bytes_eq-Decides (out-Graph g).name (name_of p f)).1 (name ∙ ap (name_of p) (same-some x f s)));
      number = number;
    }
    by (suc k) s d name number later =
        let r = later k s (λ j h t n. down j k (d (suc j) h t n)) in
        record {
          graph = r.graph;
          found = ap (λ b. cond b (Some g) (find (λ g. bytes_eq (out-Graph g).name (name_of p f)) gs)) (other (bytes_eq (out-Graph g).name (name_of p f)) refl) ∙ r.found;
          number = r.number;
        }
      where
        down : (j k : ℕ) → suc j ≡ suc k → j ≡ k
        down j k e = omega (arith, e)

        other : (b : Bool) → bytes_eq (out-Graph g).name (name_of p f) ≡ b → b ≡ false
        other true e = absurd (never (d 0 x refl (sym name ∙ (bytes_eq-Decides (out-Graph g).name (name_of p f)).0 e)))
          where
            never : 0 ≡ suc k → ⊥
            never e = omega (arith, e)
        other false e = refl
