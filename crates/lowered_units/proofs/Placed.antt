-- Graphs of a translated unit are numbered in the order of the text, and have their headers.
use Rattle.std.proofs.Common.{◌≡◌, ℕ, zero, suc, ◌+◌, ◌<◌, ◌≤◌, inl, inr, Bool, false, cond, ltb, List, [], ◌∷◌, ◌++◌, map, sum, take, length, refl, sym, ap, subst, ◌∙◌, arith, append-nil, append_assoc}
use Rattle.std.specs.Prelude.{All, filter}
use Rattle.std.specs.List.{flat_map}
use Rattle.std.proofs.Math.Seq.{take-append_seam}
use Rattle.std.proofs.lemmas.Bool.{le-ltb, lt-ltb}
use Rattle.std.proofs.lemmas.Grind.{flat_map-append}
use Rattle.std.proofs.lemmas.List.{length-append, length-map}
use Rattle.std.proofs.lemmas.List.Elements.{All-nil, All-cons, All-head, All-tail, All-append}
use Rattle.std.proofs.lemmas.List.Sums.{sum-map, sum_by-append, sum_by-cons, sum_by_push}
use Rattle.if1_graph.specs.Spelling.{IsName}
use Rattle.if1_graph.specs.declared.graph.Graph.{Graph}
use Rattle.if1_graph.specs.declared.graph.Graph.TheOpen.{Graph-F, Node-F}
use Rattle.if1_graph.specs.declared.graph.Graph.TheViews.{out-Graph, roll-Graph, out-roll-Graph, out-roll-Node}
use Rattle.if1_graph.specs.declared.graph.Graph.TheFolds.{fold-Node, fold_out-Graph, fold_out-Node, map-Graph, map-Node, ind-Graph}
use Rattle.if1_graph.specs.declared.graph.Node.{Node, roll-Node, out-Node}
use Rattle.if1_graph.specs.declared.graph.Unit1.{Unit1}
use Rattle.if1_graph.specs.Formed.{IsHeader}
use Rattle.if1_graph.specs.Ports.{count_from}
use Rattle.if1_graph.specs.Units.{size, sizes, size_before, label_of, most_levels, Home, Function, Inside, Place, each_from, places_of, places, graphs_before, IsNumbered}
use Rattle.typed_tree.specs.declared.program.Program.{Program}
use Rattle.lowered_units.specs.Listed.{ListedGraph, Listing, all_of, listing, node_listing}
use Rattle.lowered_units.proofs.Entries.{whole_listing, entry}
use Rattle.lowered_units.proofs.Heads.{In, in-left, in-right, listing-is, inside-is, Within}
use Rattle.lowered_units.proofs.Named.{match}
use Rattle.lowered_units.proofs.OneUnit.{inside_in, head_of, heads, tails}
use Rattle.lowered_units.proofs.Ordered.{labels-are}

-- ---- nodes by rising label

abbrev IsBelow : Node → Node → Type 0
IsBelow n m = label_of n < label_of m

abbrev Rise : List Node → Type 0
Rise [] = Unit {0}
Rise (n ∷ ns) = All (IsBelow n) ns × Rise ns

rise-from : (label : ℕ) (ns : List Node) → map label_of ns ≡ count_from label (length ns) → Rise ns
rise-from label [] e = tt
rise-from label (n ∷ ns) e =
    let here : label_of n ≡ label = heads (label_of n) label (map label_of ns) (count_from (suc label) (length ns)) e in
    let rest = tails (label_of n) label (map label_of ns) (count_from (suc label) (length ns)) e in
    (above (suc label) ns rest (λ m l. omega (arith, here, l)), rise-from (suc label) ns rest)
  where
    above : (from : ℕ) (ms : List Node) → map label_of ms ≡ count_from from (length ms) → ((m : Node) → from ≤ label_of m → label_of n < label_of m) → All (IsBelow n) ms
    above from [] e f = All-nil (IsBelow n)
    above from (m ∷ ms) e f =
        let at : label_of m ≡ from = heads (label_of m) from (map label_of ms) (count_from (suc from) (length ms)) e in
        All-cons (IsBelow n) m ms (f m (omega (arith, at))) (above (suc from) ms (tails (label_of m) from (map label_of ms) (count_from (suc from) (length ms)) e) (λ x l. f x (omega (arith, l))))

-- ---- nodes of a lower label

abbrev lower : Node → Node → Bool
lower n m = ltb (label_of m) (label_of n)

none_lower : (n : Node) (ns : List Node) → All (IsBelow n) ns → filter (lower n) ns ≡ []
none_lower n [] h = refl
none_lower n (m ∷ ns) h =
    let here : label_of n < label_of m = All-head (IsBelow n) m ns h in
    ap (λ (b : Bool). cond b (m ∷ filter (lower n) ns) (filter (lower n) ns)) (le-ltb (label_of m) (label_of n) (omega (arith, here)))
    ∙ none_lower n ns (All-tail (IsBelow n) m ns h)

in_front : (front : List Node) (n m : Node) (back : List Node) → All (IsBelow m) (front ++ n ∷ back) → IsBelow m n
in_front [] n m back h = All-head (IsBelow m) n back h
in_front (f ∷ front) n m back h = in_front front n m back (All-tail (IsBelow m) f (front ++ n ∷ back) h)

before : (front : List Node) (n : Node) (back : List Node) → Rise (front ++ n ∷ back) → filter (lower n) (front ++ n ∷ back) ≡ front
before [] n back r =
    ap (λ (b : Bool). cond b (n ∷ filter (lower n) back) (filter (lower n) back)) (le-ltb (label_of n) (label_of n) (omega arith))
    ∙ none_lower n back r.0
before (f ∷ front) n back r =
    ap (λ (b : Bool). cond b (f ∷ filter (lower n) (front ++ n ∷ back)) (filter (lower n) (front ++ n ∷ back)))
    (lt-ltb (label_of f) (label_of n) (in_front front n f back r.0))
    ∙ ap (λ ns. f ∷ ns) (before front n back r.1)

-- ---- the graphs inside nodes

abbrev pub inside : List Node → List Graph
inside ns = flat_map (λ n. (out-Node n).subs) ns

pub size_before_is : (front : List Node) (n : Node) (back : List Node) → Rise (front ++ n ∷ back) →
    size_before (front ++ n ∷ back) (label_of n) ≡ sizes (inside front)
size_before_is front n back r = ap (λ ns. sizes (inside ns)) (before front n back r)

pub sizes_append : (gs hs : List Graph) → sizes (gs ++ hs) ≡ sizes gs + sizes hs
sizes_append gs hs =
    omega (arith, sum-map size (gs ++ hs), sum_by-append size gs hs, sum-map size gs, sum-map size hs)

pub inside_push : (front : List Node) (n : Node) → sizes (inside (front ++ n ∷ [])) ≡ sizes (inside front) + sizes (out-Node n).subs
inside_push front n =
    ap sizes (flat_map-append (λ (n : Node). (out-Node n).subs) front (n ∷ []) ∙ ap (λ gs. inside front ++ gs) (append-nil (out-Node n).subs))
    ∙ sizes_append (inside front) (out-Node n).subs

-- ---- sizes

sum_cons : {A : Type 0} (f : A → ℕ) (x : A) (xs : List A) → sum (map f (x ∷ xs)) ≡ f x + sum (map f xs)
sum_cons f x xs = sum-map f (x ∷ xs) ∙ sum_by-cons f x xs ∙ ap (λ n. f x + n) (sym (sum-map f xs))

sum_push : {A : Type 0} (f : A → ℕ) (xs : List A) (x : A) → sum (map f (xs ++ x ∷ [])) ≡ sum (map f xs) + f x
sum_push f xs x = sum-map f (xs ++ x ∷ []) ∙ sum_by_push f xs x ∙ ap (λ n. n + f x) (sym (sum-map f xs))

node_size : Node → ℕ
node_size = fold-Node ℕ ℕ (λ g. suc (sum g.nodes)) (λ n. sum n.subs)

size_of_node : (n : Node) → node_size n ≡ sizes (out-Node n).subs
unfolding node_size
size_of_node n = fold_out-Node ℕ ℕ (λ g. suc (sum g.nodes)) (λ n. sum n.subs) n

size_of : (g : Graph) → size g ≡ suc (sum (map node_size (out-Graph g).nodes))
unfolding node_size
size_of g = fold_out-Graph ℕ ℕ (λ g. suc (sum g.nodes)) (λ n. sum n.subs) g

abbrev Sized : Graph → Type 0
Sized g = length (listing g) ≡ size g

abbrev NodeSized : Node → Type 0
NodeSized n = length (node_listing n).inside ≡ node_size n

nodes-sized : (ns : List ((n : Node) × NodeSized n)) → length (inside_in (map (λ n. n.0) ns)) ≡ sum (map node_size (map (λ n. n.0) ns))
nodes-sized [] = refl
nodes-sized (n ∷ ns) =
    let rest = map (λ (n : (n : Node) × NodeSized n). n.0) ns in
    omega (arith, length-append (node_listing n.0).inside (inside_in rest), n.1, nodes-sized ns, sum_cons node_size n.0 rest)

graphs-sized : (gs : List ((g : Graph) × Sized g)) → length (all_of (map listing (map (λ g. g.0) gs))) ≡ sizes (map (λ g. g.0) gs)
graphs-sized [] = refl
graphs-sized (g ∷ gs) =
    let rest = map (λ (g : (g : Graph) × Sized g). g.0) gs in
    omega (arith, length-append (listing g.0) (all_of (map listing rest)), g.1, graphs-sized gs, sum_cons size g.0 rest)

graph-sized : (g : Graph) → length (inside_in (out-Graph g).nodes) ≡ sum (map node_size (out-Graph g).nodes) → Sized g
graph-sized g h = ap length (listing-is g) ∙ (ap suc h ∙ sym (size_of g))

node-sized : (n : Node) → length (all_of (map listing (out-Node n).subs)) ≡ sizes (out-Node n).subs → NodeSized n
node-sized n h = ap length (inside-is n) ∙ (h ∙ sym (size_of_node n))

graph-layer : (y : Graph-F ((g : Graph) × Sized g) ((n : Node) × NodeSized n)) → Sized (roll-Graph (map-Graph ((g : Graph) × Sized g) ((n : Node) × NodeSized n) Graph Node (λ g. g.0) (λ n. n.0) y))
graph-layer y =
    let x : Graph-F Graph Node = map-Graph ((g : Graph) × Sized g) ((n : Node) × NodeSized n) Graph Node (λ g. g.0) (λ n. n.0) y in
    graph-sized (roll-Graph x) (subst (λ (z : Graph-F Graph Node). length (inside_in z.nodes) ≡ sum (map node_size z.nodes)) (sym (out-roll-Graph x)) (nodes-sized y.nodes))

node-layer : (y : Node-F ((g : Graph) × Sized g) ((n : Node) × NodeSized n)) → NodeSized (roll-Node (map-Node ((g : Graph) × Sized g) ((n : Node) × NodeSized n) Graph Node (λ g. g.0) (λ n. n.0) y))
node-layer y =
    let x : Node-F Graph Node = map-Node ((g : Graph) × Sized g) ((n : Node) × NodeSized n) Graph Node (λ g. g.0) (λ n. n.0) y in
    node-sized (roll-Node x) (subst (λ (z : Node-F Graph Node). length (all_of (map listing z.subs)) ≡ sizes z.subs) (sym (out-roll-Node x)) (graphs-sized y.subs))

sized : (g : Graph) → Sized g
sized = ind-Graph Sized NodeSized (λ x y is. subst (λ z. Sized (roll-Graph z)) is (graph-layer y)) (λ x y is. subst (λ z. NodeSized (roll-Node z)) is (node-layer y))

all-sized : (gs : List Graph) → length (all_of (map listing gs)) ≡ sizes gs
all-sized [] = refl
all-sized (g ∷ gs) = omega (arith, length-append (listing g) (all_of (map listing gs)), sized g, all-sized gs, sum_cons size g gs)

-- ---- numbered from a number on

abbrev pub From : ℕ → Listing → Type 0
From q [] = Unit {0}
From q (x ∷ xs) = (x.number ≡ q) × From (suc q) xs

from-left : (q : ℕ) (xs ys : Listing) → From q (xs ++ ys) → From q xs
from-left q [] ys h = tt
from-left q (x ∷ xs) ys h = (h.0, from-left (suc q) xs ys h.1)

from-right : (q : ℕ) (xs ys : Listing) → From q (xs ++ ys) → From (q + length xs) ys
from-right q [] ys h = subst (λ i. From i ys) (omega arith) h
from-right q (x ∷ xs) ys h = subst (λ i. From i ys) (omega arith) (from-right (suc q) xs ys h.1)

-- a part of a node has no type and no name, and other units do not call it
pub record IsInner (x : ListedGraph) : Type 0 where
  pub fun : x.fun ≡ 0
  pub exported : x.exported ≡ false
  pub name : x.name ≡ []

abbrev pub AreInner : Listing → Type 0
AreInner ls = (x : ListedGraph) → In x ls → IsInner x

pub record IsPlaced (u : Unit1) (x : Place) : Type 0 where
  pub numbered : IsNumbered u x
  pub header : IsHeader u x.graph x.home

abbrev at : Home → Graph → Place
at home g = record { graph = g; home = home }

abbrev first_inside : Graph → Node → ℕ
first_inside outer n = suc ((out-Graph outer).number + size_before (out-Graph outer).nodes (label_of n))

module _ (p : Program) (u : Unit1) where
  abbrev Walks : ℕ → Type 0
  Walks more = (home : Home) (g : Graph) → Within (listing g) (whole_listing p) → From (suc (graphs_before u home)) (listing g) → IsHeader u g home → AreInner (inside_in (out-Graph g).nodes) → All (IsPlaced u) (places_of more home g)

  head-in : (s : Graph) (gs : List Graph) → In (head_of s) (all_of (map listing (s ∷ gs)))
  head-in s gs = in-left (head_of s) (listing s) (all_of (map listing gs)) (subst (In (head_of s)) (sym (listing-is s)) (inl refl))

  parts-placed : (more : ℕ) → Walks more → (outer : Graph) (n : Node) (k : ℕ) (done gs : List Graph) → (out-Node n).subs ≡ done ++ gs → k ≡ length done → (next : ℕ) → From next (all_of (map listing gs)) → next ≡ first_inside outer n + sizes done
      → AreInner (all_of (map listing gs)) → Within (all_of (map listing gs)) (whole_listing p) → All (IsPlaced u) (each_from (λ k s. places_of more (Inside outer n k) s) k gs)
  parts-placed more walk outer n k done [] are at_k next c e inner w = All-nil (IsPlaced u)
  parts-placed more walk outer n k done (s ∷ gs) are at_k next c e inner w =
      let taken : take k (out-Node n).subs ≡ done = ap (λ (j : ℕ). take j (out-Node n).subs) at_k ∙ ap (λ (xs : List Graph). take (length done) xs) are ∙ take-append_seam done (s ∷ gs) in
      let begin : next ≡ suc (graphs_before u (Inside outer n k)) = omega (arith, e, ap sizes taken) in
      let after : (out-Node n).subs ≡ (done ++ s ∷ []) ++ gs = are ∙ sym (append_assoc done (s ∷ []) gs) in
      let at_next : suc k ≡ length (done ++ s ∷ []) = omega (arith, at_k, length-append done (s ∷ [])) in
      let head = inner (head_of s) (head-in s gs) in
      All-append (IsPlaced u) (places_of more (Inside outer n k) s) (each_from (λ k s. places_of more (Inside outer n k) s) (suc k) gs)
      (walk (Inside outer n k) s (λ x i. w x (in-left x (listing s) (all_of (map listing gs)) i)) (subst (λ q. From q (listing s)) begin (from-left next (listing s) (all_of (map listing gs)) c))
      (head.fun, head.exported, subst IsName (sym head.name) refl)
      (λ x i. inner x (in-left x (listing s) (all_of (map listing gs)) (subst (In x) (sym (listing-is s)) (inr i)))))
      (parts-placed more walk outer n (suc k) (done ++ s ∷ []) gs after at_next (next + length (listing s)) (from-right next (listing s) (all_of (map listing gs)) c) (omega (arith, e, sum_push size done s, sized s))
      (λ x i. inner x (in-right x (listing s) (all_of (map listing gs)) i)) (λ x i. w x (in-right x (listing s) (all_of (map listing gs)) i)))

  nodes-placed : (more : ℕ) → Walks more → (g : Graph) → Rise (out-Graph g).nodes → (front ns : List Node) → (out-Graph g).nodes ≡ front ++ ns → (next : ℕ) → From next (inside_in ns) → next ≡ suc (out-Graph g).number + sizes (inside front)
      → AreInner (inside_in ns) → Within (inside_in ns) (whole_listing p) → All (IsPlaced u) (flat_map (λ n. each_from (λ k s. places_of more (Inside g n k) s) 0 (out-Node n).subs) ns)
  nodes-placed more walk g up front [] are next c e inner w = All-nil (IsPlaced u)
  nodes-placed more walk g up front (n ∷ ns) are next c e inner w =
      let is = inside-is n in
      let lower : size_before (out-Graph g).nodes (label_of n) ≡ sizes (inside front) = ap (λ (xs : List Node). size_before xs (label_of n)) are ∙ size_before_is front n ns (subst Rise are up) in
      let after : (out-Graph g).nodes ≡ (front ++ n ∷ []) ++ ns = are ∙ sym (append_assoc front (n ∷ []) ns) in
      let long : length (node_listing n).inside ≡ sizes (out-Node n).subs = ap length is ∙ all-sized (out-Node n).subs in
      All-append (IsPlaced u) (each_from (λ k s. places_of more (Inside g n k) s) 0 (out-Node n).subs) (flat_map (λ n. each_from (λ k s. places_of more (Inside g n k) s) 0 (out-Node n).subs) ns)
      (parts-placed more walk g n 0 [] (out-Node n).subs refl refl next (subst (From next) is (from-left next (node_listing n).inside (inside_in ns) c)) (omega (arith, e, lower))
      (λ x i. inner x (in-left x (node_listing n).inside (inside_in ns) (subst (In x) (sym is) i))) (λ x i. w x (in-left x (node_listing n).inside (inside_in ns) (subst (In x) (sym is) i))))
      (nodes-placed more walk g up (front ++ n ∷ []) ns after (next + length (node_listing n).inside) (from-right next (node_listing n).inside (inside_in ns) c) (omega (arith, e, inside_push front n, long))
      (λ x i. inner x (in-right x (node_listing n).inside (inside_in ns) i)) (λ x i. w x (in-right x (node_listing n).inside (inside_in ns) i)))

  rise-of : (g : Graph) → In (head_of g) (whole_listing p) → Rise (out-Graph g).nodes
  rise-of g h =
      let ns = (out-Graph g).nodes in
      let e = entry p (head_of g) h in
      let labels = labels-are 1 ns e.graph.nodes (match 1 ns e.graph.nodes e.nodes) in
      let same : length ns ≡ length e.graph.nodes = sym (length-map ns label_of) ∙ (ap length labels ∙ size-of 1 (length e.graph.nodes)) in
      rise-from 1 ns (labels ∙ ap (count_from 1) (sym same))
    where
      size-of : (l n : ℕ) → length (count_from l n) ≡ n
      size-of l zero = refl
      size-of l (suc n) = ap suc (size-of (suc l) n)

  graph-placed : (more : ℕ) → Walks more
  graph-placed zero home g w c h inner =
      let d = subst (From (suc (graphs_before u home))) (listing-is g) c in
      All-cons (IsPlaced u) (at home g) [] (record { numbered = d.0; header = h }) (All-nil (IsPlaced u))
  graph-placed (suc more) home g w c h inner =
      let d = subst (From (suc (graphs_before u home))) (listing-is g) c in
      let up = rise-of g (w (head_of g) (subst (In (head_of g)) (sym (listing-is g)) (inl refl))) in
      All-cons (IsPlaced u) (at home g) (flat_map (λ n. each_from (λ k s. places_of more (Inside g n k) s) 0 (out-Node n).subs) (out-Graph g).nodes) (record { numbered = d.0; header = h })
      (nodes-placed more (graph-placed more) g up [] (out-Graph g).nodes refl (suc (suc (graphs_before u home))) d.1 (omega (arith, d.0)) inner (λ x i. w x (subst (In x) (sym (listing-is g)) (inr i))))

  functions-placed : (more k : ℕ) (done gs : List Graph) → u.graphs ≡ done ++ gs → k ≡ length done → (next : ℕ) → From next (all_of (map listing gs)) → next ≡ suc (sizes done) → Within (all_of (map listing gs)) (whole_listing p)
      → ((g : Graph) → In g gs → ((k : ℕ) → IsHeader u g (Function k)) × AreInner (inside_in (out-Graph g).nodes)) → All (IsPlaced u) (each_from (λ k g. places_of more (Function k) g) k gs)
  functions-placed more k done [] are at_k next c e w h = All-nil (IsPlaced u)
  functions-placed more k done (g ∷ gs) are at_k next c e w h =
      let taken : take k u.graphs ≡ done = ap (λ (j : ℕ). take j u.graphs) at_k ∙ ap (λ (xs : List Graph). take (length done) xs) are ∙ take-append_seam done (g ∷ gs) in
      let begin : next ≡ suc (graphs_before u (Function k)) = omega (arith, e, ap sizes taken) in
      let after : u.graphs ≡ (done ++ g ∷ []) ++ gs = are ∙ sym (append_assoc done (g ∷ []) gs) in
      let at_next : suc k ≡ length (done ++ g ∷ []) = omega (arith, at_k, length-append done (g ∷ [])) in
      let here = h g (inl refl) in
      All-append (IsPlaced u) (places_of more (Function k) g) (each_from (λ k g. places_of more (Function k) g) (suc k) gs)
      (graph-placed more (Function k) g (λ x i. w x (in-left x (listing g) (all_of (map listing gs)) i)) (subst (λ q. From q (listing g)) begin (from-left next (listing g) (all_of (map listing gs)) c)) (here.0 k) here.1)
      (functions-placed more (suc k) (done ++ g ∷ []) gs after at_next (next + length (listing g)) (from-right next (listing g) (all_of (map listing gs)) c) (omega (arith, e, sum_push size done g, sized g))
      (λ x i. w x (in-right x (listing g) (all_of (map listing gs)) i)) (λ x i. h x (inr i)))

  pub all-placed : From 1 (all_of (map listing u.graphs)) → Within (all_of (map listing u.graphs)) (whole_listing p) → ((g : Graph) → In g u.graphs → ((k : ℕ) → IsHeader u g (Function k)) × AreInner (inside_in (out-Graph g).nodes)) → All (IsPlaced u) (places u)
  all-placed c w h = functions-placed most_levels 0 [] u.graphs refl refl 1 c refl w h
