-- The graph of lines that have ended, and what it makes of the lines around it.
use Rattle.std.proofs.Common.{◌≡◌, ℕ, suc, ◌<◌, ◌≤◌, Bool, true, false, ltb, ◌&&◌, List, [], ◌∷◌, ◌++◌, map, get_or, ◌⊎◌, inl, inr, refl, sym, ap, subst, ◌∙◌, arith, append-nil}
use Rattle.std.specs.Prelude.{◌==◌, All, AllPairs}
use Rattle.std.specs.List.Sorted.{IsStrictlyIncreasing, IsNonDecreasingBy, IsPermutation}
use Rattle.std.proofs.lemmas.Bool.{ltb-true, ltb-false}
use Rattle.std.proofs.lemmas.List.Elements.{All-nil, All-cons, All-append, All-weaker, All-map, All-contains}
use Rattle.std.proofs.lemmas.List.Sorted.{All-permutation, IsPermutation-sym, IsPermutation-map, length_permutation}
use Rattle.if1_graph.specs.declared.line.Line.{Line}
use Rattle.if1_graph.specs.declared.line.Line.TheVariants as line
use Rattle.if1_graph.specs.Spelling.{IsLabel, IsName, IsQuotable}
use Rattle.if1_graph.specs.declared.graph.Graph.{Graph}
use Rattle.if1_graph.specs.declared.graph.Graph.TheViews.{out-Graph}
use Rattle.if1_graph.specs.declared.graph.Node.{Node, out-Node}
use Rattle.if1_graph.specs.declared.graph.Edge.{Edge}
use Rattle.if1_graph.specs.declared.graph.Unit1.{Unit1}
use Rattle.if1_graph.specs.Units.{label_of}
use Rattle.if1_graph.specs.Formed.{IsEdge, IsWholeType}
use Rattle.if1_graph.specs.Normal.{Precedes, canonical_edge}
use Rattle.if1_graph.specs.Reads.{GivesParts, GivesUnit, AreNodes, AreEdges, into_port, no_part, part, no_graph, function}
use Rattle.if1_read.specs.declared.judge.Known.{Known}
use Rattle.if1_read.specs.Like.{IsSameGraph, IsLike, graph}
use Rattle.if1_read.specs.Known.{IsTableSound, IsClear, Fits}
use Rattle.if1_read.specs.Fine.{IsNodeFine, IsPartHeader, AreFineWithin, graph as fine_graph, no_part as fine_none, part as fine_part}
use Rattle.if1_read.specs.Made.{IsBounded, edge_place, IsEdgeMade, IsBodyMade, PartsMade, ArePartsMade, IsFunctionFine, FunctionsMade, AreFunctionsMade}
use Rattle.if1_read.proofs.Giving.{parts_more, unit_more}
use Rattle.if1_read.proofs.Likeness.{last_graph, labels_like, count_like, Pairs, renaming, filter_mapped, map_same, nodes_renamed, like_renamed, rising_alone}
use Rattle.if1_read.proofs.Marking.{clear_there, clear_free}
use Rattle.if1_read.proofs.Ending.{canon, IsRight, canon_is, EdgeFine, edge_fine, bounded, in_order, none_into, GraphMade}

-- the graph has the nodes by rising label, and the edges by port with literals in canonical spelling
pub record Ends (k : Known) (exported : Bool) (fun : ℕ) (name : List ℕ) (ns : List Node) (es : List Edge) (g : Graph) : Type 0 where
  pub exported_is : (out-Graph g).exported ≡ exported
  pub fun_is : (out-Graph g).fun ≡ fun
  pub name_is : (out-Graph g).name ≡ name
  pub rising : IsStrictlyIncreasing (map label_of (out-Graph g).nodes)
  pub these : IsPermutation ns (out-Graph g).nodes
  pub nodes : AreNodes (out-Graph g).nodes ns
  pub sorted : List Edge
  pub order : IsNonDecreasingBy edge_place sorted
  pub all : IsPermutation es sorted
  pub ports : All IsBounded es → (l port : ℕ) → l < 4294967296 → port < 4294967296 → into_port l port sorted ≡ into_port l port es
  pub edges : (out-Graph g).edges ≡ map (canon k (out-Graph g).nodes) sorted
  pub literals : All (IsRight k (out-Graph g).nodes) sorted

-- ---- edges by their ports

below_if : (m n : ℕ) (b : Bool) → ltb m n ≡ b → (m < n) ⊎ (n ≤ m)
below_if m n true e = inl (ltb-true m n e)
below_if m n false e = inr (ltb-false m n e)

cases_below : (m n : ℕ) → (m < n) ⊎ (n ≤ m)
cases_below m n = below_if m n (ltb m n) refl

same_into : (es sorted : List Edge) → ((l port : ℕ) → l < 4294967296 → port < 4294967296 → into_port l port sorted ≡ into_port l port es) → All IsBounded es →
    All IsBounded sorted → (l port : ℕ) → into_port l port sorted ≡ into_port l port es
same_into es sorted ports b c l port = elim (cases_below l 4294967296) [
  | inl x ↦ elim (cases_below port 4294967296) [
    | inl y ↦ ports l port x y
    | inr y ↦ none_into l port sorted c (λ s t. omega (arith, y, t)) ∙ sym (none_into l port es b (λ s t. omega (arith, y, t)))
  ]
  | inr x ↦ none_into l port sorted c (λ s t. omega (arith, x, s)) ∙ sym (none_into l port es b (λ s t. omega (arith, x, s)))
]

-- ---- the graph

module _ (k : Known) (exported : Bool) (fun : ℕ) (name : List ℕ) (ns : List Node) (es : List Edge) (g : Graph) (sound : IsTableSound k.table) (ends : Ends k exported fun name ns es g) where
  graph_made : (u : Unit1) (m : ℕ) (b : List Line) (h : Graph) → Fits k u → IsBodyMade k m b ns es → IsLike g h → GraphMade u m b h es
  graph_made u m b h fits body (graph g0 h0 same like) =
      let ys : List Node = (out-Graph g).nodes in
      let hs : List Node = (out-Graph h).nodes in
      let r = renaming ys hs like (rising_alone ys ends.rising) in
      let pairs = All-permutation (λ n. Pairs n (r.to n)) ys ns (IsPermutation-sym ns ys ends.these) r.pairs in
      let made = body.nodes u fits (map r.to ns) (like_renamed ns r.to pairs) in
      let moved : IsPermutation (map r.to ns) hs = subst (IsPermutation (map r.to ns)) r.is (IsPermutation-map r.to ns ys ends.these) in
      let sorted_made : All (IsEdgeMade k) ends.sorted = All-permutation (IsEdgeMade k) es ends.sorted ends.all body.edges in
      let c : Edge → Edge = canon k ys in
      let fs_are : (out-Graph h).edges ≡ map c ends.sorted = same.edges_are ∙ ends.edges in
      let fine : All (λ e. EdgeFine k u h ys fits like (c e)) ends.sorted =
      λ i d lt. edge_fine k u h ys fits like (get_or ends.sorted i d) sound (sorted_made i d lt) (ends.literals i d lt) in
      let edges_fine : All (EdgeFine k u h ys fits like) (out-Graph h).edges =
      subst (All (EdgeFine k u h ys fits like)) (sym fs_are) (All-map (EdgeFine k u h ys fits like) c ends.sorted fine) in
      let bounds : All IsBounded es = All-weaker (IsEdgeMade k) IsBounded (bounded k) es body.edges in
      let sorted_bounds : All IsBounded ends.sorted = All-weaker (IsEdgeMade k) IsBounded (bounded k) ends.sorted sorted_made in
      let ported : AreEdges u h (out-Graph h).edges es =
      λ l port.
      ap (into_port l port) fs_are
      ∙ filter_mapped (λ e. (e.node == l) && (e.port == port)) (λ e. (e.node == l) && (e.port == port)) c ends.sorted (λ e. refl)
      ∙ ap (map c) (same_into es ends.sorted (ends.ports bounds) bounds sorted_bounds l port)
      ∙ map_same c (canonical_edge u h) (into_port l port es) (λ i d lt. sym (canon_is k u h ys fits like (get_or (into_port l port es) i d))) in
      record {
        nodes = map r.to ns;
        gives = made.gives;
        same = record { nodes = nodes_renamed ns ys hs r ends.nodes; edges = ported };
        fine =
            fine_graph m h
            (record {
              nodes = All-permutation IsNodeFine (map r.to ns) hs moved made.nodes;
              rising = subst IsStrictlyIncreasing (sym (labels_like ys hs like)) ends.rising;
              few = omega (arith, count_like ys hs like, length_permutation ns ys ends.these, body.few);
              edges = All-weaker (EdgeFine k u h ys fits like) (IsEdge u h) (λ e x. x.edge) (out-Graph h).edges edges_fine;
              order = subst (AllPairs Precedes) (sym fs_are) (in_order k ys ends.sorted ends.order sorted_made);
              literals = All-weaker (EdgeFine k u h ys fits like) (λ e. canonical_edge u h e ≡ e) (λ e x. x.stays) (out-Graph h).edges edges_fine;
            })
            (λ n here. All-contains (λ n. AreFineWithin u m (out-Node n).subs) hs n (All-permutation (λ n. AreFineWithin u m (out-Node n).subs) (map r.to ns) hs moved made.parts) here);
      }

same_of : (g h : Graph) → IsLike g h → IsSameGraph g h
same_of g h (graph g0 h0 same like) = same

fine_more : (u : Unit1) (m : ℕ) (gs hs : List Graph) → AreFineWithin u m gs → AreFineWithin u m hs → AreFineWithin u m (gs ++ hs)
fine_more u m gs hs (fine_none m0) h = h
fine_more u m gs hs (fine_part l g gs0 header within rest) h = fine_part l g (gs0 ++ hs) header within (fine_more u (suc l) gs0 hs rest h)

-- ---- one more graph in a node

pub parts_more_made : (k : Known) (m : ℕ) (ls b : List Line) (gs : List Graph) (name : List ℕ) (ns : List Node) (es : List Edge) (g : Graph) → IsTableSound k.table →
    ArePartsMade k (suc m) ls gs → IsName name → IsBodyMade k m b ns es → Ends k false 0 name ns es g → ArePartsMade k (suc m) (ls ++ (line.Subgraph name ∷ b)) (gs ++ g ∷ [])
parts_more_made k m ls b gs name ns es g sound made named body ends u fits hs like =
    let t = last_graph gs g hs like in
    let front = made u fits t.front t.like in
    let last = graph_made k false 0 name ns es g sound ends u m b t.last fits body t.same in
    let same = same_of g t.last t.same in
    let name_is : (out-Graph t.last).name ≡ name = same.name_is ∙ ends.name_is in
    let here : GivesParts u (line.Subgraph name ∷ b) (t.last ∷ []) =
    subst (λ (ls : List Line). GivesParts u ls (t.last ∷ [])) (append-nil (line.Subgraph name ∷ b))
    (subst (λ (x : List ℕ). GivesParts u ((line.Subgraph x ∷ b) ++ []) (t.last ∷ [])) name_is (part t.last last.gives last.same no_part)) in
    let header : IsPartHeader t.last = record {
      fun = same.fun_is ∙ ends.fun_is;
      inner = same.exported_is ∙ ends.exported_is;
      name = subst IsName (sym name_is) named;
    } in
    subst (PartsMade u (suc m) (ls ++ (line.Subgraph name ∷ b))) (sym t.is)
    (record {
      gives = parts_more u ls (line.Subgraph name ∷ b) t.front (t.last ∷ []) front.gives here;
      fine = fine_more u (suc m) t.front (t.last ∷ []) front.fine (fine_part m t.last [] header last.fine (fine_none (suc m)));
    })

-- ---- one more function

whole_type : (k : Known) (u : Unit1) (l : ℕ) → IsTableSound k.table → Fits k u → IsLabel l → IsClear k.table l → IsWholeType u.types l
whole_type k u l sound fits label clear =
    subst (λ ts. IsWholeType ts l) (sym fits.types) (label, clear_there k.table l clear, clear_free k.table l sound clear)

pub functions_more_made : (k : Known) (m : ℕ) (ls b : List Line) (is : List (ℕ × List ℕ)) (gs : List Graph) (exported : Bool) (fun : ℕ) (name : List ℕ) (ns : List Node) (es : List Edge)
    (g : Graph) → IsTableSound k.table → AreFunctionsMade k m ls is gs → IsLabel fun → IsQuotable name → IsClear k.table fun → IsBodyMade k m b ns es → Ends k exported fun name ns es g →
    AreFunctionsMade k m (ls ++ (line.Function exported fun name ∷ b)) is (gs ++ g ∷ [])
functions_more_made k m ls b is gs exported fun name ns es g sound made labelled quotable clear body ends u fits hs like =
    let t = last_graph gs g hs like in
    let front = made u fits t.front t.like in
    let last = graph_made k exported fun name ns es g sound ends u m b t.last fits body t.same in
    let same = same_of g t.last t.same in
    let name_is : (out-Graph t.last).name ≡ name = same.name_is ∙ ends.name_is in
    let fun_is : (out-Graph t.last).fun ≡ fun = same.fun_is ∙ ends.fun_is in
    let exported_is : (out-Graph t.last).exported ≡ exported = same.exported_is ∙ ends.exported_is in
    let whole : GivesUnit u ((line.Function (out-Graph t.last).exported (out-Graph t.last).fun (out-Graph t.last).name ∷ b) ++ []) [] (t.last ∷ []) =
    function t.last last.gives last.same no_graph in
    let named = subst (λ (x : List ℕ). GivesUnit u ((line.Function (out-Graph t.last).exported (out-Graph t.last).fun x ∷ b) ++ []) [] (t.last ∷ [])) name_is whole in
    let typed = subst (λ (x : ℕ). GivesUnit u ((line.Function (out-Graph t.last).exported x name ∷ b) ++ []) [] (t.last ∷ [])) fun_is named in
    let told = subst (λ (x : Bool). GivesUnit u ((line.Function x fun name ∷ b) ++ []) [] (t.last ∷ [])) exported_is typed in
    let here : GivesUnit u (line.Function exported fun name ∷ b) [] (t.last ∷ []) =
    subst (λ (ls : List Line). GivesUnit u ls [] (t.last ∷ [])) (append-nil (line.Function exported fun name ∷ b)) told in
    let header : IsFunctionFine u m t.last = record {
      fun = subst (IsWholeType u.types) (sym fun_is) (whole_type k u fun sound fits labelled clear);
      name = subst IsQuotable (sym name_is) quotable;
      within = last.fine;
    } in
    subst (FunctionsMade u m (ls ++ (line.Function exported fun name ∷ b)) is) (sym t.is)
    (record {
      gives =
          subst (λ js. GivesUnit u (ls ++ (line.Function exported fun name ∷ b)) js (t.front ++ t.last ∷ [])) (append-nil is)
          (unit_more u ls (line.Function exported fun name ∷ b) is [] t.front (t.last ∷ []) front.gives here);
      imports = front.imports;
      fine = All-append (IsFunctionFine u m) t.front (t.last ∷ []) front.fine (All-cons (IsFunctionFine u m) t.last [] header (All-nil (IsFunctionFine u m)));
    })
