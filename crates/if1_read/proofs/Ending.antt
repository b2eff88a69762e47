-- A graph whose lines have ended.
use Rattle.std.proofs.Common.{◌≡◌, ℕ, zero, suc, ◌+◌, ◌-◌, ◌*◌, ◌<◌, ◌≤◌, Bool, true, false, cond, ◌&&◌, ltb, List, [], ◌∷◌, map, length, get_or, Option, Some, None, IsSome, refl, sym, ap, subst, ◌∙◌, arith, ◌⊎◌, inl, inr}
use Rattle.std.specs.Prelude.{◌==◌, All, AllPairs, if◌then◌else◌}
use Rattle.std.specs.List.Sorted.{IsStrictlyIncreasing, IsNonDecreasingBy, IsPermutation}
use Rattle.std.proofs.lemmas.Bool.{eqb-true, ltb-true, ltb-false}
use Rattle.std.proofs.lemmas.Bool.Decides.{eqb_tells}
use Rattle.std.proofs.lemmas.List.Elements.{All-nil, All-cons, All-head, All-tail, All-weaker, All-map, All-contains}
use Rattle.std.proofs.lemmas.List.Sorted.{All-permutation, IsPermutation-sym, IsPermutation-map, length_permutation}
use Rattle.if1_graph.specs.declared.line.Line.{Line}
use Rattle.if1_graph.specs.Spelling.{IsSpelled, IsQuotable}
use Rattle.if1_graph.proofs.Decimals.{and_parts}
use Rattle.if1_graph.specs.declared.graph.Graph.{Graph}
use Rattle.if1_graph.specs.declared.graph.Graph.TheViews.{out-Graph}
use Rattle.if1_graph.specs.declared.graph.Node.{Node, out-Node}
use Rattle.if1_graph.specs.declared.graph.Edge.{Edge}
use Rattle.if1_graph.specs.declared.graph.Origin.{Origin}
use Rattle.if1_graph.specs.declared.graph.Origin.TheVariants.{Port, Lit}
use Rattle.if1_graph.specs.declared.graph.TypeEntry.{TypeEntry}
use Rattle.if1_graph.specs.declared.graph.Unit1.{Unit1}
use Rattle.if1_graph.specs.declared.row.Want.{Want}
use Rattle.if1_graph.specs.Kinds.{kind_at, basic_at}
use Rattle.if1_graph.specs.Types.{entry_at}
use Rattle.if1_graph.specs.Formed.{IsEdge, IsType, HasReal, IsLiteralFor, want_at}
use Rattle.if1_graph.specs.Lines.{origin_line}
use Rattle.if1_graph.specs.Normal.{Precedes, canonical, canonical_as, canonical_origin, canonical_edge}
use Rattle.if1_graph.specs.Reads.{GivesBody, AreEdges, IsGraphOf, into_port}
use Rattle.if1_read.specs.declared.judge.Known.{Known}
use Rattle.if1_read.specs.declared.part.Part.{Part}
use Rattle.if1_read.specs.Like.{IsLike, AreNodesLike, graph}
use Rattle.if1_read.specs.Known.{IsTableSound, IsClear, Fits, want_in, IsLiteralAt, canonical_from, IsLiteralFrom, IsCanonical}
use Rattle.if1_read.specs.Fine.{IsNodeFine, IsFineWithin, AreFineWithin, graph as fine_graph}
use Rattle.if1_read.specs.Made.{IsBounded, Each, none, more, place_of, edge_place, nodes_of, edges_of, Ends, NoLiteralTakes, IsEdgeMade, IsBodyMade}
use Rattle.if1_read.proofs.Likeness.{labels_like, count_like, want_like, Pairs, renaming, filter_mapped, map_same, nodes_renamed, like_renamed, rising_alone}
use Rattle.if1_read.proofs.Canonical.{spelled}
use Rattle.if1_read.proofs.Marking.{clear_there, clear_free}

-- ---- canonical edges

abbrev pub canon : Known → List Node → Edge → Edge
canon k ns e = record e { from = canonical_from k ns e e.from }

abbrev pub IsRight : Known → List Node → Edge → Type 0
IsRight k ns e = IsLiteralFrom k ns e e.from

each_canon : (k : Known) (ns : List Node) (es fs : List Edge) → Each (IsCanonical k ns) es fs → All (IsEdgeMade k) es →
    (fs ≡ map (canon k ns) es) × All (IsRight k ns) es
each_canon k ns es fs none clear = (refl, All-nil (IsRight k ns))
each_canon k ns es fs (more e f es0 fs0 is rest) clear =
    let here = is (All-head (IsEdgeMade k) e es0 clear).ty in
    let there = each_canon k ns es0 fs0 rest (All-tail (IsEdgeMade k) e es0 clear) in
    (ap (λ x. x ∷ fs0) here.1 ∙ ap (λ xs. canon k ns e ∷ xs) there.0, All-cons (IsRight k ns) e es0 here.0 there.1)

module _ (k : Known) (u : Unit1) (h : Graph) (ns : List Node) (fits : Fits k u) (like : AreNodesLike ns (out-Graph h).nodes) where
  origin_is : (e : Edge) (o : Origin) → canonical_origin u h e o ≡ canonical_from k ns e o
  origin_is e (Port node port) = refl
  origin_is e (Lit text) =
      ap Lit
      (ap (λ (w : Option Want). canonical_as w (entry_at u.types e.ty) text) (want_like ns (out-Graph h).nodes like e.node e.port)
      ∙ ap (λ (ts : List TypeEntry). canonical_as (want_in ns e.node e.port) (entry_at ts e.ty) text) fits.types)

  pub canon_is : (e : Edge) → canonical_edge u h e ≡ canon k ns e
  canon_is e = ap (λ (o : Origin). record e { from = o }) (origin_is e e.from)

  record Source (w : Option Want) (e : Edge) (text t : List ℕ) : Type 0 where
    quotable : IsQuotable t
    right : (entry : TypeEntry) → entry_at u.types e.ty ≡ Some entry → IsLiteralFor u.graphs (want_at h e.node e.port) t (kind_at entry.code) (basic_at entry.first)
    stays : canonical_as w (entry_at k.table.types e.ty) t ≡ t

  source_of : (e : Edge) (text : List ℕ) → IsQuotable text → IsLiteralAt k (want_in ns e.node e.port) e.ty text → (en : TypeEntry) → entry_at k.table.types e.ty ≡ Some en →
      Source (want_in ns e.node e.port) e text (canonical_as (want_in ns e.node e.port) (entry_at k.table.types e.ty) text)
  source_of e text q lit en eq =
      let w : Option Want = want_in ns e.node e.port in
      let s = spelled u.graphs w text (kind_at en.code) (basic_at en.first) (lit u.graphs fits.names en eq) q in
      let te : canonical_as w (entry_at k.table.types e.ty) text ≡ canonical w (kind_at en.code) (basic_at en.first) text = ap (λ (o : Option TypeEntry). canonical_as w o text) eq in
      record {
        quotable = subst IsQuotable (sym te) s.quotable;
        right = λ entry is.
            let other : entry_at k.table.types e.ty ≡ Some entry = sym (ap (λ (ts : List TypeEntry). entry_at ts e.ty) fits.types) ∙ is in
            let same : en ≡ entry = cc in
            let at_want = subst (λ (v : Option Want). IsLiteralFor u.graphs v (canonical w (kind_at en.code) (basic_at en.first) text) (kind_at en.code) (basic_at en.first))
            (sym (want_like ns (out-Graph h).nodes like e.node e.port)) s.right in
            let at_text = subst (λ (t : List ℕ). IsLiteralFor u.graphs (want_at h e.node e.port) t (kind_at en.code) (basic_at en.first)) (sym te) at_want in
            subst (λ (x : TypeEntry). IsLiteralFor u.graphs (want_at h e.node e.port) (canonical_as w (entry_at k.table.types e.ty) text) (kind_at x.code) (basic_at x.first)) same at_text;
        stays =
            ap (λ (o : Option TypeEntry). canonical_as w o (canonical_as w (entry_at k.table.types e.ty) text)) eq
            ∙ ap (λ (t : List ℕ). canonical w (kind_at en.code) (basic_at en.first) t) te
            ∙ s.stays ∙ sym te;
      }

  there : (o : Option TypeEntry) → IsSome o → (en : TypeEntry) × (o ≡ Some en)
  there None h = absurd cc
  there (Some en) h = (en, refl)

  pub record EdgeFine (e : Edge) : Type 0 where
    pub edge : IsEdge u h e
    pub stays : canonical_edge u h e ≡ e

  edge_at : (e : Edge) (o : Origin) → IsTableSound k.table → IsSpelled (origin_line e o) → NoLiteralTakes e o → IsClear k.table e.ty → IsLiteralFrom k ns e o →
      EdgeFine (record e { from = canonical_from k ns e o })
  edge_at e (Port node port) sound sp takes clear lit =
      let free : ¬ HasReal u.types e.ty = subst (λ (ts : List TypeEntry). ¬ HasReal ts e.ty) (sym fits.types) (clear_free k.table e.ty sound clear) in
      let is : IsType u.types e.ty = subst (λ (ts : List TypeEntry). IsType ts e.ty) (sym fits.types) (clear_there k.table e.ty clear) in
      record {
        edge = record { source = (sp.0, sp.1); node = sp.2; port = sp.3; ty = (sp.4, is, free); name = sp.5 };
        stays = refl;
      }
  edge_at e (Lit text) sound sp takes clear lit =
      let free : ¬ HasReal u.types e.ty = subst (λ (ts : List TypeEntry). ¬ HasReal ts e.ty) (sym fits.types) (clear_free k.table e.ty sound clear) in
      let is : IsType u.types e.ty = subst (λ (ts : List TypeEntry). IsType ts e.ty) (sym fits.types) (clear_there k.table e.ty clear) in
      let en = there (entry_at k.table.types e.ty) (clear_there k.table e.ty clear) in
      let s = source_of e text sp.3 lit en.0 en.1 in
      record {
        edge = record { source = (s.quotable, takes, s.right); node = sp.0; port = sp.1; ty = (sp.2, is, free); name = sp.4 };
        stays =
            canon_is (record e { from = Lit (canonical_as (want_in ns e.node e.port) (entry_at k.table.types e.ty) text) })
            ∙ ap (λ (t : List ℕ). record e { from = Lit t }) s.stays;
      }

  pub edge_fine : (e : Edge) → IsTableSound k.table → IsEdgeMade k e → IsRight k ns e → EdgeFine (canon k ns e)
  edge_fine e sound made right = edge_at e e.from sound made.spelled made.takes made.ty right

-- ---- the order of edges

bounded_at : (e : Edge) (o : Origin) → IsSpelled (origin_line e o) → IsBounded e
bounded_at e (Port node port) sp = record { node = omega (arith, sp.2); port = omega (arith, sp.3.1) }
bounded_at e (Lit text) sp = record { node = omega (arith, sp.0); port = omega (arith, sp.1.1) }

pub bounded : (k : Known) (e : Edge) → IsEdgeMade k e → IsBounded e
bounded k e made = bounded_at e e.from made.spelled

place_0 : (n p : ℕ) → n ≡ 0 → place_of n p ≡ 4294967295 * 4294967296 + p
place_0 n p e = ap (λ (x : ℕ). place_of x p) e

place_1 : (n p : ℕ) → (n ≡ 0 → ⊥) → place_of n p ≡ (n - 1) * 4294967296 + p
place_1 n p ne = elim (eqb_tells n 0) [ inl t ↦ absurd (ne t.1) | inr f ↦ ap (λ (b : Bool). (if b then 4294967295 else n - 1) * 4294967296 + p) f.0 ]

precedes : (e f : Edge) → IsBounded e → IsBounded f → edge_place e ≤ edge_place f → Precedes e f
precedes e f be bf h =
    elim (eqb_tells e.node 0) [
      | inl es ↦
          let ep = place_0 e.node e.port es.1 in
          elim (eqb_tells f.node 0) [
            | inl fs ↦ let fp = place_0 f.node f.port fs.1 in inl (es.1 ∙ sym fs.1, omega (arith, ep, fp, h))
            | inr fs ↦ let fp = place_1 f.node f.port fs.1 in absurd (omega (arith, ep, fp, h, bf.node, bf.port))
          ]
      | inr es ↦
          let ep = place_1 e.node e.port es.1 in
          let some : 1 ≤ e.node = omega (arith, es.1) in
          elim (eqb_tells f.node 0) [
            | inl fs ↦ inr (some, inr fs.1)
            | inr fs ↦
                let fp = place_1 f.node f.port fs.1 in
                elim (eqb_tells e.node f.node) [
                  | inl same ↦ inl (same.1, omega (arith, ep, fp, h, same.1))
                  | inr apart ↦ inr (some, inl (lower e.node f.node e.port f.port some (omega (arith, fs.1)) apart.1 be.port bf.port (omega (arith, ep, fp, h))))
                ]
          ]
    ]
  where
    lower : (m n p q : ℕ) → 1 ≤ m → 1 ≤ n → (m ≡ n → ⊥) → p < 4294967296 → q < 4294967296 → (m - 1) * 4294967296 + p ≤ (n - 1) * 4294967296 + q → m < n
    lower m n p q a b ne c d h = omega arith

got_mapped : (f : Edge → Edge) (xs : List Edge) (i : ℕ) (d : Edge) → i < length xs → get_or (map f xs) i d ≡ f (get_or xs i d)
got_mapped f [] i d h = absurd (omega (arith, h))
got_mapped f (x ∷ xs) zero d h = refl
got_mapped f (x ∷ xs) (suc i) d h = got_mapped f xs i d (omega (arith, h))

length_mapped : (f : Edge → Edge) (xs : List Edge) → length (map f xs) ≡ length xs
length_mapped f [] = refl
length_mapped f (x ∷ xs) = ap suc (length_mapped f xs)

pub in_order : (k : Known) (ns : List Node) (es : List Edge) → IsNonDecreasingBy edge_place es → All (IsEdgeMade k) es → AllPairs Precedes (map (canon k ns) es)
in_order k ns es up made i j d lt short =
    let c : Edge → Edge = canon k ns in
    let inside : j < length es = omega (arith, short, length_mapped c es) in
    let first : i < length es = omega (arith, lt, inside) in
    let a = get_or es i d in
    let b = get_or es j d in
    let p : Precedes (c a) (c b) = precedes a b (bounded k a (made i d first)) (bounded k b (made j d inside)) (up i j d (omega (arith, lt)) inside) in
    subst (λ (x : Edge). Precedes x (get_or (map c es) j d)) (sym (got_mapped c es i d first))
    (subst (λ (y : Edge). Precedes (c a) y) (sym (got_mapped c es j d inside)) p)

-- ---- edges by their ports

none_if : (b : Bool) (e : Edge) (es : List Edge) → (b ≡ true → ⊥) → es ≡ [] → cond b (e ∷ es) es ≡ []
none_if true e es ne h = absurd (ne refl)
none_if false e es ne h = h

pub none_into : (l port : ℕ) (es : List Edge) → All IsBounded es → (l < 4294967296 → port < 4294967296 → ⊥) → into_port l port es ≡ []
none_into l port [] b out = refl
none_into l port (e ∷ es) b out =
    none_if ((e.node == l) && (e.port == port)) e (into_port l port es)
    (λ t. let both = and_parts (e.node == l) (e.port == port) t in
    let here = All-head IsBounded e es b in
    out (omega (arith, here.node, eqb-true e.node l both.0)) (omega (arith, here.port, eqb-true e.port port both.1)))
    (none_into l port es (All-tail IsBounded e es b) out)

same_into : (k : Known) (p : Part) (g : Graph) (ends : Ends k p g) → All IsBounded (edges_of p) → All IsBounded ends.sorted →
    (l port : ℕ) → into_port l port ends.sorted ≡ into_port l port (edges_of p)
same_into k p g ends b c l port =
    elim (cases_below l 4294967296) [
      | inl x ↦
          elim (cases_below port 4294967296) [
            | inl y ↦ ends.ports b l port x y
            | inr y ↦
                none_into l port ends.sorted c (λ s t. omega (arith, y, t)) ∙ sym (none_into l port (edges_of p) b (λ s t. omega (arith, y, t)))
          ]
      | inr x ↦ none_into l port ends.sorted c (λ s t. omega (arith, x, s)) ∙ sym (none_into l port (edges_of p) b (λ s t. omega (arith, x, s)))
    ]
  where
    below_if : (m n : ℕ) (b : Bool) → ltb m n ≡ b → (m < n) ⊎ (n ≤ m)
    below_if m n true e = inl (ltb-true m n e)
    below_if m n false e = inr (ltb-false m n e)

    cases_below : (m n : ℕ) → (m < n) ⊎ (n ≤ m)
    cases_below m n = below_if m n (ltb m n) refl

-- ---- the graph

pub record GraphMade (u : Unit1) (m : ℕ) (b : List Line) (h : Graph) (es : List Edge) : Type 0 where
  pub nodes : List Node
  pub gives : GivesBody u b nodes es
  pub same : IsGraphOf u h nodes es
  pub fine : IsFineWithin u m h

pub graph_made : (k : Known) (u : Unit1) (m : ℕ) (b : List Line) (p : Part) (g h : Graph) → IsTableSound k.table → Fits k u →
    IsBodyMade k m b (nodes_of p) (edges_of p) → Ends k p g → IsLike g h → GraphMade u m b h (edges_of p)
graph_made k u m b p g h sound fits body ends (graph g0 h0 same like) =
    let ys : List Node = (out-Graph g).nodes in
    let hs : List Node = (out-Graph h).nodes in
    let ns : List Node = nodes_of p in
    let es : List Edge = edges_of p in
    let r = renaming ys hs like (rising_alone ys ends.rising) in
    let pairs = All-permutation (λ n. Pairs n (r.to n)) ys ns (IsPermutation-sym ns ys ends.these) r.pairs in
    let made = body.nodes u fits (map r.to ns) (like_renamed ns r.to pairs) in
    let moved : IsPermutation (map r.to ns) hs = subst (IsPermutation (map r.to ns)) r.is (IsPermutation-map r.to ns ys ends.these) in
    let sorted_made : All (IsEdgeMade k) ends.sorted = All-permutation (IsEdgeMade k) es ends.sorted ends.all body.edges in
    let canons = each_canon k ys ends.sorted (out-Graph g).edges ends.literals sorted_made in
    let c : Edge → Edge = canon k ys in
    let fs_are : (out-Graph h).edges ≡ map c ends.sorted = same.edges_are ∙ canons.0 in
    let fine : All (λ e. EdgeFine k u h ys fits like (c e)) ends.sorted =
    λ i d lt. edge_fine k u h ys fits like (get_or ends.sorted i d) sound (sorted_made i d lt) (canons.1 i d lt) in
    let edges_fine : All (EdgeFine k u h ys fits like) (out-Graph h).edges =
    subst (All (EdgeFine k u h ys fits like)) (sym fs_are) (All-map (EdgeFine k u h ys fits like) c ends.sorted fine) in
    let bounds : All IsBounded es = All-weaker (IsEdgeMade k) IsBounded (bounded k) es body.edges in
    let sorted_bounds : All IsBounded ends.sorted = All-weaker (IsEdgeMade k) IsBounded (bounded k) ends.sorted sorted_made in
    let ported : AreEdges u h (out-Graph h).edges es =
    λ l port.
    ap (into_port l port) fs_are
    ∙ filter_mapped (λ e. (e.node == l) && (e.port == port)) (λ e. (e.node == l) && (e.port == port)) c ends.sorted (λ e. refl)
    ∙ ap (map c) (same_into k p g ends bounds sorted_bounds l port)
    ∙ map_same c (canonical_edge u h) (into_port l port es) (λ i d lt. sym (canon_is k u h ys fits like (get_or (into_port l port es) i d))) in
    record {
      nodes = map r.to ns;
      gives = made.gives;
      same = record { nodes = nodes_renamed ns ys hs r ends.nodes; edges = ported };
      fine =
          fine_graph m h
          (record {
            nodes = All-permutation IsNodeFine (map r.to ns) hs moved made.nodes;
            rising = subst IsStrictlyIncreasing (sym (labels_like ys hs like)) ends.rising;
            few = omega (arith, count_like ys hs like, length_permutation ns ys ends.these, body.few);
            edges = All-weaker (EdgeFine k u h ys fits like) (IsEdge u h) (λ e x. x.edge) (out-Graph h).edges edges_fine;
            order = subst (AllPairs Precedes) (sym fs_are) (in_order k ys ends.sorted ends.order sorted_made);
            literals = All-weaker (EdgeFine k u h ys fits like) (λ e. canonical_edge u h e ≡ e) (λ e x. x.stays) (out-Graph h).edges edges_fine;
          })
          (λ n here. All-contains (λ n. AreFineWithin u m (out-Node n).subs) hs n (All-permutation (λ n. AreFineWithin u m (out-Node n).subs) (map r.to ns) hs moved made.parts) here);
    }
