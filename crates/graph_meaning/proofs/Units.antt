-- The graphs of a ready unit, whose ordering lists close no cycle, are orderly.
use Rattle.std.proofs.Common.{◌≡◌, ℕ, zero, suc, Bool, true, false, ◌&&◌, List, [], ◌∷◌, ◌++◌, map, drop, find, option_map, Option, Some, None, ◌⊎◌, inl, inr, Contains, All, IsSome, refl, sym, ap, ◌∙◌, subst, arith, eqb, T, cond, if◌then◌else◌, ◌==◌}
use Rattle.std.proofs.Math.Facts.{eqb_yes}
use Rattle.std.proofs.lemmas.Bool.{eq-eqb}
use Rattle.std.proofs.lemmas.List.Elements.{Contains-append_left, All-contains}
use Rattle.if1_graph.specs.declared.graph.Graph.{Graph}
use Rattle.if1_graph.specs.declared.graph.Graph.TheViews.{out-Graph}
use Rattle.if1_graph.specs.declared.graph.Node.{Node, out-Node}
use Rattle.if1_graph.specs.declared.graph.Edge.{Edge}
use Rattle.if1_graph.specs.declared.graph.Origin.{Origin}
use Rattle.if1_graph.specs.declared.graph.Origin.TheVariants as origin
use Rattle.if1_graph.specs.declared.graph.Unit1.{Unit1}
use Rattle.if1_graph.specs.declared.row.Want.{Want}
use Rattle.if1_graph.specs.Cycles.{IsFrom}
use Rattle.if1_graph.specs.Formed.{IsOnce, IsNode, IsGraph, want_at}
use Rattle.if1_graph.specs.Ports.{IsThere, ArePortsRight}
use Rattle.if1_graph.specs.Units.{label_of, node_at, edges_into, edge_into, width, results, Place, places, number_of, ends}
use Rattle.graph_meaning.specs.Entered.{IsIn}
use Rattle.graph_meaning.specs.Forms as form
use Rattle.graph_meaning.specs.Demand.{Source, Port, Fixed, Kind, Plain, Whole, Vertex, at_label, data_labels, waits, waits_of, WaitsFor, straight, through, IsLabel, LabelsOnce, EachNode, IsOrderly}
use Rattle.graph_meaning.specs.Networks.{source_from, source_by, sources, ins_of, vertex_of, net_of, net_at, nothing}
use Rattle.if1_marks.specs.Orders.{Precedes, fed, listed, between, IsOrderRight}
use Rattle.graph_meaning.specs.Laws.{AreUnitsOrderly}
use Rattle.graph_meaning.proofs.Lists.{here, there, here-or-there, in-none, in-mapped, found-in, in-filter}

pub same-number : (a b : ℕ) → (a == b) ≡ true → a ≡ b
same-number a b e = eqb_yes (subst T (sym e) tt)

and-left : (a b : Bool) → a && b ≡ true → a ≡ true
and-left true b e = refl
and-left false b e = absurd cc

drop-in : (xs : List Source) (m : ℕ) → IsIn m (data_labels (drop 1 xs)) → IsIn m (data_labels xs)
drop-in [] m h = h
drop-in (Port zero p ∷ xs) m h = h
drop-in (Port (suc l) p ∷ xs) m h = inr h
drop-in (Fixed c ∷ xs) m h = h

in-append : (n : ℕ) (a b : List ℕ) → IsIn n (a ++ b) → IsIn n a ⊎ IsIn n b
in-append n [] b h = inr h
in-append n (x ∷ a) b (inl e) = inl (inl e)
in-append n (x ∷ a) b (inr h) = elim (in-append n a b h) [ inl i ↦ inl (inr i) | inr i ↦ inr i ]

contained : (n : ℕ) (ms : List ℕ) → IsIn n ms → Contains ms n
contained n [] h = absurd h
contained n (m ∷ ms) (inl e) = subst (Contains (m ∷ ms)) (sym e) (here m ms)
contained n (m ∷ ms) (inr h) = there m ms n (contained n ms h)

module _ (u : Unit1) (g : Graph) where
  -- an edge that comes from the node
  abbrev Comes : ℕ → ℕ → Type 0
  Comes l m = (e : Edge) × Contains (out-Graph g).edges e × (e.node ≡ l) × IsFrom m e.from

  by-origin : (w : Option Want) (ty : ℕ) (o : Origin) (m : ℕ) (rest : List Source) → IsIn m (data_labels (source_from u w ty o ∷ rest)) → IsFrom m o ⊎ IsIn m (data_labels rest)
  by-origin w ty (origin.Port zero p) m rest h = inr h
  by-origin w ty (origin.Port (suc l) p) m rest h = h
  by-origin w ty (origin.Lit text) m rest h = inr h

  by-edge : (w : Option Want) (o : Option Edge) (m : ℕ) (rest : List Source) → IsIn m (data_labels (source_by u w o ∷ rest)) → ((e : Edge) × (o ≡ Some e) × IsFrom m e.from) ⊎ IsIn m (data_labels rest)
  by-edge w None m rest h = inr h
  by-edge w (Some e) m rest h = elim (by-origin w e.ty e.from m rest h) [ inl i ↦ inl (e, refl, i) | inr i ↦ inr i ]

  found-edge : (l port : ℕ) (e : Edge) → edge_into g l port ≡ Some e → Contains (out-Graph g).edges e × (e.node ≡ l)
  found-edge l port e h =
      let x = found-in (λ e. (e.node == l) && (e.port == port)) (out-Graph g).edges e h in
      (x.0, same-number e.node l (and-left (e.node == l) (e.port == port) x.1))

  in-sources : (l first count m : ℕ) → IsIn m (data_labels (sources u g l first count)) → Comes l m
  in-sources l first zero m h = absurd h
  in-sources l first (suc count) m h =
      elim (by-edge (want_at g l first) (edge_into g l first) m (sources u g l (suc first) count) h) [
        | inl x ↦ let y = found-edge l first x.0 x.1 in (x.0, y.0, y.1, x.2)
        | inr i ↦ in-sources l (suc first) count m i
      ]

  in-ins : (l m : ℕ) (k : Kind) → IsIn m (data_labels (ins_of u g l k)) → Comes l m
  in-ins l m (Plain row shape) h = in-sources l 1 (width g l) m h
  in-ins l m (Whole (form.Call f)) h = in-sources l 1 (width g l) m (drop-in (sources u g l 1 (width g l)) m h)
  in-ins l m (Whole (form.Select a b c)) h = in-sources l 1 (width g l) m h
  in-ins l m (Whole (form.TagCase a b)) h = in-sources l 1 (width g l) m h
  in-ins l m (Whole (form.LoopA a b c d e)) h = in-sources l 1 (width g l) m h
  in-ins l m (Whole (form.LoopB a b c d e)) h = in-sources l 1 (width g l) m h
  in-ins l m (Whole (form.ForAll a b c d e)) h = in-sources l 1 (width g l) m h

  abbrev vertices : List Node → List Vertex
  vertices ns = map (vertex_of u g) ns

  node-of : (ns : List Node) (l : ℕ) → IsLabel (vertices ns) l → (n : Node) × Contains ns n × (l ≡ label_of n)
  node-of [] l i = absurd i
  node-of (n ∷ ns) l (inl e) = (n, here n ns, e)
  node-of (n ∷ ns) l (inr i) = let x = node-of ns l i in (x.0, there n ns x.0 x.1, x.2)

  labelled : (ns : List Node) (n : Node) → Contains ns n → IsLabel (vertices ns) (label_of n)
  labelled [] n h = in-none n h
  labelled (m ∷ ns) n h =
      elim (here-or-there m ns n h) [
        | inl e ↦ inl (ap label_of (sym e))
        | inr later ↦ inr (labelled ns n later)
      ]

  labels-once : (ns : List Node) → IsOnce (map label_of ns) → LabelsOnce (vertices ns)
  labels-once [] h = tt
  labels-once (n ∷ ns) h = (
    λ i. let x = node-of ns (label_of n) i in h.0 (subst (Contains (map label_of ns)) (sym x.2) (in-mapped label_of ns x.0 x.1)),
    labels-once ns h.1,
  )

  pub at-node : (ns : List Node) (l : ℕ) → at_label (vertices ns) l ≡ option_map (vertex_of u g) (node_at ns l)
  at-node [] l = refl
  at-node (n ∷ ns) l = go (eqb (label_of n) l) (at-node ns l)
    where
      go : (b : Bool) → at_label (vertices ns) l ≡ option_map (vertex_of u g) (node_at ns l) → (if b then Some (vertex_of u g n) else at_label (vertices ns) l) ≡ option_map (vertex_of u g) (cond b (Some n) (node_at ns l))
      go true e = refl
      go false e = e

  some-label : (m : ℕ) → IsSome (node_at (out-Graph g).nodes m) → IsLabel (vertices (out-Graph g).nodes) m
  some-label m h = go (node_at (out-Graph g).nodes m) refl h
    where
      go : (o : Option Node) → node_at (out-Graph g).nodes m ≡ o → IsSome o → IsLabel (vertices (out-Graph g).nodes) m
      go None e s = absurd cc
      go (Some n) e s =
          let x = found-in (λ n. label_of n == m) (out-Graph g).nodes n e in
          subst (IsLabel (vertices (out-Graph g).nodes)) (same-number (label_of n) m x.1) (labelled (out-Graph g).nodes n x.0)

module _ (u : Unit1) (p : Place) (graph : IsGraph u p) (ports : All (ArePortsRight u p) (ends p.graph)) (order : IsOrderRight p) where
  abbrev g : Graph
  g = p.graph

  abbrev nodes : List Node
  nodes = (out-Graph g).nodes

  there-label : (o : Origin) (m : ℕ) → IsFrom m o → IsThere u p o → IsLabel (vertices u g nodes) m
  there-label (origin.Port zero port) m i h = absurd i
  there-label (origin.Port (suc l) port) m i h =
      let x = found-in (λ n. label_of n == suc l) nodes h.0 h.1 in
      subst (IsLabel (vertices u g nodes)) (same-number (label_of h.0) (suc l) x.1 ∙ sym i) (labelled u g nodes h.0 x.0)
  there-label (origin.Lit text) m i h = absurd i

  -- what an edge comes from is there
  come-label : (l m : ℕ) → Contains (ends g) l → Comes u g l m → IsLabel (vertices u g nodes) m
  come-label l m e c =
      let right = All-contains (ArePortsRight u p) (ends g) l ports e in
      let there = All-contains (λ e. IsThere u p e.from) (edges_into g l) c.0 right.sources (in-filter (λ e. e.node == l) (out-Graph g).edges c.0 c.1 (eq-eqb c.0.node l c.2)) in
      there-label c.0.from m c.3 there

  end-node : (n : Node) → Contains nodes n → Contains (ends g) (label_of n)
  end-node n h = there 0 _ (label_of n) (Contains-append_left (map label_of nodes) (map (λ e. e.node) (out-Graph g).edges) (label_of n) (in-mapped label_of nodes n h))

  named-at : (n : Node) → Contains nodes n → (m : ℕ) → IsIn m (waits (vertex_of u g n)) → IsLabel (vertices u g nodes) m
  named-at n h m i =
      elim (in-append m (data_labels (vertex_of u g n).ins) (out-Node n).before i) [
        | inl d ↦ come-label (label_of n) m (end-node n h) (in-ins u g (label_of n) m (vertex_of u g n).kind d)
        | inr b ↦ some-label u g m (order.named n m h (contained m (out-Node n).before b))
      ]

  named-each : (ns : List Node) → ((n : Node) → Contains ns n → Contains nodes n) → EachNode (λ v. (m : ℕ) → IsIn m (waits v) → IsLabel (vertices u g nodes) m) (vertices u g ns)
  named-each [] h = tt
  named-each (n ∷ ns) h = (named-at n (h n (here n ns)), named-each ns (λ m i. h m (there n ns m i)))

  -- a node waits for what precedes it
  waits-precede : (l m : ℕ) (n : Node) → node_at nodes l ≡ Some n → IsIn m (waits (vertex_of u g n)) → Precedes g m l
  waits-precede l m n e i =
      let x = found-in (λ n. label_of n == l) nodes n e in
      let same = same-number (label_of n) l x.1 in
      let at_least = (All-contains IsNode nodes n graph.nodes x.0).label in
      elim (in-append m (data_labels (vertex_of u g n).ins) (out-Node n).before i) [
        | inl d ↦
            let c = in-ins u g (label_of n) m (vertex_of u g n).kind d in
            fed (record { edge = c.0; there = c.1; source = c.3; target = c.2 ∙ same; no_boundary = λ z. omega (arith, z, same, at_least.0) })
        | inr b ↦ listed n e (contained m (out-Node n).before b)
      ]

  chain : {l m : ℕ} → WaitsFor (vertices u g nodes) l m → Precedes g m l
  chain (straight {l = l} {m = m} i) = go (node_at nodes l) refl (subst (λ o. IsIn m (waits_of o)) (at-node u g nodes l) i)
    where
      go : (o : Option Node) → node_at nodes l ≡ o → IsIn m (waits_of (option_map (vertex_of u g) o)) → Precedes g m l
      go None e h = absurd h
      go (Some n) e h = waits-precede l m n e h
  chain (through a b) = between (chain b) (chain a)

  pub graph-orderly : IsOrderly (net_of u g)
  graph-orderly =
      record {
        once = labels-once u g nodes graph.labels;
        named = named-each nodes (λ n h. h);
        results_named = λ m i. come-label 0 m (here 0 _) (in-sources u g 0 1 (results g) m i);
        acyclic = λ l w. order.acyclic l (chain w);
      }

nothing-orderly : IsOrderly nothing
nothing-orderly = record { once = tt; named = tt; results_named = λ n i. absurd i; acyclic = none }
  where
    empty : {l m : ℕ} → WaitsFor [] l m → ⊥
    empty (straight i) = absurd i
    empty (through a b) = empty a

    none : (l : ℕ) → WaitsFor [] l l → ⊥
    none l w = empty w

pub units-orderly : AreUnitsOrderly
units-orderly u ready orders k = go (find (λ p. number_of p == k) (places u)) refl
  where
    go : (o : Option Place) → find (λ p. number_of p == k) (places u) ≡ o → IsOrderly (net_at u o)
    go None e = nothing-orderly
    go (Some p) e =
        let h = (found-in (λ p. number_of p == k) (places u) p e).0 in
        graph-orderly u p (All-contains (IsGraph u) (places u) p ready.formed.graphs h)
        (All-contains (λ p. All (ArePortsRight u p) (ends p.graph)) (places u) p ready.ports h)
        (All-contains IsOrderRight (places u) p orders h)
