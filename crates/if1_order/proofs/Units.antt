-- Circles in the graphs of a unit.
use Rattle.std.proofs.Common.{◌≡◌, ◌≢◌, ℕ, zero, suc, ◌≤◌, ◌++◌, map, get_or, Option, Some, None, Result, Ok, Err, MatchOption, IfOk, Contains, All, eqb, refl, sym, subst}
use Rattle.std.proofs.lemmas.Bool.{eqb-true, eq-eqb}
use Rattle.std.proofs.lemmas.List.Elements.{All-contains, Contains-get_or, Contains-append_left, Contains-append_right}
use Rattle.if1_graph.specs.declared.graph.Graph.{Graph}
use Rattle.if1_graph.specs.declared.graph.Graph.TheViews.{out-Graph}
use Rattle.if1_graph.specs.declared.graph.Node.{Node, out-Node}
use Rattle.if1_graph.specs.declared.graph.Origin.{Origin}
use Rattle.if1_graph.specs.declared.graph.Origin.TheVariants.{Port, Lit}
use Rattle.if1_graph.specs.declared.graph.Unit1.{Unit1}
use Rattle.if1_graph.specs.Units.{label_of, node_at, edges_into, ends, levels, most_levels, Place, places, Function}
use Rattle.if1_graph.specs.Cycles.{IsFrom, Feeds, Reaches}
use Rattle.if1_graph.specs.Ports.{IsThere, IsEndFilled, ArePortsRight}
use Rattle.if1_graph.specs.Normal.{IsNormal, IsNormalGraph}
use Rattle.if1_graph.specs.Ready.{IsAcyclic, IsOnCycle, PortsHold}
use Rattle.if1_order.specs.Orders.{node_labels, IsLinked, HasNoCircle, IsCircle, AreLinked}
use Rattle.if1_order.specs.Within.{IsPart, whole, deeper}
use Rattle.if1_order.specs.Parts.{IsLinkedInside, AreLinkedInside, NodesAreLinked, IsClear, AreClear, NodesAreClear, HasCircle, HaveCircle, NodesHaveCircle}
use Rattle.if1_order.proofs.Members.{contains_there, contains_got, got_contained, mapped_contains, found_in, filter_contains}
use Rattle.if1_order.proofs.Within.{within_from_unit, unit_from_within, part_from_within, within_from_part}

-- ---- one graph

pub circle_end : (g : Graph) (number l : ℕ) → (out-Graph g).number ≡ number → Contains (node_labels g) l → Reaches g l l → IsCircle g (number, l)
circle_end g number l is h r = (
  is,
  contains_there 0 (map label_of (out-Graph g).nodes ++ map (λ e. e.node) (out-Graph g).edges) l
      (Contains-append_left (map label_of (out-Graph g).nodes) (map (λ e. e.node) (out-Graph g).edges) l h),
  r,
)

pub clear_graph : (g : Graph) → HasNoCircle g → NodesAreClear (out-Graph g).nodes → IsClear g
clear_graph g none inside h whole = none
clear_graph g none inside h (deeper {s = s} n c i w) =
    All-contains IsClear (out-Node n).subs s (All-contains (λ n. AreClear (out-Node n).subs) (out-Graph g).nodes n inside c) i h w

pub circle_inside : (g : Graph) (at : ℕ × ℕ) → NodesHaveCircle (out-Graph g).nodes at → HasCircle g at
circle_inside g at (n, c, (s, i, (h, w, is))) = (h, deeper n c i w, is)

pub linked_nodes : (g : Graph) → IsLinkedInside g → NodesAreLinked (out-Graph g).nodes
linked_nodes g linked n c s i h w = linked h (deeper n c i w)

-- ---- a unit

pub clear_unit : (u : Unit1) → AreClear u.graphs → IsAcyclic u
clear_unit u clear k d h i e j l =
    let r = within_from_unit u (get_or (places u) k d) (Contains-get_or (places u) k d h) in
    All-contains IsClear u.graphs r.1 clear (contains_got u.graphs r.0 r.1 r.2) (get_or (places u) k d).graph (part_from_within r.3)
    (get_or (ends (get_or (places u) k d).graph) i e) l

part_place : (u : Unit1) (g h : Graph) → All (λ g. levels g ≤ most_levels) u.graphs → Contains u.graphs g → IsPart g h →
    (p : Place) × Contains (places u) p × (p.graph ≡ h)
part_place u g h flat c w =
    let at = got_contained u.graphs g c in
    let r = within_from_part w (Function at.0) in
    (r.0, unit_from_within u at.0 g r.0 flat at.1 r.1, r.2)

pub circle_unit : (u : Unit1) (at : ℕ × ℕ) → All (λ g. levels g ≤ most_levels) u.graphs → HaveCircle u.graphs at → IsOnCycle u at.0 at.1
circle_unit u at flat (g, c, (h, w, is)) =
    let p = part_place u g h flat c w in
    let there : IsCircle p.0.graph at = subst (λ z. IsCircle z at) (sym p.2) is in
    (p.0, p.1, there.0, there.1, there.2)

pub linked_unit : (u : Unit1) → All (λ g. levels g ≤ most_levels) u.graphs → AreLinked u → AreLinkedInside u.graphs
linked_unit u flat linked g c h w =
    let p = part_place u g h flat c w in subst IsLinked p.2 (All-contains (λ p. IsLinked p.graph) (places u) p.0 linked p.1)

-- ---- where ports are right

node_labelled : (g : Graph) (l : ℕ) (n : Node) → node_at (out-Graph g).nodes l ≡ Some n → Contains (node_labels g) l
node_labelled g l n e =
    let r = found_in (λ n. eqb (label_of n) l) (out-Graph g).nodes n e in
    subst (λ z. Contains (node_labels g) z) (eqb-true (label_of n) l r.1) (mapped_contains label_of (out-Graph g).nodes n r.0)

source_there : (u : Unit1) (p : Place) (l : ℕ) (from : Origin) → IsFrom l from → IsThere u p from → Contains (node_labels p.graph) l
source_there u p l (Port zero port) i t = absurd i
source_there u p l (Port (suc m) port) i t = subst (λ z. Contains (node_labels p.graph) z) (sym i) (node_labelled p.graph (suc m) t.0 t.1)
source_there u p l (Lit text) i t = absurd i

target_there : (u : Unit1) (p : Place) (m : ℕ) (o : Option Node) → m ≢ 0 → node_at (out-Graph p.graph).nodes m ≡ o → IsEndFilled u p m o →
    Contains (node_labels p.graph) m
target_there u p m (Some n) ne e f = node_labelled p.graph m n e
target_there u p zero None ne e f = absurd (ne refl)
target_there u p (suc m) None ne e f = absurd f

end_of : (g : Graph) (l m : ℕ) → Feeds g l m → Contains (ends g) m
end_of g l m f =
    contains_there 0 (map label_of (out-Graph g).nodes ++ map (λ e. e.node) (out-Graph g).edges) m
    (Contains-append_right (map label_of (out-Graph g).nodes) (map (λ e. e.node) (out-Graph g).edges) m
    (subst (λ z. Contains (map (λ e. e.node) (out-Graph g).edges) z) f.target (mapped_contains (λ e. e.node) (out-Graph g).edges f.edge f.there)))

linked_place : (u : Unit1) (p : Place) → IsNormalGraph u p → All (ArePortsRight u p) (ends p.graph) → IsLinked p.graph
linked_place u p normal right = record {
  rising = normal.nodes;
  linked = λ l m f.
      let at = All-contains (ArePortsRight u p) (ends p.graph) m right (end_of p.graph l m f) in
      let into = filter_contains (λ e. eqb e.node m) (out-Graph p.graph).edges f.edge f.there (eq-eqb f.edge.node m f.target) in (
        source_there u p l f.edge.from f.source (All-contains (λ e. IsThere u p e.from) (edges_into p.graph m) f.edge at.sources into),
        target_there u p m (node_at (out-Graph p.graph).nodes m) f.no_boundary refl at.filled,
      );
}

pub ports_linked : (u : Unit1) → IsNormal u → PortsHold u → AreLinked u
ports_linked u normal ports k d h = linked_place u (get_or (places u) k d) (normal k d h) (ports k d h)

-- ---- clauses on what was found

pub found_weaker : {A E : Type 0} (r : Result (Option A) E) (P Q : Type 0) (S T : A → Type 0) → (P → Q) → ((a : A) → S a → T a) →
    IfOk r (λ o. MatchOption o P S) → IfOk r (λ o. MatchOption o Q T)
found_weaker (Ok None) P Q S T f g h = f h
found_weaker (Ok (Some a)) P Q S T f g h = g a h
found_weaker (Err e) P Q S T f g h = h
