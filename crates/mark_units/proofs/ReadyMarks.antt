-- A unit with the marks that are made is ready and in normal order.
use Rattle.std.proofs.Common.{◌≡◌, ℕ, Bool, true, false, List, map, All, Contains, get_or, refl, sym, ap, subst, ◌∙◌}
use Rattle.std.specs.List.{list_any, filter}
use Rattle.std.specs.List.Sorted.{IsStrictlyIncreasing}
use Rattle.std.proofs.lemmas.List.Elements.{All-contains, All-contains_itself, All-weaker, All-map, All-filter}
use Rattle.std.proofs.lemmas.List.Kept.{IsStrictlyIncreasing-filter}
use Rattle.if1_graph.specs.declared.graph.Edge.{Edge}
use Rattle.if1_graph.specs.declared.graph.Graph.{Graph}
use Rattle.if1_graph.specs.declared.graph.Graph.TheViews.{out-Graph, out-roll-Graph, out-roll-Node}
use Rattle.if1_graph.specs.declared.graph.Graph.TheOpen.{Graph-F, Node-F}
use Rattle.if1_graph.specs.declared.graph.Node.{Node, out-Node}
use Rattle.if1_graph.specs.declared.graph.Origin.{Origin}
use Rattle.if1_graph.specs.declared.graph.Origin.TheVariants.{Port, Lit}
use Rattle.if1_graph.specs.declared.graph.Unit1.{Unit1}
use Rattle.if1_graph.specs.Formed.{IsGraph, IsNode}
use Rattle.if1_graph.specs.Normal.{IsNormal, IsNormalGraph}
use Rattle.if1_graph.specs.Ready.{IsReady}
use Rattle.if1_graph.specs.Units.{label_of, Place, places}
use Rattle.if1_graph.specs.Spelling.{IsLabel}
use Rattle.if1_marks.specs.Alike.{IsUntakenLiteral, AreMarksSpelled, DoListsRise}
use Rattle.if1_marks.specs.Owned.{is_owned}
use Rattle.if1_marks.specs.Sound.{IsTakerRight, AreMarksRight}
use Rattle.if1_marks.proofs.AlikeUnits.{alike-ready, alike-normal}
use Rattle.marks_made.specs.Made.{is_order, made_orders, with_list}
use Rattle.marks_made.specs.Units.{is_candidate, marks_of}
use Rattle.marks_made.proofs.Units.{Origin_of, from-unit, units-marked}
use Rattle.mark_units.specs.Laws.{AreMarksReady}

untaken : (u : Unit1) (p : Place) (e : Edge) (from : Origin) → e.from ≡ from → (b : Bool) → e.takes ≡ b → (e.takes ≡ true → IsTakerRight u p e) → IsUntakenLiteral e from
untaken u p e (Port l port) is b takes right = tt
untaken u p e (Lit text) is false takes right = takes
untaken u p e (Lit text) is true takes right =
    let owned : is_owned u p (Lit text) ≡ true = subst (λ from. is_owned u p from ≡ true) is (right takes).may.1 in
    absurd cc

module _ (u : Unit1) (ready : IsReady u) (normal : IsNormal u) (q : Place) (c : Contains (places (marks_of u)) q) where
  abbrev o : Origin_of u (places u) q
  o = from-unit u q c

  abbrev g : Graph
  g = o.from.graph

  abbrev may : Edge → Bool
  may = is_candidate u o.place

  rising : IsStrictlyIncreasing (map label_of (out-Graph g).nodes)
  rising = subst IsStrictlyIncreasing (sym o.from.like.labels) (All-contains (IsNormalGraph u) (places u) o.place normal o.there).nodes

  labels : All IsLabel (map label_of (out-Graph g).nodes)
  labels =
      subst (All IsLabel) (sym o.from.like.labels)
      (All-map IsLabel label_of (out-Graph o.place.graph).nodes
      (All-weaker IsNode (λ n. IsLabel (label_of n)) (λ n h. h.label) (out-Graph o.place.graph).nodes
      (All-contains (IsGraph u) (places u) o.place ready.formed.graphs o.there).nodes))

  nodes-are : map (with_list g may) (out-Graph g).nodes ≡ (out-Graph q.graph).nodes
  nodes-are =
      sym (ap (λ (x : Graph-F Graph Node). x.nodes) (out-roll-Graph _))
      ∙ ap (λ (p : Place). (out-Graph p.graph).nodes) o.from.is

  list-is : (n : Node) → filter (λ m. list_any (is_order m (label_of n)) (made_orders g may)) (map label_of (out-Graph g).nodes) ≡ (out-Node (with_list g may n)).before
  list-is n = sym (ap (λ (x : Node-F Graph Node). x.before) (out-roll-Node _))

  of-lists : (P : List ℕ → Type 0) → ((l : ℕ) → P (filter (λ m. list_any (is_order m l) (made_orders g may)) (map label_of (out-Graph g).nodes))) → All (λ n. P (out-Node n).before) (out-Graph q.graph).nodes
  of-lists P h =
      subst (All (λ n. P (out-Node n).before)) nodes-are
      (All-map (λ n. P (out-Node n).before) (with_list g may) (out-Graph g).nodes
      (λ k d lt. subst P (list-is (get_or (out-Graph g).nodes k d)) (h (label_of (get_or (out-Graph g).nodes k d)))))

  spelled : AreMarksSpelled q
  spelled =
      record {
        takers = All-weaker (λ e. e.takes ≡ true → IsTakerRight (marks_of u) q e) (λ e. IsUntakenLiteral e e.from)
            (λ e right. untaken (marks_of u) q e e.from refl e.takes refl right) (out-Graph q.graph).edges
            (All-contains (AreMarksRight (marks_of u)) (places (marks_of u)) q (units-marked u ready).sound c).takers;
        lists = of-lists (All IsLabel) (λ l. All-filter (λ m. list_any (is_order m l) (made_orders g may)) IsLabel (map label_of (out-Graph g).nodes) labels);
      }

  rise : DoListsRise q
  rise = of-lists IsStrictlyIncreasing (λ l. IsStrictlyIncreasing-filter (λ m. list_any (is_order m l) (made_orders g may)) (map label_of (out-Graph g).nodes) rising)

module _ (u : Unit1) (ready : IsReady u) (normal : IsNormal u) where
  abbrev all : All (Contains (places (marks_of u))) (places (marks_of u))
  all = All-contains_itself (places (marks_of u))

  pub ready-marked : IsReady (marks_of u)
  ready-marked =
      alike-ready u (marks_of u) (sym (units-marked u ready).alike)
      (All-weaker (Contains (places (marks_of u))) AreMarksSpelled (λ q c. spelled u ready normal q c) (places (marks_of u)) all) ready

  pub normal-marked : IsNormal (marks_of u)
  normal-marked =
      alike-normal u (marks_of u) (sym (units-marked u ready).alike)
      (All-weaker (Contains (places (marks_of u))) DoListsRise (λ q c. rise u ready normal q c) (places (marks_of u)) all) normal

pub marks-ready : AreMarksReady
marks-ready u ready normal = (ready-marked u ready normal, normal-marked u ready normal)
