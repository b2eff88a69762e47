-- The graphs of ready units in normal order are in shape, and their candidates are what marks ask for.
use Rattle.std.proofs.Common.{◌≡◌, ◌≢◌, ℕ, Bool, true, ◌&&◌, not, List, Contains, All, refl, ◌==◌}
use Rattle.std.specs.List.{list_any}
use Rattle.std.proofs.lemmas.Bool.{and_parts, eq-eqb, not-true}
use Rattle.std.proofs.lemmas.List.Elements.{All-contains}
use Rattle.if1_graph.specs.declared.graph.Edge.{Edge}
use Rattle.if1_graph.specs.declared.graph.Graph.{Graph}
use Rattle.if1_graph.specs.declared.graph.Graph.TheViews.{out-Graph}
use Rattle.if1_graph.specs.declared.graph.Unit1.{Unit1}
use Rattle.if1_graph.specs.Cycles.{Feeds}
use Rattle.if1_graph.specs.Normal.{IsNormal, IsNormalGraph}
use Rattle.if1_graph.specs.Ready.{IsReady}
use Rattle.if1_graph.specs.Units.{Place, places}
use Rattle.if1_order.specs.Orders.{node_labels, IsLinked}
use Rattle.if1_order.proofs.Units.{ports_linked}
use Rattle.if1_marks.proofs.Tests.{same-number, any-found, no-both}
use Rattle.marks_made.specs.Made.{is_edge, comes_from}
use Rattle.marks_made.specs.Units.{is_candidate}
use Rattle.marks_made.specs.Laws.{IsMarkable}
use Rattle.marks_made.proofs.Steps.{label-from}
use Rattle.marks_made.proofs.Units.{markable, IsLike}
use Rattle.take_marks.specs.Made.{IsInShape}
use Rattle.take_marks.specs.Laws.{AreGraphsMarkable}

fed : (g : Graph) (l m : ℕ) → list_any (is_edge l m) (out-Graph g).edges ≡ true → Feeds g l m
fed g l m h =
    let r = any-found (is_edge l m) (out-Graph g).edges h in
    let q = and_parts (comes_from l r.0.from) ((r.0.node == m) && not (m == 0)) r.2 in
    let s = and_parts (r.0.node == m) (not (m == 0)) q.1 in
    record {
      edge = r.0;
      there = r.1;
      source = label-from l r.0.from q.0;
      target = same-number r.0.node m s.0;
      no_boundary = λ z. no-both (m == 0) (eq-eqb m 0 z) (not-true (m == 0) s.1);
    }

pub graphs-markable : AreGraphsMarkable
graphs-markable u ready normal p h =
    let linked : IsLinked p.graph = All-contains (λ p. IsLinked p.graph) (places u) p (ports_linked u normal ready.ports) h in
    let ordered : IsNormalGraph u p = All-contains (IsNormalGraph u) (places u) p normal h in
    let like : IsLike p.graph p.graph = record { edges = refl; labels = refl } in
    let ok : IsMarkable p.graph (is_candidate u p) = markable u ready p p.graph h like in (
      record {
        rising = linked.rising;
        there = ok.there;
        sources = λ l m e. (linked.linked l m (fed p.graph l m e)).0;
        acyclic = ok.acyclic;
        arranged = ordered.edges;
      },
      ok,
    )
