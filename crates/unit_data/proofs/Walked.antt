-- The nodes of a graph in an order, one after another.
use Rattle.std.proofs.Common.{◌≡◌, ◌∙◌, ℕ, ◌+◌, ◌<◌, ◌≤◌, List, [], ◌∷◌, ◌++◌, length, take, get_or, slice_get, Option, Some, None, Contains, refl, sym, ap}
use Rattle.std.proofs.lemmas.List.{take_more, take_all}
use Rattle.if1_graph.specs.declared.graph.Graph.{Graph}
use Rattle.if1_graph.specs.declared.graph.Graph.TheViews.{out-Graph}
use Rattle.if1_graph.specs.declared.graph.Node.{Node}
use Rattle.if1_graph.specs.declared.graph.Unit1.{Unit1}
use Rattle.if1_graph.specs.Ready.{IsReady}
use Rattle.if1_graph.specs.Units.{Place, number_of, places}
use Rattle.graph_meaning.specs.Demand.{Vertex}
use Rattle.graph_meaning.specs.Networks.{vertex_of}
use Rattle.output_marks.specs.FiringOrderOrders.{order_by, vertex_before, vertices_at, vertices_in}
use Rattle.plan_nodes.proofs.Found.{place-found}
use Rattle.plan_data.specs.declared.plan.PlanNode.{PlanNode}
use Rattle.plan_data.specs.Parts.{AreBelow}
use Rattle.unit_data.specs.Graphs.{AreAllBelow}

behind : (u : Unit1) (g : Graph) (o : Option Node) (vs ws : List Vertex) → vertex_before u g o (vs ++ ws) ≡ vertex_before u g o vs ++ ws
behind u g None vs ws = refl
behind u g (Some n) vs ws = refl

vertices-append : (u : Unit1) (g : Graph) (ks js : List ℕ) → vertices_at u g (ks ++ js) ≡ vertices_at u g ks ++ vertices_at u g js
vertices-append u g [] js = refl
vertices-append u g (k ∷ ks) js =
    ap (vertex_before u g (slice_get (out-Graph g).nodes k)) (vertices-append u g ks js)
    ∙ behind u g (slice_get (out-Graph g).nodes k) (vertices_at u g ks) (vertices_at u g js)

-- one more of an order
pub vertices-more : (u : Unit1) (g : Graph) (ks : List ℕ) (i k : ℕ) (n : Node) → i < length ks → k ≡ get_or ks i k → slice_get (out-Graph g).nodes k ≡ Some n
    → vertices_at u g (take i ks) ++ vertex_of u g n ∷ [] ≡ vertices_at u g (take (i + 1) ks)
vertices-more u g ks i k n lt is at =
    ap (λ o. vertices_at u g (take i ks) ++ vertex_before u g o []) (sym at)
    ∙ (sym (vertices-append u g (take i ks) (k ∷ [])) ∙ ap (vertices_at u g) (ap (λ j. take i ks ++ j ∷ []) is ∙ sym (take_more ks i k lt)))

pub all-vertices : (u : Unit1) (ready : IsReady u) (os : ℕ → List ℕ) (p : Place) → Contains (places u) p → (ks : List ℕ) (i : ℕ) → ks ≡ os (number_of p) → length ks ≤ i → vertices_at u p.graph (take i ks) ≡ order_by u os (number_of p)
all-vertices u ready os p place ks i e past =
    ap (vertices_at u p.graph) (take_all i ks past ∙ e) ∙ sym (ap (λ o. vertices_in u o (os (number_of p))) (place-found u ready.formed p place))

-- one more node
pub below-more : (cells : ℕ) (ns : List PlanNode) (n : PlanNode) → AreAllBelow cells ns → AreBelow cells n.ins → AreAllBelow cells (ns ++ n ∷ [])
below-more cells [] n h below = (below, tt)
below-more cells (m ∷ ns) n h below = (h.0, below-more cells ns n h.1 below)
