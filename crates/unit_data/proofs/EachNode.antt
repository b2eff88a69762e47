-- A loop over the nodes of a graph.
use Rattle.std.proofs.Common.{◌≡◌, ℕ, ◌+◌, ◌<◌, ◌≤◌, ◌++◌, Bool, List, [], ◌∷◌, length, take, get_or, slice_get, Option, Some, All, Contains, sym, subst}
use Rattle.if1_graph.specs.declared.graph.Graph.{Graph}
use Rattle.if1_graph.specs.declared.graph.Graph.TheViews.{out-Graph}
use Rattle.if1_graph.specs.declared.graph.Node.{Node}
use Rattle.if1_graph.specs.declared.graph.Unit1.{Unit1}
use Rattle.if1_graph.specs.Ready.{IsReady}
use Rattle.if1_graph.specs.Units.{Place, number_of, places}
use Rattle.graph_meaning.specs.Demand.{Vertex}
use Rattle.graph_meaning.specs.Networks.{vertex_of}
use Rattle.step_code.specs.Cell.{Cell}
use Rattle.step_code.specs.declared.step.Collect.{Collect}
use Rattle.output_marks.specs.FiringOrderOrders.{order_by, vertices_at}
use Rattle.unit_laws.proofs.TypedChoices.{got-below}
use Rattle.plan_nodes.specs.Plans.{Tables, plain_of}
use Rattle.plan_data.specs.declared.plan.PlanData.{PlanData}
use Rattle.plan_data.specs.declared.plan.PlanNode.{PlanNode}
use Rattle.plan_data.specs.Parts.{IsBelow}
use Rattle.plan_nodes.proofs.Made.{nothing-is}
use Rattle.plan_nodes.specs.declared.parts.NodeParts.{NodeParts}
use Rattle.plan_nodes.specs.Made.{AreMade, IsMadeOf, IsOfNode}
use Rattle.unit_data.proofs.Walked.{all-vertices, below-more, vertices-more}
use Rattle.unit_data.specs.Graphs.{AreAllBelow, GoesOn, IsBegun}

-- the nodes at the first so many places of the order are made
pub record AreNodesDone (u : Unit1) (g : Graph) (order : List ℕ) (plain : Option ℕ) (cells : ℕ) (old_literals : List Cell) (old_marks : List Bool) (i : ℕ) (literals : List Cell) (marks : List Bool) (ns : List PlanNode) (cs : List Collect) : Type 0 where
  pub kept : (D : PlanData) → GoesOn literals marks D → GoesOn old_literals old_marks D
  pub made : (D : PlanData) (os : ℕ → List ℕ) (t : Tables) (p : Place) → GoesOn literals marks D → IsBegun D → Contains (places u) p → p.graph ≡ g → plain_of u (number_of p) ≡ plain → order ≡ os (number_of p)
      → AreMade D u (order_by u os) t (number_of p) (vertices_at u p.graph (take i order)) ns cs
  pub below : AreAllBelow cells ns

pub none-done : (u : Unit1) (g : Graph) (order : List ℕ) (plain : Option ℕ) (cells : ℕ) (literals : List Cell) (marks : List Bool) (i : ℕ) (ns : List PlanNode) (cs : List Collect) → i ≡ 0 → ns ≡ [] → cs ≡ [] → AreNodesDone u g order plain cells literals marks i literals marks ns cs
none-done u g order plain cells literals marks i ns cs zero none empty =
    record {
      kept = λ D h. h;
      made = λ D os t p h begun place same is ordered.
          subst (λ j. AreMade D u (order_by u os) t (number_of p) (vertices_at u p.graph (take j order)) ns cs) (sym zero)
          (subst (λ ns. AreMade D u (order_by u os) t (number_of p) [] ns cs) (sym none) (subst (λ cs. AreMade D u (order_by u os) t (number_of p) [] [] cs) (sym empty) (nothing-is D u (order_by u os) t (number_of p))));
      below = subst (AreAllBelow cells) (sym none) tt;
    }

module _ (u : Unit1) (ready : IsReady u) (g : Graph) (order : List ℕ) (plain : Option ℕ) (cells : ℕ) (old_literals : List Cell) (old_marks : List Bool) where
  -- one more, with what was put behind the literals and marks for it
  pub node-done : (i k : ℕ) (mid_literals literals : List Cell) (mid_marks marks : List Bool) (ns : List PlanNode) (cs : List Collect) (x : NodeParts) (more : List PlanNode) (others : List Collect)
      → AreNodesDone u g order plain cells old_literals old_marks i mid_literals mid_marks ns cs → i < length order → k ≡ get_or order i k → k < length (out-Graph g).nodes
      → ((D : PlanData) → GoesOn literals marks D → GoesOn mid_literals mid_marks D)
      → ((D : PlanData) (os : ℕ → List ℕ) (t : Tables) (p : Place) (n : Node) → GoesOn literals marks D → IsBegun D → Contains (places u) p → p.graph ≡ g → order ≡ os (number_of p) → slice_get (out-Graph p.graph).nodes k ≡ Some n → IsOfNode D u (order_by u os) t p n x)
      → All (λ f. IsBelow cells f.feed) x.ports
      → ((D : PlanData) (v : Unit1) (order : ℕ → List Vertex) (t : Tables) (p : Place) (n : Node) (vs : List Vertex) → IsReady v → plain_of v (number_of p) ≡ plain → IsOfNode D v order t p n x → AreMade D v order t (number_of p) vs ns cs → AreMade D v order t (number_of p) (vs ++ vertex_of v p.graph n ∷ []) more others)
      → ((node : PlanNode) × (more ≡ ns ++ node ∷ []) × IsMadeOf x node)
      → AreNodesDone u g order plain cells old_literals old_marks (i + 1) literals marks more others
  node-done i k mid_literals literals mid_marks marks ns cs x more others was lt is inside kept of below makes added =
      record {
        kept = λ D h. was.kept D (kept D h);
        made = λ D os t p h begun place same plainly ordered.
            let n = got-below (out-Graph p.graph).nodes k (subst (λ (g : Graph). k < length (out-Graph g).nodes) (sym same) inside) in
            subst (λ vs. AreMade D u (order_by u os) t (number_of p) vs more others) (vertices-more u p.graph order i k n.0 lt is n.1)
            (makes D u (order_by u os) t p n.0 (vertices_at u p.graph (take i order)) ready plainly (of D os t p n.0 h begun place same ordered n.1) (was.made D os t p (kept D h) begun place same plainly ordered));
        below = subst (AreAllBelow cells) (sym added.1) (below-more cells ns added.0 was.below (added.2.below cells below));
      }

  pub all-done : (i : ℕ) (literals : List Cell) (marks : List Bool) (ns : List PlanNode) (cs : List Collect) → AreNodesDone u g order plain cells old_literals old_marks i literals marks ns cs → length order ≤ i
      → (D : PlanData) (os : ℕ → List ℕ) (t : Tables) (p : Place) → GoesOn literals marks D → IsBegun D → Contains (places u) p → p.graph ≡ g → plain_of u (number_of p) ≡ plain → order ≡ os (number_of p) → AreMade D u (order_by u os) t (number_of p) (order_by u os (number_of p)) ns cs
  all-done i literals marks ns cs was past D os t p h begun place same plainly ordered =
      subst (λ vs. AreMade D u (order_by u os) t (number_of p) vs ns cs) (all-vertices u ready os p place order i ordered past) (was.made D os t p h begun place same plainly ordered)
