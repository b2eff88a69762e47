-- One node more is made.
use Rattle.std.proofs.Common.{◌≡◌, ℕ, false, List, [], ◌∷◌, ◌++◌, map, length, All, Option, Some, None, refl, sym, ap, ◌∙◌, subst, arith}
use Rattle.std.proofs.lemmas.List.{length-map, map-append}
use Rattle.std.proofs.lemmas.List.Elements.{All-append}
use Rattle.if1_graph.specs.declared.graph.Node.{Node}
use Rattle.if1_graph.specs.declared.graph.Unit1.{Unit1}
use Rattle.if1_graph.specs.Ready.{IsReady}
use Rattle.if1_graph.specs.Units.{Place, number_of}
use Rattle.graph_meaning.specs.Demand.{Vertex}
use Rattle.graph_meaning.specs.Networks.{vertex_of}
use Rattle.graph_meaning.specs.Storage.{is_left}
use Rattle.graph_meaning.specs.StorageUnits.{storage_of}
use Rattle.step_code.specs.declared.step.Collect.{Collect}
use Rattle.step_code.specs.Laid.{collect_in, puts_of}
use Rattle.plan_data.specs.declared.plan.PlanData.{PlanData}
use Rattle.plan_data.specs.declared.plan.PlanNode.{PlanNode}
use Rattle.plan_data.specs.declared.plan.Work.TheVariants as work
use Rattle.plan_data.specs.Parts.{AreBelow, IsBelow}
use Rattle.plan_data.specs.Stands.{AreNodes}
use Rattle.told_rows.specs.Plans.{Tables, collects_in, nodes_by, plain_of, plan_of}
use Rattle.told_rows.specs.Shares.{shares_of}
use Rattle.node_works.specs.declared.task.Task.{Task}
use Rattle.node_works.specs.declared.task.Task.TheVariants as task
use Rattle.node_works.specs.Tasks.{IsTask}
use Rattle.told_rows.specs.Grows.{IsPair}
use Rattle.told_rows.specs.Rows.{IsCountedByRow, IsWrittenByRow}
use Rattle.plan_nodes.specs.declared.parts.NodeParts.{NodeParts}
use Rattle.plan_nodes.specs.Made.{AreMade, IsMadeOf, IsNothingMade, IsOfNode, IsWorkOf}
use Rattle.plan_nodes.specs.Nodes.{collects_by, node_by, reading_in, task_node}
use Rattle.plan_nodes.proofs.Handling.{below-behind, given-below, simple-below}
use Rattle.plan_nodes.proofs.Lists.{collects-more, nodes-more, pairs-more, vertices-more}
use Rattle.plan_nodes.proofs.Vertices.{IsRight, collects-right, node-right, vertex_as, vertex_collects}
use Rattle.plan_nodes.proofs.Readings.{reads-below}

no-collects : All (λ c. puts_of c ≡ false) []
no-collects k d lt = absurd (omega (arith, lt))

module _ (D : PlanData) (u : Unit1) (order : (graph : ℕ) → List Vertex) (t : Tables) (g : ℕ) where
  none-by : (plain : Option ℕ) → nodes_by u g plain [] ≡ []
  none-by None = refl
  none-by (Some plain) = refl

  none-in : (plain : Option ℕ) → collects_in u g plain [] ≡ []
  none-in None = refl
  none-in (Some plain) = refl

  pub nothing-made : AreMade D u order t g [] [] []
  nothing-made =
      record {
        nodes = subst (AreNodes D (plan_of u order t) (shares_of u order) g []) (sym (none-by (plain_of u g))) tt;
        collects = sym (none-in (plain_of u g));
        puts = no-collects;
        written = λ n v pair. absurd pair;
        counted = λ n v pair. absurd pair;
      }

pub nothing-is : IsNothingMade
nothing-is D u order t g = nothing-made D u order t g

module _ (D : PlanData) (u : Unit1) (order : (graph : ℕ) → List Vertex) (t : Tables) (p : Place) (n : Node) (x : NodeParts) (vs : List Vertex) (ns : List PlanNode) (cs : List Collect)
    (ready : IsReady u) (right : IsTask x.task) (are : IsOfNode D u order t p n x) (made : AreMade D u order t (number_of p) vs ns cs) where
  abbrev v : Vertex
  v = vertex_of u p.graph n

  abbrev g : ℕ
  g = number_of p

  abbrev known : Option ℕ
  known = plain_of u (number_of p)

  abbrev before : List Vertex
  before = nodes_by u (number_of p) (plain_of u (number_of p)) vs

  abbrev m : PlanNode
  m = node_by (plain_of u (number_of p)) (length cs) x

  abbrev more : List Collect
  more = collects_by (plain_of u (number_of p)) x

  abbrev w : Vertex
  w = vertex_as (is_left (storage_of u) (number_of p)) (plain_of u (number_of p)) (length cs) (vertex_of u p.graph n) (vertex_of u p.graph n).kind

  number-so : length (collects_in u g known vs) ≡ length cs
  number-so = sym (ap length made.collects) ∙ length-map cs collect_in

  all-so : nodes_by u g known (vs ++ v ∷ []) ≡ before ++ w ∷ []
  all-so = vertices-more u g known vs v ∙ ap (λ k. before ++ vertex_as (is_left (storage_of u) g) known k v v.kind ∷ []) number-so

  one : IsRight D u order t ready p n x are m w
  one = node-right D u order t ready p n x are known refl (length cs) x.task right are.kind

  here : (map collect_in more ≡ vertex_collects (is_left (storage_of u) g) known v v.kind) × All (λ c. puts_of c ≡ false) more
  here = collects-right D u order t ready p n x are known refl x.task right are.kind

  as_pair : (a : PlanNode) (b : Vertex) → IsPair (ns ++ m ∷ []) (nodes_by u g known (vs ++ v ∷ [])) a b → IsPair (ns ++ m ∷ []) (before ++ w ∷ []) a b
  as_pair a b pair = subst (λ ws. IsPair (ns ++ m ∷ []) ws a b) all-so pair

  same-made : AreMade D u order t g (vs ++ v ∷ []) (ns ++ m ∷ []) (cs ++ more)
  same-made =
      record {
        nodes = subst (AreNodes D (plan_of u order t) (shares_of u order) g (ns ++ m ∷ [])) (sym all-so) (nodes-more D (plan_of u order t) (shares_of u order) g m w ns before made.nodes one.stands);
        collects = map-append collect_in cs more ∙ (ap (λ ds. ds ++ map collect_in more) made.collects ∙ (ap (λ ds. collects_in u g known vs ++ ds) here.0 ∙ sym (collects-more u g known vs v)));
        puts = All-append (λ c. puts_of c ≡ false) cs more made.puts here.1;
        written = λ a b pair. pairs-more D (plan_of u order t) (shares_of u order) g m w (λ a b. IsWrittenByRow D u g b a.work) ns before made.nodes made.written one.written a b (as_pair a b pair);
        counted = λ a b pair. pairs-more D (plan_of u order t) (shares_of u order) g m w (λ a b. IsCountedByRow D u g b a a.work) ns before made.nodes made.counted one.counted a b (as_pair a b pair);
      }

  -- where so many inputs are no multiples
  pub made-more : (o : Option ℕ) → plain_of u (number_of p) ≡ o → AreMade D u order t (number_of p) (vs ++ vertex_of u p.graph n ∷ []) (ns ++ node_by o (length cs) x ∷ []) (cs ++ collects_by o x)
  made-more o is = subst (λ o. AreMade D u order t g (vs ++ v ∷ []) (ns ++ node_by o (length cs) x ∷ []) (cs ++ collects_by o x)) is same-made

-- ---- the node alone

module _ (o : Option ℕ) (k : ℕ) (x : NodeParts) where
  work-so : (y : Task) → IsTask y → IsWorkOf y (task_node o k x y).work
  work-so (task.Plain row shape) c = by-plain o
    where
      by-plain : (o : Option ℕ) → IsWorkOf (task.Plain row shape) (task_node o k x (task.Plain row shape)).work
      by-plain None = tt
      by-plain (Some plain) = tt
  work-so (task.Whole (work.Plain row shape writes copies)) c = absurd c
  work-so (task.Whole (work.Call f)) c = refl
  work-so (task.Whole (work.Select a gs)) c = refl
  work-so (task.Whole (work.TagCase gs)) c = refl
  work-so (task.Whole (work.LoopA a)) c = refl
  work-so (task.Whole (work.LoopB a)) c = refl
  work-so (task.Whole (work.ForAll a b d e)) c = refl

  module _ (cells : ℕ) (all : All (λ f. IsBelow cells f.feed) x.ports) where
    below-so : (y : Task) → IsTask y → AreBelow cells (task_node o k x y).ins
    below-so (task.Plain row shape) c = by-plain o
      where
        by-plain : (o : Option ℕ) → AreBelow cells (task_node o k x (task.Plain row shape)).ins
        by-plain None = simple-below cells x.ports all
        by-plain (Some plain) = reads-below cells plain k (reading_in plain row x.ports) x.ports all
    below-so (task.Whole (work.Plain row shape writes copies)) c = absurd c
    below-so (task.Whole (work.Call f)) c = simple-below cells _ (below-behind cells x.ports all)
    below-so (task.Whole (work.Select a gs)) c = given-below cells x.ports all
    below-so (task.Whole (work.TagCase gs)) c = given-below cells x.ports all
    below-so (task.Whole (work.LoopA a)) c = given-below cells x.ports all
    below-so (task.Whole (work.LoopB a)) c = given-below cells x.ports all
    below-so (task.Whole (work.ForAll a b d e)) c = given-below cells x.ports all

  pub made-of : IsTask x.task → IsMadeOf x (node_by o k x)
  made-of right = record { works = work-so x.task right; below = λ cells all. below-so cells all x.task right }
