-- The nodes of a graph of a unit as data, with what is collected for them.
use Rattle.std.specs.Prelude.{◌≡◌, ℕ, Bool, false, List, [], map, All, Contains}
use Rattle.if1_graph.specs.declared.graph.Graph.TheViews.{out-Graph}
use Rattle.if1_graph.specs.declared.graph.Node.{Node}
use Rattle.if1_graph.specs.declared.graph.Unit1.{Unit1}
use Rattle.if1_graph.specs.Units as units
use Rattle.if1_graph.specs.Units.{Place, label_of, number_of, places}
use Rattle.graph_meaning.specs.Demand.{Kind, Plain, Vertex, Whole}
use Rattle.graph_meaning.specs.Networks.{kind_of, sources}
use Rattle.graph_meaning.specs.Storage.{Storage}
use Rattle.graph_meaning.specs.StorageUnits.{storage_of}
use Rattle.step_code.specs.declared.step.Collect.{Collect}
use Rattle.step_code.specs.Laid.{collect_in, puts_of}
use Rattle.row_counts.specs.Counts.{AreOutputsTold}
use Rattle.plan_data.specs.declared.plan.PlanData.{PlanData}
use Rattle.plan_data.specs.declared.plan.PlanNode.{PlanNode}
use Rattle.plan_data.specs.declared.plan.Work.{Work}
use Rattle.plan_data.specs.declared.plan.Work.TheVariants as work
use Rattle.plan_data.specs.Parts.{AreBelow, IsBelow}
use Rattle.plan_data.specs.Stands.{AreNodes}
use Rattle.told_rows.specs.Plans.{Tables, collects_in, nodes_by, outputs_in, plain_of, plan_of}
use Rattle.told_rows.specs.Shares.{shares_of}
use Rattle.told_rows.specs.Grows.{IsPair}
use Rattle.told_rows.specs.Rows.{IsCountedByRow, IsWrittenByRow}
use Rattle.port_feeds.specs.Filled.{AreFilled, AreTold}
use Rattle.node_works.specs.declared.task.Task.{Task}
use Rattle.node_works.specs.declared.task.Task.TheVariants as task
use Rattle.node_works.specs.Tasks.{task_kind}
use Rattle.plan_nodes.specs.declared.parts.NodeParts.{NodeParts}

-- ---- what is known of a node

-- the marks from one on tell of the outputs of a simple node
abbrev pub AreOutputsMarked : Storage → (graph node : ℕ) → List Bool → (width first : ℕ) → Kind → Type 0
AreOutputsMarked s g l marks w first (Plain row shape) = AreOutputsTold s g l marks w first row
AreOutputsMarked s g l marks w first (Whole form) = Unit {0}

module _ (D : PlanData) (u : Unit1) (order : (graph : ℕ) → List Vertex) (t : Tables) where
  -- All of it is so of this node of the unit: what it does, how many outputs it has, what fills its ports and is told of them, whether
  -- its result is joined, and the marks of its outputs.
  pub record IsOfNode (p : Place) (n : Node) (x : NodeParts) : Type 0 where
    pub place : Contains (places u) p
    pub node : Contains (out-Graph p.graph).nodes n
    pub kind : task_kind x.task x.width ≡ kind_of u p.graph n
    pub width : x.width ≡ outputs_in u (kind_of u p.graph n)
    pub filled : AreFilled D (plan_of u order t) (shares_of u order) (storage_of u) (number_of p) (label_of n) 1 x.ports (sources u p.graph (label_of n) 1 (units.width p.graph (label_of n)))
    pub told : AreTold (storage_of u) (number_of p) (label_of n) 1 x.ports
    pub joined : x.joined ≡ (storage_of u).is_joined (number_of p) (label_of n)
    pub marks : AreOutputsMarked (storage_of u) (number_of p) (label_of n) D.marks x.width x.marks (kind_of u p.graph n)

  -- ---- what is made

  -- The nodes are those of these vertices of a graph, in a returns those that do it on what is collected for them. None of it is copied
  -- where it is put. What is written and copied is told by the rows.
  pub record AreMade (g : ℕ) (vs : List Vertex) (ns : List PlanNode) (cs : List Collect) : Type 0 where
    pub nodes : AreNodes D (plan_of u order t) (shares_of u order) g ns (nodes_by u g (plain_of u g) vs)
    pub collects : map collect_in cs ≡ collects_in u g (plain_of u g) vs
    pub puts : All (λ c. puts_of c ≡ false) cs
    pub written : (n : PlanNode) (v : Vertex) → IsPair ns (nodes_by u g (plain_of u g) vs) n v → IsWrittenByRow D u g v n.work
    pub counted : (n : PlanNode) (v : Vertex) → IsPair ns (nodes_by u g (plain_of u g) vs) n v → IsCountedByRow D u g v n n.work

abbrev pub IsNothingMade : Type 0
IsNothingMade = (D : PlanData) (u : Unit1) (order : (graph : ℕ) → List Vertex) (t : Tables) (g : ℕ) → AreMade D u order t g [] [] []

-- ---- the node alone

-- it does what the task says, a simple one on what is collected too
abbrev pub IsWorkOf : Task → Work → Type 0
IsWorkOf (task.Plain row shape) (work.Plain other like writes copies) = Unit {0}
IsWorkOf (task.Plain row shape) _ = ⊥
IsWorkOf (task.Whole x) y = y ≡ x

-- outputs that fill its ports are among those that are known to fill them
pub record IsMadeOf (x : NodeParts) (n : PlanNode) : Type 0 where
  pub works : IsWorkOf x.task n.work
  pub below : (cells : ℕ) → All (λ f. IsBelow cells f.feed) x.ports → AreBelow cells n.ins
