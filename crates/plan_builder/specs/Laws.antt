-- The laws of the making of plans.
use Rattle.std.specs.Prelude.{◌≡◌, ◌≤◌, ℕ, List, map, false, All, Contains}
use Rattle.if1_graph.specs.declared.graph.Graph.TheViews.{out-Graph}
use Rattle.if1_graph.specs.declared.graph.Unit1.{Unit1}
use Rattle.if1_graph.specs.Ready.{IsReady}
use Rattle.if1_graph.specs.Units.{Place, number_of, places}
use Rattle.if1_order.specs.Orders.{node_labels}
use Rattle.graph_meaning.specs.Demand.{Source, Vertex}
use Rattle.graph_meaning.specs.Networks.{kind_of}
use Rattle.run_code.specs.Made.{Plan}
use Rattle.plan_data.specs.Settings.{Shares}
use Rattle.step_code.specs.Laid.{collect_in, puts_of}
use Rattle.plan_data.specs.declared.plan.Port.{Port}
use Rattle.plan_data.specs.declared.plan.PlanData.{PlanData}
use Rattle.plan_data.specs.declared.plan.PlanNode.{PlanNode}
use Rattle.plan_data.specs.Parts.{nodes_cells}
use Rattle.plan_data.specs.Stands.{AreFed, AreNodes}
use Rattle.firing_order.specs.Orders.{order_by}
use Rattle.firing_order.specs.Plans.{Tables, outputs_in, plan_of}
use Rattle.plan_builder.specs.declared.outlets.Outlets.{Outlets}
use Rattle.firing_order.specs.Returns.{collects_by}
use Rattle.plan_builder.specs.declared.ways.Reading.{Reading}
use Rattle.plan_builder.specs.Collects.{collects_of}
use Rattle.plan_builder.specs.Outlets.{AreLaid, AreOutlets, cells_of}
use Rattle.plan_builder.specs.Ways.{read_by}

-- the labels are those of the graph's nodes, and each node has so many outputs
pub record AreOfGraph (u : Unit1) (p : Place) (x : Outlets) : Type 0 where
  pub labels : x.labels ≡ node_labels p.graph
  pub widths : x.widths ≡ map (λ n. outputs_in u (kind_of u p.graph n)) (out-Graph p.graph).nodes

abbrev pub AreOutletsOfUnits : Type 0
AreOutletsOfUnits = (u : Unit1) (os : (graph : ℕ) → List ℕ) (t : Tables) (p : Place) (x : Outlets) → IsReady u → Contains (places u) p → AreOutlets x → AreOfGraph u p x → x.order ≡ os (number_of p)
    → AreLaid (plan_of u (order_by u os) t) x ((plan_of u (order_by u os) t).nodes (number_of p))

-- what is collected for a node is what the plan of a unit collects for it, and none of it is copied where it is put
abbrev pub AreCollectsOfWays : Type 0
AreCollectsOfWays = (D : PlanData) (P : Plan) (S : Shares) (g plain : ℕ) (r : Reading) (xs : List Port) (os : List Source) → AreFed D P S g xs os
    → (map collect_in (collects_of r plain xs) ≡ collects_by (read_by r os) plain os) × All (λ c. puts_of c ≡ false) (collects_of r plain xs)

-- the outputs of the nodes of a graph stand in the cells that these nodes take by the data
abbrev pub AreOutputsInExtents : Type 0
AreOutputsInExtents = (D : PlanData) (P : Plan) (S : Shares) (g : ℕ) (x : Outlets) (ns : List PlanNode) (vs : List Vertex) → AreNodes D P S g ns vs → AreLaid P x vs → cells_of x.widths x.order ≤ nodes_cells D ns
