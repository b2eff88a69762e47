-- The data of the plan of a unit.
use Rattle.std.specs.Prelude.{◌≡◌, ◌<◌, ◌≤◌, ◌-◌, ◌^◌, ℕ, suc, List, length}
use Rattle.if1_graph.specs.declared.graph.Unit1.{Unit1}
use Rattle.if1_graph.specs.Units.{places}
use Rattle.graph_meaning.specs.Demand.{Vertex}
use Rattle.graph_meaning.specs.Networks.{network}
use Rattle.ordered_meaning.specs.Orders.{AreInOrder}
use Rattle.run_code.specs.Made.{Plan}
use Rattle.plan_data.specs.Settings.{Shares}
use Rattle.output_marks.specs.FiringOrderOrders.{order_by}
use Rattle.plan_nodes.specs.Plans.{AreTables, Tables, functions_of, plan_of}
use Rattle.plan_nodes.specs.Shares.{shares_of}
use Rattle.plan_data.specs.declared.plan.PlanData.{PlanData}
use Rattle.plan_data.specs.declared.plan.PlanNode.{PlanNode}
use Rattle.plan_data.specs.Parts.{IsFormed, arms_steps, extent_in, graph_nodes, size_in, table_of}
use Rattle.plan_data.specs.Stands.{Stands}
use Rattle.plan_nodes.specs.Grows.{IsPair}
use Rattle.plan_nodes.specs.Rows.{IsCountedByRow, IsWrittenByRow}

-- how many steps and cells each graph takes by the data, and where each function begins
abbrev pub tables_of : PlanData → Tables
tables_of D = record { size = size_in D; extent = extent_in D; entry = table_of D.entries }

module _ (u : Unit1) (os : (graph : ℕ) → List ℕ) (D : PlanData) where
  -- the plan of the unit with the nodes at these places in this order, and with these tables
  abbrev pub planned : Plan
  planned = plan_of u (order_by u os) (tables_of D)

  abbrev pub shared : Shares
  shared = shares_of u (order_by u os)

  -- The places are an order along edges and ordering lists, and the tables are right. The data is formed, the plan with its shares stands
  -- in it, and it tells of each node what its row writes and copies. There is a graph for each number, and a literal, and the steps can be
  -- counted.
  pub record IsDataBy : Type 0 where
    pub in_order : AreInOrder (network u) (order_by u os)
    pub tables : AreTables u (order_by u os) (tables_of D)
    pub formed : IsFormed D
    pub stands : Stands D planned shared
    pub written : (g : ℕ) (n : PlanNode) (v : Vertex) → IsPair (graph_nodes D g) (planned.nodes g) n v → IsWrittenByRow D u g v n.work
    pub counted : (g : ℕ) (n : PlanNode) (v : Vertex) → IsPair (graph_nodes D g) (planned.nodes g) n v → IsCountedByRow D u g v n n.work
    pub many : length D.graphs ≡ suc (length (places u))
    pub some : 0 < length D.literals
    pub steps : arms_steps D (functions_of u) ≤ 2 ^ 32 - 1

abbrev pub IsDataOf : Unit1 → PlanData → Type 0
IsDataOf u D = (os : (graph : ℕ) → List ℕ) × IsDataBy u os D
