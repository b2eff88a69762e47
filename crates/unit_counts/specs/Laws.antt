-- The law of what the code of a unit counts.
use Rattle.std.specs.Prelude.{ℕ, List}
use Rattle.if1_graph.specs.declared.graph.Unit1.{Unit1}
use Rattle.if1_graph.specs.Ready.{IsReady}
use Rattle.graph_meaning.specs.Demand.{Vertex}
use Rattle.graph_meaning.specs.Networks.{network}
use Rattle.ordered_meaning.specs.Orders.{AreInOrder}
use Rattle.unit_plan.specs.Plans.{Tables, functions_of, levels_of, plan_of}
use Rattle.unit_plan.specs.Shares.{shares_of}
use Rattle.step_code.specs.declared.code.Code.{Code}
use Rattle.plan_data.specs.declared.plan.PlanData.{PlanData}
use Rattle.plan_data.specs.declared.plan.PlanNode.{PlanNode}
use Rattle.plan_data.specs.Parts.{graph_nodes}
use Rattle.plan_data.specs.Stands.{Stands}
use Rattle.unit_runs.specs.Grows.{IsPair}
use Rattle.unit_runs.specs.Makes.{AreTold}
use Rattle.told_rows.specs.Rows.{IsCountedByRow, IsWrittenByRow}
use Rattle.unit_runs.specs.Runs.{CountsCopies, IsUnitCode}
use Rattle.unit_runs.specs.Writes.{CountsWrites}

-- Of data in which the plan of a ready unit stands with its shares, and which tells by the rows what its nodes copy, the code counts
-- the copies that the plan's weights count.
abbrev pub DoesToldCodeCount : Type 0
DoesToldCodeCount = (D : PlanData) (u : Unit1) (order : (graph : ℕ) → List Vertex) (t : Tables) (code : Code) → IsReady u → AreInOrder (network u) order
    → Stands D (plan_of u order t) (shares_of u order)
    → ((g : ℕ) (n : PlanNode) (v : Vertex) → IsPair (graph_nodes D g) ((plan_of u order t).nodes g) n v → IsCountedByRow D u g v n n.work)
    → IsUnitCode u order t code → AreTold D (plan_of u order t) (shares_of u order) (levels_of u) (functions_of u) code
    → CountsCopies u order t code

-- And where it tells by the rows what its nodes write, the code writes what the plan's weights count.
abbrev pub DoesToldCodeWrite : Type 0
DoesToldCodeWrite = (D : PlanData) (u : Unit1) (order : (graph : ℕ) → List Vertex) (t : Tables) (code : Code)
    → ((g : ℕ) (n : PlanNode) (v : Vertex) → IsPair (graph_nodes D g) ((plan_of u order t).nodes g) n v → IsWrittenByRow D u g v n.work)
    → AreTold D (plan_of u order t) (shares_of u order) (levels_of u) (functions_of u) code
    → CountsWrites u order t code
