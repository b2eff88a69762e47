-- Code of units that is whole.
use Rattle.std.specs.Prelude.{◌≡◌, ◌<◌, ◌≤◌, ◌-◌, ◌^◌, ℕ, List, length}
use Rattle.if1_graph.specs.declared.graph.Unit1.{Unit1}
use Rattle.if1_graph.specs.Ready.{IsReady}
use Rattle.if1_marks.specs.Sound.{IsSound}
use Rattle.graph_meaning.specs.Demand.{Vertex}
use Rattle.graph_meaning.specs.Entered.{IsIn}
use Rattle.graph_meaning.specs.Networks.{network}
use Rattle.ordered_meaning.specs.Orders.{AreInOrder}
use Rattle.run_code.specs.Made.{Plan, room_of}
use Rattle.told_rows.specs.Plans.{AreTables, Tables, functions_of, levels_of, plan_of}
use Rattle.told_rows.specs.Shares.{shares_of}
use Rattle.step_code.specs.declared.code.Code.{Code}
use Rattle.plan_data.specs.declared.plan.PlanData.{PlanData}
use Rattle.plan_data.specs.Parts.{arms_steps}
use Rattle.plan_data.specs.Stands.{Stands}
use Rattle.told_rows.specs.Makes.{AreKnit, AreTold, IsCodeOf}
use Rattle.quick_code.specs.Quick.{RunsSame}
use Rattle.sequential_run.specs.Totals.{CanEnter}
use Rattle.sequential_run.specs.Whole.{Blocks, IsWhole}
use Rattle.unit_whole.specs.Blocks.{function_at}
use Rattle.unit_whole.specs.Seen.{AreWrittenByRows}

-- the block of each place is that of the function that stands there
abbrev pub blocks_by : Plan → List ℕ → Blocks
blocks_by P functions = record { room = λ pc. room_of P (function_at P functions 0 pc); gives = λ pc. length (P.results (function_at P functions 0 pc)) }

-- The code is made of the plan of a unit, which stands in the data, with right tables and as many steps as can be counted.
pub record IsMadeOfData (D : PlanData) (u : Unit1) (order : (graph : ℕ) → List Vertex) (t : Tables) (code : Code) : Type 0 where
  pub in_order : AreInOrder (network u) order
  pub tables : AreTables u order t
  pub stands : Stands D (plan_of u order t) (shares_of u order)
  pub written : AreWrittenByRows D u order t
  pub few : arms_steps D (functions_of u) ≤ 2 ^ 32 - 1
  pub made : IsCodeOf (plan_of u order t) (shares_of u order) (levels_of u) (functions_of u) code
  pub told : AreTold D (plan_of u order t) (shares_of u order) (levels_of u) (functions_of u) code
  pub knit : AreKnit D (plan_of u order t) (levels_of u) (functions_of u) code

abbrev pub AreUnitCodesWhole : Type 0
AreUnitCodesWhole = (D : PlanData) (u : Unit1) (order : (graph : ℕ) → List Vertex) (t : Tables) (code : Code) → IsReady u → IsSound u → IsMadeOfData D u order t code
    → IsWhole code (blocks_by (plan_of u order t) (functions_of u))

abbrev pub IsQuickCodeWhole : Type 0
IsQuickCodeWhole = (code quick : Code) (B : Blocks) → RunsSame code quick → IsWhole code B → IsWhole quick B

abbrev pub AreUnitCodesEntered : Type 0
AreUnitCodesEntered = (D : PlanData) (u : Unit1) (order : (graph : ℕ) → List Vertex) (t : Tables) (code quick : Code) → IsReady u → IsSound u → IsMadeOfData D u order t code → RunsSame code quick
    → (f room : ℕ) → IsIn f (functions_of u) → room_of (plan_of u order t) f ≤ room → CanEnter quick (t.entry f) room
