-- Runs of the code of a unit.
use Rattle.std.specs.Prelude.{◌≡◌, ◌<◌, ◌≤◌, ℕ, List, length}
use Rattle.if1_graph.specs.declared.graph.Unit1.{Unit1}
use Rattle.if1_graph.specs.Ready.{IsReady}
use Rattle.if1_marks.specs.Sound.{IsSound}
use Rattle.graph_meaning.specs.Carried.{Carried}
use Rattle.graph_meaning.specs.Demand.{Vertex}
use Rattle.graph_meaning.specs.Entered.{IsIn}
use Rattle.graph_meaning.specs.Networks.{network}
use Rattle.graph_meaning.specs.Plain.{Costs}
use Rattle.ordered_meaning.specs.Orders.{AreInOrder}
use Rattle.run_made.specs.Plans.{lines_of, weigh_at}
use Rattle.run_store.specs.Whole.{IsOfUnit}
use Rattle.unit_plan.specs.Plans.{AreTables, Tables, functions_of, levels_of, plan_of}
use Rattle.unit_plan.specs.Shares.{shares_of, weighing}
use Rattle.step_code.specs.declared.code.Code.{Code}
use Rattle.step_code.specs.Laid.{code_of}
use Rattle.code_maker.specs.Makes.{IsCodeOf}
use Rattle.sequential_run.specs.Runs.{Ends, IsDecided, LendsBelow, Stops, weigh_of}
use Rattle.sequential_run.specs.Totals.{entered_at}
use Rattle.unit_runs.specs.Alike.{AddsAlike}

module _ (u : Unit1) (order : (graph : ℕ) → List Vertex) (t : Tables) (code : Code) where
  -- it is made of the unit's plan
  abbrev pub IsUnitCode : Type 0
  IsUnitCode = IsCodeOf (plan_of u order t) (shares_of u order) (levels_of u) (functions_of u) code

  -- the steps of simple nodes count the copies that the plan's weights count
  abbrev pub CountsCopies : Type 0
  CountsCopies =
      (pc : ℕ) → AddsAlike (weigh_of code) (weigh_at (weighing u order t) (lines_of (plan_of u order t) (weighing u order t) (network u) order (functions_of u) (levels_of u))) pc (code_of code pc)

-- A run from the entry of a function with these arguments is decided, and what it lends stands below. Where it ends, its results, firings
-- and copies are of record; where it comes to the limit, every cost is beyond it.
pub record IsRunOf (u : Unit1) (code : Code) (limit function entry : ℕ) (ins : List Carried) : Type 0 where
  pub decided : IsDecided code limit (entered_at entry ins)
  pub lends : LendsBelow code limit (entered_at entry ins)
  pub ends : (rs : List Carried) (c copies : ℕ) → Ends code limit (entered_at entry ins) rs c copies → IsOfUnit u function ins rs c copies × (c ≤ limit)
  pub stops : Stops code limit (entered_at entry ins) → (d c : ℕ) → Costs (network u) d function ins c → limit < c

-- So is each run of the code of a ready unit with sound marks, in any order along its edges and with right tables.
abbrev pub AreUnitCodeRunsRecorded : Type 0
AreUnitCodeRunsRecorded = (u : Unit1) (order : (graph : ℕ) → List Vertex) (t : Tables) (code : Code) (limit : ℕ) → IsReady u → IsSound u → AreInOrder (network u) order → AreTables u order t
    → IsUnitCode u order t code → CountsCopies u order t code
    → (f : ℕ) (ins : List Carried) → IsIn f (functions_of u) → length ins ≡ (plan_of u order t).params f → IsRunOf u code limit f (t.entry f) ins
