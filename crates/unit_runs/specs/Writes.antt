-- What runs of the code of a unit write.
use Rattle.std.specs.Prelude.{◌≡◌, ℕ, List, length}
use Rattle.if1_graph.specs.declared.graph.Unit1.{Unit1}
use Rattle.if1_graph.specs.Ready.{IsReady}
use Rattle.if1_marks.specs.Sound.{IsSound}
use Rattle.graph_meaning.specs.Carried.{Carried}
use Rattle.graph_meaning.specs.Demand.{Vertex}
use Rattle.graph_meaning.specs.Entered.{IsIn}
use Rattle.graph_meaning.specs.Networks.{network}
use Rattle.graph_meaning.specs.Storage.{capped}
use Rattle.graph_meaning.specs.StorageUnits.{UnitWrites}
use Rattle.ordered_meaning.specs.Orders.{AreInOrder}
use Rattle.run_code.specs.Machine.{Weigh}
use Rattle.run_code.specs.Made.{Line}
use Rattle.run_made.specs.Plans.{lines_of, weigh_at}
use Rattle.unit_plan.specs.Plans.{AreTables, Tables, functions_of, levels_of, plan_of}
use Rattle.unit_plan.specs.Shares.{writing_of}
use Rattle.step_code.specs.declared.code.Code.{Code}
use Rattle.step_code.specs.Laid.{code_of}
use Rattle.quick_code.specs.Quick.{RunsSame}
use Rattle.sequential_run.specs.Totals.{entered_at}
use Rattle.sequential_run.specs.Writes.{EndsWriting, writes_of}
use Rattle.unit_runs.specs.Alike.{AddsAlike}
use Rattle.unit_runs.specs.Runs.{CountsCopies, IsUnitCode}

module _ (u : Unit1) (order : (graph : ℕ) → List Vertex) (t : Tables) where
  abbrev pub plan_lines : List Line
  plan_lines = lines_of (plan_of u order t) (writing_of u) (network u) order (functions_of u) (levels_of u)

  -- what the lines of the unit's plan add by the weights of what is written
  abbrev pub plan_writes : Weigh
  plan_writes = weigh_at (writing_of u) plan_lines

  -- the steps of simple nodes write what the plan's weights count
  abbrev pub CountsWrites : Code → Type 0
  CountsWrites code = (pc : ℕ) → AddsAlike (writes_of code) plan_writes pc (code_of code pc)

-- Then what a run writes that ends, from the entry of a function with these arguments, is of record.
abbrev pub AreUnitCodeWritesRecorded : Type 0
AreUnitCodeWritesRecorded = (u : Unit1) (order : (graph : ℕ) → List Vertex) (t : Tables) (code : Code) (limit : ℕ) → IsReady u → IsSound u → AreInOrder (network u) order → AreTables u order t
    → IsUnitCode u order t code → CountsCopies u order t code → CountsWrites u order t code
    → (f : ℕ) (ins rs : List Carried) (c copies n : ℕ) → IsIn f (functions_of u) → length ins ≡ (plan_of u order t).params f
    → EndsWriting code limit (entered_at (t.entry f) ins) rs c copies n → UnitWrites u f ins (capped n)

-- Code whose steps do the same as those of such code writes as much.
abbrev pub DoesQuickCodeWrite : Type 0
DoesQuickCodeWrite = (u : Unit1) (order : (graph : ℕ) → List Vertex) (t : Tables) (code quick : Code) → RunsSame code quick → CountsWrites u order t code → CountsWrites u order t quick
