-- Code whose steps do the same.
use Rattle.std.specs.Prelude.{ℕ, List}
use Rattle.if1_graph.specs.declared.graph.Unit1.{Unit1}
use Rattle.graph_meaning.specs.Demand.{Vertex}
use Rattle.unit_plan.specs.Plans.{Tables}
use Rattle.step_code.specs.declared.code.Code.{Code}
use Rattle.quick_code.specs.Quick.{RunsSame}
use Rattle.unit_runs.specs.Runs.{CountsCopies, IsUnitCode}

-- where it is that of a unit and counts copies, the other is and does
abbrev pub IsQuickUnitCode : Type 0
IsQuickUnitCode = (u : Unit1) (order : (graph : ℕ) → List Vertex) (t : Tables) (code quick : Code) → RunsSame code quick → IsUnitCode u order t code → CountsCopies u order t code
    → IsUnitCode u order t quick × CountsCopies u order t quick
