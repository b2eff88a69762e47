-- The laws of code that is made.
use Rattle.std.specs.Prelude.{◌≡◌, ℕ, ◌≤◌, ◌<◌, ◌⊎◌, List, length}
use Rattle.run_laws.specs.Carried.{Carried}
use Rattle.run_laws.specs.Demand.{Vertex, Network, AreOrderly}
use Rattle.run_laws.specs.Entered.{IsIn}
use Rattle.run_laws.specs.Plain.{Costs}
use Rattle.run_laws.specs.Orders.{AreInOrder}
use Rattle.run_laws.specs.Cells.{Cells}
use Rattle.run_laws.specs.Coded.{AreCoded}
use Rattle.run_laws.specs.Machine.{Weigh, EndsIn}
use Rattle.run_laws.specs.Made.{Plan, functions_lines, functions_size}
use Rattle.run_laws.specs.Steps.{Code}
use Rattle.run_laws.specs.Inside.{IsInside}
use Rattle.run_laws.specs.Laws.{Hold, entered, IsRecorded}
use Rattle.run_laws.specs.Stopping.{ComesToLimit}
use Rattle.run_made.specs.Plans.{Weighing, Lie, IsRightPlan, laid_as, laid, end_of}

-- where the lines of a right plan lie in code, each function's steps do its graph
abbrev pub IsCodeOfGraphs : Type 0
IsCodeOfGraphs = (P : Plan) (W : Weighing) (u : Network) (order : ℕ → List Vertex) (functions : List ℕ) (levels : ℕ) (code : Code) (weigh : Weigh)
    → IsRightPlan P W u order functions levels → Lie W code weigh 0 (functions_lines P levels functions 0)
    → AreCoded (laid_as P W u order functions code weigh)

-- and stay inside the block
abbrev pub IsCodeInside : Type 0
IsCodeInside = (P : Plan) (W : Weighing) (u : Network) (order : ℕ → List Vertex) (functions : List ℕ) (levels : ℕ) (code : Code) (weigh : Weigh)
    → IsRightPlan P W u order functions levels → Lie W code weigh 0 (functions_lines P levels functions 0)
    → IsInside (laid_as P W u order functions code weigh) (end_of P) (functions_size P functions)

-- so lie the lines that are made
abbrev pub DoLinesLie : Type 0
DoLinesLie = (P : Plan) (W : Weighing) (u : Network) (order : ℕ → List Vertex) (functions : List ℕ) (levels : ℕ)
    → Lie W (laid P W u order functions levels).code (laid P W u order functions levels).weigh 0 (functions_lines P levels functions 0)

-- and so a run of code that is made of a right plan is decided
abbrev pub AreMadeRunsDecided : Type 0
AreMadeRunsDecided = (P : Plan) (W : Weighing) (u : Network) (order : ℕ → List Vertex) (functions : List ℕ) (levels limit : ℕ)
    → IsRightPlan P W u order functions levels → AreOrderly u → AreInOrder u order
    → (f : ℕ) (ins : List Carried) (cells : Cells) → IsIn f functions → length ins ≡ P.params f → Hold cells ins
    → ((k : ℕ) × (rs : List Carried) × (c : ℕ) × (sum : ℕ)
    × EndsIn k limit (laid P W u order functions levels).code (entered (laid P W u order functions levels) f cells) rs c
    × IsRecorded (laid P W u order functions levels) f ins rs c sum × (c ≤ limit))
    ⊎ (ComesToLimit (laid P W u order functions levels) limit (entered (laid P W u order functions levels) f cells) × ((d c : ℕ) → Costs u d f ins c → limit < c))
