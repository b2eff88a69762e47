-- What iterations take in code that is made of a plan, with shares that are right.
use Rattle.std.specs.Prelude.{ℕ, ◌<◌, List}
use Rattle.graph_meaning.specs.Demand.{Network, Vertex}
use Rattle.run_code.specs.Machine.{Weigh}
use Rattle.run_code.specs.Made.{Plan, functions_lines, functions_size}
use Rattle.run_code.specs.Steps.{Code}
use Rattle.run_made.specs.Plans.{IsRightPlan, Lie, Weighing, laid_as}
use Rattle.run_store.specs.Lively.{Live}
use Rattle.run_store.specs.Stored.{Handling}
use Rattle.made_store.specs.Settings.{FunctionsSet, Shares}
use Rattle.made_store.specs.Shared.{IsShared}
use Rattle.run_ranges.specs.Alone.{TakesAbove}
use Rattle.run_ranges.specs.Ranges.{ForAllAt, iterations}

-- Of each ForAll in such code, whose places are set so, no step from the body to the Each takes a cell below the collections.
abbrev pub DoEachesTakeAbove : Type 0
DoEachesTakeAbove = (P : Plan) (S : Shares) (W : Weighing) (u : Network) (order : ℕ → List Vertex) (functions : List ℕ) (levels : ℕ) (code : Code) (weigh : Weigh) (handling : ℕ → Handling) (live own : Live)
    → IsRightPlan P W u order functions levels → ((g : ℕ) → IsShared P S W g) → Lie W code weigh 0 (functions_lines P levels functions 0) → FunctionsSet P S handling live own levels functions 0
    → (let X = laid_as P W u order functions code weigh in (f : ForAllAt X) → (iterations X f).each < functions_size P functions → TakesAbove X handling (iterations X f))
