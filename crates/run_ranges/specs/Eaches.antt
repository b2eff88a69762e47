-- In code that is made of a plan, each Each is that of a ForAll whose body keeps to itself.
use Rattle.std.specs.Prelude.{◌≡◌, ℕ, ◌<◌, List}
use Rattle.graph_meaning.specs.Demand.{Network, Vertex}
use Rattle.run_code.specs.Coded.{Layout}
use Rattle.run_code.specs.Machine.{Weigh}
use Rattle.run_code.specs.Made.{Plan, functions_lines, functions_size}
use Rattle.run_code.specs.Steps.{Code, Each}
use Rattle.run_made.specs.Plans.{IsRightPlan, Lie, Weighing, laid_as}
use Rattle.run_ranges.specs.Apart.{KeepsApart}
use Rattle.run_ranges.specs.Ranges.{ForAllAt, count_of, iterations}

-- the step at this place is the Each of a ForAll whose body keeps to itself
pub record IsOfForAll (X : Layout) (place : ℕ) : Type 0 where
  pub it : ForAllAt X
  pub leave : ℕ
  pub each_is : (iterations X it).each ≡ place
  pub step_is : X.code place ≡ Each (iterations X it).multiples (iterations X it).first (count_of (iterations X it)) (iterations X it).turn leave
  pub apart : KeepsApart X (iterations X it)

abbrev pub AreEachesOfForAlls : Type 0
AreEachesOfForAlls = (P : Plan) (W : Weighing) (u : Network) (order : ℕ → List Vertex) (functions : List ℕ) (levels : ℕ) (code : Code) (weigh : Weigh)
    → IsRightPlan P W u order functions levels → Lie W code weigh 0 (functions_lines P levels functions 0)
    → (place n first count turn leave : ℕ) → place < functions_size P functions → code place ≡ Each n first count turn leave
    → IsOfForAll (laid_as P W u order functions code weigh) place
