-- What fills the ports of the nodes of a graph.
use Rattle.std.specs.Prelude.{◌≡◌, ℕ, zero, suc, ◌≤◌, List, ◌++◌, Option}
use Rattle.if1_graph.specs.Ports.{IsUpTo}
use Rattle.step_code.specs.Cell.{Cell}
use Rattle.plan_data.specs.declared.plan.Feed.{Feed}
use Rattle.plan_data.specs.declared.plan.Feed.TheVariants as feed
use Rattle.plan_data.specs.declared.plan.PlanData.{PlanData}
use Rattle.plan_builder.specs.declared.outlets.Outlets.{Outlets}
use Rattle.plan_builder.specs.Outlets.{IsOutlet}

-- the output of a node that is there; inputs of the graph are counted from 1
abbrev pub IsSource : Outlets → (node port : ℕ) → Type 0
IsSource x zero p = 1 ≤ p
IsSource x (suc l) p = IsOutlet x (suc l) p

-- these literals, and behind them others, are those of the data
abbrev pub HasLiterals : List Cell → PlanData → Type 0
HasLiterals cs D = (more : List Cell) × (D.literals ≡ cs ++ more)

-- an input of the graph is one that it has, where it is known how many it has
abbrev pub IsInput : (inputs : Option ℕ) → Feed → Type 0
IsInput many (feed.Input i) = IsUpTo many (suc i)
IsInput many _ = Unit {0}
