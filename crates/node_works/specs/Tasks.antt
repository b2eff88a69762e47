-- What nodes do, as data.
use Rattle.std.specs.Prelude.{ℕ, ◌<◌, List, All}
use Rattle.graph_meaning.specs.Demand.{Kind}
use Rattle.graph_meaning.specs.Demand as demand
use Rattle.graph_meaning.specs.Entered.{IsIn}
use Rattle.node_ops.specs.Operands.{shape_of}
use Rattle.plan_data.specs.declared.plan.LoopParts.{LoopParts}
use Rattle.plan_data.specs.declared.plan.Work.{Work}
use Rattle.plan_data.specs.declared.plan.Work.TheVariants as work
use Rattle.plan_data.specs.Parts.{kind_of}
use Rattle.node_works.specs.declared.task.Task.{Task}
use Rattle.node_works.specs.declared.task.Task.TheVariants as task

-- what the node does, with so many outputs
abbrev pub task_kind : Task → (width : ℕ) → Kind
task_kind (task.Plain row shape) w = demand.Plain row (shape_of shape)
task_kind (task.Whole x) w = kind_of x w

-- ---- a Call or a compound node

abbrev pub IsCallOrWhole : Work → Type 0
IsCallOrWhole (work.Plain row shape writes copies) = ⊥
IsCallOrWhole _ = Unit {0}

abbrev pub IsTask : Task → Type 0
IsTask (task.Plain row shape) = Unit {0}
IsTask (task.Whole x) = IsCallOrWhole x

-- ---- the graphs inside it have greater numbers than this one

abbrev pub AreLoopPartsAbove : ℕ → LoopParts → Type 0
AreLoopPartsAbove k p = (k < p.init) × (k < p.test) × (k < p.body) × (k < p.returns)

abbrev pub IsWorkAbove : ℕ → Work → Type 0
IsWorkAbove k (work.Plain row shape writes copies) = Unit {0}
IsWorkAbove k (work.Call f) = Unit {0}
IsWorkAbove k (work.Select s gs) = (k < s) × All (λ g. k < g) gs
IsWorkAbove k (work.TagCase gs) = All (λ g. k < g) gs
IsWorkAbove k (work.LoopA p) = AreLoopPartsAbove k p
IsWorkAbove k (work.LoopB p) = AreLoopPartsAbove k p
IsWorkAbove k (work.ForAll g b r m) = (k < g) × (k < b) × (k < r)

abbrev pub IsTaskAbove : ℕ → Task → Type 0
IsTaskAbove k (task.Plain row shape) = Unit {0}
IsTaskAbove k (task.Whole x) = IsWorkAbove k x

-- ---- what it calls is one of these functions

abbrev pub IsWorkCalling : List ℕ → Work → Type 0
IsWorkCalling fs (work.Call f) = IsIn f fs
IsWorkCalling fs _ = Unit {0}

abbrev pub IsTaskCalling : List ℕ → Task → Type 0
IsTaskCalling fs (task.Plain row shape) = Unit {0}
IsTaskCalling fs (task.Whole x) = IsWorkCalling fs x
