-- The nodes of a graph, by what fills their ports and how that is handled.
use Rattle.std.specs.Prelude.{◌≡◌, ℕ, suc, Bool, true, false, List, [], ◌∷◌}
use Rattle.plan_data.specs.declared.plan.Handled.{Handled}
use Rattle.plan_data.specs.declared.plan.Handled.TheVariants as handled
use Rattle.plan_data.specs.declared.plan.PlanNode.{PlanNode}
use Rattle.plan_data.specs.declared.plan.Port.{Port}
use Rattle.plan_data.specs.declared.plan.Work.{Work}

-- a node that does this, with so many outputs
abbrev pub made_node : Work → (width : ℕ) → List Port → PlanNode
made_node work width ins = record { work = work; width = width; ins = ins }

-- how a simple node or Call handles what fills a port, by whether it takes it, and whether it copies what it does not take
abbrev pub handled_by : (takes copies : Bool) → Handled
handled_by true copies = handled.Takes
handled_by false true = handled.Copies
handled_by false false = handled.Looks

-- how a compound node does, by whether it takes it, and whether it copies it for its parts
abbrev pub given_by : (takes copies : Bool) → Handled
given_by takes true = handled.Copies
given_by true false = handled.Takes
given_by false false = handled.Looks

-- what fills ports from the first of these on is handled so
abbrev pub AreHandled : (by : (takes copies : Bool) → Handled) → (takes copies : (port : ℕ) → Bool) → (first : ℕ) → List Port → Type 0
AreHandled by takes copies i [] = Unit {0}
AreHandled by takes copies i (x ∷ xs) = (x.handled ≡ by (takes i) (copies i)) × AreHandled by takes copies (suc i) xs
