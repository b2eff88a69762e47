-- What a simple node writes is seen by its first output, and by the literal that names a reduction.
use Rattle.std.specs.Prelude.{◌≡◌, ◌<◌, ℕ, List, [], ◌∷◌}
use Rattle.flow_value.specs.declared.operands.Shape.{Shape}
use Rattle.if1_graph.specs.declared.graph.Unit1.{Unit1}
use Rattle.if1_graph.specs.declared.op.Simple.{Simple}
use Rattle.if1_graph.specs.Ready.{IsReady}
use Rattle.graph_meaning.specs.Demand.{Fixed, Port, Source, Vertex}
use Rattle.graph_meaning.specs.Networks.{network}
use Rattle.ordered_meaning.specs.Orders.{AreInOrder}
use Rattle.step_code.specs.declared.step.Counted.{Counted}
use Rattle.step_code.specs.declared.step.Written.{Written}
use Rattle.step_code.specs.declared.step.Written.TheVariants as written
use Rattle.plan_data.specs.declared.plan.PlanData.{PlanData}
use Rattle.plan_data.specs.declared.plan.PlanNode.{PlanNode}
use Rattle.plan_data.specs.declared.plan.Work.TheVariants as work
use Rattle.plan_data.specs.Parts.{graph_nodes}
use Rattle.told_rows.specs.Grows.{IsPair}
use Rattle.told_rows.specs.Rows.{IsWrittenByRow}
use Rattle.told_rows.specs.Plans.{Tables, plan_of}

-- a literal fills the first port
abbrev pub IsFixedFirst : List Source → Type 0
IsFixedFirst [] = ⊥
IsFixedFirst (Fixed c ∷ os) = Unit {0}
IsFixedFirst (Port l p ∷ os) = ⊥

abbrev pub IsSeenOf : Written → List Source → (width : ℕ) → Type 0
IsSeenOf written.Nothing os w = Unit {0}
IsSeenOf written.Elements os w = 0 < w
IsSeenOf written.Catenated os w = IsFixedFirst os × (0 < w)

-- where data tells by the rows what the nodes of a unit's plan write
abbrev pub AreWrittenByRows : PlanData → Unit1 → (order : (graph : ℕ) → List Vertex) → Tables → Type 0
AreWrittenByRows D u order t = (g : ℕ) (n : PlanNode) (v : Vertex) → IsPair (graph_nodes D g) ((plan_of u order t).nodes g) n v → IsWrittenByRow D u g v n.work

-- it is seen so
abbrev pub AreNodesSeen : Type 0
AreNodesSeen = (D : PlanData) (u : Unit1) (order : (graph : ℕ) → List Vertex) (t : Tables) → IsReady u → AreInOrder (network u) order → AreWrittenByRows D u order t
    → (g : ℕ) (n : PlanNode) (v : Vertex) → IsPair (graph_nodes D g) ((plan_of u order t).nodes g) n v
    → (row : Simple) (shape : Shape) (writes : Written) (copies : Counted) → n.work ≡ work.Plain row shape writes copies → IsSeenOf writes v.ins ((plan_of u order t).width v)
