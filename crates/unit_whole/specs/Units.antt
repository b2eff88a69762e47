-- Plans of units are even.
use Rattle.std.specs.Prelude.{ℕ, List}
use Rattle.if1_graph.specs.declared.graph.Unit1.{Unit1}
use Rattle.if1_graph.specs.Ready.{IsReady}
use Rattle.graph_meaning.specs.Demand.{Vertex}
use Rattle.graph_meaning.specs.Networks.{network}
use Rattle.ordered_meaning.specs.Orders.{AreInOrder}
use Rattle.unit_plan.specs.Plans.{Tables, functions_of, plan_of}
use Rattle.unit_whole.specs.Even.{IsEven}

abbrev pub AreUnitPlansEven : Type 0
AreUnitPlansEven = (u : Unit1) (order : (graph : ℕ) → List Vertex) (t : Tables) → IsReady u → AreInOrder (network u) order → IsEven (plan_of u order t) (functions_of u)
