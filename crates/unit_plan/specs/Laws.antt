-- The laws of the plan of a unit.
use Rattle.std.specs.Prelude.{◌≡◌, ◌<◌, ◌≤◌, ◌⊎◌, ℕ, List, length}
use Rattle.if1_graph.specs.declared.graph.Unit1.{Unit1}
use Rattle.if1_graph.specs.Ready.{IsReady}
use Rattle.graph_meaning.specs.Sound.{IsSound}
use Rattle.graph_meaning.specs.Carried.{Carried}
use Rattle.graph_meaning.specs.Demand.{Vertex}
use Rattle.graph_meaning.specs.Entered.{IsIn}
use Rattle.graph_meaning.specs.Networks.{network}
use Rattle.graph_meaning.specs.Plain.{Costs}
use Rattle.made_store.specs.OrderedMeaningOrders.{AreInOrder}
use Rattle.graph_meaning.specs.Storage.{capped}
use Rattle.graph_meaning.specs.StorageUnits.{UnitWrites}
use Rattle.made_store.specs.Plans.{IsRightPlan, laid, lines_of, weigh_at}
use Rattle.made_store.specs.Sums.{EndsAddingStored}
use Rattle.made_store.specs.Whole.{EndsStored, IsOfUnit, StopsStored, entered_stored, first_cells}
use Rattle.made_store.specs.Settled.{functions_settings, handling_of}
use Rattle.made_store.specs.Shared.{IsShared}
use Rattle.made_store.specs.UnitWeights.{ArePicksForParts}
use Rattle.unit_plan.specs.Plans.{AreTables, Tables, functions_of, levels_of, plan_of}
use Rattle.unit_plan.specs.Shares.{shares_of, weighing, writing_of}

-- the plan of a ready unit with sound marks is right, in each order along its edges and lists, with tables that are right
abbrev pub AreUnitPlansRight : Type 0
AreUnitPlansRight = (u : Unit1) (order : (graph : ℕ) → List Vertex) (t : Tables) → IsReady u → IsSound u → AreInOrder (network u) order → AreTables u order t
    → IsRightPlan (plan_of u order t) (weighing u order t) (network u) order (functions_of u) (levels_of u)

-- so it is with the weights of what is written
abbrev pub AreUnitWritesRight : Type 0
AreUnitWritesRight = (u : Unit1) (order : (graph : ℕ) → List Vertex) (t : Tables) → IsReady u → IsSound u → AreInOrder (network u) order → AreTables u order t
    → IsRightPlan (plan_of u order t) (writing_of u) (network u) order (functions_of u) (levels_of u)

-- and such tables are there
abbrev pub AreUnitTablesThere : Type 0
AreUnitTablesThere = (u : Unit1) (order : (graph : ℕ) → List Vertex) → IsReady u → IsSound u → AreInOrder (network u) order → (t : Tables) × AreTables u order t

-- it copies inputs for the parts of compound nodes alone
abbrev pub DoUnitPlansPickForParts : Type 0
DoUnitPlansPickForParts = (u : Unit1) (order : (graph : ℕ) → List Vertex) (t : Tables) → ArePicksForParts (plan_of u order t)

-- Where the shares of the plan are right at each graph, a run of the code that is made of it, begun with its arguments in the first
-- cells, is decided: it ends with the results, cost and copies of record, or every cost is beyond the limit.
abbrev pub AreUnitPlansDecided : Type 0
AreUnitPlansDecided = (u : Unit1) (order : (graph : ℕ) → List Vertex) (t : Tables) (limit : ℕ) → IsReady u → IsSound u → AreInOrder (network u) order → AreTables u order t
    → (let P = plan_of u order t in
    let S = shares_of u order in
    let X = laid P (weighing u order t) (network u) order (functions_of u) (levels_of u) in
    let handling = handling_of (functions_settings P S (levels_of u) (functions_of u)) in
    ((g : ℕ) → IsShared P S (weighing u order t) g)
    → (f : ℕ) (ins : List Carried) → IsIn f (functions_of u) → length ins ≡ P.params f
    → ((rs : List Carried) × (c : ℕ) × (copies : ℕ) × EndsStored X handling limit (entered_stored X f (first_cells ins)) rs c copies × IsOfUnit u f ins rs c copies × (c ≤ limit))
    ⊎ (StopsStored X handling limit (entered_stored X f (first_cells ins)) × ((d c : ℕ) → Costs (network u) d f ins c → limit < c)))

-- What such a run that ends adds up by the weights of what is written is what is written by the definition of record.
abbrev pub AreUnitPlanWritesRecorded : Type 0
AreUnitPlanWritesRecorded = (u : Unit1) (order : (graph : ℕ) → List Vertex) (t : Tables) (limit : ℕ) → IsReady u → IsSound u → AreInOrder (network u) order → AreTables u order t
    → (let P = plan_of u order t in
    let S = shares_of u order in
    let X = laid P (weighing u order t) (network u) order (functions_of u) (levels_of u) in
    let handling = handling_of (functions_settings P S (levels_of u) (functions_of u)) in
    ((g : ℕ) → IsShared P S (weighing u order t) g)
    → (f : ℕ) (ins rs : List Carried) (c copies sum : ℕ) → IsIn f (functions_of u) → length ins ≡ P.params f
    → EndsAddingStored X (weigh_at (writing_of u) (lines_of P (writing_of u) (network u) order (functions_of u) (levels_of u))) handling limit (entered_stored X f (first_cells ins)) rs c copies sum
    → UnitWrites u f ins (capped sum))
