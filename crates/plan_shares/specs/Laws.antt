-- The shares of a unit meet what is asked of a plan's shares.
use Rattle.std.specs.Prelude.{◌≡◌, ℕ, List, [], true}
use Rattle.if1_graph.specs.declared.graph.Unit1.{Unit1}
use Rattle.if1_graph.specs.Ready.{IsReady}
use Rattle.if1_marks.specs.Sound.{IsSound}
use Rattle.graph_meaning.specs.Demand.{EachNode, Vertex}
use Rattle.graph_meaning.specs.Networks.{network}
use Rattle.ordered_meaning.specs.Orders.{AreInOrder}
use Rattle.ordered_meaning.specs.Taking.{AreTakersLast, first_port}
use Rattle.made_store.specs.Shared.{AreThere, IsKindShared, IsShared, TakesOwned}
use Rattle.unit_plan.specs.Plans.{Tables, plan_of}
use Rattle.unit_plan.specs.Shares.{shares_of, weighing}

-- inputs that are read are there, in each graph of the plan of a ready unit
abbrev pub AreReadThere : Type 0
AreReadThere = (u : Unit1) (order : (graph : ℕ) → List Vertex) (t : Tables) → IsReady u → AreInOrder (network u) order → (g : ℕ)
    → (let P = plan_of u order t in
    let S = shares_of u order in
    let W = weighing u order t in
    EachNode (λ v. AreThere P S W g v.ins) (P.nodes g) × AreThere P S W g (P.results g))

-- and so are those that it owns
abbrev pub AreOwnedThere : Type 0
AreOwnedThere = (u : Unit1) (order : (graph : ℕ) → List Vertex) (g p : ℕ) → (let S = shares_of u order in S.owns g p ≡ true → S.has g p ≡ true)

-- where the marks are sound, takers are last in each graph, also in a returns on what is collected
abbrev pub AreSharesLast : Type 0
AreSharesLast = (u : Unit1) (order : (graph : ℕ) → List Vertex) (t : Tables) → IsReady u → IsSound u → AreInOrder (network u) order → (g : ℕ)
    → (let P = plan_of u order t in
    let S = shares_of u order in
    AreTakersLast (S.takes g) [] (P.nodes g) (P.results g))

-- inputs that are taken are owned
abbrev pub AreSharesOwned : Type 0
AreSharesOwned = (u : Unit1) (order : (graph : ℕ) → List Vertex) (t : Tables) → IsReady u → IsSound u → AreInOrder (network u) order → (g : ℕ)
    → (let P = plan_of u order t in
    let S = shares_of u order in
    let W = weighing u order t in
    EachNode (λ v. TakesOwned P S W g v.label (first_port v.kind) v.ins) (P.nodes g) × TakesOwned P S W g 0 1 (P.results g))

-- what parts and called functions own is given to them
abbrev pub AreKindsShared : Type 0
AreKindsShared = (u : Unit1) (order : (graph : ℕ) → List Vertex) (t : Tables) → IsReady u → IsSound u → AreInOrder (network u) order → (g : ℕ)
    → (let P = plan_of u order t in
    EachNode (λ v. IsKindShared P (shares_of u order) (weighing u order t) g v v.kind) (P.nodes g))

-- so the shares of a unit are right at each graph of its plan
abbrev pub AreUnitSharesRight : Type 0
AreUnitSharesRight = (u : Unit1) (order : (graph : ℕ) → List Vertex) (t : Tables) → IsReady u → IsSound u → AreInOrder (network u) order → (g : ℕ) → IsShared (plan_of u order t) (shares_of u order) (weighing u order t) g
