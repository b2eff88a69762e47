-- Runs of code that is made of a plan that takes and copies by the marks of its unit.
use Rattle.std.specs.Prelude.{◌≡◌, ◌<◌, ◌≤◌, ◌⊎◌, ℕ, Bool, List, [], length, false, true}
use Rattle.graph_meaning.specs.Unit1.{Unit1}
use Rattle.graph_meaning.specs.Ready.{IsReady}
use Rattle.graph_meaning.specs.Sound.{IsSound}
use Rattle.graph_meaning.specs.Carried.{Carried}
use Rattle.graph_meaning.specs.Demand.{Vertex}
use Rattle.graph_meaning.specs.Entered.{IsIn}
use Rattle.graph_meaning.specs.Networks.{network}
use Rattle.graph_meaning.specs.Plain.{Costs}
use Rattle.graph_meaning.specs.StorageUnits.{storage_of}
use Rattle.run_code.specs.Orders.{AreInOrder}
use Rattle.run_code.specs.Made.{Plan}
use Rattle.run_made.specs.Plans.{IsRightPlan, Weighing, laid}
use Rattle.run_store.specs.Whole.{EndsStored, IsOfUnit, StopsStored, entered_stored, first_cells}
use Rattle.made_store.specs.Settings.{Shares}
use Rattle.made_store.specs.Settled.{functions_settings, handling_of}
use Rattle.made_store.specs.Shared.{IsShared}
use Rattle.made_store.specs.UnitWeights.{IsPicked, marked_shares}
use Rattle.made_store.specs.Weights.{by_modes}

-- A plan of a unit that takes and copies by its marks: it is right with the weights of its modes, its shares are right at each graph,
-- what it copies for the parts of a compound node is what is given and not taken, and it has the results of each graph of the unit.
pub record IsMarkedPlan (u : Unit1) (P : Plan) (S : Shares) (W : Weighing) (order : ℕ → List Vertex) (functions : List ℕ) (levels : ℕ) : Type 0 where
  pub right : IsRightPlan P W (network u) order functions levels
  pub shared : (g : ℕ) → IsShared P S W g
  pub picks : (g : ℕ) (v : Vertex) → IsPicked (storage_of u) g v v.kind (P.picks g v)
  pub as_many : (g : ℕ) → (length (P.results g) ≡ length (network u g).results) ⊎ ((network u g).results ≡ [])

-- so nothing is asked of weights
abbrev pub AreMarkedRunsDecided : Type 0
AreMarkedRunsDecided = (u : Unit1) (P : Plan) (more : (graph node port : ℕ) → Bool) (owns has : (graph port : ℕ) → Bool) (puts : (returns : ℕ) → List Bool) (order : ℕ → List Vertex) (functions : List ℕ) (levels limit : ℕ) → IsReady u → IsSound u → AreInOrder (network u) order
    → ((g l p : ℕ) → (storage_of u).is_aggregate g l p ≡ true → more g l p ≡ false)
    → (let S = marked_shares (storage_of u) more owns has puts in
    let W = by_modes P S (storage_of u) in
    let X = laid P W (network u) order functions levels in
    let handling = handling_of (functions_settings P S levels functions) in
    IsMarkedPlan u P S W order functions levels
    → (f : ℕ) (ins : List Carried) → IsIn f functions → length ins ≡ P.params f
    → ((rs : List Carried) × (c : ℕ) × (copies : ℕ) × EndsStored X handling limit (entered_stored X f (first_cells ins)) rs c copies × IsOfUnit u f ins rs c copies × (c ≤ limit))
    ⊎ (StopsStored X handling limit (entered_stored X f (first_cells ins)) × ((d c : ℕ) → Costs (network u) d f ins c → limit < c)))
