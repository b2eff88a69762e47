-- The laws of code that is made with its settings: no step reads what was taken or takes what is lent, and its modes copy what the steps
-- add.
use Rattle.std.specs.Prelude.{◌≡◌, ℕ, ◌<◌, ◌≤◌, ◌⊎◌, List, [], length}
use Rattle.graph_meaning.specs.Unit1.{Unit1}
use Rattle.graph_meaning.specs.Ready.{IsReady}
use Rattle.graph_meaning.specs.Sound.{IsSound}
use Rattle.graph_meaning.specs.Carried.{Carried}
use Rattle.graph_meaning.specs.Demand.{Vertex, Network}
use Rattle.graph_meaning.specs.Entered.{IsIn}
use Rattle.graph_meaning.specs.Networks.{network}
use Rattle.graph_meaning.specs.Plain.{Costs}
use Rattle.graph_meaning.specs.Storage.{Storage, capped, copying, writing}
use Rattle.graph_meaning.specs.StorageUnits.{UnitWrites, storage_of}
use Rattle.run_code.specs.Orders.{AreInOrder}
use Rattle.run_code.specs.Made.{Plan, functions_size}
use Rattle.run_made.specs.Weighing.{AreAlike}
use Rattle.run_made.specs.Plans.{IsRightPlan, Weighing, laid, lines_of, weigh_at}
use Rattle.run_store.specs.Lively.{Live}
use Rattle.run_store.specs.Stored.{Handling}
use Rattle.run_store.specs.Sums.{EndsAddingStored}
use Rattle.run_store.specs.Whole.{EndsStored, IsOfUnit, IsStoredCode, StopsStored, entered_stored, first_cells}
use Rattle.made_store.specs.Settings.{FunctionsSet, Shares}
use Rattle.made_store.specs.Settled.{functions_settings, handling_of, live_of, own_of}
use Rattle.made_store.specs.Shared.{IsShared}

-- Code that is made of a right plan, with shares that are right at each graph: where its places are set so, and steps behind it take
-- nothing, it is stored code, with nothing known of its cells.
abbrev pub IsSetStored : Type 0
IsSetStored = (P : Plan) (S : Shares) (W : Weighing) (u : Network) (order : ℕ → List Vertex) (functions : List ℕ) (levels : ℕ) (handling : ℕ → Handling) (live own : Live) (s : Storage)
    → IsRightPlan P W u order functions levels → ((g : ℕ) → IsShared P S W g) → FunctionsSet P S handling live own levels functions 0
    → ((pc : ℕ) → functions_size P functions ≤ pc → (handling pc).modes ≡ []) → AreAlike u W.weights (copying s)
    → IsStoredCode s (laid P W u order functions levels) handling (λ pc. []) live own

-- So they are set by the settings that are made beside its steps.
abbrev pub IsMadeStored : Type 0
IsMadeStored = (P : Plan) (S : Shares) (W : Weighing) (u : Network) (order : ℕ → List Vertex) (functions : List ℕ) (levels : ℕ) (s : Storage)
    → IsRightPlan P W u order functions levels → ((g : ℕ) → IsShared P S W g) → AreAlike u W.weights (copying s)
    → IsStoredCode s (laid P W u order functions levels) (handling_of (functions_settings P S levels functions)) (λ pc. []) (live_of (functions_settings P S levels functions)) (own_of (functions_settings P S levels functions))

-- A run of code that is made of a right plan of a ready unit with sound marks, begun with its arguments in the first cells, is decided.
abbrev pub AreMadeUnitRunsDecided : Type 0
AreMadeUnitRunsDecided = (u : Unit1) (P : Plan) (S : Shares) (W : Weighing) (order : ℕ → List Vertex) (functions : List ℕ) (levels limit : ℕ) → IsReady u → IsSound u → AreInOrder (network u) order
    → IsRightPlan P W (network u) order functions levels → ((g : ℕ) → IsShared P S W g) → AreAlike (network u) W.weights (copying (storage_of u))
    → (f : ℕ) (ins : List Carried) → IsIn f functions → length ins ≡ P.params f
    → (let X = laid P W (network u) order functions levels in
    let handling = handling_of (functions_settings P S levels functions) in
    ((rs : List Carried) × (c : ℕ) × (copies : ℕ) × EndsStored X handling limit (entered_stored X f (first_cells ins)) rs c copies × IsOfUnit u f ins rs c copies × (c ≤ limit))
    ⊎ (StopsStored X handling limit (entered_stored X f (first_cells ins)) × ((d c : ℕ) → Costs (network u) d f ins c → limit < c)))

-- Where the plan is right with weights for writes too, what such a run that ends adds up by them is what is written by the definition of
-- record.
abbrev pub AreMadeWritesRecorded : Type 0
AreMadeWritesRecorded = (u : Unit1) (P : Plan) (S : Shares) (W V : Weighing) (order : ℕ → List Vertex) (functions : List ℕ) (levels limit : ℕ) → IsReady u → IsSound u → AreInOrder (network u) order
    → IsRightPlan P W (network u) order functions levels → IsRightPlan P V (network u) order functions levels → ((g : ℕ) → IsShared P S W g) → AreAlike (network u) W.weights (copying (storage_of u)) → AreAlike (network u) V.weights (writing (storage_of u))
    → (f : ℕ) (ins rs : List Carried) (c copies sum : ℕ) → IsIn f functions → length ins ≡ P.params f
    → EndsAddingStored (laid P W (network u) order functions levels) (weigh_at V (lines_of P V (network u) order functions levels)) (handling_of (functions_settings P S levels functions)) limit (entered_stored (laid P W (network u) order functions levels) f (first_cells ins)) rs c copies sum
    → UnitWrites u f ins (capped sum)
