-- Runs of code that is made of the graphs of a unit, where some cells are read through paths.
use Rattle.std.specs.Prelude.{◌≡◌, ◌<◌, ◌≤◌, ◌⊎◌, ℕ, Bool, List, [], length}
use Rattle.if1_graph.specs.declared.graph.Unit1.{Unit1}
use Rattle.if1_graph.specs.Ready.{IsReady}
use Rattle.if1_marks.specs.Sound.{IsSound}
use Rattle.graph_meaning.specs.Carried.{Carried}
use Rattle.graph_meaning.specs.Demand.{Vertex}
use Rattle.graph_meaning.specs.Entered.{IsIn}
use Rattle.graph_meaning.specs.Networks.{network}
use Rattle.graph_meaning.specs.Plain.{Costs}
use Rattle.graph_meaning.specs.Storage.{copying}
use Rattle.graph_meaning.specs.StorageUnits.{storage_of}
use Rattle.ordered_meaning.specs.Orders.{AreInOrder}
use Rattle.run_code.specs.Made.{Plan}
use Rattle.run_laws.specs.Facts.{Fact}
use Rattle.run_laws.specs.Weighing.{AreAlike}
use Rattle.run_made.specs.Plans.{IsRightPlan, Weighing, laid}
use Rattle.run_store.specs.Whole.{EndsStored, IsOfUnit, StopsStored, entered_stored, first_cells}
use Rattle.made_store.specs.Settings.{Shares}
use Rattle.made_store.specs.Settled.{functions_settings, handling_of, live_of, own_of}
use Rattle.made_store.specs.Shared.{IsShared}
use Rattle.seen_store.specs.Seen.{IsSeenThrough, Seen, seen_handling}

-- what is seen, not kept and known of the code of a plan and its shares; nothing is known where a function begins
pub record IsMadeSeen (P : Plan) (S : Shares) (W : Weighing) (u : Unit1) (order : (graph : ℕ) → List Vertex) (functions : List ℕ) (levels : ℕ) (seen : Seen) (hidden : (place cell : ℕ) → Bool) (facts : (place : ℕ) → List Fact) : Type 0 where
  pub through : (let ss = functions_settings P S levels functions in
      IsSeenThrough seen hidden (live_of ss) (own_of ss) (laid P W (network u) order functions levels).code (handling_of ss) facts)
  pub begins : (f : ℕ) → IsIn f functions → facts (P.entry f) ≡ []

-- So a run is decided as where each cell is read in itself.
abbrev pub AreSeenRunsDecided : Type 0
AreSeenRunsDecided = (u : Unit1) (P : Plan) (S : Shares) (W : Weighing) (order : ℕ → List Vertex) (functions : List ℕ) (levels limit : ℕ) (seen : Seen) (hidden : (place cell : ℕ) → Bool) (facts : (place : ℕ) → List Fact)
    → IsReady u → IsSound u → AreInOrder (network u) order → IsRightPlan P W (network u) order functions levels → ((g : ℕ) → IsShared P S W g) → AreAlike (network u) W.weights (copying (storage_of u))
    → IsMadeSeen P S W u order functions levels seen hidden facts
    → (f : ℕ) (ins : List Carried) → IsIn f functions → length ins ≡ P.params f
    → (let X = laid P W (network u) order functions levels in
    let handling = seen_handling seen hidden X.code (handling_of (functions_settings P S levels functions)) in
    ((rs : List Carried) × (c : ℕ) × (copies : ℕ) × EndsStored X handling limit (entered_stored X f (first_cells ins)) rs c copies × IsOfUnit u f ins rs c copies × (c ≤ limit))
    ⊎ (StopsStored X handling limit (entered_stored X f (first_cells ins)) × ((d c : ℕ) → Costs (network u) d f ins c → limit < c)))
