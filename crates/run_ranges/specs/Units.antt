-- Ranges in the code of a unit.
use Rattle.std.specs.Prelude.{◌≡◌, ℕ, ◌+◌, ◌<◌, ◌≤◌, List, []}
use Rattle.if1_graph.specs.declared.graph.Unit1.{Unit1}
use Rattle.if1_graph.specs.Ready.{IsReady}
use Rattle.if1_marks.specs.Sound.{IsSound}
use Rattle.graph_meaning.specs.Carried.{Carried}
use Rattle.graph_meaning.specs.Demand.{Vertex}
use Rattle.graph_meaning.specs.Forms.{places_of}
use Rattle.graph_meaning.specs.Networks.{network}
use Rattle.ordered_meaning.specs.Orders.{AreInOrder}
use Rattle.run_code.specs.Coded.{Layout}
use Rattle.run_code.specs.Made.{functions_size}
use Rattle.run_code.specs.Steps.{Each}
use Rattle.run_laws.specs.Facts.{AreLong}
use Rattle.run_made.specs.Plans.{laid}
use Rattle.run_store.specs.Stored.{Stored}
use Rattle.made_store.specs.Settled.{Setting, functions_settings, handling_of, live_of, own_of}
use Rattle.unit_plan.specs.Plans.{AreTables, Tables, functions_of, levels_of, plan_of}
use Rattle.unit_plan.specs.Shares.{shares_of, weighing}
use Rattle.step_code.specs.declared.code.Code.{Code}
use Rattle.step_code.specs.Laid.{code_of}
use Rattle.sequential.specs.declared.machine.Machine.{Machine}
use Rattle.sequential.specs.Agrees.{IsAt}
use Rattle.sequential_range.specs.Ranges as ranges
use Rattle.sequential_range.specs.Ranges.{IsBefore, ReachesFirst}
use Rattle.unit_runs.specs.Runs.{CountsCopies, IsUnitCode}
use Rattle.run_ranges.specs.Agreeing.{DoesAs}
use Rattle.run_ranges.specs.Alone.{IsSuppliedAlone}
use Rattle.run_ranges.specs.Eaches.{IsOfForAll}
use Rattle.run_ranges.specs.Owned.{Collects, Has}
use Rattle.run_ranges.specs.Ranges.{AreRowsOfRecord, iterations, put_rows, rows_from}

module _ (u : Unit1) (order : (graph : ℕ) → List Vertex) (t : Tables) where
  -- what is made of the unit's plan
  abbrev pub layout_of : Layout
  layout_of = laid (plan_of u order t) (weighing u order t) (network u) order (functions_of u) (levels_of u)

  abbrev pub settings_of : List Setting
  settings_of = functions_settings (plan_of u order t) (shares_of u order) (levels_of u) (functions_of u)

  -- the place is one of its lines
  abbrev pub IsPlace : ℕ → Type 0
  IsPlace place = place < functions_size (plan_of u order t) (functions_of u)

-- ---- the laws

-- The code of a ready unit that counts copies does as what is made of its plan.
abbrev pub DoesUnitCodeAgree : Type 0
DoesUnitCodeAgree = (u : Unit1) (order : (graph : ℕ) → List Vertex) (t : Tables) (code : Code) (limit : ℕ) → IsReady u → AreInOrder (network u) order → IsUnitCode u order t code → CountsCopies u order t code
    → DoesAs (layout_of u order t) (handling_of (settings_of u order t)) code limit

-- Each Each of it is that of a ForAll whose body keeps to itself.
abbrev pub AreUnitEachesOfForAlls : Type 0
AreUnitEachesOfForAlls = (u : Unit1) (order : (graph : ℕ) → List Vertex) (t : Tables) (code : Code) → IsReady u → IsSound u → AreInOrder (network u) order → AreTables u order t → IsUnitCode u order t code
    → (place n first count turn leave : ℕ) → IsPlace u order t place → code_of code place ≡ Each n first count turn leave → IsOfForAll (layout_of u order t) place

-- On a block that stands alone, where what is live there is in its cell, and owned from the collections on where it is to be, a machine
-- that stands there before an iteration has begun the range.
abbrev pub DoUnitRangesBegin : Type 0
DoUnitRangesBegin = (u : Unit1) (order : (graph : ℕ) → List Vertex) (t : Tables) (code : Code) (limit : ℕ) → IsReady u → IsSound u → AreInOrder (network u) order → AreTables u order t → IsUnitCode u order t code → CountsCopies u order t code
    → (let X = layout_of u order t in let ss = settings_of u order t in
    (place : ℕ) → IsPlace u order t place → (e : IsOfForAll X place)
    → (base : ℕ) (s : Stored) (ks ms cols : List Carried) (i k : ℕ) → Has X e.it (λ pc. []) base i s ks ms cols → IsSuppliedAlone (live_of ss) (own_of ss) (iterations X e.it) s → AreLong (places_of ms) ms → i + k ≤ places_of ms
    → (results : List (List Carried)) (cost : ℕ) → AreRowsOfRecord (network u) e.it.body (rows_from i k ks ms) results cost
    → (m : Machine) → IsAt m s → ranges.IsBegun code limit place base (i + k) m s)

-- And the first state before a later iteration has the firings of record more, and its collections are with the results of record.
abbrev pub AreUnitRangesOfRecord : Type 0
AreUnitRangesOfRecord = (u : Unit1) (order : (graph : ℕ) → List Vertex) (t : Tables) (code : Code) (limit : ℕ) → IsReady u → IsSound u → AreInOrder (network u) order → AreTables u order t → IsUnitCode u order t code → CountsCopies u order t code
    → (let X = layout_of u order t in
    (place : ℕ) (e : IsOfForAll X place)
    → (base : ℕ) (s r : Stored) (ks ms cols : List Carried) (i k : ℕ) → Has X e.it (λ pc. []) base i s ks ms cols → AreLong (places_of ms) ms → i + k ≤ places_of ms
    → (results : List (List Carried)) (cost : ℕ) → AreRowsOfRecord (network u) e.it.body (rows_from i k ks ms) results cost → s.fires + cost ≤ limit
    → ReachesFirst code limit place base (i + k) s r → IsBefore code place base (i + k) r
    → (let all = put_rows (iterations X e.it).collects results cols in (r.fires ≡ s.fires + cost) × Collects X e.it base r all × Has X e.it (λ pc. []) base (i + k) r ks ms all))
