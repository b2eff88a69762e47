-- Ranges in code whose steps do the same as those of a unit's code.
use Rattle.std.specs.Prelude.{◌≡◌, ℕ, ◌+◌, ◌≤◌, List, []}
use Rattle.if1_graph.specs.declared.graph.Unit1.{Unit1}
use Rattle.if1_graph.specs.Ready.{IsReady}
use Rattle.if1_marks.specs.Sound.{IsSound}
use Rattle.graph_meaning.specs.Carried.{Carried}
use Rattle.graph_meaning.specs.Demand.{Vertex}
use Rattle.graph_meaning.specs.Forms.{places_of}
use Rattle.graph_meaning.specs.Networks.{network}
use Rattle.ordered_meaning.specs.Orders.{AreInOrder}
use Rattle.run_laws.specs.Facts.{AreLong}
use Rattle.run_store.specs.Stored.{Stored}
use Rattle.made_store.specs.Settled.{live_of, own_of}
use Rattle.unit_plan.specs.Plans.{AreTables, Tables}
use Rattle.step_code.specs.declared.code.Code.{Code}
use Rattle.quick_code.specs.Quick.{RunsSame}
use Rattle.sequential.specs.declared.machine.Machine.{Machine}
use Rattle.sequential.specs.Agrees.{IsAt}
use Rattle.sequential_range.specs.Ranges as ranges
use Rattle.sequential_range.specs.Ranges.{IsBefore, ReachesFirst}
use Rattle.unit_runs.specs.Runs.{CountsCopies, IsUnitCode}
use Rattle.run_ranges.specs.Alone.{IsSuppliedAlone}
use Rattle.run_ranges.specs.Eaches.{IsOfForAll}
use Rattle.run_ranges.specs.Owned.{Collects, Has}
use Rattle.run_ranges.specs.Ranges.{AreRowsOfRecord, iterations, put_rows, rows_from}
use Rattle.run_ranges.specs.Units.{IsPlace, layout_of, settings_of}

-- ---- the laws

-- A machine that stands there before an iteration, on a block that stands alone and is supplied as in the unit's code, has begun the range.
abbrev pub DoQuickRangesBegin : Type 0
DoQuickRangesBegin = (u : Unit1) (order : (graph : ℕ) → List Vertex) (t : Tables) (code quick : Code) (limit : ℕ) → RunsSame code quick → IsReady u → IsSound u → AreInOrder (network u) order → AreTables u order t → IsUnitCode u order t code → CountsCopies u order t code
    → (let X = layout_of u order t in let ss = settings_of u order t in
    (place : ℕ) → IsPlace u order t place → (e : IsOfForAll X place)
    → (base : ℕ) (s : Stored) (ks ms cols : List Carried) (i k : ℕ) → Has X e.it (λ pc. []) base i s ks ms cols → IsSuppliedAlone (live_of ss) (own_of ss) (iterations X e.it) s → AreLong (places_of ms) ms → i + k ≤ places_of ms
    → (results : List (List Carried)) (cost : ℕ) → AreRowsOfRecord (network u) e.it.body (rows_from i k ks ms) results cost
    → (m : Machine) → IsAt m s → ranges.IsBegun quick limit place base (i + k) m s)

-- And the first state before a later iteration has the firings of record more, and its collections are with the results of record.
abbrev pub AreQuickRangesOfRecord : Type 0
AreQuickRangesOfRecord = (u : Unit1) (order : (graph : ℕ) → List Vertex) (t : Tables) (code quick : Code) (limit : ℕ) → RunsSame code quick → IsReady u → IsSound u → AreInOrder (network u) order → AreTables u order t → IsUnitCode u order t code → CountsCopies u order t code
    → (let X = layout_of u order t in
    (place : ℕ) (e : IsOfForAll X place)
    → (base : ℕ) (s r : Stored) (ks ms cols : List Carried) (i k : ℕ) → Has X e.it (λ pc. []) base i s ks ms cols → AreLong (places_of ms) ms → i + k ≤ places_of ms
    → (results : List (List Carried)) (cost : ℕ) → AreRowsOfRecord (network u) e.it.body (rows_from i k ks ms) results cost → s.fires + cost ≤ limit
    → ReachesFirst quick limit place base (i + k) s r → IsBefore quick place base (i + k) r
    → (let all = put_rows (iterations X e.it).collects results cols in (r.fires ≡ s.fires + cost) × Collects X e.it base r all × Has X e.it (λ pc. []) base (i + k) r ks ms all))
