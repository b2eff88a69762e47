-- Ranges in runs of code: how they begin, and what they come to.
use Rattle.std.specs.Prelude.{◌≡◌, ℕ, ◌+◌, ◌≤◌, List}
use Rattle.graph_meaning.specs.Carried.{Carried}
use Rattle.graph_meaning.specs.Demand.{AreOrderly}
use Rattle.graph_meaning.specs.Forms.{places_of}
use Rattle.graph_meaning.specs.Storage.{Storage}
use Rattle.ordered_meaning.specs.Orders.{AreInOrder}
use Rattle.run_code.specs.Coded.{Layout}
use Rattle.run_laws.specs.Facts.{AreLong, Fact}
use Rattle.run_store.specs.Lively.{IsSupplied, Live}
use Rattle.run_store.specs.Stored as stored
use Rattle.run_store.specs.Whole.{IsStoredCode}
use Rattle.step_code.specs.declared.code.Code.{Code}
use Rattle.step_code.specs.Laid.{code_of, handling_of}
use Rattle.sequential.specs.declared.machine.Machine.{Machine}
use Rattle.sequential.specs.Agrees.{IsAt}
use Rattle.sequential_run.specs.Runs as runs
use Rattle.sequential_run.specs.Runs.{Reaches, weigh_of}
use Rattle.sequential_range.specs.Ranges as ranges
use Rattle.sequential_range.specs.Ranges.{IsBefore, ReachesFirst}
use Rattle.run_ranges.specs.Apart.{KeepsApart}
use Rattle.run_ranges.specs.Owned.{Collects, Has}
use Rattle.run_ranges.specs.Ranges.{AreRowsOfRecord, ForAllAt, iterations, put_rows, rows_from}

-- Where a run was begun, and the machine of the laws comes to stand before an iteration, the range up to it was begun.
abbrev pub DoRangesOfRunsBegin : Type 0
DoRangesOfRunsBegin = (code : Code) (limit : ℕ) (m : Machine) (s t : stored.Stored) (each base last : ℕ) → runs.IsBegun code limit m s → Reaches code limit s t → IsBefore code each base last t → ranges.IsBegun code limit each base last m s

-- In code with a ForAll whose body keeps to itself, the first state before a later iteration has the firings of record more, and its
-- collections are with the results of record.
abbrev pub AreRangesOfCodeOfRecord : Type 0
AreRangesOfCodeOfRecord = (p : Storage) (X : Layout) (code : Code) (facts : (place : ℕ) → List Fact) (live own : Live) (limit : ℕ)
    → X.code ≡ code_of code → X.weigh ≡ weigh_of code → IsStoredCode p X (handling_of code) facts live own → AreOrderly X.network → AreInOrder X.network X.order
    → (f : ForAllAt X) → KeepsApart X (iterations X f)
    → (base : ℕ) (s t : stored.Stored) (ks ms cols : List Carried) (i k : ℕ) → Has X f facts base i s ks ms cols → AreLong (places_of ms) ms → i + k ≤ places_of ms
    → (results : List (List Carried)) (cost : ℕ) → AreRowsOfRecord X.network f.body (rows_from i k ks ms) results cost → s.fires + cost ≤ limit
    → ReachesFirst code limit (iterations X f).each base (i + k) s t → IsBefore code (iterations X f).each base (i + k) t
    → (t.fires ≡ s.fires + cost) × Collects X f base t (put_rows (iterations X f).collects results cols) × Has X f facts base (i + k) t ks ms (put_rows (iterations X f).collects results cols)

-- And where what is live there is in its cell, a machine that stands there has begun the range.
abbrev pub DoRangesOfCodeBegin : Type 0
DoRangesOfCodeBegin = (p : Storage) (X : Layout) (code : Code) (facts : (place : ℕ) → List Fact) (live own : Live) (limit : ℕ)
    → X.code ≡ code_of code → X.weigh ≡ weigh_of code → IsStoredCode p X (handling_of code) facts live own → AreOrderly X.network → AreInOrder X.network X.order
    → (f : ForAllAt X) → KeepsApart X (iterations X f)
    → (base : ℕ) (s : stored.Stored) (ks ms cols : List Carried) (i k : ℕ) → Has X f facts base i s ks ms cols → IsSupplied live own s → AreLong (places_of ms) ms → i + k ≤ places_of ms
    → (results : List (List Carried)) (cost : ℕ) → AreRowsOfRecord X.network f.body (rows_from i k ks ms) results cost
    → (m : Machine) → IsAt m s → ranges.IsBegun code limit (iterations X f).each base (i + k) m s
