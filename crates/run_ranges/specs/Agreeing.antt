-- Ranges in code whose steps do the same as those of a layout: it may handle otherwise what no step reads, as a literal.
use Rattle.std.specs.Prelude.{◌≡◌, ℕ, ◌+◌, ◌≤◌, List}
use Rattle.graph_meaning.specs.Carried.{Carried}
use Rattle.graph_meaning.specs.Demand.{AreOrderly}
use Rattle.graph_meaning.specs.Forms.{places_of}
use Rattle.graph_meaning.specs.Storage.{Storage}
use Rattle.ordered_meaning.specs.Orders.{AreInOrder}
use Rattle.run_code.specs.Coded.{Layout}
use Rattle.run_laws.specs.Facts.{AreLong, Fact}
use Rattle.run_store.specs.Lively.{IsSupplied, Live}
use Rattle.run_store.specs.Stored as stored
use Rattle.run_store.specs.Whole.{IsStoredCode}
use Rattle.step_code.specs.declared.code.Code.{Code}
use Rattle.step_code.specs.Laid.{code_of, handling_of}
use Rattle.sequential.specs.declared.machine.Machine.{Machine}
use Rattle.sequential.specs.Agrees.{IsAt}
use Rattle.sequential_run.specs.Runs.{goes}
use Rattle.sequential_range.specs.Ranges as ranges
use Rattle.sequential_range.specs.Ranges.{IsBefore, ReachesFirst}
use Rattle.run_ranges.specs.Alone.{IsSuppliedAlone, TakesAbove}
use Rattle.run_ranges.specs.Apart.{KeepsApart}
use Rattle.run_ranges.specs.Owned.{Collects, Has}
use Rattle.run_ranges.specs.Ranges.{AreRowsOfRecord, ForAllAt, iterations, put_rows, rows_from}

-- The code has the steps of a layout. Each keeps the same cells, and what the machine does is the same.
pub record DoesAs (X : Layout) (handling : (place : ℕ) → stored.Handling) (code : Code) (limit : ℕ) : Type 0 where
  pub steps : (pc : ℕ) → code_of code pc ≡ X.code pc
  pub keeps : (pc cell : ℕ) → (handling_of code pc).keeps cell ≡ (handling pc).keeps cell
  pub same : (s : stored.Stored) → goes code limit s ≡ stored.step_stored X.weigh limit X.code handling s

-- ---- the laws

-- In such code the first state before a later iteration has the firings of record more, and its collections are with the results of
-- record.
abbrev pub AreAgreeingRangesOfRecord : Type 0
AreAgreeingRangesOfRecord = (p : Storage) (X : Layout) (handling : (place : ℕ) → stored.Handling) (code : Code) (facts : (place : ℕ) → List Fact) (live own : Live) (limit : ℕ)
    → DoesAs X handling code limit → IsStoredCode p X handling facts live own → AreOrderly X.network → AreInOrder X.network X.order
    → (f : ForAllAt X) → KeepsApart X (iterations X f)
    → (base : ℕ) (s t : stored.Stored) (ks ms cols : List Carried) (i k : ℕ) → Has X f facts base i s ks ms cols → AreLong (places_of ms) ms → i + k ≤ places_of ms
    → (results : List (List Carried)) (cost : ℕ) → AreRowsOfRecord X.network f.body (rows_from i k ks ms) results cost → s.fires + cost ≤ limit
    → ReachesFirst code limit (iterations X f).each base (i + k) s t → IsBefore code (iterations X f).each base (i + k) t
    → (t.fires ≡ s.fires + cost) × Collects X f base t (put_rows (iterations X f).collects results cols) × Has X f facts base (i + k) t ks ms (put_rows (iterations X f).collects results cols)

-- And where what is live there is in its cell, a machine that stands there has begun the range.
abbrev pub DoAgreeingRangesBegin : Type 0
DoAgreeingRangesBegin = (p : Storage) (X : Layout) (handling : (place : ℕ) → stored.Handling) (code : Code) (facts : (place : ℕ) → List Fact) (live own : Live) (limit : ℕ)
    → DoesAs X handling code limit → IsStoredCode p X handling facts live own → AreOrderly X.network → AreInOrder X.network X.order
    → (f : ForAllAt X) → KeepsApart X (iterations X f)
    → (base : ℕ) (s : stored.Stored) (ks ms cols : List Carried) (i k : ℕ) → Has X f facts base i s ks ms cols → IsSupplied live own s → AreLong (places_of ms) ms → i + k ≤ places_of ms
    → (results : List (List Carried)) (cost : ℕ) → AreRowsOfRecord X.network f.body (rows_from i k ks ms) results cost
    → (m : Machine) → IsAt m s → ranges.IsBegun code limit (iterations X f).each base (i + k) m s

-- So has one on a block that stands alone, where what no iteration takes may be lent.
abbrev pub DoAgreeingRangesAloneBegin : Type 0
DoAgreeingRangesAloneBegin = (p : Storage) (X : Layout) (handling : (place : ℕ) → stored.Handling) (code : Code) (facts : (place : ℕ) → List Fact) (live own : Live) (limit : ℕ)
    → DoesAs X handling code limit → IsStoredCode p X handling facts live own → AreOrderly X.network → AreInOrder X.network X.order
    → (f : ForAllAt X) → KeepsApart X (iterations X f) → TakesAbove X handling (iterations X f)
    → (base : ℕ) (s : stored.Stored) (ks ms cols : List Carried) (i k : ℕ) → Has X f facts base i s ks ms cols → IsSuppliedAlone live own (iterations X f) s → AreLong (places_of ms) ms → i + k ≤ places_of ms
    → (results : List (List Carried)) (cost : ℕ) → AreRowsOfRecord X.network f.body (rows_from i k ks ms) results cost
    → (m : Machine) → IsAt m s → ranges.IsBegun code limit (iterations X f).each base (i + k) m s
