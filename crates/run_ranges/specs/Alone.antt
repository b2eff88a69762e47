-- Ranges in blocks that stand alone: what such a block is lent stands in cells that refer to others, which no iteration takes.
use Rattle.std.specs.Prelude.{◌≡◌, ℕ, ◌+◌, ◌<◌, ◌≤◌, ◌⊎◌, ◌&&◌, leb, true, List}
use Rattle.run_code.specs.Coded.{Layout}
use Rattle.run_store.specs.Effects.{reads_of}
use Rattle.run_store.specs.Lively.{IsSupplied, Live}
use Rattle.run_store.specs.Refines.{IsTaken}
use Rattle.run_store.specs.Stored.{Handling, Stored}
use Rattle.run_store.specs.Whole.{IsStoredCode, StopsStored}
use Rattle.graph_meaning.specs.Carried.{Carried}
use Rattle.graph_meaning.specs.Demand.{AreOrderly}
use Rattle.graph_meaning.specs.Forms.{places_of}
use Rattle.graph_meaning.specs.Storage.{Storage}
use Rattle.ordered_meaning.specs.Orders.{AreInOrder}
use Rattle.run_laws.specs.Facts.{AreLong, Fact}
use Rattle.step_code.specs.declared.code.Code.{Code}
use Rattle.step_code.specs.Laid.{code_of, handling_of}
use Rattle.sequential.specs.declared.machine.Machine.{Machine}
use Rattle.sequential.specs.Agrees.{IsAt}
use Rattle.sequential_run.specs.Runs.{weigh_of}
use Rattle.sequential_range.specs.Ranges as ranges
use Rattle.run_ranges.specs.Apart.{KeepsApart}
use Rattle.run_ranges.specs.Owned.{ComesFirst, Has, StandsBefore}
use Rattle.run_ranges.specs.Ranges.{AreRowsOfRecord, ForAllAt, Iterations, count_of, iterations, rows_from}

-- the first cell of the collections, behind the inputs and the multiples
abbrev pub collections_at : Iterations → ℕ
collections_at r = r.first + r.multiples

-- from the body to the Each no step takes a cell below the collections
abbrev pub TakesAbove : Layout → ((place : ℕ) → Handling) → Iterations → Type 0
TakesAbove X handling r = (pc i : ℕ) → r.turn ≤ pc → pc ≤ r.each → IsTaken (handling pc).modes (reads_of (X.code pc)) i → collections_at r ≤ i

-- those of these cells that stand from one on
abbrev pub only_from : (first : ℕ) → Live → Live
only_from first some pc i = leb first i && some pc i

-- what is live is in its cell, and from the collections on it is owned where it is to be
abbrev pub IsSuppliedAlone : (live own : Live) → Iterations → Stored → Type 0
IsSuppliedAlone live own r s = IsSupplied live (only_from (collections_at r) own) s

-- ---- the laws

-- So supplied, a machine comes from before an iteration to before a later one, or to the limit, and the cost is beyond it.
abbrev pub AreRangesAloneDecided : Type 0
AreRangesAloneDecided = (p : Storage) (X : Layout) (handling : (place : ℕ) → Handling) (facts : (place : ℕ) → List Fact) (live own : Live) (limit : ℕ) → IsStoredCode p X handling facts live own → AreOrderly X.network → AreInOrder X.network X.order
    → (f : ForAllAt X) → KeepsApart X (iterations X f) → TakesAbove X handling (iterations X f) → (handling (iterations X f).each).keeps (count_of (iterations X f)) ≡ true
    → (base : ℕ) (s : Stored) (ks ms cols : List Carried) (i k : ℕ) → Has X f facts base i s ks ms cols → IsSuppliedAlone live own (iterations X f) s → AreLong (places_of ms) ms → i + k ≤ places_of ms
    → (results : List (List Carried)) (cost : ℕ) → AreRowsOfRecord X.network f.body (rows_from i k ks ms) results cost
    → ((t : Stored) × ComesFirst X f handling limit base (i + k) s t × StandsBefore X f base (i + k) t × IsSuppliedAlone live own (iterations X f) t) ⊎ (StopsStored X handling limit s × (limit < s.fires + cost))

-- In code, a machine that stands there has begun the range.
abbrev pub DoRangesAloneBegin : Type 0
DoRangesAloneBegin = (p : Storage) (X : Layout) (code : Code) (facts : (place : ℕ) → List Fact) (live own : Live) (limit : ℕ)
    → X.code ≡ code_of code → X.weigh ≡ weigh_of code → IsStoredCode p X (handling_of code) facts live own → AreOrderly X.network → AreInOrder X.network X.order
    → (f : ForAllAt X) → KeepsApart X (iterations X f) → TakesAbove X (handling_of code) (iterations X f)
    → (base : ℕ) (s : Stored) (ks ms cols : List Carried) (i k : ℕ) → Has X f facts base i s ks ms cols → IsSuppliedAlone live own (iterations X f) s → AreLong (places_of ms) ms → i + k ≤ places_of ms
    → (results : List (List Carried)) (cost : ℕ) → AreRowsOfRecord X.network f.body (rows_from i k ks ms) results cost
    → (m : Machine) → IsAt m s → ranges.IsBegun code limit (iterations X f).each base (i + k) m s
