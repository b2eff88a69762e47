-- Ranges whose bodies may never end: within a limit they come before a later iteration, or to the limit.
use Rattle.std.specs.Prelude.{◌≡◌, ℕ, ◌+◌, ◌≤◌, ◌⊎◌, true, List}
use Rattle.run_code.specs.Coded.{Layout}
use Rattle.run_store.specs.Lively.{Live}
use Rattle.run_store.specs.Stored.{Handling, Stored}
use Rattle.run_store.specs.Whole.{IsStoredCode, StopsStored}
use Rattle.graph_meaning.specs.Carried.{Carried}
use Rattle.graph_meaning.specs.Forms.{places_of}
use Rattle.graph_meaning.specs.Storage.{Storage}
use Rattle.run_laws.specs.Facts.{Fact}
use Rattle.run_laws.specs.Inside.{IsInside}
use Rattle.run_laws.specs.Stopping as stopping
use Rattle.step_code.specs.declared.code.Code.{Code}
use Rattle.sequential.specs.declared.machine.Machine.{Machine}
use Rattle.sequential.specs.Agrees.{IsAt}
use Rattle.sequential_range.specs.Ranges as ranges
use Rattle.run_ranges.specs.Agreeing.{DoesAs}
use Rattle.run_ranges.specs.Alone.{IsSuppliedAlone, TakesAbove}
use Rattle.run_ranges.specs.Apart.{KeepsApart}
use Rattle.run_ranges.specs.Owned.{ComesFirst, Has, StandsBefore}
use Rattle.run_ranges.specs.Ranges.{ForAllAt, Iterations, count_of, iterations}

-- the Each stands in the block of a function of code that stays inside
pub record StandsInside (X : Layout) (r : Iterations) : Type 0 where
  pub ends : (function : ℕ) → ℕ
  pub many : ℕ
  pub inside : IsInside X ends many
  pub function : ℕ
  pub at : stopping.IsAt X ends function r.each

-- ---- the laws

-- So supplied, a machine comes from before an iteration to before a later one, or to the limit, whatever its body does.
abbrev pub DoRangesAloneStop : Type 0
DoRangesAloneStop = (p : Storage) (X : Layout) (handling : (place : ℕ) → Handling) (facts : (place : ℕ) → List Fact) (live own : Live) (limit : ℕ) → IsStoredCode p X handling facts live own
    → (f : ForAllAt X) → KeepsApart X (iterations X f) → TakesAbove X handling (iterations X f) → StandsInside X (iterations X f) → (handling (iterations X f).each).keeps (count_of (iterations X f)) ≡ true
    → (base : ℕ) (s : Stored) (ks ms cols : List Carried) (i k : ℕ) → Has X f facts base i s ks ms cols → IsSuppliedAlone live own (iterations X f) s → i + k ≤ places_of ms
    → ((t : Stored) × ComesFirst X f handling limit base (i + k) s t × StandsBefore X f base (i + k) t × IsSuppliedAlone live own (iterations X f) t) ⊎ StopsStored X handling limit s

-- In code whose steps do the same, a machine that stands there has begun the range.
abbrev pub DoRangesThatStopBegin : Type 0
DoRangesThatStopBegin = (p : Storage) (X : Layout) (handling : (place : ℕ) → Handling) (code : Code) (facts : (place : ℕ) → List Fact) (live own : Live) (limit : ℕ)
    → DoesAs X handling code limit → IsStoredCode p X handling facts live own
    → (f : ForAllAt X) → KeepsApart X (iterations X f) → TakesAbove X handling (iterations X f) → StandsInside X (iterations X f)
    → (base : ℕ) (s : Stored) (ks ms cols : List Carried) (i k : ℕ) → Has X f facts base i s ks ms cols → IsSuppliedAlone live own (iterations X f) s → i + k ≤ places_of ms
    → (m : Machine) → IsAt m s → ranges.IsBegun code limit (iterations X f).each base (i + k) m s
