-- Ranges of the iterations of a ForAll on the machine whose cells own their values.
use Rattle.std.specs.Prelude.{◌≡◌, ℕ, ◌+◌, ◌<◌, ◌≤◌, ◌⊎◌, true, List, [], get_or}
use Rattle.graph_meaning.specs.Carried.{Carried, Unfilled}
use Rattle.graph_meaning.specs.Demand.{AreOrderly}
use Rattle.graph_meaning.specs.Forms.{places_of}
use Rattle.graph_meaning.specs.Storage.{Storage}
use Rattle.ordered_meaning.specs.Orders.{AreInOrder}
use Rattle.run_code.specs.Cells.{Cells}
use Rattle.run_code.specs.Coded.{Layout}
use Rattle.run_code.specs.Machine.{counter}
use Rattle.run_laws.specs.Facts.{AllOf, AreLong, Fact, IsTrue}
use Rattle.run_store.specs.Lively.{IsSupplied, Live}
use Rattle.run_store.specs.Refines.{Fits}
use Rattle.run_store.specs.Stored.{Handling, Onward, Owns, Stored, step_stored}
use Rattle.run_store.specs.Whole.{IsStoredCode, StopsStored}
use Rattle.run_ranges.specs.Apart.{KeepsApart}
use Rattle.run_ranges.specs.Ranges.{AreRowsOfRecord, ForAllAt, IsBefore, count_of, iterations, put_rows, rows_from}

module _ (X : Layout) (f : ForAllAt X) where
  -- it stands at the Each, in this block and with no open call, and the cell of the count owns so many
  pub record StandsBefore (base begun : ℕ) (s : Stored) : Type 0 where
    pub pc_is : s.pc ≡ (iterations X f).each
    pub base_is : s.base ≡ base
    pub calls_are : s.calls ≡ []
    pub counted : s.heap (base + count_of (iterations X f)) ≡ Owns (counter begun)

  -- so it stands, and its cells fit cells of the machine on values before this iteration, where what is known of them is true
  pub record Has (facts : (place : ℕ) → List Fact) (base begun : ℕ) (s : Stored) (ks ms cols : List Carried) : Type 0 where
    pub stands : StandsBefore base begun s
    pub cells : Cells
    pub fits : Fits base s.heap cells
    pub known : AllOf (IsTrue base cells) (facts (iterations X f).each)
    pub before : IsBefore X f base cells ks ms cols begun

  -- each cell of a collection that owns something owns the collection
  abbrev pub Collects : (base : ℕ) → Stored → List Carried → Type 0
  Collects base s cols =
      (q : ℕ) (c : Carried) → q < (iterations X f).collections → s.heap (base + (((iterations X f).first + (iterations X f).multiples) + q)) ≡ Owns c → c ≡ get_or cols q Unfilled

  module _ (handling : (place : ℕ) → Handling) (limit base last : ℕ) where
    -- it comes from one state to another, and on its way it does not stand before this iteration
    pub data ComesFirst : Stored → Stored → Type 0 where
      has_come : (s : Stored) → ComesFirst s s
      comes : (s t r : Stored) → (StandsBefore base last s → ⊥) → step_stored X.weigh limit X.code handling s ≡ Onward t → ComesFirst t r → ComesFirst s r

-- ---- the law

-- Where stored code has a ForAll whose body keeps to itself, and the machine stands before one of its iterations: the first state
-- before a later one to which it comes has the firings of record more, one for each iteration and those of its body, and its
-- collections are with the results of record.
abbrev pub AreRangesOfRecord : Type 0
AreRangesOfRecord = (p : Storage) (X : Layout) (handling : (place : ℕ) → Handling) (facts : (place : ℕ) → List Fact) (live own : Live) (limit : ℕ) → IsStoredCode p X handling facts live own → AreOrderly X.network → AreInOrder X.network X.order
    → (f : ForAllAt X) → KeepsApart X (iterations X f) → (handling (iterations X f).each).keeps (count_of (iterations X f)) ≡ true
    → (base : ℕ) (s t : Stored) (ks ms cols : List Carried) (i k : ℕ) → Has X f facts base i s ks ms cols → AreLong (places_of ms) ms → i + k ≤ places_of ms
    → (results : List (List Carried)) (cost : ℕ) → AreRowsOfRecord X.network f.body (rows_from i k ks ms) results cost → s.fires + cost ≤ limit
    → ComesFirst X f handling limit base (i + k) s t → StandsBefore X f base (i + k) t
    → (t.fires ≡ s.fires + cost) × Collects X f base t (put_rows (iterations X f).collects results cols) × Has X f facts base (i + k) t ks ms (put_rows (iterations X f).collects results cols)

-- And where what is live there is in its cell, it comes to such a state, or it comes to the limit, and the cost is beyond it.
abbrev pub AreRangesDecided : Type 0
AreRangesDecided = (p : Storage) (X : Layout) (handling : (place : ℕ) → Handling) (facts : (place : ℕ) → List Fact) (live own : Live) (limit : ℕ) → IsStoredCode p X handling facts live own → AreOrderly X.network → AreInOrder X.network X.order
    → (f : ForAllAt X) → KeepsApart X (iterations X f) → (handling (iterations X f).each).keeps (count_of (iterations X f)) ≡ true
    → (base : ℕ) (s : Stored) (ks ms cols : List Carried) (i k : ℕ) → Has X f facts base i s ks ms cols → IsSupplied live own s → AreLong (places_of ms) ms → i + k ≤ places_of ms
    → (results : List (List Carried)) (cost : ℕ) → AreRowsOfRecord X.network f.body (rows_from i k ks ms) results cost
    → ((t : Stored) × ComesFirst X f handling limit base (i + k) s t × StandsBefore X f base (i + k) t × IsSupplied live own t) ⊎ (StopsStored X handling limit s × (limit < s.fires + cost))
