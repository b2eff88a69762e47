-- A machine whose code stays inside stops, and so each run is decided.
use Rattle.std.specs.Prelude.{◌≡◌, ℕ, ◌+◌, ◌*◌, ◌-◌, ◌<◌, ◌≤◌, ◌⊎◌, List, [], ◌∷◌, length}
use Rattle.run_code.specs.Carried.{Carried}
use Rattle.run_code.specs.Demand.{AreOrderly}
use Rattle.run_code.specs.Entered.{IsIn}
use Rattle.run_code.specs.Plain.{Costs}
use Rattle.run_code.specs.Orders.{AreInOrder}
use Rattle.run_code.specs.Cells.{Cells}
use Rattle.run_code.specs.Coded.{Layout, AreCoded}
use Rattle.run_code.specs.Machine.{Frame, State, Over, step, EndsIn, Reaches}
use Rattle.run_laws.specs.Inside.{IsInside}
use Rattle.run_laws.specs.Laws.{Hold, entered, IsRecorded}

module _ (X : Layout) where
  -- a place in the block of a function
  abbrev pub IsAt : (end : ℕ → ℕ) → (function pc : ℕ) → Type 0
  IsAt end f pc = IsIn f X.functions × (X.entry f ≤ pc) × (pc < end f)

  abbrev pub AreAt : (end : ℕ → ℕ) → List Frame → Type 0
  AreAt end [] = Unit {0}
  AreAt end (o ∷ os) = ((f : ℕ) × IsAt end f o.pc) × AreAt end os

  -- the machine is in a block, and so is each place to which it returns
  abbrev pub IsPlaced : (end : ℕ → ℕ) → State → Type 0
  IsPlaced end s = ((f : ℕ) × IsAt end f s.pc) × AreAt end s.calls

  -- it comes to the limit
  abbrev pub ComesToLimit : (limit : ℕ) → State → Type 0
  ComesToLimit limit s = (t : State) × (x : ℕ) × Reaches X.weigh limit X.code s t x × (step limit X.code t ≡ Over)

  abbrev pub Stops : (limit : ℕ) → State → Type 0
  Stops limit s = ((k : ℕ) × (rs : List Carried) × (fires : ℕ) × EndsIn k limit X.code s rs fires) ⊎ ComesToLimit limit s

-- What is still to come at most, where blocks end by a number: each firing that is left pays for all places of a block and of
-- one that is left open, and each open call for the places behind its own.
abbrev pub open_left : (many : ℕ) → List Frame → ℕ
open_left many [] = 0
open_left many (o ∷ os) = (many - o.pc) + open_left many os

abbrev pub to_come : (many limit : ℕ) → State → ℕ
to_come many limit s = (limit - s.fires) * (many + many + 2) + ((many - s.pc) + open_left many s.calls)

-- a machine whose code stays inside comes to its end or to the limit
abbrev pub IsStopping : Type 0
IsStopping = (X : Layout) (end : ℕ → ℕ) (many limit : ℕ) → IsInside X end many → (s : State) → IsPlaced X end s → Stops X limit s

-- Where code does its functions and stays inside, a run of one of them ends with the results of record at their cost, which is
-- within the limit, or it comes to the limit, and no cost is within it.
abbrev pub IsDecided : Type 0
IsDecided = (X : Layout) (end : ℕ → ℕ) (many limit : ℕ) → AreCoded X → IsInside X end many → AreOrderly X.network → AreInOrder X.network X.order
    → (f : ℕ) (ins : List Carried) (cells : Cells) → IsIn f X.functions → length ins ≡ X.params f → Hold cells ins
    → ((k : ℕ) × (rs : List Carried) × (c : ℕ) × (sum : ℕ) × EndsIn k limit X.code (entered X f cells) rs c × IsRecorded X f ins rs c sum × (c ≤ limit))
    ⊎ (ComesToLimit X limit (entered X f cells) × ((d c : ℕ) → Costs X.network d f ins c → limit < c))
