-- Each legal history has a table that stands for it.
use Rattle.std.specs.Prelude.{◌≡◌, ◌≢◌, ℕ, suc, ◌+◌, ◌*◌, ◌≤◌, ◌<◌, List, ◌∷◌, ◌⊎◌, None}
use Rattle.graph_meaning.specs.Carried.{Carried}
use Rattle.graph_meaning.specs.Entered.{Item}
use Rattle.graph_meaning.specs.Demand.{Network, Cut, IsCut, AreOrderly}
use Rattle.graph_meaning.specs.Histories.{Run, Exists, Outcome, NoMemory, EndKind, TurnLimit, Claim, Ended, Finish, History, Legal, Allowed, HasEnded, IsSettled, IsComplete, Gives}
use Rattle.graph_meaning.specs.Laws.{run_of}
use Rattle.graph_meaning.specs.Plain.{Costs}
use Rattle.run_tables.specs.Bounds.{claims_in}
use Rattle.run_states.specs.Sliced.{sliced}
use Rattle.run_states.specs.Standing.{Table}
use Rattle.run_states.specs.Runs.{RunStands}
use Rattle.run_tables.specs.Known.{AreKnown}

-- A table stands for the history; each live graph is known, and beyond some place there is none.
pub record HasTable (cut : Cut) (u : Network) (g : ℕ) (ins : List Carried) (limit : ℕ) (h : History) : Type 0 where
  pub table : Table
  pub root : ℕ
  pub stands : RunStands (run_of cut u g ins) limit h table root
  pub known : AreKnown cut u g ins table
  pub bound : ℕ
  pub beyond : (f : ℕ) → bound ≤ f → table f ≡ None

-- A legal history has ended, or a table stands for it.
abbrev pub AreTablesThere : Type 0
AreTablesThere = (cut : Cut) (u : Network) (g : ℕ) (ins : List Carried) (limit : ℕ) (h : History) → IsCut cut → AreOrderly u → Legal (run_of cut u g ins) limit h
    → ((k : EndKind) × HasEnded (run_of cut u g ins) limit h k) ⊎ HasTable cut u g ins limit h

-- ---- runs of one worker

-- so many rounds of one worker lead from the first history to the second: in each it claims an item and then finishes it
pub data Rounds (run : Run) (limit w : ℕ) (h : History) : ℕ → History → Type 0 where
  none : Rounds run limit w h 0 h
  round : (n : ℕ) (k : History) (i : Item) (o : Outcome) → Rounds run limit w h n k → Allowed run limit k (Claim w i) → Allowed run limit (Claim w i ∷ k) (Finish w i o) → Rounds run limit w h (suc n) (Finish w i o ∷ Claim w i ∷ k)

-- the history has ended and each claimed item is finished, or it ends so with the worker's next claim
abbrev pub ComesToEnd : Run → ℕ → ℕ → History → Type 0
ComesToEnd run limit w k = IsComplete run limit k ⊎ (Legal run limit (Ended w TurnLimit ∷ k) × IsComplete run limit (Ended w TurnLimit ∷ k))

-- With the slices for so many workers, from each legal history in which all that was claimed is finished one worker comes to an end,
-- whatever outcomes the work on items gives; some outcome there always is; and no rounds of it are more than the bound on claims.
pub record DoesRunEnd (workers : ℕ) (u : Network) (g : ℕ) (ins : List Carried) (limit w : ℕ) (h : History) : Type 0 where
  pub ends : ((i : Item) → Exists (run_of (sliced workers) u g ins) i → (o : Outcome) × Gives (run_of (sliced workers) u g ins) limit i o)
      → (n : ℕ) × (k : History) × Rounds (run_of (sliced workers) u g ins) limit w h n k × ComesToEnd (run_of (sliced workers) u g ins) limit w k
  pub gives : (i : Item) → Exists (run_of (sliced workers) u g ins) i → (o : Outcome) × Gives (run_of (sliced workers) u g ins) limit i o × (o ≢ NoMemory)
  pub few : (n : ℕ) (k : History) → Rounds (run_of (sliced workers) u g ins) limit w h n k → n + claims_in h ≤ (4 * workers + 3) * limit

abbrev pub DoRunsEnd : Type 0
DoRunsEnd = (workers : ℕ) (u : Network) (g : ℕ) (ins : List Carried) (limit w : ℕ) (h : History) → 0 < workers → AreOrderly u → Legal (run_of (sliced workers) u g ins) limit h
    → IsSettled h
    → DoesRunEnd workers u g ins limit w h

-- So it is known of each limit whether the cost of a graph on its inputs is within it, or above it wherever it is defined.
abbrev pub AreCostsDecided : Type 0
AreCostsDecided = (u : Network) (g : ℕ) (ins : List Carried) (limit : ℕ) → AreOrderly u
    → ((c : ℕ) × ((n : ℕ) × Costs u n g ins c) × (c ≤ limit)) ⊎ ((n c : ℕ) → Costs u n g ins c → limit < c)
