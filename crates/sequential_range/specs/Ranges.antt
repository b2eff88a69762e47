-- Ranges of the iterations of a ForAll, on a block that stands alone: what it is lent stands in cells below it, and no call is open.
use Rattle.std.specs.Prelude.{◌≡◌, ℕ, ◌+◌, ◌⊎◌, []}
use Rattle.graph_meaning.specs.Storage.{capped}
use Rattle.run_code.specs.Machine.{counter}
use Rattle.run_cells.specs.Held.{heap_of}
use Rattle.run_store.specs.Stored as stored
use Rattle.step_code.specs.declared.code.Code.{Code}
use Rattle.step_code.specs.declared.step.Step.{Step}
use Rattle.step_code.specs.declared.step.Step.TheVariants as step
use Rattle.sequential.specs.declared.machine.Machine.{Machine}
use Rattle.sequential.specs.Agrees.{IsAt}
use Rattle.sequential.specs.Loading.{AreLentBelow}
use Rattle.sequential_run.specs.Runs.{goes, Reaches}
use Rattle.sequential_run.specs.Whole.{step_at}
use Rattle.sequential_run.specs.Writes.{ReachesWriting}

-- the cell in which an Each counts the iterations that were begun
abbrev pub count_of : Step → ℕ
count_of (step.Each ms n from count kept turn leave) = count
count_of _ = 0

-- this machine stands at a place, in a block and with no open call, and a cell of the block counts so many
pub record Stands (m : Machine) (place base cell begun : ℕ) : Type 0 where
  pub here : m.pc ≡ place
  pub block : m.base ≡ base
  pub alone : m.calls ≡ []
  pub counted : heap_of m.cells.items (base + cell) ≡ stored.Owns (counter begun)

module _ (code : Code) (each base : ℕ) where
  -- so many iterations were begun, and the machine of the laws stands at the Each, in its block
  pub record IsBefore (begun : ℕ) (s : stored.Stored) : Type 0 where
    pub here : s.pc ≡ each
    pub block : s.base ≡ base
    pub alone : s.calls ≡ []
    pub counted : s.heap (base + count_of (step_at code each)) ≡ stored.Owns (counter begun)

module _ (code : Code) (limit : ℕ) where
  -- it comes from one state to another, and on its way each cell that refers to another one refers to an owner below the running block
  pub record Leads (s t : stored.Stored) : Type 0 where
    pub reaches : Reaches code limit s t
    pub lent : (u : stored.Stored) → Reaches code limit s u → Reaches code limit u t → AreLentBelow u.base u.heap

  module _ (each base last : ℕ) where
    -- it comes from one state to another, and on its way it does not stand before this iteration
    pub data ReachesFirst : stored.Stored → stored.Stored → Type 0 where
      rests_there : (s : stored.Stored) → ReachesFirst s s
      walks_on : (s t r : stored.Stored) → (IsBefore code each base last s → ⊥) → goes code limit s ≡ stored.Onward t → ReachesFirst t r → ReachesFirst s r

    -- it comes to stand before this iteration, or to the limit
    abbrev pub IsDecided : stored.Stored → Type 0
    IsDecided s = ((t : stored.Stored) × Leads s t × IsBefore code each base last t) ⊎ ((t : stored.Stored) × Leads s t × (goes code limit t ≡ stored.AtLimit))

    pub record IsBegun (m : Machine) (s : stored.Stored) : Type 0 where
      pub at : IsAt m s
      pub decided : IsDecided s

    -- This one stands where the machine of the laws first stands before the iteration, and so much was written on the way, or the
    -- greatest number.
    pub record HasCome (s : stored.Stored) (m : Machine) (told : ℕ) : Type 0 where
      pub state : stored.Stored
      pub reaches : ReachesFirst s state
      pub before : IsBefore code each base last state
      pub at : IsAt m state
      pub writes : ℕ
      pub writing : ReachesWriting code limit s state writes
      pub so_many : capped writes ≡ told
