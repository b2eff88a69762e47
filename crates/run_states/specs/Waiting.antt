-- The nodes for which a node of a live graph waits, itself or by others.
use Rattle.std.specs.Prelude.{◌≡◌, ℕ, Some}
use Rattle.graph_meaning.specs.Entered.{IsIn}
use Rattle.graph_meaning.specs.Histories.{Run, History}
use Rattle.run_states.specs.Standing.{Waiting, Done, Live, Table}
use Rattle.run_states.specs.Runs.{RunStands}

pub data WaitsIn (x : Live) : ℕ → ℕ → Type 0 where
  straight : {l n : ℕ} → IsIn n (x.waits l) → WaitsIn x l n
  through : {l m n : ℕ} → WaitsIn x l m → WaitsIn x m n → WaitsIn x l n

-- the node is ready or was claimed
abbrev pub HasBegun : Live → ℕ → Type 0
HasBegun x l = x.states l ≡ Waiting → (n : ℕ) → IsIn n (x.waits l) → x.states n ≡ Done

-- Where a node of a live graph is ready or was claimed, all nodes for which it waits, itself or by others, are done: in each
-- entered graph, and not the first alone.
abbrev pub AreUsersDone : Type 0
AreUsersDone = (run : Run) (limit : ℕ) (h : History) (table : Table) (root f l n : ℕ) (x : Live) → RunStands run limit h table root
    → table f ≡ Some x
    → IsIn l x.labels
    → HasBegun x l
    → WaitsIn x l n
    → x.states n ≡ Done
