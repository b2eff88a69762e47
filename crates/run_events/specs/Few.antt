-- How many leases of an aggregate are out at most: so many for each claim.
use Rattle.std.specs.Prelude.{◌≡◌, ℕ, ◌*◌, ◌≤◌, List, [], ◌∷◌, Some}
use Rattle.graph_meaning.specs.Entered.{IsIn}
use Rattle.graph_meaning.specs.Histories.{Run, History}
use Rattle.run_states.specs.Standing.{Live, Table}
use Rattle.run_states.specs.Storing.{Store, IsAtWork}
use Rattle.run_states.specs.Runs.{RunStands}
use Rattle.run_tables.specs.Bounds.{claims_in}
use Rattle.run_events.specs.Leases.{Lent, all_of_node, all_leases}

-- no label stands twice
abbrev pub AreOnce : List ℕ → Type 0
AreOnce [] = Unit {0}
AreOnce (l ∷ ls) = (¬ IsIn l ls) × AreOnce ls

abbrev pub HaveLabelsOnce : Table → Type 0
HaveLabelsOnce table = (f : ℕ) (x : Live) → table f ≡ Some x → AreOnce x.labels

-- Where each node at work has so many leases of the key at most, its slices and its AScatters among them, no more are out than so many for
-- each claim of the history.
abbrev pub AreLeasesFew : Type 0
AreLeasesFew = (run : Run) (limit : ℕ) (h : History) (table : Table) (root : ℕ) (stores : ℕ → Store) (lent : Lent) (key most : ℕ) → RunStands run limit h table root
    → HaveLabelsOnce table
    → ((f : ℕ) (x : Live) (l : ℕ) → table f ≡ Some x → IsIn l x.labels → IsAtWork (x.states l) → all_of_node key stores lent f x l ≤ most)
    → (n : ℕ)
    → all_leases key table stores lent n ≤ most * claims_in h
