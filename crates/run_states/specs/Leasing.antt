-- How many leases of an aggregate are out, as one sum over the live graphs.
use Rattle.std.specs.Prelude.{◌≡◌, ℕ, zero, suc, ◌+◌, ◌<◌, eqb, if◌then◌else◌, Bool, true, false, List, [], ◌∷◌, ◌⊎◌, Option, Some, None}
use Rattle.graph_meaning.specs.Entered.{IsIn}
use Rattle.graph_meaning.specs.Histories.{Run}
use Rattle.run_states.specs.Standing.{Test, State, Waiting, Done, Live, Table, TableStands, with_state, put}
use Rattle.run_states.specs.Storing.{Cell, Plain, Kept, Port, Owned, Store, IsAtWork, StoresStand, NoReader}
use Rattle.run_states.specs.Moving.{DifferAt}

abbrev pub is_at_work : State → Bool
is_at_work Waiting = false
is_at_work Done = false
is_at_work _ = true

abbrev pub has_key : ℕ → Option Cell → Bool
has_key key None = false
has_key key (Some (Plain carried)) = false
has_key key (Some (Kept k)) = eqb k key

abbrev pub one_if : Bool → ℕ
one_if true = 1
one_if false = 0

-- how many of these ports have the key
abbrev pub ports_with : ℕ → Store → List Port → ℕ
ports_with key s [] = 0
ports_with key s (a ∷ ports) = one_if (has_key key (s.cell a)) + ports_with key s ports

-- A node that is at work holds a lease for each port that it reads without taking.
abbrev pub node_leases : ℕ → Store → Live → ℕ → ℕ
node_leases key s x l = if is_at_work (x.states l) then ports_with key s (s.reads l) else 0

abbrev pub nodes_lease : ℕ → Store → Live → List ℕ → ℕ
nodes_lease key s x [] = 0
nodes_lease key s x (l ∷ ls) = node_leases key s x l + nodes_lease key s x ls

abbrev pub graph_leases : ℕ → Store → Option Live → ℕ
graph_leases key s None = 0
graph_leases key s (Some x) = nodes_lease key s x x.labels

-- of the graphs at the first places of the table
abbrev pub leases : ℕ → Table → (ℕ → Store) → (places : ℕ) → ℕ
leases key table stores zero = 0
leases key table stores (suc n) = leases key table stores n + graph_leases key (stores n) (table n)

-- ---- laws

-- where nobody in the graph of an owned port is at work on it, the sum is 0
abbrev pub AreNoneLeased : Type 0
AreNoneLeased = (run : Run) (c m : Test) (table : Table) (root : ℕ) (stores : ℕ → Store) (f : ℕ) (x : Live) (a : Port) (key : ℕ) → TableStands run c m table root
    → StoresStand table stores
    → table f ≡ Some x
    → (stores f).cell a ≡ Some (Kept key)
    → (stores f).owning a ≡ Owned
    → NoReader table stores f x a
    → (n : ℕ)
    → leases key table stores n ≡ 0

-- the label stands once among these
abbrev pub StandsOnce : ℕ → List ℕ → Type 0
StandsOnce l [] = ⊥
StandsOnce l (m ∷ ms) = ((l ≡ m) × ¬ IsIn l ms) ⊎ ((¬ (l ≡ m)) × StandsOnce l ms)

-- where one node's state changes, the sum changes by the leases of that node
abbrev pub AreLeasesMoved : Type 0
AreLeasesMoved = (key : ℕ) (table : Table) (stores : ℕ → Store) (f l n : ℕ) (x : Live) (s : State) → table f ≡ Some x → StandsOnce l x.labels → f < n
    → leases key (put table f (Some (with_state x l s))) stores n + node_leases key (stores f) x l ≡ leases key table stores n + node_leases key (stores f) (with_state x l s) l

-- where one port is filled or emptied that no node at work reads, it stays
abbrev pub AreLeasesKept : Type 0
AreLeasesKept = (key : ℕ) (table : Table) (stores others : ℕ → Store) (f : ℕ) (a : Port) → DifferAt stores others f a
    → ((x : Live) → table f ≡ Some x → NoReader table stores f x a)
    → (n : ℕ)
    → leases key table others n ≡ leases key table stores n

-- no node of the graph is at work
abbrev pub IsIdle : Live → Type 0
IsIdle x = (l : ℕ) → IsIn l x.labels → ¬ IsAtWork (x.states l)

-- so it does where a graph is added or left of which no node is at work
pub record AreIdleNotLeased (key : ℕ) (table : Table) (g : ℕ) (y : Live) : Type 0 where
  pub added : (stores others : ℕ → Store) → table g ≡ None → ((h : ℕ) → ¬ (h ≡ g) → others h ≡ stores h) → (n : ℕ) → leases key (put table g (Some y)) others n ≡ leases key table stores n
  pub left : (stores : ℕ → Store) → table g ≡ Some y → (n : ℕ) → leases key (put table g None) stores n ≡ leases key table stores n

abbrev pub AreAllIdleNotLeased : Type 0
AreAllIdleNotLeased = (key : ℕ) (table : Table) (g : ℕ) (y : Live) → IsIdle y → AreIdleNotLeased key table g y
