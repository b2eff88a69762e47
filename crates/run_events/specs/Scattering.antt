-- The leases that AScatters keep once they are done, until their ForAll leaves.
use Rattle.std.specs.Prelude.{◌≡◌, ℕ, Bool, true, false, Some, None}
use Rattle.graph_meaning.specs.Histories.{Run}
use Rattle.run_states.specs.Standing.{Test, State, Live, Table, TableStands, with_state, put}
use Rattle.run_states.specs.Storing.{Kept, Port, Owned, Store, IsAtWork, StoresStand, NoReader, Holds}
use Rattle.run_states.specs.Moving.{DifferAt, IsUnowned}

-- whether an edge takes from this port, of the live graph at each place
abbrev pub Takers : Type 0
Takers = ℕ → Port → Bool

-- A node of this graph, a ForAll, keeps a lease of this aggregate for an AScatter of its generator: it is that of a port that the
-- ForAll reads; or that of a port of the generator, from which no edge takes, since an AScatter gives values of its own where
-- one does, and keeps no lease; or the generator was left, and no port owns it.
pub data Scatters (table : Table) (stores : ℕ → Store) (takers : Takers) (x : Live) (f l key : ℕ) : Type 0 where
  lent : Holds x (stores f) l key → Scatters table stores takers x f l key
  of_generator : (g : ℕ) (y : Live) (a : Port) → table g ≡ Some y → (stores g).cell a ≡ Some (Kept key) → (stores g).owning a ≡ Owned → takers g a ≡ false → Scatters table stores takers x f l key
  of_left : IsUnowned table stores key → Scatters table stores takers x f l key

-- So where an edge takes from an owned port on which nobody in its graph is at work, no AScatter keeps a lease of what it has.
abbrev pub IsNoneScattered : Type 0
IsNoneScattered = (run : Run) (c m : Test) (table : Table) (root : ℕ) (stores : ℕ → Store) (takers : Takers) (f : ℕ) (x : Live) (a : Port) (key : ℕ) → TableStands run c m table root
    → StoresStand table stores
    → table f ≡ Some x
    → (stores f).cell a ≡ Some (Kept key)
    → (stores f).owning a ≡ Owned
    → takers f a ≡ true
    → NoReader table stores f x a
    → (g : ℕ) (y : Live) (l : ℕ)
    → table g ≡ Some y
    → ¬ Scatters table stores takers y g l key

-- These leases stay what they are where a state changes and its node is still at work, where an empty port is filled by what is not of
-- this key, and where a graph is left, be it that of the generator.
pub record AreScattersKept (table : Table) (stores : ℕ → Store) (takers : Takers) (g n key : ℕ) (y : Live) : Type 0 where
  pub moved : (f l : ℕ) (x : Live) (s : State) → table f ≡ Some x → IsAtWork s → (z : Live) × (put table f (Some (with_state x l s)) g ≡ Some z) × Scatters (put table f (Some (with_state x l s))) stores takers z g n key
  pub filled : (others : ℕ → Store) (f : ℕ) (a : Port) → DifferAt stores others f a → (stores f).cell a ≡ None → ¬ ((others f).cell a ≡ Some (Kept key)) → Scatters table others takers y g n key
  pub left : (f : ℕ) → ¬ (g ≡ f) → Scatters (put table f None) stores takers y g n key

abbrev pub AreAllScattersKept : Type 0
AreAllScattersKept = (table : Table) (stores : ℕ → Store) (takers : Takers) (g n key : ℕ) (y : Live) → StoresStand table stores
    → table g ≡ Some y
    → Scatters table stores takers y g n key
    → AreScattersKept table stores takers g n key y
