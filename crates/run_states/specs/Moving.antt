-- What each event leaves of the places where aggregates are kept.
use Rattle.std.specs.Prelude.{◌≡◌, ℕ, ◌∷◌, ◌⊎◌, Some, None}
use Rattle.graph_meaning.specs.Histories.{Run}
use Rattle.run_states.specs.Standing.{Test, State, Within, Live, Table, TableStands, put, changed, closed}
use Rattle.run_states.specs.Storing.{Cell, Kept, Port, Owned, Lent, Store, IsRead, StoresStand, NoReader}

abbrev pub IsNotWithin : State → Type 0
IsNotWithin s = (k g : ℕ) → s ≡ Within k g → ⊥

-- a run begins with one graph, whose inputs are owned, and of each aggregate one port
abbrev pub DoStoresBegin : Type 0
DoStoresBegin = (stores : ℕ → Store) (x : Live)
    → ((a : Port) (key : ℕ) → (stores 0).cell a ≡ Some (Kept key) → ((stores 0).owning a ≡ Owned) × ((b : Port) → (stores 0).cell b ≡ Some (Kept key) → a ≡ b))
    → StoresStand (put (λ f. None) 0 (Some x)) stores

-- a state changes and no graph is entered, or one is left: what is kept stays where it is
abbrev pub AreStoresKept : Type 0
AreStoresKept = (table : Table) (stores : ℕ → Store) (f l : ℕ) (x : Live) (s : State) → StoresStand table stores → table f ≡ Some x → IsNotWithin s
    → StoresStand (changed table f x l s 0 None) stores × ((g : ℕ) → StoresStand (closed table f x l s g) stores)

-- the cells differ at this port alone, and who reads which is the same
pub record DifferAt (stores others : ℕ → Store) (f : ℕ) (a : Port) : Type 0 where
  pub cells : (g : ℕ) (b : Port) → ¬ ((g ≡ f) × (b ≡ a)) → ((others g).cell b ≡ (stores g).cell b) × ((others g).owning b ≡ (stores g).owning b)
  pub reads : (g l : ℕ) → (others g).reads l ≡ (stores g).reads l

-- no owned port has this key
abbrev pub IsUnowned : Table → (ℕ → Store) → ℕ → Type 0
IsUnowned table stores key = (f : ℕ) (x : Live) (a : Port) → table f ≡ Some x → (stores f).cell a ≡ Some (Kept key) → ¬ ((stores f).owning a ≡ Owned)

-- An empty port is filled, by a value or by an aggregate that no port owned: it owns it.
abbrev pub IsFillingKept : Type 0
IsFillingKept = (table : Table) (stores others : ℕ → Store) (f : ℕ) (a : Port) (c : Cell) → StoresStand table stores → DifferAt stores others f a
    → (stores f).cell a ≡ None
    → (others f).cell a ≡ Some c
    → ((key : ℕ) → c ≡ Kept key → ((others f).owning a ≡ Owned) × IsUnowned table stores key)
    → StoresStand table others

-- a port is emptied where nobody in its own graph is at work on it
abbrev pub IsTakingKept : Type 0
IsTakingKept = (table : Table) (stores others : ℕ → Store) (f : ℕ) (x : Live) (a : Port) → StoresStand table stores → DifferAt stores others f a
    → table f ≡ Some x
    → (others f).cell a ≡ None
    → NoReader table stores f x a
    → StoresStand table others

-- an input of an entered graph is owned and no other port owns its aggregate, or is lent by a port that the node above reads
abbrev pub IsInput : Table → (ℕ → Store) → ℕ → ℕ → Store → Port → ℕ → Type 0
IsInput table stores f l store a key =
    ((store.owning a ≡ Owned) × IsUnowned table stores key × ((b : Port) → store.cell b ≡ Some (Kept key) → store.owning b ≡ Owned → a ≡ b))
    ⊎ ((store.owning a ≡ Lent) × ((b : Port) × IsRead b ((stores f).reads l) × ((stores f).cell b ≡ Some (Kept key))))

-- a graph is entered
abbrev pub IsEnteringKept : Type 0
IsEnteringKept = (run : Run) (c m : Test) (table : Table) (root f l k g : ℕ) (x y : Live) (stores others : ℕ → Store)
    → TableStands run c m (changed table f x l (Within k g) g (Some y)) root
    → StoresStand table stores
    → table f ≡ Some x
    → table g ≡ None
    → y.path ≡ (l, k) ∷ x.path
    → ((n : ℕ) → IsNotWithin (y.states n))
    → ((h : ℕ) → ¬ (h ≡ g) → others h ≡ stores h)
    → ((a : Port) (key : ℕ) → (others g).cell a ≡ Some (Kept key) → IsInput table stores f l (others g) a key)
    → StoresStand (changed table f x l (Within k g) g (Some y)) others
