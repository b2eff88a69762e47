-- What is kept of a run stands after each event.
use Rattle.std.specs.Prelude.{◌≡◌, ◌≢◌, ℕ, true, List, [], ◌∷◌, Some, None}
use Rattle.if1_graph.specs.declared.graph.Unit1.{Unit1}
use Rattle.graph_meaning.specs.Carried.{Carried}
use Rattle.graph_meaning.specs.Demand.{Port as Out, Cut}
use Rattle.graph_meaning.specs.Entered.{IsIn}
use Rattle.graph_meaning.specs.Histories.{Run}
use Rattle.graph_meaning.specs.Networks.{network}
use Rattle.run_states.specs.Standing.{Test, State, Waiting, Within, Done, Live, Table, TableStands, changed, closed}
use Rattle.run_states.specs.Storing.{Cell, Kept, Port, Owned, Store, IsAtWork, NoReader}
use Rattle.run_states.specs.Moving.{IsNotWithin, DifferAt}
use Rattle.run_states.specs.Paths.{LeadsTo, CarriesAt}
use Rattle.run_events.specs.Carrying.{Pool, Tells, HasInputs}
use Rattle.run_events.specs.Marked.{IsMarkedStore}
use Rattle.run_events.specs.Scattering.{Scatters}
use Rattle.run_events.specs.Hands.{Hand, Hands, IsEntered, IsTakenOver, IsRegrasped}
use Rattle.run_events.specs.There.{IsTaker}
use Rattle.run_events.specs.Handing.{AreOutputsBy}
use Rattle.run_events.specs.Leases.{Lent, IsKeyIn}
use Rattle.run_events.specs.Scattered.{takers_of}
use Rattle.run_events.specs.Kept.{Keeping, IsAtHome, KeptStands}

-- A port is emptied, and owns what it did.
pub record IsEmptied (stores others : ℕ → Store) (f : ℕ) (a : Port) : Type 0 where
  pub differ : DifferAt stores others f a
  pub owning : (others f).owning a ≡ (stores f).owning a
  pub empty : (others f).cell a ≡ None

-- A node is done: its outputs are there and what they carry, and it lends nothing more.
pub record IsFinished (cut : Cut) (u : Unit1) (g : ℕ) (ins : List Carried) (table : Table) (k : Keeping) (others : ℕ → Store) (after : Hands) (less : Lent) (f l : ℕ) (x : Live) : Type 0 where
  pub outputs : AreOutputsBy table k.stores others k.hands after f l
  pub own : (i : ℕ) → (others f).owning (l, i) ≡ Owned
  pub filled : (i : ℕ) → k.wanted f (l, i) ≡ true → (c : Cell) × ((others f).cell (l, i) ≡ Some c)
  pub told : (i : ℕ) (c : Cell) → (others f).cell (l, i) ≡ Some c → (d : Carried) × Tells k.pool (k.unions f (l, i)) c d × CarriesAt (network u) g ins x.path (Out l i) d
  -- no lease of another AScatter is of what the outputs have
  pub new : (h : ℕ) (y : Live) (n i key : ℕ) → table h ≡ Some y → IsIn n y.labels → IsAtWork (y.states n) → ¬ ((h ≡ f) × (n ≡ l)) → IsKeyIn key (k.lent.scattered h n) → ¬ ((others f).cell (l, i) ≡ Some (Kept key))
  pub lends : (less.to_slices f l ≡ []) × (less.scattered f l ≡ [])
  pub same : (h n : ℕ) → ¬ ((h ≡ f) × (n ≡ l)) → (less.to_slices h n ≡ k.lent.to_slices h n) × (less.scattered h n ≡ k.lent.scattered h n)

-- A graph is entered at a new place: it stands there at its place in the unit, has its inputs, and lends nothing.
pub record IsOpened (cut : Cut) (u : Unit1) (g : ℕ) (ins : List Carried) (table : Table) (k later : Keeping) (f l n : ℕ) (y : Live) : Type 0 where
  pub entered : IsEntered table k.stores later.stores k.hands later.hands f l n
  pub home : IsAtHome cut u y (later.homes n)
  pub marked : IsMarkedStore u (later.homes n) (later.stores n)
  pub fresh : (m : ℕ) → y.states m ≡ Waiting
  pub filled : (i : ℕ) → later.wanted n (0, i) ≡ true → (c : Cell) × ((later.stores n).cell (0, i) ≡ Some c)
  pub graph : ℕ
  pub inputs : List Carried
  pub leads : LeadsTo (network u) g ins y.path graph inputs
  pub told : HasInputs later.pool (later.unions n) (later.stores n) inputs
  pub same : (h : ℕ) → ¬ (h ≡ n) → (later.homes h ≡ k.homes h) × (later.wanted h ≡ k.wanted h) × (later.unions h ≡ k.unions h)
  pub pool : later.pool ≡ k.pool
  -- what it lends to its slices the node has still, and no lease of an AScatter is of what the inputs own
  pub lends : (h m key : ℕ) → IsKeyIn key (k.lent.to_slices h m) → (i : Hand) → k.hands h m i ≡ Some key → later.hands h m i ≡ Some key
  pub apart : (h : ℕ) (z : Live) (m key : ℕ) (a : Port) → table h ≡ Some z → IsIn m z.labels → IsAtWork (z.states m) → IsKeyIn key (k.lent.scattered h m) → (later.stores n).cell a ≡ Some (Kept key) → ¬ ((later.stores n).owning a ≡ Owned)
  pub none : (m : ℕ) → (later.lent.to_slices n m ≡ []) × (later.lent.scattered n m ≡ [])
  pub others : (h m : ℕ) → ¬ (h ≡ n) → (later.lent.to_slices h m ≡ k.lent.to_slices h m) × (later.lent.scattered h m ≡ k.lent.scattered h m)

-- So it is kept by each of these.
pub record AreEventsKept (cut : Cut) (u : Unit1) (g : ℕ) (ins : List Carried) (run : Run) (c m : Test) (table : Table) (root : ℕ) (k : Keeping) : Type 0 where
  -- a claim, the finish of a slice, and where a node goes on
  pub moved : (f l : ℕ) (x : Live) (s : State) → table f ≡ Some x → IsNotWithin s → IsAtWork s → KeptStands cut u g ins (changed table f x l s 0 None) k
  -- a port is taken by a node that was claimed
  pub taken : (others : ℕ → Store) (f l : ℕ) (x : Live) (a : Port) → table f ≡ Some x → IsEmptied k.stores others f a → IsTaker (k.homes f) x a l → x.states l ≢ Waiting → NoReader table k.stores f x a
      → KeptStands cut u g ins table (record k { stores = others })
  -- a node is done
  pub done : (others : ℕ → Store) (after : Hands) (less : Lent) (f l : ℕ) (x : Live) → table f ≡ Some x → IsFinished cut u g ins table k others after less f l x
      → KeptStands cut u g ins (changed table f x l Done 0 None) (record k { stores = others; hands = after; lent = less })
  -- an AScatter's lease is kept by its ForAll
  pub scattered : (more : Lent) (f l key : ℕ) (x : Live) → table f ≡ Some x → IsAtWork (x.states l) → Scatters table k.stores (takers_of k.homes) x f l key
      → more.to_slices ≡ k.lent.to_slices
      → more.scattered f l ≡ key ∷ k.lent.scattered f l
      → ((h n : ℕ) → ¬ ((h ≡ f) × (n ≡ l)) → more.scattered h n ≡ k.lent.scattered h n)
      → KeptStands cut u g ins table (record k { lent = more })
  -- a graph is entered, whichever part of whatever form
  pub entered : (later : Keeping) (f l step n : ℕ) (x y : Live) → TableStands run c m (changed table f x l (Within step n) n (Some y)) root → table f ≡ Some x → IsIn l x.labels → IsAtWork (x.states l) → table n ≡ None
      → y.path ≡ (l, step) ∷ x.path
      → IsOpened cut u g ins table k later f l n y
      → KeptStands cut u g ins (changed table f x l (Within step n) n (Some y)) later
  -- a graph is left
  pub left : (after : Hands) (f l n : ℕ) (x y : Live) (s : State) → table f ≡ Some x → table n ≡ Some y → ¬ (f ≡ n) → IsNotWithin s → IsAtWork s → IsAtWork (x.states l)
      → IsTakenOver table k.stores k.hands after f l n
      → ((key : ℕ) → IsKeyIn key (k.lent.to_slices f l) → (i : Hand) → k.hands f l i ≡ Some key → after f l i ≡ Some key)
      → KeptStands cut u g ins (closed table f x l s n) (record k { hands = after })
  -- a node at work changes what it has in its hands, as where it lets go of something
  pub regrasped : (after : Hands) (f l : ℕ) (x : Live) → table f ≡ Some x → IsAtWork (x.states l) → IsRegrasped table k.stores k.hands after f l
      → ((key : ℕ) → IsKeyIn key (k.lent.to_slices f l) → (i : Hand) → k.hands f l i ≡ Some key → after f l i ≡ Some key)
      → KeptStands cut u g ins table (record k { hands = after })
  -- the pool changes by keys that no filled port has
  pub pooled : (other : Pool) → ((f : ℕ) (x : Live) (a : Port) (key : ℕ) → table f ≡ Some x → (k.stores f).cell a ≡ Some (Kept key) → other key ≡ k.pool key) → KeptStands cut u g ins table (record k { pool = other })

abbrev pub AreAllEventsKept : Type 0
AreAllEventsKept = (cut : Cut) (u : Unit1) (g : ℕ) (ins : List Carried) (run : Run) (c m : Test) (table : Table) (root : ℕ) (k : Keeping) → KeptStands cut u g ins table k → AreEventsKept cut u g ins run c m table root k
