-- What the filled ports of live graphs hold is what the ports of these graphs carry.
use Rattle.std.specs.Prelude.{◌≡◌, ℕ, zero, suc, ◌-◌, List, [], ◌∷◌, Option, Some, None, get_or}
use Rattle.flow_value.specs.declared.value.Val.{Val}
use Rattle.flow_value.specs.declared.value.Val.TheOpen.{Val-F}
use Rattle.flow_value.specs.declared.value.Val.TheViews.{out-Val}
use Rattle.graph_meaning.specs.Carried.{Carried, Value, Unfilled, val_of}
use Rattle.graph_meaning.specs.Demand.{Source, Port as Out, Fixed, Vertex, Network, at_label, and_then}
use Rattle.graph_meaning.specs.Plain.{CarryAll}
use Rattle.run_states.specs.Standing.{Path, State, Live, Table, put, changed, closed}
use Rattle.run_states.specs.Storing.{Cell, Plain, Kept, Port, Store}
use Rattle.run_states.specs.Moving.{DifferAt}
use Rattle.run_states.specs.Paths.{LeadsTo, CarriesAt}
use Rattle.run_states.specs.Values.{OutputsOf}

-- what is kept by each key
abbrev pub Pool : Type 0
Pool = ℕ → Option Carried

-- the content of a union
abbrev pub content_in : Val-F Val → Option Carried
content_in (Val-F.Uni tag v) = Some (Value v)
content_in _ = None

abbrev pub content_of : Carried → Option Carried
content_of c = content_in (out-Val (val_of c))

-- the content of the content, and so on, so many times
abbrev pub contents : ℕ → Carried → Option Carried
contents zero c = Some c
contents (suc n) c = and_then (contents n c) content_of

-- What a cell holds: a value, or what is kept by a key; in an arm, to which a union is lent, the content of that.
abbrev pub Tells : Pool → (unions : ℕ) → Cell → Carried → Type 0
Tells pool n (Plain c) d = c ≡ d
Tells pool n (Kept key) d = (w : Carried) × (pool key ≡ Some w) × (contents n w ≡ Some d)

-- how many unions are opened to read a port, of the live graph at each place of a table
abbrev pub Opened : Type 0
Opened = ℕ → Port → ℕ

-- what each filled port of a live graph holds is what it carries in the graph that its path leads to
abbrev pub ArePortsRight : Network → ℕ → List Carried → Pool → Opened → Table → (ℕ → Store) → Type 0
ArePortsRight u g ins pool unions table stores =
    (f : ℕ) (x : Live) (a : Port) (c : Cell) → table f ≡ Some x → (stores f).cell a ≡ Some c → (d : Carried) × Tells pool (unions f a) c d × CarriesAt u g ins x.path (Out a.0 a.1) d

-- the filled ports of a store are inputs of its graph, and hold these
abbrev pub HasInputs : Pool → (Port → ℕ) → Store → List Carried → Type 0
HasInputs pool unions store ins = (a : Port) (c : Cell) → store.cell a ≡ Some c → (a.0 ≡ 0) × Tells pool (unions a) c (get_or ins (a.1 - 1) Unfilled)

-- So it is at the beginning, and after each event.
pub record ArePortsKept (u : Network) (g : ℕ) (ins : List Carried) : Type 0 where
  pub begun : (pool : Pool) (unions : Opened) (stores : ℕ → Store) (x : Live) → x.path ≡ [] → HasInputs pool (unions 0) (stores 0) ins → ArePortsRight u g ins pool unions (put (λ f. None) 0 (Some x)) stores
  -- a state changes, and maybe a graph is left
  pub moved : (pool : Pool) (unions : Opened) (table : Table) (stores : ℕ → Store) (f l : ℕ) (x : Live) (s : State) → ArePortsRight u g ins pool unions table stores → table f ≡ Some x
      → ArePortsRight u g ins pool unions (changed table f x l s 0 None) stores × ((n : ℕ) → ArePortsRight u g ins pool unions (closed table f x l s n) stores)
  -- a port is filled by what it carries
  pub filled : (pool : Pool) (unions later : Opened) (table : Table) (stores others : ℕ → Store) (f : ℕ) (x : Live) (a : Port) (c : Cell) (d : Carried) → ArePortsRight u g ins pool unions table stores → table f ≡ Some x
      → DifferAt stores others f a
      → ((h : ℕ) (b : Port) → ¬ ((h ≡ f) × (b ≡ a)) → later h b ≡ unions h b)
      → (others f).cell a ≡ Some c
      → Tells pool (later f a) c d
      → CarriesAt u g ins x.path (Out a.0 a.1) d
      → ArePortsRight u g ins pool later table others
  -- a port is emptied
  pub emptied : (pool : Pool) (unions : Opened) (table : Table) (stores others : ℕ → Store) (f : ℕ) (a : Port) → ArePortsRight u g ins pool unions table stores → DifferAt stores others f a
      → (others f).cell a ≡ None
      → ArePortsRight u g ins pool unions table others
  -- a graph is entered on the inputs to which its path leads
  pub entered : (pool : Pool) (unions later : Opened) (table : Table) (stores others : ℕ → Store) (f l n : ℕ) (x y : Live) (s : State) (h : ℕ) (is : List Carried) → ArePortsRight u g ins pool unions table stores → table f ≡ Some x
      → table n ≡ None
      → LeadsTo u g ins y.path h is
      → ((m : ℕ) → ¬ (m ≡ n) → (others m ≡ stores m) × (later m ≡ unions m))
      → HasInputs pool (later n) (others n) is
      → ArePortsRight u g ins pool later (changed table f x l s n (Some y)) others
  -- what is kept changes by keys that no filled port has
  pub pooled : (pool other : Pool) (unions : Opened) (table : Table) (stores : ℕ → Store) → ArePortsRight u g ins pool unions table stores
      → ((f : ℕ) (x : Live) (a : Port) (key : ℕ) → table f ≡ Some x → (stores f).cell a ≡ Some (Kept key) → other key ≡ pool key)
      → ArePortsRight u g ins other unions table stores

abbrev pub AreAllPortsKept : Type 0
AreAllPortsKept = (u : Network) (g : ℕ) (ins : List Carried) → ArePortsKept u g ins

-- ---- what is read and what is written

-- what a node reads off the ports of its graph
abbrev pub IsTold : Pool → (Port → ℕ) → Store → Source → Carried → Type 0
IsTold pool unions store (Fixed c) k = c ≡ k
IsTold pool unions store (Out l p) k = (c : Cell) × (store.cell (l, p) ≡ Some c) × Tells pool (unions (l, p)) c k

abbrev pub AreTold : Pool → (Port → ℕ) → Store → List Source → List Carried → Type 0
AreTold pool unions store [] [] = Unit {0}
AreTold pool unions store (o ∷ os) (k ∷ ks) = IsTold pool unions store o k × AreTold pool unions store os ks
AreTold pool unions store _ _ = ⊥

pub record AreToldCarried (u : Network) (g : ℕ) (ins : List Carried) : Type 0 where
  -- what is read off filled ports is what fills these ports by the definition of record
  pub operands : (pool : Pool) (unions : Opened) (table : Table) (stores : ℕ → Store) (f : ℕ) (x : Live) (h : ℕ) (is : List Carried) (os : List Source) (ks : List Carried) → ArePortsRight u g ins pool unions table stores → table f ≡ Some x
      → LeadsTo u g ins x.path h is
      → AreTold pool (unions f) (stores f) os ks
      → (d : ℕ) × CarryAll u d h is os ks
  -- the ports of a node carry its outputs
  pub outputs : (p : Path) (h l i : ℕ) (is rs : List Carried) (v : Vertex) → LeadsTo u g ins p h is → at_label (u h).nodes (suc l) ≡ Some v
      → OutputsOf u h is v rs
      → CarriesAt u g ins p (Out (suc l) i) (get_or rs (i - 1) Unfilled)

abbrev pub AreAllToldCarried : Type 0
AreAllToldCarried = (u : Network) (g : ℕ) (ins : List Carried) → AreToldCarried u g ins

-- what is told of a union, once opened is told of its content
abbrev pub AreContentsTold : Type 0
AreContentsTold = (pool : Pool) (n key : ℕ) (c d : Carried) → Tells pool n (Kept key) c → content_of c ≡ Some d → Tells pool (suc n) (Kept key) d
