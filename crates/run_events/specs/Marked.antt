-- Where aggregates are kept, by the marks of a unit.
use Rattle.std.specs.Prelude.{◌≡◌, ◌≢◌, ℕ, true, false, List, Contains, Some, None}
use Rattle.if1_graph.specs.declared.graph.Edge.{Edge}
use Rattle.if1_graph.specs.declared.graph.Graph.TheViews.{out-Graph}
use Rattle.if1_graph.specs.declared.graph.Origin.TheVariants as origin
use Rattle.if1_graph.specs.declared.graph.Unit1.{Unit1}
use Rattle.if1_graph.specs.Ready.{IsReady}
use Rattle.if1_graph.specs.Units.{Place, places, number_of}
use Rattle.if1_marks.specs.Owned.{is_owned}
use Rattle.if1_marks.specs.Sound.{IsSound}
use Rattle.graph_meaning.specs.Carried.{Carried}
use Rattle.graph_meaning.specs.Demand.{Cut, IsCut}
use Rattle.graph_meaning.specs.Entered.{IsIn}
use Rattle.graph_meaning.specs.Histories.{History}
use Rattle.graph_meaning.specs.Laws.{run_of}
use Rattle.graph_meaning.specs.Networks.{network}
use Rattle.run_states.specs.Standing.{Live, Table}
use Rattle.run_states.specs.Storing.{Kept, Port, Owned, Lent, Store, IsRead, StoresStand, NoReader}
use Rattle.run_states.specs.Moving.{DifferAt, IsUnowned, IsInput}
use Rattle.run_states.specs.Leasing.{leases}
use Rattle.run_states.specs.Runs.{RunStands}
use Rattle.run_states.specs.Graphs.{IsGraphOf}
use Rattle.run_states.specs.Waiting.{HasBegun}

-- ---- who reads

-- an edge of the graph leads from this port to this node, and does not take
pub record IsReader (p : Place) (l : ℕ) (a : Port) : Type 0 where
  pub edge : Edge
  pub there : Contains (out-Graph p.graph).edges edge
  pub node : edge.node ≡ l
  pub from : edge.from ≡ origin.Port a.0 a.1
  pub takes : edge.takes ≡ false

-- the nodes of the store read the ports from which edges lead to them that do not take
pub record AreReadsOf (p : Place) (store : Store) : Type 0 where
  pub only : (l : ℕ) (a : Port) → IsRead a (store.reads l) → IsReader p l a
  pub all : (l : ℕ) (a : Port) → IsReader p l a → IsRead a (store.reads l)

-- In a live graph of a ready unit with sound marks, where the taker of a port is ready or was claimed, nobody is at work on the
-- port: so it may be emptied, and no lease of what it has is out.
abbrev pub AreTakersAlone : Type 0
AreTakersAlone = (cut : Cut) (u : Unit1) (g : ℕ) (ins is : List Carried) (limit : ℕ) (h : History) (table : Table) (root f : ℕ) (x : Live) (stores : ℕ → Store) (p : Place) → IsCut cut → IsReady u → IsSound u
    → RunStands (run_of cut (network u) g ins) limit h table root
    → table f ≡ Some x
    → Contains (places u) p
    → IsGraphOf cut (network u) (number_of p) is x
    → AreReadsOf p (stores f)
    → (e : Edge) (a : Port)
    → Contains (out-Graph p.graph).edges e
    → e.takes ≡ true
    → e.from ≡ origin.Port a.0 a.1
    → e.node ≢ 0
    → IsIn e.node x.labels
    → HasBegun x e.node
    → NoReader table stores f x a

-- the store goes by the marks: what the rules say that a port owns it owns, and ports are read along edges that do not take
pub record IsMarkedStore (u : Unit1) (p : Place) (store : Store) : Type 0 where
  pub reads : AreReadsOf p store
  pub owned : (a : Port) → is_owned u p (origin.Port a.0 a.1) ≡ true → store.owning a ≡ Owned

-- So the port that the taker takes owns what it has, and no lease of that is out.
abbrev pub DoTakersLeaseNothing : Type 0
DoTakersLeaseNothing = (cut : Cut) (u : Unit1) (g : ℕ) (ins is : List Carried) (limit : ℕ) (h : History) (table : Table) (root f : ℕ) (x : Live) (stores : ℕ → Store) (p : Place) → IsCut cut → IsReady u → IsSound u
    → RunStands (run_of cut (network u) g ins) limit h table root
    → StoresStand table stores
    → table f ≡ Some x
    → Contains (places u) p
    → IsGraphOf cut (network u) (number_of p) is x
    → IsMarkedStore u p (stores f)
    → (e : Edge) (a : Port) (key : ℕ)
    → Contains (out-Graph p.graph).edges e
    → e.takes ≡ true
    → e.from ≡ origin.Port a.0 a.1
    → e.node ≢ 0
    → IsIn e.node x.labels
    → HasBegun x e.node
    → (stores f).cell a ≡ Some (Kept key)
    → ((stores f).owning a ≡ Owned) × ((n : ℕ) → leases key table stores n ≡ 0)

-- ---- what was taken

-- What an owned port had is owned by no port once it was emptied, so a port of an entered graph may own it.
abbrev pub AreEmptiedUnowned : Type 0
AreEmptiedUnowned = (table : Table) (stores others : ℕ → Store) (f : ℕ) (x : Live) (a : Port) (key : ℕ) → StoresStand table stores → DifferAt stores others f a
    → table f ≡ Some x
    → (stores f).cell a ≡ Some (Kept key)
    → (stores f).owning a ≡ Owned
    → (others f).cell a ≡ None
    → IsUnowned table others key

-- ---- what is entered with

-- Of an entered graph, an input that has an aggregate owns one that no port owned, as what the node took and what was made for it are,
-- and no other input owns it; or it has that of a port from which an edge leads to the node that does not take.
pub record IsEnteredWith (p : Place) (table : Table) (stores : ℕ → Store) (f l : ℕ) (store : Store) : Type 0 where
  pub owned : (a : Port) (key : ℕ) → store.cell a ≡ Some (Kept key) → store.owning a ≡ Owned → IsUnowned table stores key × ((b : Port) → store.cell b ≡ Some (Kept key) → store.owning b ≡ Owned → a ≡ b)
  pub lent : (a : Port) (key : ℕ) → store.cell a ≡ Some (Kept key) → store.owning a ≡ Lent → (b : Port) × IsReader p l b × ((stores f).cell b ≡ Some (Kept key))

-- So its inputs are as the law on entering asks: whatever form the node is of, and whichever graph it enters.
abbrev pub AreInputsMarked : Type 0
AreInputsMarked = (p : Place) (table : Table) (stores : ℕ → Store) (f l : ℕ) (store : Store) → AreReadsOf p (stores f) → IsEnteredWith p table stores f l store
    → (a : Port) (key : ℕ)
    → store.cell a ≡ Some (Kept key)
    → IsInput table stores f l store a key
