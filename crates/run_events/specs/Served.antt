-- What is kept at the beginning of a run, and what a claim finds of it.
use Rattle.std.specs.Prelude.{◌≡◌, ◌≢◌, ℕ, true, List, [], ◌⊎◌, Contains, Some, None}
use Rattle.if1_graph.specs.declared.graph.Edge.{Edge}
use Rattle.if1_graph.specs.declared.graph.Graph.TheViews.{out-Graph}
use Rattle.if1_graph.specs.declared.graph.Origin.TheVariants as origin
use Rattle.if1_graph.specs.declared.graph.Unit1.{Unit1}
use Rattle.if1_graph.specs.Ready.{IsReady}
use Rattle.if1_marks.specs.Sound.{IsSound}
use Rattle.graph_meaning.specs.Carried.{Carried}
use Rattle.graph_meaning.specs.Demand.{Port as Out, Cut, IsCut}
use Rattle.graph_meaning.specs.Entered.{IsIn}
use Rattle.graph_meaning.specs.Histories.{History}
use Rattle.graph_meaning.specs.Laws.{run_of}
use Rattle.graph_meaning.specs.Networks.{network}
use Rattle.run_states.specs.Standing.{Waiting, Done, Live, Table, put}
use Rattle.run_states.specs.Storing.{Cell, Kept, Port, Owned, NoReader}
use Rattle.run_states.specs.Paths.{CarriesAt}
use Rattle.run_states.specs.Runs.{RunStands}
use Rattle.run_states.specs.Waiting.{HasBegun}
use Rattle.run_events.specs.Carrying.{Tells, HasInputs}
use Rattle.run_events.specs.Marked.{IsMarkedStore}
use Rattle.run_events.specs.Leases.{all_leases}
use Rattle.run_events.specs.Kept.{Keeping, IsAtHome, KeptStands}

-- ---- the beginning

-- A run begins with one graph that waits, whose inputs are there and own what they have, one each; no node has anything in its hands, and
-- nothing is lent.
pub record IsBegun (cut : Cut) (u : Unit1) (ins : List Carried) (x : Live) (k : Keeping) : Type 0 where
  pub path : x.path ≡ []
  pub waiting : (l : ℕ) → x.states l ≡ Waiting
  pub home : IsAtHome cut u x (k.homes 0)
  pub marked : IsMarkedStore u (k.homes 0) (k.stores 0)
  pub own : (a : Port) (key : ℕ) → (k.stores 0).cell a ≡ Some (Kept key) → ((k.stores 0).owning a ≡ Owned) × ((b : Port) → (k.stores 0).cell b ≡ Some (Kept key) → a ≡ b)
  pub filled : (i : ℕ) → k.wanted 0 (0, i) ≡ true → (c : Cell) × ((k.stores 0).cell (0, i) ≡ Some c)
  pub told : HasInputs k.pool (k.unions 0) (k.stores 0) ins
  pub hands : k.hands ≡ (λ f l i. None)
  pub lent : (f l : ℕ) → (k.lent.to_slices f l ≡ []) × (k.lent.scattered f l ≡ [])

abbrev pub DoesKeepingBegin : Type 0
DoesKeepingBegin = (cut : Cut) (u : Unit1) (g : ℕ) (ins : List Carried) (x : Live) (k : Keeping) → IsBegun cut u ins x k → KeptStands cut u g ins (put (λ f. None) 0 (Some x)) k

-- ---- a claim

-- The port is there with what it carries by the definition of record. Where an edge takes from it, nobody in its graph is at work on it,
-- and an aggregate that it has it owns, and no lease of that is out.
pub record IsServed (u : Unit1) (g : ℕ) (ins : List Carried) (table : Table) (k : Keeping) (f : ℕ) (x : Live) (e : Edge) (a : Port) : Type 0 where
  pub cell : Cell
  pub there : (k.stores f).cell a ≡ Some cell
  pub carried : Carried
  pub told : Tells k.pool (k.unions f a) cell carried
  pub right : CarriesAt (network u) g ins x.path (Out a.0 a.1) carried
  pub alone : e.takes ≡ true → e.node ≢ 0 → NoReader table k.stores f x a
  pub owned : (key : ℕ) → e.takes ≡ true → e.node ≢ 0 → cell ≡ Kept key → ((k.stores f).owning a ≡ Owned) × ((n : ℕ) → all_leases key table k.stores k.lent n ≡ 0)

-- So is each port that a ready node reads or takes, and each that the results of a graph do whose nodes are done.
pub record AreClaimsServed (cut : Cut) (u : Unit1) (g : ℕ) (ins : List Carried) (table : Table) (k : Keeping) (f : ℕ) (x : Live) (e : Edge) (a : Port) : Type 0 where
  pub of_node : e.node ≢ 0 → IsIn e.node x.labels → x.states e.node ≡ Waiting → HasBegun x e.node → IsServed u g ins table k f x e a
  pub of_result : e.node ≡ 0 → ((l : ℕ) → IsIn l x.labels → x.states l ≡ Done) → (a.0 ≡ 0) ⊎ IsIn a.0 x.labels → IsServed u g ins table k f x e a

abbrev pub AreAllClaimsServed : Type 0
AreAllClaimsServed = (cut : Cut) (u : Unit1) (g : ℕ) (ins : List Carried) (limit : ℕ) (h : History) (table : Table) (root f : ℕ) (x : Live) (k : Keeping) → IsCut cut → IsReady u → IsSound u
    → RunStands (run_of cut (network u) g ins) limit h table root
    → KeptStands cut u g ins table k
    → table f ≡ Some x
    → (e : Edge) (a : Port)
    → Contains (out-Graph (k.homes f).graph).edges e
    → e.from ≡ origin.Port a.0 a.1
    → k.wanted f a ≡ true
    → AreClaimsServed cut u g ins table k f x e a
