-- What is there to be read: a port to which something was given has it until its taker is claimed.
use Rattle.std.specs.Prelude.{◌≡◌, ◌≢◌, ℕ, zero, suc, Bool, true, ◌⊎◌, List, Contains, Some, None}
use Rattle.if1_graph.specs.declared.graph.Edge.{Edge}
use Rattle.if1_graph.specs.declared.graph.Graph.TheViews.{out-Graph}
use Rattle.if1_graph.specs.declared.graph.Origin.TheVariants as origin
use Rattle.if1_graph.specs.declared.graph.Unit1.{Unit1}
use Rattle.if1_graph.specs.Ready.{IsReady}
use Rattle.if1_graph.specs.Units.{Place, places, number_of}
use Rattle.if1_marks.specs.Sound.{IsSound}
use Rattle.graph_meaning.specs.Carried.{Carried}
use Rattle.graph_meaning.specs.Demand.{Cut, IsCut}
use Rattle.graph_meaning.specs.Entered.{IsIn}
use Rattle.graph_meaning.specs.Histories.{History}
use Rattle.graph_meaning.specs.Laws.{run_of}
use Rattle.graph_meaning.specs.Networks.{network}
use Rattle.run_states.specs.Standing.{State, Waiting, Done, Live, Table, with_state, put}
use Rattle.run_states.specs.Storing.{Cell, Port, Store}
use Rattle.run_states.specs.Runs.{RunStands}
use Rattle.run_states.specs.Graphs.{IsGraphOf}
use Rattle.run_states.specs.Waiting.{HasBegun}

-- an input is given from the beginning on, an output once its node is done
abbrev pub IsGiven : Live → Port → Type 0
IsGiven x (zero, i) = Unit {0}
IsGiven x (suc l, i) = x.states (suc l) ≡ Done

-- an edge takes from the port to this node of the live graph
pub record IsTaker (p : Place) (x : Live) (a : Port) (l : ℕ) : Type 0 where
  pub edge : Edge
  pub there : Contains (out-Graph p.graph).edges edge
  pub takes : edge.takes ≡ true
  pub from : edge.from ≡ origin.Port a.0 a.1
  pub node : edge.node ≡ l
  pub no_boundary : l ≢ 0
  pub inside : IsIn l x.labels

abbrev pub WasTaken : Place → Live → Port → Type 0
WasTaken p x a = (l : ℕ) × IsTaker p x a l × ¬ (x.states l ≡ Waiting)

-- Of each live graph, with the place where it stands in the unit, each of these ports has something once it is given, until its taker is
-- claimed. An input that is gone, or whose values are folded, is none of them.
abbrev pub ArePortsThere : Table → (ℕ → Store) → (ℕ → Place) → (ℕ → Port → Bool) → Type 0
ArePortsThere table stores homes wanted =
    (f : ℕ) (x : Live) (a : Port) → table f ≡ Some x → wanted f a ≡ true → IsGiven x a → ¬ WasTaken (homes f) x a → (c : Cell) × ((stores f).cell a ≡ Some c)

-- ---- laws

-- In a live graph of a ready unit with sound marks, what a ready node reads or takes is given and not taken; and so is what the results
-- of the graph take or read, where all its nodes are done.
pub record AreEndsThere (p : Place) (x : Live) (e : Edge) (a : Port) : Type 0 where
  pub of_node : e.node ≢ 0 → IsIn e.node x.labels → x.states e.node ≡ Waiting → HasBegun x e.node → IsGiven x a × ¬ WasTaken p x a
  pub of_result : e.node ≡ 0 → ((l : ℕ) → IsIn l x.labels → x.states l ≡ Done) → (a.0 ≡ 0) ⊎ IsIn a.0 x.labels → IsGiven x a × ¬ WasTaken p x a

abbrev pub AreOperandsThere : Type 0
AreOperandsThere = (cut : Cut) (u : Unit1) (g : ℕ) (ins is : List Carried) (limit : ℕ) (h : History) (table : Table) (root f : ℕ) (x : Live) (p : Place) → IsCut cut → IsReady u → IsSound u
    → RunStands (run_of cut (network u) g ins) limit h table root
    → table f ≡ Some x
    → Contains (places u) p
    → IsGraphOf cut (network u) (number_of p) is x
    → (e : Edge) (a : Port)
    → Contains (out-Graph p.graph).edges e
    → e.from ≡ origin.Port a.0 a.1
    → AreEndsThere p x e a

-- So it is after each event.
pub record IsThereKept (table : Table) (stores : ℕ → Store) (homes : ℕ → Place) (wanted : ℕ → Port → Bool) : Type 0 where
  -- a node is claimed, or goes on
  pub moved : (f l : ℕ) (x : Live) (s : State) → table f ≡ Some x → s ≢ Done → s ≢ Waiting → ArePortsThere (put table f (Some (with_state x l s))) stores homes wanted
  -- ports are emptied whose takers were claimed
  pub taken : (others : ℕ → Store) (f : ℕ) (x : Live) → table f ≡ Some x → ((h : ℕ) (a : Port) → ¬ (h ≡ f) → (others h).cell a ≡ (stores h).cell a)
      → ((a : Port) → ((others f).cell a ≡ (stores f).cell a) ⊎ WasTaken (homes f) x a)
      → ArePortsThere table others homes wanted
  -- a node is done, and its ports are filled
  pub done : (others : ℕ → Store) (f l : ℕ) (x : Live) → table f ≡ Some x → ((h : ℕ) (a : Port) → ¬ (h ≡ f) → (others h).cell a ≡ (stores h).cell a)
      → ((a : Port) → ¬ (a.0 ≡ l) → (others f).cell a ≡ (stores f).cell a)
      → ((a : Port) → a.0 ≡ l → wanted f a ≡ true → (c : Cell) × ((others f).cell a ≡ Some c))
      → ArePortsThere (put table f (Some (with_state x l Done))) others homes wanted
  -- a graph is added whose inputs are there
  pub added : (others : ℕ → Store) (later : ℕ → Place) (more : ℕ → Port → Bool) (g : ℕ) (y : Live) → ((h : ℕ) → ¬ (h ≡ g) → (others h ≡ stores h) × (later h ≡ homes h) × ((a : Port) → more h a ≡ true → wanted h a ≡ true))
      → ((l : ℕ) → y.states l ≡ Waiting)
      → ((i : ℕ) → more g (0, i) ≡ true → (c : Cell) × ((others g).cell (0, i) ≡ Some c))
      → ArePortsThere (put table g (Some y)) others later more
  -- a graph is left
  pub left : (g : ℕ) → ArePortsThere (put table g None) stores homes wanted

abbrev pub IsAllThereKept : Type 0
IsAllThereKept = (table : Table) (stores : ℕ → Store) (homes : ℕ → Place) (wanted : ℕ → Port → Bool) → ArePortsThere table stores homes wanted → IsThereKept table stores homes wanted
