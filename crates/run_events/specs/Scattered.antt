-- The leases that AScatters keep, by the marks of a unit, and what is out where the taker of a port is claimed.
use Rattle.std.specs.Prelude.{◌≡◌, ◌≢◌, ℕ, Bool, true, false, ◌&&◌, ◌∷◌, ◌⊎◌, List, Contains, Some, None}
use Rattle.std.specs.List.{list_any}
use Rattle.if1_graph.specs.declared.graph.Edge.{Edge}
use Rattle.if1_graph.specs.declared.graph.Graph.TheViews.{out-Graph}
use Rattle.if1_graph.specs.declared.graph.Origin.TheVariants as origin
use Rattle.if1_graph.specs.declared.graph.Unit1.{Unit1}
use Rattle.if1_graph.specs.Ports.{leaves}
use Rattle.if1_graph.specs.Ready.{IsReady}
use Rattle.if1_graph.specs.Units.{Place, places, number_of}
use Rattle.if1_marks.specs.Sound.{IsSound}
use Rattle.graph_meaning.specs.Carried.{Carried}
use Rattle.graph_meaning.specs.Demand.{Cut, IsCut}
use Rattle.graph_meaning.specs.Entered.{IsIn}
use Rattle.graph_meaning.specs.Histories.{Run, History}
use Rattle.graph_meaning.specs.Laws.{run_of}
use Rattle.graph_meaning.specs.Networks.{network}
use Rattle.run_states.specs.Standing.{Test, Within, Live, Table, TableStands, put}
use Rattle.run_states.specs.Storing.{Kept, Port, Owned, Lent, Store, StoresStand, NoReader}
use Rattle.run_states.specs.Moving.{DifferAt}
use Rattle.run_states.specs.Graphs.{IsGraphOf}
use Rattle.run_states.specs.Runs.{RunStands}
use Rattle.run_states.specs.Waiting.{HasBegun}
use Rattle.run_events.specs.Marked.{IsMarkedStore}
use Rattle.run_events.specs.Scattering.{Takers, Scatters}
use Rattle.run_events.specs.Hands.{Hands, HandsStand}
use Rattle.run_events.specs.Leases.{Lent as LentLeases, all_leases, IsLent}

-- whether an edge takes from a port, of the graph that stands at this place of the unit
abbrev pub is_taken_from : Place → Port → Bool
is_taken_from p a = list_any (λ e. e.takes && leaves a.0 a.1 e.from) (out-Graph p.graph).edges

-- of the live graph at each place of a table
abbrev pub takers_of : (ℕ → Place) → Takers
takers_of homes f a = is_taken_from (homes f) a

-- ---- an AScatter is done

-- The lease of an AScatter of the generator of a ForAll, of what it reads, may be kept until the ForAll leaves: where the port is lent,
-- or where no edge takes from it. Where one does, the AScatter gives values of its own and keeps none.
abbrev pub DoScattersKeep : Type 0
DoScattersKeep = (run : Run) (c m : Test) (table : Table) (root : ℕ) (stores : ℕ → Store) (takers : Takers) (f g l k : ℕ) (x y : Live) (a : Port) (key : ℕ) → TableStands run c m table root
    → StoresStand table stores
    → table f ≡ Some x
    → table g ≡ Some y
    → IsIn l x.labels
    → x.states l ≡ Within k g
    → y.path ≡ (l, k) ∷ x.path
    → (stores g).cell a ≡ Some (Kept key)
    → ((stores g).owning a ≡ Lent) ⊎ (((stores g).owning a ≡ Owned) × (takers g a ≡ false))
    → Scatters table stores takers x f l key

-- ---- what a lease stays beside

-- It stays one where a port is emptied from which an edge takes and on which nobody is at work, and where a graph is added none of whose
-- inputs owns what it is of.
pub record AreScattersKeptOn (table : Table) (stores : ℕ → Store) (takers : Takers) (g n key : ℕ) (y : Live) : Type 0 where
  pub emptied : (others : ℕ → Store) (f : ℕ) (x : Live) (a : Port) → DifferAt stores others f a → table f ≡ Some x → (others f).cell a ≡ None → takers f a ≡ true → NoReader table stores f x a
      → Scatters table others takers y g n key
  pub added : (others : ℕ → Store) (later : Takers) (f : ℕ) (x : Live) → table f ≡ None → ((h : ℕ) → ¬ (h ≡ f) → (others h ≡ stores h) × ((a : Port) → later h a ≡ takers h a))
      → ((a : Port) → (others f).cell a ≡ Some (Kept key) → ¬ ((others f).owning a ≡ Owned))
      → Scatters (put table f (Some x)) others later y g n key

abbrev pub AreAllScattersKeptOn : Type 0
AreAllScattersKeptOn = (table : Table) (stores : ℕ → Store) (takers : Takers) (g n key : ℕ) (y : Live) → table g ≡ Some y → Scatters table stores takers y g n key → AreScattersKeptOn table stores takers g n key y

-- ---- the claim of a taker

-- In a live graph of a ready unit with sound marks, where the taker of a port is ready or was claimed, the port owns what it has, and no
-- lease of that is out at all.
abbrev pub AreTakersFree : Type 0
AreTakersFree = (cut : Cut) (u : Unit1) (g : ℕ) (ins is : List Carried) (limit : ℕ) (h : History) (table : Table) (root f : ℕ) (x : Live) (stores : ℕ → Store) (hands : Hands) (homes : ℕ → Place) (lent : LentLeases) → IsCut cut
    → IsReady u
    → IsSound u
    → RunStands (run_of cut (network u) g ins) limit h table root
    → HandsStand table stores hands
    → IsLent table stores hands (takers_of homes) lent
    → table f ≡ Some x
    → Contains (places u) (homes f)
    → IsGraphOf cut (network u) (number_of (homes f)) is x
    → IsMarkedStore u (homes f) (stores f)
    → (e : Edge) (a : Port) (key : ℕ)
    → Contains (out-Graph (homes f).graph).edges e
    → e.takes ≡ true
    → e.from ≡ origin.Port a.0 a.1
    → e.node ≢ 0
    → IsIn e.node x.labels
    → HasBegun x e.node
    → (stores f).cell a ≡ Some (Kept key)
    → ((stores f).owning a ≡ Owned) × ((n : ℕ) → all_leases key table stores lent n ≡ 0)
