-- Tables whose live graphs are those of a network on their inputs.
use Rattle.std.specs.Prelude.{◌≡◌, ℕ, false, true, List, [], ◌∷◌, Some, None}
use Rattle.graph_meaning.specs.Carried.{Carried}
use Rattle.graph_meaning.specs.Entered.{Item, Inside}
use Rattle.graph_meaning.specs.Forms.{Form}
use Rattle.graph_meaning.specs.Demand.{Network, Cut, IsCut, AreOrderly, at_label, waits_of}
use Rattle.graph_meaning.specs.Histories.{Run}
use Rattle.graph_meaning.specs.Laws.{run_of}
use Rattle.run_states.specs.Standing.{Test, State, Live, Table, tests_at, TableStands, put, changed, closed, IsNew}
use Rattle.run_states.specs.Events.{also}
use Rattle.run_states.specs.Phases.{last_of, labels_of, entered_live}
use Rattle.run_states.specs.Paths.{IsWhole, EntersAt, LeadsTo}

-- the live graph is this one on these inputs, however far its nodes are
pub record IsGraphOf (cut : Cut) (u : Network) (g : ℕ) (ins : List Carried) (x : Live) : Type 0 where
  pub run : x.run ≡ run_of cut u g ins
  pub labels : x.labels ≡ labels_of (u g).nodes
  pub waits : x.waits ≡ (λ l. waits_of (at_label (u g).nodes l))
  pub last : x.last ≡ (λ l. last_of (at_label (u g).nodes l) l)

-- each live graph is the one that its path leads to
abbrev pub AreGraphsOf : Cut → Network → ℕ → List Carried → Table → Type 0
AreGraphsOf cut u g ins table = (f : ℕ) (x : Live) → table f ≡ Some x → (h : ℕ) × (is : List Carried) × LeadsTo u g ins x.path h is × IsGraphOf cut u h is x

-- So it is at the beginning, and after each event.
pub record AreGraphsKept (cut : Cut) (u : Network) (g : ℕ) (ins : List Carried) : Type 0 where
  pub begun : AreGraphsOf cut u g ins (put (λ f. None) 0 (Some (entered_live cut u g ins [])))
  pub moved : (table : Table) (f l : ℕ) (x : Live) (s : State) → AreGraphsOf cut u g ins table → table f ≡ Some x → AreGraphsOf cut u g ins (changed table f x l s 0 None)
  pub entered : (table : Table) (f l k n : ℕ) (x : Live) (s : State) (h j : ℕ) (is js : List Carried) (form : Form) (ks : List Carried) (e : Item) → AreGraphsOf cut u g ins table → table f ≡ Some x
      → LeadsTo u g ins x.path h is
      → IsWhole u h is l form ks
      → EntersAt u form ks l k e j js
      → AreGraphsOf cut u g ins (changed table f x l s n (Some (entered_live cut u j js ((l, k) ∷ x.path))))
  pub left : (table : Table) (f l n : ℕ) (x : Live) (s : State) → AreGraphsOf cut u g ins table → table f ≡ Some x → AreGraphsOf cut u g ins (closed table f x l s n)

abbrev pub AreAllGraphsKept : Type 0
AreAllGraphsKept = (cut : Cut) (u : Network) (g : ℕ) (ins : List Carried) → AreGraphsKept cut u g ins

-- The graph that a node enters is a new one of the table: the item that enters it is made, and nothing inside was claimed.
abbrev pub IsEnteredNew : Type 0
IsEnteredNew = (cut : Cut) (u : Network) → IsCut cut → AreOrderly u
    → (run : Run) (c m : Test) (table : Table) (root f l k n : ℕ) (x : Live) (h j : ℕ) (is js : List Carried) (form : Form) (ks : List Carried) (e : Item)
    → TableStands run c m table root
    → table f ≡ Some x
    → table n ≡ None
    → IsGraphOf cut u h is x
    → IsWhole u h is l form ks
    → EntersAt u form ks l k e j js
    → tests_at x.path c e ≡ true
    → ((i : Item) → tests_at x.path c (Inside l k i) ≡ false)
    → IsNew c (also x e m) table x l k n (entered_live cut u j js ((l, k) ∷ x.path))
