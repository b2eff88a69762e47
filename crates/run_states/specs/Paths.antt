-- Which graph a path leads to, on which inputs, and which items there are in it.
use Rattle.std.specs.Prelude.{◌≡◌, ℕ, suc, ◌↔◌, Bool, List, [], ◌∷◌, slice_get, Some}
use Rattle.graph_meaning.specs.Carried.{Carried}
use Rattle.graph_meaning.specs.Entered.{Item, Node, Entry, Slice, Leave}
use Rattle.graph_meaning.specs.Forms.{Form, Enter, Iterate, Leave as Leaves, Begins, Stage, first}
use Rattle.graph_meaning.specs.Demand.{Source, Whole, Vertex, Network, Cut, IsCut, AreOrderly, at_label}
use Rattle.graph_meaning.specs.Histories.{Exists, Follows, OwnFirings}
use Rattle.graph_meaning.specs.Plain.{Carries}
use Rattle.graph_meaning.specs.Laws.{run_of}
use Rattle.run_states.specs.Standing.{Path, plug, IsOuter}
use Rattle.run_states.specs.Phases.{Operands, Comes}

-- a node of this graph on its inputs is of this form, with these operands
pub record IsWhole (u : Network) (g : ℕ) (ins : List Carried) (l : ℕ) (form : Form) (ks : List Carried) : Type 0 where
  pub node : Vertex
  pub found : at_label (u g).nodes l ≡ Some node
  pub kind : node.kind ≡ Whole form
  pub given : Operands u g ins node ks

-- such a node, labelled l, enters this graph on these inputs by an item: by its own one at its step 0, or by an entry at a further step
pub data EntersAt (u : Network) (form : Form) (ks : List Carried) (l : ℕ) : ℕ → Item → ℕ → List Carried → Type 0 where
  at_first : (h : ℕ) (is : List Carried) (stage : Stage) → first form ks ≡ Begins h is stage → EntersAt u form ks l 0 (Node l) h is
  at_step : (k : ℕ) (t : Bool) (h : ℕ) (is : List Carried) (stage : Stage) → Comes u form ks k (Enter t h is stage) → EntersAt u form ks l (suc k) (Entry t l (suc k)) h is

-- a path leads from a graph on its inputs to this graph on these
pub data LeadsTo (u : Network) (g : ℕ) (ins : List Carried) : Path → ℕ → List Carried → Type 0 where
  here : LeadsTo u g ins [] g ins
  inside : (l k : ℕ) (e : Item) (p : Path) (h : ℕ) (is : List Carried) (form : Form) (ks : List Carried) (j : ℕ) (js : List Carried)
      → LeadsTo u g ins p h is
      → IsWhole u h is l form ks
      → EntersAt u form ks l k e j js
      → LeadsTo u g ins ((l, k) ∷ p) j js

-- the items of a graph on its inputs, but for those of the graphs that its nodes enter
pub data IsItem (cut : Cut) (u : Network) (g : ℕ) (ins : List Carried) : Item → Type 0 where
  a_node : (l : ℕ) (v : Vertex) → at_label (u g).nodes l ≡ Some v → IsItem cut u g ins (Node l)
  an_entry : (l k : ℕ) (form : Form) (ks : List Carried) (t : Bool) (h : ℕ) (is : List Carried) (stage : Stage)
      → IsWhole u g ins l form ks
      → Comes u form ks k (Enter t h is stage)
      → IsItem cut u g ins (Entry t l (suc k))
  a_slice : (l k r : ℕ) (form : Form) (ks : List Carried) (h : ℕ) (row : List Carried) (rows : List (List Carried)) (ms : List Carried) (part : List (List Carried))
      → IsWhole u g ins l form ks
      → Comes u form ks k (Iterate h row rows ms)
      → slice_get (cut (row ∷ rows)) r ≡ Some part
      → IsItem cut u g ins (Slice l (suc k) r)
  a_leaving : (l k : ℕ) (form : Form) (ks rs : List Carried)
      → IsWhole u g ins l form ks
      → Comes u form ks k (Leaves rs)
      → IsItem cut u g ins (Leave l)

-- what a port of the graph that a path leads to carries
abbrev pub CarriesAt : Network → ℕ → List Carried → Path → Source → Carried → Type 0
CarriesAt u g ins p o c = (h : ℕ) × (is : List Carried) × LeadsTo u g ins p h is × ((d : ℕ) × Carries u d h is o c)

-- Items, their order and their firings are those of the graphs that paths lead to.
pub record ArePathsExact (cut : Cut) (u : Network) (g : ℕ) (ins : List Carried) : Type 0 where
  -- a path leads to one graph with one list of inputs, and a port there carries one thing
  pub one : (p : Path) (h j : ℕ) (is js : List Carried) → LeadsTo u g ins p h is → LeadsTo u g ins p j js → (h ≡ j) × (is ≡ js)
  pub carried : (p : Path) (o : Source) (b c : Carried) → CarriesAt u g ins p o b → CarriesAt u g ins p o c → b ≡ c
  -- an item exists exactly where its path leads to a graph that has it
  pub known : (p : Path) (i : Item) → IsOuter i → Exists (run_of cut u g ins) (plug p i) → (h : ℕ) × (is : List Carried) × LeadsTo u g ins p h is × IsItem cut u h is i
  pub there : (p : Path) (h : ℕ) (is : List Carried) (i : Item) → LeadsTo u g ins p h is → IsItem cut u h is i → Exists (run_of cut u g ins) (plug p i)
  -- within a graph an item comes after another exactly where it does in the graph's own run
  pub order : (p : Path) (h : ℕ) (is : List Carried) (i j : Item) → LeadsTo u g ins p h is → Follows (run_of cut u h is) i j ↔ Follows (run_of cut u g ins) (plug p i) (plug p j)
  -- and has the firings that it has there
  pub firings : (p : Path) (h : ℕ) (is : List Carried) (i : Item) (n : ℕ) → LeadsTo u g ins p h is → OwnFirings (run_of cut u h is) i n ↔ OwnFirings (run_of cut u g ins) (plug p i) n

abbrev pub AreAllPathsExact : Type 0
AreAllPathsExact = (cut : Cut) (u : Network) (g : ℕ) (ins : List Carried) → IsCut cut → AreOrderly u → ArePathsExact cut u g ins
