-- What each item of a run adds to a sum by the recursion of the cost.
--
-- A simple node adds what its firing does. A compound node or Call adds what its firing does with its leaving, when its outputs are
-- there. The item that enters a graph adds what the results of that graph do, and a slice all that its iterations do. What the results
-- of the graph that is run add is added by no item.
use Rattle.std.specs.Prelude.{◌≡◌, ℕ, zero, suc, ◌+◌, Bool, List, ◌∷◌, slice_get, Option, Some}
use Rattle.if1_graph.specs.declared.op.Simple.{Simple}
use Rattle.graph_meaning.specs.Carried.{Carried}
use Rattle.graph_meaning.specs.NodeValues.{Shape, op}
use Rattle.graph_meaning.specs.Entered.{Item, Node, Entry, Slice, Leave, Inside, Has, IsWhole as IsGiven, total}
use Rattle.graph_meaning.specs.Forms.{Form, First, Begins, Skips, Enter, Iterate, Leave as Leaves, Stage, first}
use Rattle.graph_meaning.specs.Demand.{Kind, Plain, Whole, Vertex, Network, Cut, IsCut, AreOrderly, at_label, tree}
use Rattle.graph_meaning.specs.Plain.{CarryAll}
use Rattle.graph_meaning.specs.Storage.{Weights, RowsAdd, GraphAdds}
use Rattle.run_states.specs.Phases.{Results, Operands, Comes}
use Rattle.run_states.specs.Paths.{IsWhole, EntersAt}

module _ (cut : Cut) (u : Network) (w : Weights) where
  -- ---- the own item of a node

  -- what is fired, or begun with
  pub record SimpleAdds (g : ℕ) (ins : List Carried) (v : Vertex) (row : Simple) (shape : Shape) (c : ℕ) : Type 0 where
    pub operands : List Carried
    pub depth : ℕ
    pub carried : CarryAll u depth g ins v.ins operands
    pub adds : c ≡ w.of_node g v operands (op row shape operands)

  pub record ResultsAdd (h : ℕ) (is : List Carried) (c : ℕ) : Type 0 where
    pub results : List Carried
    pub given : Results u h is results
    pub adds : c ≡ w.of_results h results

  abbrev pub FirstAdds : First → ℕ → Type 0
  FirstAdds (Skips rs) c = c ≡ 0
  FirstAdds (Begins h is stage) c = ResultsAdd h is c

  pub record WholeAdds (g : ℕ) (ins : List Carried) (v : Vertex) (form : Form) (c : ℕ) : Type 0 where
    pub operands : List Carried
    pub given : Operands u g ins v operands
    pub adds : FirstAdds (first form operands) c

  abbrev pub KindAdds : ℕ → List Carried → Vertex → Kind → ℕ → Type 0
  KindAdds g ins v (Plain row shape) c = SimpleAdds g ins v row shape c
  KindAdds g ins v (Whole form) c = WholeAdds g ins v form c

  pub record NodeAdds (g : ℕ) (ins : List Carried) (l c : ℕ) : Type 0 where
    pub node : Vertex
    pub found : at_label (u g).nodes l ≡ Some node
    pub adds : KindAdds g ins node node.kind c

  -- ---- its further items

  pub record EntryAdds (g : ℕ) (ins : List Carried) (t : Bool) (l k c : ℕ) : Type 0 where
    pub form : Form
    pub operands : List Carried
    pub whole : IsWhole u g ins l form operands
    pub graph : ℕ
    pub inputs : List Carried
    pub stage : Stage
    pub comes : Comes u form operands k (Enter t graph inputs stage)
    pub adds : ResultsAdd graph inputs c

  pub record SliceAdds (g : ℕ) (ins : List Carried) (l k r c : ℕ) : Type 0 where
    pub form : Form
    pub operands : List Carried
    pub whole : IsWhole u g ins l form operands
    pub graph : ℕ
    pub row : List Carried
    pub rows : List (List Carried)
    pub multiples : List Carried
    pub comes : Comes u form operands k (Iterate graph row rows multiples)
    pub part : List (List Carried)
    pub at : slice_get (cut (row ∷ rows)) r ≡ Some part
    pub depth : ℕ
    pub adds : RowsAdd u w depth graph part c

  pub record LeaveAdds (g : ℕ) (ins : List Carried) (l c : ℕ) : Type 0 where
    pub form : Form
    pub operands : List Carried
    pub whole : IsWhole u g ins l form operands
    pub step : ℕ
    pub outputs : List Carried
    pub comes : Comes u form operands step (Leaves outputs)
    pub adds : c ≡ w.of_node g whole.node operands outputs

  -- ---- an item inside

  pub record InsideAdds (adds_there : ℕ → List Carried → Type 0) (g : ℕ) (ins : List Carried) (l k : ℕ) : Type 0 where
    pub form : Form
    pub operands : List Carried
    pub whole : IsWhole u g ins l form operands
    pub entry : Item
    pub graph : ℕ
    pub inputs : List Carried
    pub enters : EntersAt u form operands l k entry graph inputs
    pub adds : adds_there graph inputs

  -- an item of this graph on its inputs adds so much
  abbrev pub ItemAdds : ℕ → List Carried → Item → ℕ → Type 0
  ItemAdds g ins (Node l) c = NodeAdds g ins l c
  ItemAdds g ins (Entry t l zero) c = ⊥
  ItemAdds g ins (Entry t l (suc k)) c = EntryAdds g ins t l k c
  ItemAdds g ins (Slice l zero r) c = ⊥
  ItemAdds g ins (Slice l (suc k) r) c = SliceAdds g ins l k r c
  ItemAdds g ins (Leave l) c = LeaveAdds g ins l c
  ItemAdds g ins (Inside l k i) c = InsideAdds (λ h is. ItemAdds h is i c) g ins l k

-- ---- laws

abbrev pub DoItemsAddOnce : Type 0
DoItemsAddOnce = (cut : Cut) (u : Network) (w : Weights) (g : ℕ) (ins : List Carried) (i : Item) (a b : ℕ) → ItemAdds cut u w g ins i a → ItemAdds cut u w g ins i b → a ≡ b

-- of a whole tree each item adds some number
abbrev pub DoItemsAdd : Type 0
DoItemsAdd = (cut : Cut) (u : Network) (w : Weights) (g : ℕ) (ins : List Carried) (n : ℕ) → IsCut cut → AreOrderly u → IsGiven (tree cut n u g ins)
    → (i : Item) (o : Option ℕ)
    → Has (tree cut n u g ins) i o
    → (c : ℕ) × ItemAdds cut u w g ins i c

-- Where a depth gives the whole tree, and each of its items adds what is said, the graph adds their sum and what its results do.
abbrev pub AreSumsOfItems : Type 0
AreSumsOfItems = (cut : Cut) (u : Network) (w : Weights) (g : ℕ) (ins rs : List Carried) (n : ℕ) (adds : Item → ℕ) → IsCut cut → AreOrderly u → IsGiven (tree cut n u g ins)
    → Results u g ins rs
    → ((i : Item) (o : Option ℕ) → Has (tree cut n u g ins) i o → ItemAdds cut u w g ins i (adds i))
    → (d : ℕ) × GraphAdds u w d g ins (w.of_results g rs + total (tree cut n u g ins) (λ i o. adds i))
