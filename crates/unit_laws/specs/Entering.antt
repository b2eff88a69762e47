-- Which graphs a run enters, with which inputs: step by step, and from graph to graph.
use Rattle.std.specs.Prelude.{◌≡◌, ℕ, suc, Bool, List, ◌∷◌, Some, Contains}
use Rattle.graph_meaning.specs.Carried.{Carried}
use Rattle.graph_meaning.specs.Forms.{Form, Next, Stage, Enter, Iterate, next_of, first, follow, gather}
use Rattle.graph_meaning.specs.Demand.{Vertex, Whole, Network, at_label}
use Rattle.graph_meaning.specs.Plain.{CarryAll, MeanAll}

-- What a node of this form on these operands does at some time: what it does first, and what follows the results of a graph or of
-- iterations that it entered.
pub data Does (u : Network) (n : ℕ) (form : Form) (ks : List Carried) : Next → Type 0 where
  at_first : Does u n form ks (next_of (first form ks))
  after_graph : {turn : Bool} {g : ℕ} {ins : List Carried} {stage : Stage} (rs : List Carried) → Does u n form ks (Enter turn g ins stage) → CarryAll u n g ins (u g).results rs → Does u n form ks (follow form ks stage rs)
  after_rows : {g : ℕ} {row : List Carried} {rows : List (List Carried)} {ms : List Carried} (lists : List (List Carried)) → Does u n form ks (Iterate g row rows ms) → MeanAll u n g (row ∷ rows) lists → Does u n form ks (gather form ks ms lists)

-- A run of a graph on its inputs enters a graph on inputs: itself, or what a node of an entered graph enters, once or in each
-- iteration.
pub data IsEnteredFrom (u : Network) (n : ℕ) (g : ℕ) (ins : List Carried) : ℕ → List Carried → Type 0 where
  itself : IsEnteredFrom u n g ins g ins
  by_node : {k : ℕ} {others : List Carried} (l : ℕ) (v : Vertex) (form : Form) (ks : List Carried) (turn : Bool) (h : ℕ) (given : List Carried) (stage : Stage)
      → IsEnteredFrom u n g ins k others → at_label (u k).nodes (suc l) ≡ Some v → v.kind ≡ Whole form → CarryAll u n k others v.ins ks → Does u n form ks (Enter turn h given stage) → IsEnteredFrom u n g ins h given
  by_row : {k : ℕ} {others : List Carried} (l : ℕ) (v : Vertex) (form : Form) (ks : List Carried) (h : ℕ) (row : List Carried) (rows : List (List Carried)) (ms given : List Carried)
      → IsEnteredFrom u n g ins k others → at_label (u k).nodes (suc l) ≡ Some v → v.kind ≡ Whole form → CarryAll u n k others v.ins ks → Does u n form ks (Iterate h row rows ms) → Contains (row ∷ rows) given → IsEnteredFrom u n g ins h given
