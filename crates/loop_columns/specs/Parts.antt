-- What graphs inside of a compound node do from some depth of calls and turns on, and what the node does by them (IF1 manual M-170,
-- compound nodes); and what the source gives from some depth on.
use Rattle.std.specs.Prelude.{◌≡◌, ℕ, ◌≤◌, List, Some}
use Rattle.meaning.specs.Timed.{Timed}
use Rattle.graph_meaning.specs.Carried.{Carried}
use Rattle.graph_meaning.specs.Forms.{Form, Next, first, next_of}
use Rattle.graph_meaning.specs.Demand.{Network}
use Rattle.graph_meaning.specs.Plain.{CarryAll, NodesFire, Leads, LaterFires}

-- from some depth on
pub record From (A : ℕ → Type 0) : Type 0 where
  pub least : ℕ
  pub holds : (n : ℕ) → least ≤ n → A n

-- on these inputs the graph has these results, and its nodes fire at most so often
pub record GraphGives (u : Network) (g : ℕ) (ins rs : List Carried) (limit : ℕ) : Type 0 where
  pub cost : ℕ
  pub fires : From (λ n. NodesFire u n g ins (u g).nodes cost)
  pub bound : cost ≤ limit
  pub means : From (λ n. CarryAll u n g ins (u g).results rs)

-- a node of this form on these operands has these outputs, and what it enters from here on fires at most so often
pub record Goes (u : Network) (form : Form) (ks : List Carried) (next : Next) (rs : List Carried) (limit : ℕ) : Type 0 where
  pub cost : ℕ
  pub leads : From (λ n. Leads u n form ks next rs)
  pub fires : From (λ n. LaterFires u n form ks next cost)
  pub bound : cost ≤ limit

-- from its beginning; its own firing is not counted
abbrev pub NodeGives : Network → Form → List Carried → List Carried → ℕ → Type 0
NodeGives u form ks rs limit = Goes u form ks (next_of (first form ks)) rs limit

-- the source gives the same at each depth from some on
pub record Yields {A : Type 0} (a : ℕ → Timed A) : Type 0 where
  pub value : A
  pub steps : ℕ
  pub from : From (λ n. a n ≡ Some (value, steps))
