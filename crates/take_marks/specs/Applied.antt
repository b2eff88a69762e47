-- Edges and nodes with the marks that are made.
use Rattle.std.specs.Prelude.{◌≡◌, ℕ, ◌<◌, ◌≤◌, List, [], length, slice_index_or, slice_set, Contains, ◌↔◌}
use Rattle.std.specs.List.Sorted.{IsStrictlyIncreasing}
use Rattle.if1_graph.specs.declared.graph.Edge.{Edge}
use Rattle.if1_graph.specs.declared.graph.Node.{Node, roll-Node, out-Node}
use Rattle.if1_graph.specs.Units.{label_of}
use Rattle.marks_made.specs.Made.{is_taken}
use Rattle.take_marks.specs.declared.why.Why.{Why}
use Rattle.take_marks.specs.Whys.{answer_of}

abbrev pub taken_as : Edge → Why → Edge
taken_as e w = record e { takes = is_taken (answer_of w) }

-- the first n edges take by their notes, the others are as they were
pub record AreTaken (old : List Edge) (whys : List Why) (n : ℕ) (now : List Edge) : Type 0 where
  pub fit : length now ≡ length old
  pub done : (k : ℕ) (d : Edge) (w : Why) → k < n → k < length old → slice_index_or now k d ≡ taken_as (slice_index_or old k d) (slice_index_or whys k w)
  pub rest : (k : ℕ) (d : Edge) → n ≤ k → slice_index_or now k d ≡ slice_index_or old k d

abbrev pub with_before : Node → List ℕ → Node
with_before n ls =
    roll-Node (record {
      label = label_of n;
      op = (out-Node n).op;
      subs = (out-Node n).subs;
      assoc = (out-Node n).assoc;
      before = ls;
      name = (out-Node n).name;
    })

-- the members of a list, each once, rising
pub record AreOnce (ls rising : List ℕ) : Type 0 where
  pub up : IsStrictlyIncreasing rising
  pub same : (l : ℕ) → Contains rising l ↔ Contains ls l

-- the nodes from the n-th on have the labels of their lists, the others are as they were
pub record AreNodesListed (old : List Node) (lists : List (List ℕ)) (n : ℕ) (now : List Node) : Type 0 where
  pub fit : length now ≡ length old
  pub done : (k : ℕ) → n ≤ k → k < length old → (ls : List ℕ) × AreOnce (slice_index_or lists k []) ls × ((d : Node) → slice_index_or now k d ≡ with_before (slice_index_or old k d) ls)
  pub rest : (k : ℕ) (d : Node) → k < n → slice_index_or now k d ≡ slice_index_or old k d

-- one node has the labels of a list
abbrev pub IsListedAt : List Node → ℕ → List ℕ → List Node → Type 0
IsListedAt old n list new = (ls : List ℕ) × AreOnce list ls × ((d : Node) → new ≡ slice_set old n (with_before (slice_index_or old n d) ls))
