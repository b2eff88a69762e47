-- Which users of a port come before its taker, told by ranks and weights.
use Rattle.std.specs.Prelude.{◌≡◌, ◌≢◌, ℕ, ◌<◌, ◌≤◌, ◌↔◌, suc, List, length, slice_index, Contains, IsSome}
use Rattle.if1_graph.specs.declared.graph.Edge.{Edge}
use Rattle.if1_graph.specs.declared.graph.Graph.{Graph}
use Rattle.if1_graph.specs.declared.graph.Graph.TheViews.{out-Graph}
use Rattle.if1_graph.specs.declared.graph.Node.{Node, out-Node}
use Rattle.if1_graph.specs.Units.{node_at}
use Rattle.if1_order.specs.Feeders.{IsPlace}
use Rattle.if1_order.specs.Orders.{node_labels, IsLinked}
use Rattle.if1_order.specs.Walks.{Lists, Leads, feeders_of}
use Rattle.if1_marks.specs.Orders.{Precedes, ComesBefore}
use Rattle.mark_check.specs.declared.late.Scratch.{Scratch}

-- nodes by rising label, none of which is the boundary; edges and ordering lists lead from nodes to nodes, and from none to itself
pub record IsInOrder (g : Graph) : Type 0 where
  pub linked : IsLinked g
  pub inner : ¬ Contains (node_labels g) 0
  pub there : (e : Edge) → Contains (out-Graph g).edges e → e.node ≢ 0 → Contains (node_labels g) e.node
  pub named : (n : Node) (l : ℕ) → Contains (out-Graph g).nodes n → Contains (out-Node n).before l → IsSome (node_at (out-Graph g).nodes l)
  pub acyclic : (l : ℕ) → ¬ Precedes g l l

-- each of these nodes has this rank or a higher one
abbrev pub IsLow : List ℕ → List ℕ → List ℕ → ℕ → Type 0
IsLow labels ranks users first = (l x : ℕ) → Contains users l → IsPlace labels x l → first ≤ slice_index ranks x

-- the places of these ranks weigh 1
pub record AreCleared (order : List ℕ) (first end : ℕ) (old new : List ℕ) : Type 0 where
  pub fit : length new ≡ length old
  pub clear : (k : ℕ) → first ≤ k → k < end → slice_index new (slice_index order k) ≡ 1

-- of the places of ranks from the first on and before the taker's, those that lead to the taker weigh nothing
pub record AreTold (lists : Lists) (ranks : List ℕ) (first taker : ℕ) (weights : List ℕ) : Type 0 where
  pub fit : length weights ≡ length lists
  pub told : (x : ℕ) → x < length lists → first ≤ slice_index ranks x → slice_index ranks x < slice_index ranks taker → (slice_index weights x ≡ 0) ↔ Leads lists x taker

-- a place that bears a stamp feeds the place whose stamp it is
abbrev pub AreStamps : Lists → List ℕ → Type 0
AreStamps lists stamps = (x t : ℕ) → slice_index stamps x ≡ suc t → Contains (feeders_of lists t) x

-- weights and stamps of places, which are kept from one taker to the next
pub record IsScratch (lists : Lists) (s : Scratch) : Type 0 where
  pub weights : length s.weights ≡ length lists
  pub stamps : length s.stamps ≡ length lists
  pub right : AreStamps lists s.stamps

-- each user but this node is a node that bears the stamp
abbrev pub AreStamped : List ℕ → List ℕ → List ℕ → ℕ → ℕ → Type 0
AreStamped labels stamps users node stamp = (l : ℕ) → Contains users l → l ≢ node → (x : ℕ) × IsPlace labels x l × (slice_index stamps x ≡ stamp)

-- a node with a rank before that of the taker that weighs nothing
abbrev pub IsEarly : List ℕ → List ℕ → List ℕ → ℕ → ℕ → Type 0
IsEarly labels ranks weights taker l = (x : ℕ) × IsPlace labels x l × (slice_index ranks x < slice_index ranks taker) × (slice_index weights x ≡ 0)

-- another user than the taker's node that is not early
abbrev pub IsLate : List ℕ → List ℕ → List ℕ → ℕ → ℕ → ℕ → Type 0
IsLate labels ranks weights taker node l = (l ≢ node) × ¬ IsEarly labels ranks weights taker l

-- another user than this node that does not come before it
abbrev pub IsAfter : Graph → ℕ → ℕ → Type 0
IsAfter g node l = (l ≢ node) × ¬ ComesBefore g l node
