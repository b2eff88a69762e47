-- Orders of the nodes of a graph along its data edges.
use Rattle.std.specs.Prelude.{◌≡◌, ℕ, ◌<◌, ◌↔◌, List, map, length, take, slice_index, All, Contains}
use Rattle.std.specs.List.Sorted.{IsStrictlyIncreasing}
use Rattle.if1_graph.specs.declared.graph.Graph.{Graph}
use Rattle.if1_graph.specs.declared.graph.Graph.TheViews.{out-Graph}
use Rattle.if1_graph.specs.declared.graph.Unit1.{Unit1}
use Rattle.if1_graph.specs.Units.{label_of, ends, places}
use Rattle.if1_graph.specs.Formed.{IsOnce}
use Rattle.if1_graph.specs.Cycles.{Feeds, Reaches}
use Rattle.if1_order.specs.declared.arranged.NodeOrder.{NodeOrder}
use Rattle.if1_order.specs.declared.arranged.NodeOrder.TheVariants.{Nodes, Circle}

abbrev pub node_labels : Graph → List ℕ
node_labels g = map label_of (out-Graph g).nodes

-- the nodes stand by rising label, and each edge between nodes leads from one that is there into one that is there
pub record IsLinked (g : Graph) : Type 0 where
  pub rising : IsStrictlyIncreasing (node_labels g)
  pub linked : (l m : ℕ) → Feeds g l m → Contains (node_labels g) l × Contains (node_labels g) m

-- each node once, after all nodes from which an edge leads to it
pub record IsOrder (g : Graph) (ls : List ℕ) : Type 0 where
  pub once : IsOnce ls
  pub these : (l : ℕ) → Contains ls l ↔ Contains (node_labels g) l
  pub after : (k m : ℕ) → k < length ls → Feeds g m (slice_index ls k) → Contains (take k ls) m

-- no node reaches itself
abbrev pub HasNoCircle : Graph → Type 0
HasNoCircle g = (l : ℕ) → ¬ Reaches g l l

-- an order, where no node reaches itself, or a node that does
abbrev pub Orders : Graph → NodeOrder → Type 0
Orders g (Nodes ls) = IsOrder g ls × HasNoCircle g
Orders g (Circle l) = Contains (node_labels g) l × Reaches g l l

-- a node that reaches itself in a graph of this number
abbrev pub IsCircle : Graph → ℕ × ℕ → Type 0
IsCircle g at = ((out-Graph g).number ≡ at.0) × Contains (ends g) at.1 × Reaches g at.1 at.1

abbrev pub AreLinked : Unit1 → Type 0
AreLinked u = All (λ p. IsLinked p.graph) (places u)
