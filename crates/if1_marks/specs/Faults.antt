-- What is wrong with marks that are not sound: an ordering list with a label on it, or a taking edge with a reader.
use Rattle.std.specs.Prelude.{◌≡◌, ◌≢◌, ℕ, true, Contains, None}
use Rattle.if1_graph.specs.declared.graph.Edge.{Edge}
use Rattle.if1_graph.specs.declared.graph.Graph.{Graph}
use Rattle.if1_graph.specs.declared.graph.Graph.TheViews.{out-Graph}
use Rattle.if1_graph.specs.declared.graph.Node.{Node, out-Node}
use Rattle.if1_graph.specs.declared.graph.Unit1.{Unit1}
use Rattle.if1_graph.specs.Units.{label_of, node_at, Place}
use Rattle.if1_marks.specs.Owned.{leaving}
use Rattle.if1_marks.specs.Orders.{Precedes, ComesBefore}
use Rattle.if1_marks.specs.Sound.{MayTake, edges_to_its_node}

-- a label on the ordering list of a node is none of the graph, or lies on a cycle with the node
pub data IsWrongOnList (g : Graph) (n : Node) : (label : ℕ) → Type 0 where
  absent : {l : ℕ} → Contains (out-Node n).before l → node_at (out-Graph g).nodes l ≡ None → IsWrongOnList g n l
  itself : Contains (out-Node n).before (label_of n) → IsWrongOnList g n (label_of n)
  behind : {l : ℕ} → Contains (out-Node n).before l → Precedes g (label_of n) l → IsWrongOnList g n l

-- A node, or 0 for the boundary, is to blame that an edge may not take: the taker itself, where the edge is no consuming one from an
-- owned port or where another edge from the port leads to the same node; another taker of the port; another user of the port
-- that does not come before the taker.
pub data IsToBlame (u : Unit1) (p : Place) (e : Edge) : (reader : ℕ) → Type 0 where
  may_not : ¬ MayTake u p e → IsToBlame u p e e.node
  twice : edges_to_its_node p.graph e ≢ 1 → IsToBlame u p e e.node
  takes_too : (f : Edge) → Contains (leaving p.graph e.from) f → f ≢ e → f.takes ≡ true → IsToBlame u p e f.node
  not_before : (f : Edge) → Contains (leaving p.graph e.from) f → f.node ≢ e.node → ¬ ComesBefore p.graph f.node e.node → IsToBlame u p e f.node
