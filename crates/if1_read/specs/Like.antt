-- Graphs that differ in nothing but their numbers.
use Rattle.std.specs.Prelude.{◌≡◌, List, [], ◌∷◌}
use Rattle.if1_graph.specs.declared.graph.Graph.{Graph}
use Rattle.if1_graph.specs.declared.graph.Graph.TheViews.{out-Graph}
use Rattle.if1_graph.specs.declared.graph.Node.{Node, out-Node}

-- the same but for the number and the nodes
pub record IsSameGraph (g h : Graph) : Type 0 where
  pub edges_are : (out-Graph h).edges ≡ (out-Graph g).edges
  pub name_is : (out-Graph h).name ≡ (out-Graph g).name
  pub fun_is : (out-Graph h).fun ≡ (out-Graph g).fun
  pub exported_is : (out-Graph h).exported ≡ (out-Graph g).exported

-- the same but for the graphs inside
pub record IsSameNode (n m : Node) : Type 0 where
  pub label_is : (out-Node m).label ≡ (out-Node n).label
  pub op_is : (out-Node m).op ≡ (out-Node n).op
  pub list_is : (out-Node m).assoc ≡ (out-Node n).assoc
  pub before_is : (out-Node m).before ≡ (out-Node n).before
  pub name_is : (out-Node m).name ≡ (out-Node n).name

mutual
  pub data IsLike : Graph → Graph → Type 0 where
    graph : (g h : Graph) → IsSameGraph g h → AreNodesLike (out-Graph g).nodes (out-Graph h).nodes → IsLike g h

  pub data AreNodesLike : List Node → List Node → Type 0 where
    no_node : AreNodesLike [] []
    node : (n m : Node) (ns ms : List Node) → IsSameNode n m → AreLike (out-Node n).subs (out-Node m).subs → AreNodesLike ns ms →
        AreNodesLike (n ∷ ns) (m ∷ ms)

  pub data AreLike : List Graph → List Graph → Type 0 where
    no_graph : AreLike [] []
    more : (g h : Graph) (gs hs : List Graph) → IsLike g h → AreLike gs hs → AreLike (g ∷ gs) (h ∷ hs)
