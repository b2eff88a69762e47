-- What is right in a graph and in all graphs inside it, but for their numbers.
use Rattle.std.specs.Prelude.{◌≡◌, ℕ, suc, ◌≤◌, false, List, [], ◌∷◌, map, length, All, AllPairs, Contains}
use Rattle.std.specs.List.Sorted.{IsStrictlyIncreasing}
use Rattle.if1_graph.specs.Spelling.{IsName}
use Rattle.if1_graph.specs.declared.graph.Graph.{Graph}
use Rattle.if1_graph.specs.declared.graph.Graph.TheViews.{out-Graph}
use Rattle.if1_graph.specs.declared.graph.Node.{Node, out-Node}
use Rattle.if1_graph.specs.declared.graph.Unit1.{Unit1}
use Rattle.if1_graph.specs.Units.{label_of}
use Rattle.if1_graph.specs.Formed.{most, IsNode, IsEdge}
use Rattle.if1_graph.specs.Normal.{Precedes, canonical_edge}

pub record IsNodeFine (n : Node) : Type 0 where
  pub node : IsNode n
  pub before : IsStrictlyIncreasing (out-Node n).before

-- the graph itself
pub record IsFine (u : Unit1) (g : Graph) : Type 0 where
  pub nodes : All IsNodeFine (out-Graph g).nodes
  pub rising : IsStrictlyIncreasing (map label_of (out-Graph g).nodes)
  pub few : length (out-Graph g).nodes ≤ most
  pub edges : All (IsEdge u g) (out-Graph g).edges
  pub order : AllPairs Precedes (out-Graph g).edges
  pub literals : All (λ e. canonical_edge u g e ≡ e) (out-Graph g).edges

-- a part of a node has no type and is not exported
pub record IsPartHeader (g : Graph) : Type 0 where
  pub fun : (out-Graph g).fun ≡ 0
  pub inner : (out-Graph g).exported ≡ false
  pub name : IsName (out-Graph g).name

module _ (u : Unit1) where
  mutual
    -- it, and those inside it, which are at most so many levels deeper
    pub data IsFineWithin : ℕ → Graph → Type 0 where
      graph : (m : ℕ) (g : Graph) → IsFine u g → ((n : Node) → Contains (out-Graph g).nodes n → AreFineWithin m (out-Node n).subs) → IsFineWithin m g

    pub data AreFineWithin : ℕ → List Graph → Type 0 where
      no_part : (m : ℕ) → AreFineWithin m []
      part : (m : ℕ) (g : Graph) (gs : List Graph) → IsPartHeader g → IsFineWithin m g → AreFineWithin (suc m) gs → AreFineWithin (suc m) (g ∷ gs)
