-- Graphs that are numbered from a number on, in the order in which they stand.
use Rattle.std.specs.Prelude.{◌≡◌, ℕ, suc, ◌+◌, sum, List, [], ◌∷◌}
use Rattle.if1_graph.specs.declared.graph.Graph.{Graph}
use Rattle.if1_graph.specs.declared.graph.Graph.TheViews.{out-Graph}
use Rattle.if1_graph.specs.declared.graph.Node.{Node, out-Node}
use Rattle.if1_graph.specs.declared.graph.Graph.TheFolds.{fold-Node}
use Rattle.if1_graph.specs.Units.{size, sizes}

-- how many graphs stand in a node
abbrev pub node_size : Node → ℕ
node_size = fold-Node ℕ ℕ (λ g. suc (sum g.nodes)) (λ n. sum n.subs)

mutual
  -- those inside it, after its own number
  pub data IsCounted : Graph → Type 0 where
    graph : (g : Graph) → AreNodesCounted (suc (out-Graph g).number) (out-Graph g).nodes → IsCounted g

  pub data AreNodesCounted : ℕ → List Node → Type 0 where
    no_node : (next : ℕ) → AreNodesCounted next []
    node : (next : ℕ) (n : Node) (ns : List Node) → AreCounted next (out-Node n).subs → AreNodesCounted (next + sizes (out-Node n).subs) ns →
        AreNodesCounted next (n ∷ ns)

  pub data AreCounted : ℕ → List Graph → Type 0 where
    no_graph : (next : ℕ) → AreCounted next []
    more : (next : ℕ) (g : Graph) (gs : List Graph) → (out-Graph g).number ≡ next → IsCounted g → AreCounted (next + size g) gs → AreCounted next (g ∷ gs)
