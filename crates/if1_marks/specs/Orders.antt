-- Which nodes of a graph come before which, by its edges and ordering lists.
use Rattle.std.specs.Prelude.{◌≡◌, ◌≢◌, ℕ, false, [], Some, IsSome, All, Contains}
use Rattle.if1_graph.specs.declared.graph.Graph.{Graph}
use Rattle.if1_graph.specs.declared.graph.Graph.TheViews.{out-Graph}
use Rattle.if1_graph.specs.declared.graph.Node.{Node, out-Node}
use Rattle.if1_graph.specs.declared.graph.Unit1.{Unit1}
use Rattle.if1_graph.specs.Cycles.{Feeds}
use Rattle.if1_graph.specs.Units.{node_at, Place, places}

-- an edge or an ordering list leads from the first node to the second, or several of them do
pub data Precedes (g : Graph) : ℕ → ℕ → Type 0 where
  fed : {l m : ℕ} → Feeds g l m → Precedes g l m
  listed : {l m : ℕ} (n : Node) → node_at (out-Graph g).nodes m ≡ Some n → Contains (out-Node n).before l → Precedes g l m
  between : {l m n : ℕ} → Precedes g l m → Precedes g m n → Precedes g l n

-- so the first comes before the second; the boundary comes after every node and before none
pub data ComesBefore (g : Graph) : ℕ → ℕ → Type 0 where
  led : {l m : ℕ} → Precedes g l m → ComesBefore g l m
  at_the_end : {l : ℕ} → l ≢ 0 → ComesBefore g l 0

-- ordering lists name nodes of their own graph, and edges and ordering lists together lead from no node to itself
pub record IsOrderRight (p : Place) : Type 0 where
  pub named : (n : Node) (l : ℕ) → Contains (out-Graph p.graph).nodes n → Contains (out-Node n).before l → IsSome (node_at (out-Graph p.graph).nodes l)
  pub acyclic : (l : ℕ) → ¬ Precedes p.graph l l

abbrev pub AreOrdersRight : Unit1 → Type 0
AreOrdersRight u = All IsOrderRight (places u)

-- no node has an ordering list
abbrev pub HasNoLists : Unit1 → Type 0
HasNoLists u = All (λ p. All (λ n. (out-Node n).before ≡ []) (out-Graph p.graph).nodes) (places u)

-- no edge takes
abbrev pub HasNoTakers : Unit1 → Type 0
HasNoTakers u = All (λ p. All (λ e. e.takes ≡ false) (out-Graph p.graph).edges) (places u)
