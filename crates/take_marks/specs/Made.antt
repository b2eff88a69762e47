-- The notes on the edges of a graph and the labels before its nodes, and that they are those of the marks made.
use Rattle.std.specs.Prelude.{◌≡◌, ◌≢◌, ℕ, ◌<◌, Bool, true, ◌↔◌, List, [], map, length, slice_index, slice_index_or, slice_get, Some, Contains, AllPairs}
use Rattle.std.specs.List.{list_any}
use Rattle.std.specs.List.Sorted.{IsStrictlyIncreasing}
use Rattle.if1_graph.specs.declared.graph.Edge.{Edge}
use Rattle.if1_graph.specs.declared.graph.Graph.{Graph}
use Rattle.if1_graph.specs.declared.graph.Graph.TheViews.{out-Graph}
use Rattle.if1_graph.specs.Cycles.{Reaches}
use Rattle.if1_graph.specs.Normal.{Precedes}
use Rattle.if1_order.specs.Orders.{node_labels}
use Rattle.marks_made.specs.Made.{Answer, Orders, is_edge, is_order, made, made_orders}
use Rattle.take_marks.specs.declared.why.Why.{Why}
use Rattle.take_marks.specs.Whys.{answer_of, HasWay}

-- the nodes stand by rising label and the edges in order; edges lead from nodes to nodes, and no node reaches itself
pub record IsInShape (g : Graph) : Type 0 where
  pub rising : IsStrictlyIncreasing (node_labels g)
  pub there : (e : Edge) → Contains (out-Graph g).edges e → e.node ≢ 0 → Contains (node_labels g) e.node
  pub sources : (l m : ℕ) → list_any (is_edge l m) (out-Graph g).edges ≡ true → Contains (node_labels g) l
  pub acyclic : (l : ℕ) → ¬ Reaches g l l
  pub arranged : AllPairs Precedes (out-Graph g).edges

-- each node has the labels from which an ordering edge leads to it
pub record AreListed (g : Graph) (os : Orders) (befores : List (List ℕ)) : Type 0 where
  pub fit : length befores ≡ length (node_labels g)
  pub listed : (t l : ℕ) → t < length (node_labels g) → Contains (slice_index_or befores t []) l ↔ (list_any (is_order l (slice_index (node_labels g) t)) os ≡ true)

-- each note has its way
abbrev pub HaveWays : Graph → Orders → List Edge → List Why → Type 0
HaveWays g os es whys = (k : ℕ) (e : Edge) (why : Why) → slice_get es k ≡ Some e → slice_get whys k ≡ Some why → HasWay g os e why

pub record AreMade (g : Graph) (may : Edge → Bool) (whys : List Why) (befores : List (List ℕ)) : Type 0 where
  pub answers : map answer_of whys ≡ map (λ (x : Edge × Answer). x.1) (made g may)
  pub lists : AreListed g (made_orders g may) befores
  pub ways : HaveWays g (made_orders g may) (out-Graph g).edges whys
