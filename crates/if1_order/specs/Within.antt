-- The places inside a graph, one inside another, without a count of levels.
use Rattle.std.specs.Prelude.{◌≡◌, ℕ, Some, Contains, slice_get}
use Rattle.if1_graph.specs.declared.graph.Graph.{Graph}
use Rattle.if1_graph.specs.declared.graph.Graph.TheViews.{out-Graph}
use Rattle.if1_graph.specs.declared.graph.Node.{Node, out-Node}
use Rattle.if1_graph.specs.Units.{Home, Inside, Place}

-- a place inside a graph that stands at this home: the graph's own, or one inside a graph of one of its nodes
pub data IsWithin : Home → Graph → Place → Type 0 where
  itself : {home : Home} {g : Graph} → IsWithin home g (record { graph = g; home = home })
  inside : {home : Home} {g s : Graph} {p : Place} (n : Node) (k : ℕ) → Contains (out-Graph g).nodes n →
      slice_get (out-Node n).subs k ≡ Some s → IsWithin (Inside g n k) s p → IsWithin home g p

-- the graph itself, or one inside it
pub data IsPart : Graph → Graph → Type 0 where
  whole : {g : Graph} → IsPart g g
  deeper : {g s h : Graph} (n : Node) → Contains (out-Graph g).nodes n → Contains (out-Node n).subs s → IsPart s h → IsPart g h
