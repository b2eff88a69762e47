-- The graphs that a node enters stand in the unit, where the node's graph does.
use Rattle.std.specs.Prelude.{◌≡◌, ℕ, Contains, slice_get, Some}
use Rattle.if1_graph.specs.declared.graph.Graph.{Graph}
use Rattle.if1_graph.specs.declared.graph.Graph.TheViews.{out-Graph}
use Rattle.if1_graph.specs.declared.graph.Node.{Node, out-Node}
use Rattle.if1_graph.specs.declared.graph.Unit1.{Unit1}
use Rattle.if1_graph.specs.Formed.{IsFormed}
use Rattle.if1_graph.specs.Units.{Place, places, Function, Inside}

pub record AreGraphsPlaced (u : Unit1) : Type 0 where
  pub part : (p : Place) (n : Node) (k : ℕ) (g : Graph) → Contains (places u) p → Contains (out-Graph p.graph).nodes n → slice_get (out-Node n).subs k ≡ Some g → Contains (places u) (record { graph = g; home = Inside p.graph n k })
  pub function : (k : ℕ) (g : Graph) → slice_get u.graphs k ≡ Some g → Contains (places u) (record { graph = g; home = Function k })

abbrev pub AreAllGraphsPlaced : Type 0
AreAllGraphsPlaced = (u : Unit1) → IsFormed u → AreGraphsPlaced u
