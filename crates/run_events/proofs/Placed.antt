-- The graphs that a node enters stand in the unit.
use Rattle.std.proofs.Common.{◌≡◌, ℕ, Contains, slice_get, Some}
use Rattle.if1_graph.specs.declared.graph.Graph.{Graph}
use Rattle.if1_graph.specs.declared.graph.Graph.TheViews.{out-Graph}
use Rattle.if1_graph.specs.declared.graph.Node.{Node, out-Node}
use Rattle.if1_graph.specs.Units.{Home, Function, Inside, Place}
use Rattle.if1_order.specs.Within.{IsWithin, itself, inside}
use Rattle.if1_order.proofs.Within.{within_from_unit, unit_from_within}
use Rattle.run_events.specs.Placed.{AreAllGraphsPlaced}

-- a part of a graph that lies within another one lies within it
further : (home : Home) (g : Graph) (p : Place) → IsWithin home g p → (n : Node) (k : ℕ) (s : Graph) → Contains (out-Graph p.graph).nodes n → slice_get (out-Node n).subs k ≡ Some s → IsWithin home g (record { graph = s; home = Inside p.graph n k })
further _ _ _ itself n k s c e = inside n k c e itself
further _ _ p (inside {g = g} {s = t} m j there at w) n k s c e = inside m j there at (further (Inside g m j) t p w n k s c e)

pub graphs-placed : AreAllGraphsPlaced
graphs-placed u formed =
    record {
      part = λ p n k g there c e.
          let w = within_from_unit u p there in
          unit_from_within u w.0 w.1 (record { graph = g; home = Inside p.graph n k }) formed.nesting w.2 (further (Function w.0) w.1 p w.3 n k g c e);
      function = λ k g e. unit_from_within u k g (record { graph = g; home = Function k }) formed.nesting e itself;
    }
