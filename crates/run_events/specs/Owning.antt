-- Which inputs of the graphs that a node enters own what the node takes.
use Rattle.std.specs.Prelude.{◌≡◌, ◌≢◌, ℕ, ◌-◌, true, Contains, slice_get, Some}
use Rattle.if1_graph.specs.declared.graph.Edge.{Edge}
use Rattle.if1_graph.specs.declared.graph.Graph.{Graph}
use Rattle.if1_graph.specs.declared.graph.Graph.TheViews.{out-Graph}
use Rattle.if1_graph.specs.declared.graph.Node.{Node, out-Node}
use Rattle.if1_graph.specs.declared.graph.Origin.TheVariants as origin
use Rattle.if1_graph.specs.declared.graph.Unit1.{Unit1}
use Rattle.if1_graph.specs.declared.op.Compound.{Compound}
use Rattle.if1_graph.specs.declared.op.Part.{Part}
use Rattle.if1_graph.specs.declared.op.Part.TheVariants as part
use Rattle.if1_graph.specs.Ops.{compound_at}
use Rattle.if1_graph.specs.Parts.{part_at}
use Rattle.if1_graph.specs.Units.{label_of, node_at, Place, places, Function, Inside}
use Rattle.if1_marks.specs.Given.{is_call, called, is_used_inside}
use Rattle.if1_marks.specs.Owned.{is_owned}
use Rattle.if1_marks.specs.Sound.{IsSound}

-- What a Call takes its function owns. What a compound node takes each of its parts owns that uses it, but for a selector. So an input
-- that is lent and used, other than one of a selector, has what an edge carries that does not take.
pub record AreTakenOwned (u : Unit1) (p : Place) (e : Edge) (n : Node) : Type 0 where
  pub by_function : (f : Graph) (k : ℕ) → is_call n ≡ true → called u p.graph (label_of n) ≡ Some f → is_owned u (record { graph = f; home = Function k }) (origin.Port 0 (e.port - 1)) ≡ true
  pub by_part : (c : Compound) (k : ℕ) (x : Part) (g : Graph) → compound_at (out-Node n).op ≡ Some c → part_at c k ≡ Some x → x ≢ part.Selector
      → slice_get (out-Node n).subs k ≡ Some g
      → is_used_inside g e.port ≡ true
      → is_owned u (record { graph = g; home = Inside p.graph n k }) (origin.Port 0 e.port) ≡ true

abbrev pub AreAllTakenOwned : Type 0
AreAllTakenOwned = (u : Unit1) (p : Place) (e : Edge) (n : Node) → IsSound u → Contains (places u) p → Contains (out-Graph p.graph).edges e → e.takes ≡ true → e.node ≢ 0
    → node_at (out-Graph p.graph).nodes e.node ≡ Some n
    → AreTakenOwned u p e n
