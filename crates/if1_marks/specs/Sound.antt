-- Marks that are sound: what an edge takes is owned and consumed, and all other users of it are done before.
use Rattle.std.specs.Prelude.{◌≡◌, ℕ, true, not, length, filter, All, ◌==◌}
use Rattle.if1_graph.specs.declared.graph.Edge.{Edge}
use Rattle.if1_graph.specs.declared.graph.Graph.{Graph}
use Rattle.if1_graph.specs.declared.graph.Graph.TheViews.{out-Graph}
use Rattle.if1_graph.specs.declared.graph.Unit1.{Unit1}
use Rattle.if1_graph.specs.Units.{Place, places}
use Rattle.if1_marks.specs.Given.{is_consuming}
use Rattle.if1_marks.specs.Owned.{leaving, is_owned}
use Rattle.if1_marks.specs.Orders.{ComesBefore, IsOrderRight}

-- the edge may take: it is a consuming edge from an owned port
abbrev pub MayTake : Unit1 → Place → Edge → Type 0
MayTake u p e = (is_consuming u p.graph e ≡ true) × (is_owned u p e.from ≡ true)

-- how many edges from the port of this one lead to the same node, and how many of them take
abbrev pub edges_to_its_node : Graph → Edge → ℕ
edges_to_its_node g e = length (filter (λ f. f.node == e.node) (leaving g e.from))

abbrev pub takers_of_its_port : Graph → Edge → ℕ
takers_of_its_port g e = length (filter (λ f. f.takes) (leaving g e.from))

-- A taking edge, where no other edge from its port leads to the same node, none takes, and every other user of the port comes
-- before the taker.
pub record IsTakerRight (u : Unit1) (p : Place) (e : Edge) : Type 0 where
  pub may : MayTake u p e
  pub once : edges_to_its_node p.graph e ≡ 1
  pub alone : takers_of_its_port p.graph e ≡ 1
  pub last : All (λ f. ComesBefore p.graph f.node e.node) (filter (λ f. not (f.node == e.node)) (leaving p.graph e.from))

pub record AreMarksRight (u : Unit1) (p : Place) : Type 0 where
  pub takers : All (λ e. e.takes ≡ true → IsTakerRight u p e) (out-Graph p.graph).edges
  pub order : IsOrderRight p

-- the marks of the unit are sound
abbrev pub IsSound : Unit1 → Type 0
IsSound u = All (AreMarksRight u) (places u)
