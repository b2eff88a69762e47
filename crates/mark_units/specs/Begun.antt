-- A graph whose edges take, before the marks of the graphs inside it.
use Rattle.std.specs.Prelude.{◌≡◌, ℕ, ◌+◌, Bool, List, ◌++◌, map, length}
use Rattle.if1_graph.specs.declared.graph.Edge.{Edge}
use Rattle.if1_graph.specs.declared.graph.Graph.{Graph}
use Rattle.if1_graph.specs.declared.graph.Graph.TheViews.{out-Graph, roll-Graph}
use Rattle.marks_made.specs.Laws.{IsMarkable}
use Rattle.take_marks.specs.declared.why.Why.{Why}
use Rattle.take_marks.specs.Applied.{AreTaken}
use Rattle.take_marks.specs.Made.{AreMade}
use Rattle.mark_units.specs.declared.begin.Begun.{Begun}
use Rattle.mark_units.specs.declared.begin.Pass.{Pass}
use Rattle.mark_units.specs.Notes.{noted}

pub record HasTaken (g : Graph) (whys : List Why) (befores : List (List ℕ)) (r : Begun) : Type 0 where
  pub edges : List Edge
  pub taken : AreTaken (out-Graph g).edges whys (length (out-Graph g).edges) edges
  pub graph : r.graph ≡ roll-Graph (record { number = (out-Graph g).number; exported = (out-Graph g).exported; name = (out-Graph g).name; fun = (out-Graph g).fun; nodes = (out-Graph g).nodes; edges = edges })
  pub befores_are : r.befores.items ≡ befores

pub record HasBegun (g : Graph) (flags : List Bool) (old new : Pass) (r : Begun) : Type 0 where
  pub whys : List Why
  pub taken : HasTaken g whys r.befores.items r
  pub fit : length r.befores.items ≡ length (out-Graph g).nodes
  pub made : (may : Edge → Bool) → IsMarkable g may → flags ≡ map may (out-Graph g).edges → AreMade g may whys r.befores.items
  pub notes : new.notes ≡ old.notes ++ noted (out-Graph g).number (out-Graph g).edges whys
  pub at : new.at ≡ old.at + 1
