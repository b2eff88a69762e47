-- What units give for the marks of their graphs.
use Rattle.std.specs.Prelude.{Contains}
use Rattle.if1_graph.specs.declared.graph.Unit1.{Unit1}
use Rattle.if1_graph.specs.Normal.{IsNormal}
use Rattle.if1_graph.specs.Ready.{IsReady}
use Rattle.if1_graph.specs.Units.{Place, places}
use Rattle.marks_made.specs.Units.{is_candidate}
use Rattle.marks_made.specs.Laws.{IsMarkable}
use Rattle.take_marks.specs.Made.{IsInShape}

-- each graph of a ready unit in normal order is in shape, and the test of its candidates is one that marks ask for
abbrev pub AreGraphsMarkable : Type 0
AreGraphsMarkable = (u : Unit1) → IsReady u → IsNormal u → (p : Place) → Contains (places u) p → IsInShape p.graph × IsMarkable p.graph (is_candidate u p)
