-- A unit with the marks that are made.
use Rattle.if1_graph.specs.declared.graph.Unit1.{Unit1}
use Rattle.if1_graph.specs.Normal.{IsNormal}
use Rattle.if1_graph.specs.Ready.{IsReady}
use Rattle.marks_made.specs.Units.{marks_of}

abbrev pub AreMarksReady : Type 0
AreMarksReady = (u : Unit1) → IsReady u → IsNormal u → IsReady (marks_of u) × IsNormal (marks_of u)
