-- What the law on ports says.
use Rattle.typed_tree.specs.declared.program.Program.{Program}
use Rattle.if1_graph.specs.declared.graph.Unit1.{Unit1}
use Rattle.if1_graph.specs.Ready.{PortsHold}
use Rattle.lowered_units.specs.Fitting.{IsFitting}
use Rattle.lowered_units.specs.Units.{IsTranslated}
use Rattle.lowered_ready.specs.Rules.{AreRight}
use Rattle.lowered_ready.specs.Sorts.{sort_of}

abbrev pub DoPortsHold : Type 0
DoPortsHold = (p : Program) (u : Unit1) → IsFitting p → IsTranslated p u → AreRight (sort_of p) p → PortsHold u
