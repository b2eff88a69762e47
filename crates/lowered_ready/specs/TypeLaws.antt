-- What the law says.
use Rattle.typed_tree.specs.declared.program.Program.{Program}
use Rattle.if1_graph.specs.declared.graph.Unit1.{Unit1}
use Rattle.if1_graph.specs.Ready.{TypesHold}
use Rattle.lowered_units.specs.Fitting.{IsFitting}
use Rattle.lowered_units.specs.Units.{IsTranslated}
use Rattle.lowered_ready.specs.Sorts.{sort_of}
use Rattle.lowered_ready.specs.Rules.{AreRight}

abbrev pub HaveTypedUnits : Type 0
HaveTypedUnits = (p : Program) (u : Unit1) → IsFitting p → IsTranslated p u → AreRight (sort_of p) p → TypesHold u
