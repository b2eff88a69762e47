-- What the law says.
use Rattle.std.specs.Prelude.{◌≡◌, None}
use Rattle.typed_tree.specs.declared.program.Program.{Program}
use Rattle.if1_graph.specs.declared.graph.Unit1.{Unit1}
use Rattle.if1_graph.specs.Ready.{IsReady}
use Rattle.lowering.specs.TooMany.{too_many}
use Rattle.lowering_meaning.specs.Coverage.{AreCovered}
use Rattle.lowered_units.specs.Fitting.{IsFitting}
use Rattle.lowered_units.specs.Units.{IsTranslated}
use Rattle.lowered_ready.specs.RuleLaws.{rule_forms}

-- the unit of a program within the limits is ready
abbrev pub AreReady : Type 0
AreReady = (p : Program) (u : Unit1) → IsFitting p → AreCovered rule_forms p.functions → too_many p ≡ None → IsTranslated p u → IsReady u
