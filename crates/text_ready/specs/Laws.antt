-- What the laws say.
use Rattle.std.specs.Prelude.{◌≡◌, ◌≤◌, ℕ, List, None}
use Rattle.if1_graph.specs.declared.graph.Unit1.{Unit1}
use Rattle.if1_graph.specs.Ready.{IsReady}
use Rattle.type_table.specs.Tables.{IsTable}
use Rattle.sisal_tree.specs.declared.unit.Unit as tree
use Rattle.sisal_tree.specs.Depth.{depth_of}
use Rattle.typed_tree.specs.declared.program.Program.{Program}
use Rattle.fitting_texts.specs.Laws.{IsTypedText}
use Rattle.lowering.specs.TooMany.{too_many}
use Rattle.lowered_ready.specs.Units.{IsTranslated}
use Rattle.lowering_meaning.specs.Coverage.{AreCovered}
use Rattle.lowered_ready.specs.RuleLaws.{rule_forms}

abbrev pub AreTextsCovered : Type 0
AreTextsCovered = (bytes : List ℕ) (u : tree.Unit) (p : Program) → IsTypedText bytes u p → AreCovered rule_forms p.functions

abbrev pub AreTextsReady : Type 0
AreTextsReady = (bytes : List ℕ) (u : tree.Unit) (p : Program) (v : Unit1) → IsTypedText bytes u p → depth_of u.items ≤ 200 → IsTable p.types → too_many p ≡ None → IsTranslated p v → IsReady v
