-- From a marked unit and its text to what is printed of the program.
use Rattle.std.proofs.Common.{◌∙◌, ap, ℕ, Bool, true, false, List, ◌++◌}
use Rattle.typed_tree.specs.declared.program.Program.{Program}
use Rattle.if1_graph.specs.declared.graph.Unit1.{Unit1}
use Rattle.if1_graph.specs.Lines.{if1_text}
use Rattle.mark_units.specs.declared.marked.Marked.{Marked}
use Rattle.unit_drawing.specs.Notes.{note_lines}
use Rattle.compile_call.specs.Calls.{IsMarked, IsTextBy, PrintsBy}

pub prints : (dot why code : Bool) (p : Program) (m : Marked) (text : List ℕ) → IsMarked p m → IsTextBy dot why code m text → PrintsBy dot why code p text
prints true why code p m text is t = record { unit = is.unit; has = is.has }
prints false true code p m text is t =
    record { unit = is.unit; has = is.has; notes = m.notes; are = is.notes; is = t ∙ ap (λ (u : Unit1). if1_text u ++ note_lines m.notes) is.marks }
prints false false true p m text is t = record { unit = is.unit; has = is.has }
prints false false false p m text is t = record { unit = is.unit; has = is.has; is = t ∙ ap if1_text is.marks }
