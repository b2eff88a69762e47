use Rattle.std.proofs.Common.{◌≡◌, ◌++◌, drop}
use Rattle.std.specs.List.{flat_map}
use Rattle.unit_drawing.specs.Notes.{note_line}
use Rattle.unit_drawing.proofs.notes.add_notes.Given as goal

abbrev pub invariant-loop-note : goal.invariant-loop-note
invariant-loop-note l = l.text ++ flat_map note_line (drop l.note-index l.notes) ≡ l.initial.text ++ flat_map note_line l.notes
