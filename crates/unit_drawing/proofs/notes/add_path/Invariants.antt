use Rattle.std.proofs.Common.{◌≡◌, ◌++◌, drop}
use Rattle.std.specs.List.{flat_map}
use Rattle.unit_drawing.specs.Notes.{step_text}
use Rattle.unit_drawing.proofs.notes.add_path.Given as goal

abbrev pub invariant-loop-label : goal.invariant-loop-label
invariant-loop-label l = l.text ++ flat_map step_text (drop l.label-index l.labels) ≡ l.initial.text ++ flat_map step_text l.labels
