-- The lines that tell of each edge that may take and doesn't, why it doesn't. Each begins as a comment of an IF1 text.
use Rattle.std.specs.Prelude.{ℕ, List, [], ◌∷◌, ◌++◌, codes, decimal}
use Rattle.std.specs.List.{flat_map}
use Rattle.take_marks.specs.declared.why.Why.{Why}
use Rattle.take_marks.specs.declared.why.Why.TheVariants as why
use Rattle.mark_units.specs.declared.note.Note.{Note}

-- a label behind a blank; 0 is the boundary
abbrev pub step_text : ℕ → List ℕ
step_text label = codes " " ++ decimal label

-- the edge, by its graph, its node and its port
abbrev pub place_text : Note → List ℕ
place_text n = ((codes "C graph " ++ decimal n.graph) ++ (codes " node " ++ decimal n.node)) ++ (codes " port " ++ decimal n.port)

-- The line of an edge. One that is blocked has the labels on the way from its node to the other user of the port.
abbrev pub line_by : Note → Why → List ℕ
line_by n why.Kept = []
line_by n why.Taken = []
line_by n why.Twice = place_text n ++ (codes " twice" ++ 10 ∷ [])
line_by n (why.Blocked path) = (place_text n ++ codes " blocked") ++ (flat_map step_text path ++ 10 ∷ [])

abbrev pub note_line : Note → List ℕ
note_line n = line_by n n.why

abbrev pub note_lines : List Note → List ℕ
note_lines ns = flat_map note_line ns
