-- What is noted of the edges of a unit that may take.
use Rattle.std.specs.Prelude.{◌≡◌, ℕ, Bool, true, false, List, [], ◌∷◌, ◌++◌, map, if◌then◌else◌}
use Rattle.if1_graph.specs.declared.graph.Edge.{Edge}
use Rattle.if1_graph.specs.declared.graph.Graph.TheViews.{out-Graph}
use Rattle.if1_graph.specs.declared.graph.Unit1.{Unit1}
use Rattle.if1_graph.specs.Units.{Place, number_of}
use Rattle.marks_made.specs.Made.{Answer, made_orders}
use Rattle.marks_made.specs.Units.{is_candidate, answers_at}
use Rattle.take_marks.specs.declared.why.Why.{Why}
use Rattle.take_marks.specs.declared.why.Why.TheVariants as why
use Rattle.take_marks.specs.Whys.{answer_of}
use Rattle.take_marks.specs.Made.{HaveWays}
use Rattle.mark_units.specs.declared.note.Note.{Note}

abbrev pub is_kept : Why → Bool
is_kept why.Kept = true
is_kept _ = false

-- an edge that may not take has no note
abbrev pub one_note : ℕ → Edge → Why → List Note
one_note number e w = if is_kept w then [] else record { graph = number; node = e.node; port = e.port; why = w } ∷ []

abbrev pub noted : ℕ → List Edge → List Why → List Note
noted number [] ws = []
noted number (e ∷ es) [] = []
noted number (e ∷ es) (w ∷ ws) = one_note number e w ++ noted number es ws

-- one note for each edge of the graph that may take, with the answer of the marks made, and the way that a blocked one goes
pub record AreNotesOf (u : Unit1) (p : Place) (notes : List Note) : Type 0 where
  pub whys : List Why
  pub answers : map answer_of whys ≡ map (λ (x : Edge × Answer). x.1) (answers_at u p)
  pub ways : HaveWays p.graph (made_orders p.graph (is_candidate u p)) (out-Graph p.graph).edges whys
  pub are : notes ≡ noted (number_of p) (out-Graph p.graph).edges whys

-- the notes of the graphs at these places, one after another
pub data AreNotes (u : Unit1) : List Place → List Note → Type 0 where
  none : AreNotes u [] []
  more : {p : Place} {ps : List Place} {ns ms : List Note} → AreNotesOf u p ns → AreNotes u ps ms → AreNotes u (p ∷ ps) (ns ++ ms)
