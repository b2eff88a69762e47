-- What a program is compiled to, and why it is not.
use Rattle.std.specs.Prelude.{◌≡◌, ℕ, Bool, true, false, List, ◌++◌, None, Some}
use Rattle.run_words.specs.declared.command.CompileSet.{CompileSet}
use Rattle.typed_tree.specs.declared.program.Program.{Program}
use Rattle.if1_graph.specs.declared.graph.Unit1.{Unit1}
use Rattle.if1_graph.specs.Lines.{if1_text}
use Rattle.if1_graph.specs.Normal.{IsNormal}
use Rattle.if1_graph.specs.Ready.{IsReady}
use Rattle.if1_graph.specs.Units.{places}
use Rattle.if1_marks.specs.Sound.{IsSound}
use Rattle.marks_made.specs.Units.{marks_of}
use Rattle.mark_units.specs.declared.marked.Marked.{Marked}
use Rattle.mark_units.specs.declared.note.Note.{Note}
use Rattle.mark_units.specs.Notes.{AreNotes}
use Rattle.lowering.specs.TooMany.{too_many}
use Rattle.lowered_units.specs.Units.{IsTranslated}
use Rattle.translate.specs.declared.program.TranslateFault.{TranslateFault}
use Rattle.translate.specs.declared.program.TranslateFault.TheVariants as fault
use Rattle.unit_drawing.specs.Notes.{note_lines}

-- The program is within the limits, and this is the unit of its graphs. With the marks that are made it is ready and in normal
-- order, and the marks are sound.
pub record HasUnit (p : Program) (u : Unit1) : Type 0 where
  pub within : too_many p ≡ None
  pub translated : IsTranslated p u
  pub ready : IsReady (marks_of u)
  pub normal : IsNormal (marks_of u)
  pub sound : IsSound (marks_of u)

-- the canonical text of the marked unit
pub record IsCompiled (p : Program) (text : List ℕ) : Type 0 where
  pub unit : Unit1
  pub has : HasUnit p unit
  pub is : text ≡ if1_text (marks_of unit)

-- behind it a comment line for each edge that may take and does not
pub record IsExplained (p : Program) (text : List ℕ) : Type 0 where
  pub unit : Unit1
  pub has : HasUnit p unit
  pub notes : List Note
  pub are : AreNotes unit (places unit) notes
  pub is : text ≡ if1_text (marks_of unit) ++ note_lines notes

-- there is a unit, and what is drawn or listed of it may be any text
pub record IsShown (p : Program) (text : List ℕ) : Type 0 where
  pub unit : Unit1
  pub has : HasUnit p unit

-- why there is none: the line of the function in which types, graphs or ports show to be too large or too many
abbrev pub IsRefused : Program → TranslateFault → Type 0
IsRefused p (fault.TooMany line) = too_many p ≡ Some line
IsRefused p fault.NoMemory = Unit {0}

-- what `compile` prints of a program
abbrev pub PrintsBy : (dot why code : Bool) → Program → List ℕ → Type 0
PrintsBy true why code p text = IsShown p text
PrintsBy false true code p text = IsExplained p text
PrintsBy false false true p text = IsShown p text
PrintsBy false false false p text = IsCompiled p text

abbrev pub Prints : Program → CompileSet → List ℕ → Type 0
Prints p set text = PrintsBy set.dot set.why set.code p text

-- ---- on the way

-- the marked unit of a program, with its notes
pub record IsMarked (p : Program) (m : Marked) : Type 0 where
  pub unit : Unit1
  pub has : HasUnit p unit
  pub marks : m.sound ≡ marks_of unit
  pub notes : AreNotes unit (places unit) m.notes

-- the text of a marked unit
abbrev pub IsTextBy : (dot why code : Bool) → Marked → List ℕ → Type 0
IsTextBy true why code m text = Unit {0}
IsTextBy false true code m text = text ≡ if1_text m.sound ++ note_lines m.notes
IsTextBy false false true m text = Unit {0}
IsTextBy false false false m text = text ≡ if1_text m.sound
