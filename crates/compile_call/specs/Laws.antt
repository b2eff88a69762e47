-- What is said of compiled texts.
use Rattle.std.specs.Prelude.{◌≡◌, ℕ, List}
use Rattle.typed_tree.specs.declared.program.Program.{Program}
use Rattle.if1_graph.specs.Reads.{ReadsIf1}
use Rattle.marks_made.specs.Units.{marks_of}
use Rattle.compile_call.specs.Calls.{IsCompiled}

-- no program has two
abbrev pub IsOneText : Type 0
IsOneText = (p : Program) (s t : List ℕ) → IsCompiled p s → IsCompiled p t → s ≡ t

-- each gives the marked unit by the text form of IF1
abbrev pub AreRead : Type 0
AreRead = (p : Program) (t : List ℕ) (c : IsCompiled p t) → ReadsIf1 t (marks_of c.unit)
