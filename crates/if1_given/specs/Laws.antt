-- A text without a fault gives a unit.
use Rattle.std.specs.Prelude.{ℕ, List}
use Rattle.if1_graph.specs.declared.graph.Unit1.{Unit1}
use Rattle.if1_graph.specs.Reads.{ReadsIf1}
use Rattle.if1_read.specs.Faults.{rows_of, HasNoFault, IsUnclosed}

-- where no compound node of it stays open
abbrev pub FaultlessGives : Type 0
FaultlessGives = (text : List ℕ) → HasNoFault (rows_of text) → ¬ IsUnclosed (rows_of text) → (u : Unit1) × ReadsIf1 text u
