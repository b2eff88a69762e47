-- A text that gives a unit has no fault.
use Rattle.std.specs.Prelude.{ℕ, List}
use Rattle.if1_graph.specs.declared.graph.Unit1.{Unit1}
use Rattle.if1_graph.specs.Reads.{ReadsIf1}
use Rattle.if1_read.specs.Faults.{rows_of, HasNoFault, IsUnclosed}

-- and no compound node of it stays open
abbrev pub AcceptedHasNoFault : Type 0
AcceptedHasNoFault = (text : List ℕ) (u : Unit1) → ReadsIf1 text u → HasNoFault (rows_of text) × (¬ IsUnclosed (rows_of text))
