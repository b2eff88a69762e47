-- A text gives at most one unit.
use Rattle.std.specs.Prelude.{◌≡◌, ℕ, List}
use Rattle.if1_graph.specs.declared.graph.Unit1.{Unit1}
use Rattle.if1_graph.specs.Reads.{ReadsIf1}

-- two units that a text gives are one
abbrev pub IsOneUnit : Type 0
IsOneUnit = (text : List ℕ) (u v : Unit1) → ReadsIf1 text u → ReadsIf1 text v → u ≡ v
