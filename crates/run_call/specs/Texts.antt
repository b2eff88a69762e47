-- The units of IF1 texts, with the marks with which they run.
use Rattle.std.specs.Prelude.{◌≡◌, ℕ, List, if◌then◌else◌}
use Rattle.if1_graph.specs.declared.graph.Unit1.{Unit1}
use Rattle.if1_graph.specs.Reads.{ReadsIf1}
use Rattle.if1_graph.specs.Ready.{IsReady}
use Rattle.if1_marks.specs.Sound.{IsSound}
use Rattle.marks_made.specs.Units.{marks_of}
use Rattle.unit_entry.specs.Marks.{has_marks}

-- the marks of its own, where it has any, and else those that are made
abbrev pub with_marks : Unit1 → Unit1
with_marks u = if has_marks u then u else marks_of u

-- The text gives a valid unit, and this is the unit with the marks with which it runs. They are sound.
pub record IsUnitOf (text : List ℕ) (u : Unit1) : Type 0 where
  pub unit : Unit1
  pub read : ReadsIf1 text unit
  pub ready : IsReady unit
  pub is : u ≡ with_marks unit
  pub sound : IsSound u
