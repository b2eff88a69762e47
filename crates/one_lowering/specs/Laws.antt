-- What the laws say.
use Rattle.std.specs.Prelude.{◌≡◌, ℕ, List}
use Rattle.if1_graph.specs.declared.graph.Unit1.{Unit1}
use Rattle.lowered_units.specs.Units.{IsTranslated}
use Rattle.lowering.specs.TooMany.{too_many}
use Rattle.sisal_tree.specs.declared.unit.Unit as tree
use Rattle.type_table.specs.declared.form.Form.{Form}
use Rattle.type_table.specs.Tables.{IsTable}
use Rattle.typed_tree.specs.declared.program.Program.{Program}
use Rattle.typed_tree.specs.Units.{IsTyped}
use Rattle.typing_unique.specs.Bare.{renumbered_program}
use Rattle.typing_unique.specs.UnitLaws.{AreSpelledOnce}
use Rattle.one_lowering.specs.Moves.{Moves}

-- the same units of graphs, and the same limits are passed, as shows in a function of the same line
pub record AreLoweredAlike (p q : Program) : Type 0 where
  pub limits : too_many p ≡ too_many q
  pub units : (u : Unit1) → IsTranslated p u → IsTranslated q u

-- at another table
abbrev pub AreNumbersNothing : Type 0
AreNumbersNothing = (p : Program) (to : ℕ → ℕ) (forms : List Form) → Moves to p.types forms → AreLoweredAlike p (renumbered_program to forms p) × AreLoweredAlike (renumbered_program to forms p) p

-- of one unit
abbrev pub IsOneLowering : Type 0
IsOneLowering = (u : tree.Unit) (p q : Program) → AreSpelledOnce u.tokens.names → IsTyped u p → IsTyped u q → IsTable p.types → IsTable q.types → AreLoweredAlike p q
