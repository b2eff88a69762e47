-- What a text prints by the meaning of its source, what of its graphs, and what a run of them prints.
use Rattle.std.specs.Prelude.{◌≡◌, ℕ, Bool, true, false, List, [], ◌∷◌, ◌++◌, Some, ◌⊎◌, codes, decimal}
use Rattle.flow_value.specs.declared.value.Val.{Val}
use Rattle.mean_call.specs.Calls.{Gives as HasValues, IsRefused as HasNoValues}
use Rattle.mean_call.specs.declared.fault.Refusal.{Refusal}
use Rattle.compile_call.specs.Calls.{HasUnit, Prints as PrintsOf}
use Rattle.if1_graph.specs.declared.graph.Unit1.{Unit1}
use Rattle.lowering.specs.TooMany.{too_many}
use Rattle.lowered_units.specs.Fitting.{IsFitting}
use Rattle.marks_made.specs.Units.{marks_of}
use Rattle.run_call.specs.Calls.{Gives as GivesRun, IsRefused as HasNoTotals}
use Rattle.run_call.specs.Texts.{IsUnitOf as IsIf1Of}
use Rattle.run_call.specs.Totals.{Totals}
use Rattle.run_words.specs.declared.command.CompileSet.{CompileSet}
use Rattle.run_words.specs.declared.command.MeanSet.{MeanSet}
use Rattle.run_words.specs.declared.command.RunSet.{RunSet}
use Rattle.sisal_tree.specs.declared.unit.Unit as tree
use Rattle.type_table.specs.Tables.{IsTable}
use Rattle.typed_tree.specs.declared.program.Program.{Program}
use Rattle.typed_tree.specs.Faults.{BreaksUnit}
use Rattle.typed_tree.specs.Units.{IsTyped}
use Rattle.value_text.specs.Printed.{value_bytes}
use Rattle.sisal_top.specs.Program.{Fits, IsUnitOf}

-- each value on a line of its own, ended by a line feed
abbrev pub lines : List Val → List ℕ
lines [] = []
lines (v ∷ vs) = value_bytes v ++ 10 ∷ lines vs

-- These bytes are a unit that is this program, by the typing rules. Its table begins with the basic types, and has each type once,
-- behind its parts.
pub record HasProgram (bytes : List ℕ) (program : Program) : Type 0 where
  pub unit : tree.Unit
  pub is : IsUnitOf bytes unit
  pub typed : IsTyped unit program
  pub types : IsTable program.types

-- these bytes are a unit that breaks a typing rule on a line
pub record HasTypeFault (bytes : List ℕ) (rule line : ℕ) : Type 0 where
  pub unit : tree.Unit
  pub is : IsUnitOf bytes unit
  pub breaks : BreaksUnit unit rule line

-- these bytes have a typed program, and the lines of the values that its entry gives on these words
pub record PrintsMeaning (set : MeanSet) (bytes printed : List ℕ) : Type 0 where
  pub program : Program
  pub typed : HasProgram bytes program
  pub values : List Val
  pub given : HasValues program set values
  pub is : printed ≡ lines values

-- these bytes have a typed program, and this is why its entry gives no values on these words
pub record HasNoMeaning (set : MeanSet) (bytes : List ℕ) (refusal : Refusal) : Type 0 where
  pub program : Program
  pub typed : HasProgram bytes program
  pub refused : HasNoValues program set refusal

-- these bytes have a typed program, and what `compile` prints of it
pub record PrintsGraphs (set : CompileSet) (bytes printed : List ℕ) : Type 0 where
  pub program : Program
  pub typed : HasProgram bytes program
  pub is : PrintsOf program set printed

-- these bytes have a typed program whose types, graphs or ports are too large or too many, as shows in the function of a line
pub record HasTooMany (bytes : List ℕ) (line : ℕ) : Type 0 where
  pub program : Program
  pub typed : HasProgram bytes program
  pub over : too_many program ≡ Some line

-- these bytes are a unit that breaks a typing rule, or a program that is too large, which is rule 24
abbrev pub HasNoGraphs : List ℕ → ℕ → ℕ → Type 0
HasNoGraphs bytes rule line = HasTypeFault bytes rule line ⊎ ((rule ≡ 24) × HasTooMany bytes line)

-- ---- runs

-- these bytes have a typed program that fits, within the limits, and this is its unit of graphs with the marks that are made
pub record HasGraphs (bytes : List ℕ) (u : Unit1) : Type 0 where
  pub program : Program
  pub typed : HasProgram bytes program
  pub fitting : IsFitting program
  pub unit : Unit1
  pub has : HasUnit program unit
  pub is : u ≡ marks_of unit

-- the unit that runs: that of the program, or of the IF1 text
abbrev pub RunsUnit : (if1 : Bool) → List ℕ → Unit1 → Type 0
RunsUnit true bytes u = Fits bytes × IsIf1Of bytes u
RunsUnit false bytes u = HasGraphs bytes u

-- the line of the totals of a run: its firings, the leaves that it copied, and the elements that it wrote
abbrev pub totals_line : Totals → List ℕ
totals_line t = ((codes "fires=" ++ decimal t.fires) ++ ((codes " copies=" ++ decimal t.copies) ++ (codes " writes=" ++ decimal t.writes))) ++ 10 ∷ []

-- it stands behind the values, where it is asked for
abbrev pub totals_if : (stats : Bool) → Totals → List ℕ
totals_if true t = totals_line t
totals_if false t = []

-- the lines of the values of a run of its entry on these words, and the line of its totals
pub record PrintsRun (set : RunSet) (bytes printed : List ℕ) : Type 0 where
  pub unit : Unit1
  pub runs : RunsUnit set.if1 bytes unit
  pub totals : Totals
  pub given : GivesRun unit set totals
  pub is : printed ≡ lines totals.results ++ totals_if set.stats totals

-- why its entry has no run on these words
pub record HasNoRun (set : RunSet) (bytes : List ℕ) (refusal : Refusal) : Type 0 where
  pub unit : Unit1
  pub runs : RunsUnit set.if1 bytes unit
  pub refused : HasNoTotals unit set refusal
