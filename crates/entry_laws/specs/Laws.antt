-- What a word names in the unit of a text, and what in its program.
use Rattle.std.specs.Prelude.{◌≡◌, ◌↔◌, ℕ, List, Some, None, Ok, slice_get}
use Rattle.flow_value.specs.declared.ty.Ty.{Ty}
use Rattle.if1_graph.specs.declared.graph.Unit1.{Unit1}
use Rattle.if1_valid.specs.Params.{params_of}
use Rattle.unit_entry.specs.Entries.{entry_of, first_lacking}
use Rattle.marks_made.specs.Units.{marks_of}
use Rattle.sisal_lex.specs.Tokens.{tokens_of}
use Rattle.sisal_tree.specs.declared.unit.Unit as tree
use Rattle.typed_tree.specs.declared.program.Program.{Program}
use Rattle.typed_tree.specs.Units.{IsTyped}
use Rattle.fitting_trees.specs.Fitting.{Header}
use Rattle.lowering.specs.Programs.{number_of}
use Rattle.lowered_units.specs.Fitting.{IsFitting}
use Rattle.lowered_units.specs.Units.{IsTranslated}
use Rattle.mean_call.specs.Calls.{IsEntry, unlinked}

-- A program of a unit with the tokens of a text, that fits, and its unit of graphs.
pub record IsUnitOfText (bytes : List ℕ) (u : tree.Unit) (p : Program) (v : Unit1) : Type 0 where
  pub lexed : tokens_of bytes ≡ Ok u.tokens
  pub typed : IsTyped u p
  pub fits : IsFitting p
  pub unit : IsTranslated p v

-- what the word names in the unit has this number, and is the function of a place that the word names in the program, with these types
abbrev pub IsPlaced : Program → (word : List ℕ) → (number : ℕ) → List Ty → Type 0
IsPlaced p word number types = (place : ℕ) × (number_of p place ≡ number) × IsEntry p word place types

abbrev pub AreUnitsEntries : Type 0
AreUnitsEntries = (bytes : List ℕ) (u : tree.Unit) (p : Program) (v : Unit1) (word : List ℕ) (number : ℕ) (types : List Ty) → IsUnitOfText bytes u p v
    → entry_of (marks_of v) word ≡ Some number → params_of (marks_of v) number ≡ Some types → IsPlaced p word number types

abbrev pub AreProgramsEntries : Type 0
AreProgramsEntries = (bytes : List ℕ) (u : tree.Unit) (p : Program) (v : Unit1) (word : List ℕ) (place : ℕ) (types : List Ty) → IsUnitOfText bytes u p v → IsEntry p word place types
    → (entry_of (marks_of v) word ≡ Some (number_of p place)) × (params_of (marks_of v) (number_of p place) ≡ Some types)

abbrev pub DoesUnitLackAlike : Type 0
DoesUnitLackAlike = (bytes : List ℕ) (u : tree.Unit) (p : Program) (v : Unit1) → IsUnitOfText bytes u p v → (first_lacking (marks_of v) ≡ None) ↔ (unlinked p ≡ None)

-- the entry has a header of these types
abbrev pub HasHeader : List Header → (place : ℕ) → List Ty → Type 0
HasHeader headers place types = (header : Header) × (slice_get headers place ≡ Some header) × (header.params ≡ types)

abbrev pub AreHeadersOfEntries : Type 0
AreHeadersOfEntries = (bytes : List ℕ) (u : tree.Unit) (p : Program) (v : Unit1) (word : List ℕ) (place : ℕ) (types : List Ty) → (h : IsUnitOfText bytes u p v) → IsEntry p word place types → HasHeader h.fits.headers place types
