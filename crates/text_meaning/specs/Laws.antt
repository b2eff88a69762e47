-- What the unit of a text gives, the source gives.
use Rattle.std.specs.Prelude.{◌≡◌, ℕ, ◌≤◌, List, map, Some, None, slice_get}
use Rattle.flow_value.specs.declared.value.Val.{Val}
use Rattle.if1_graph.specs.declared.graph.Unit1.{Unit1}
use Rattle.if1_graph.specs.Ready.{IsReady}
use Rattle.type_table.specs.Tables.{IsTable}
use Rattle.sisal_tree.specs.declared.unit.Unit as tree
use Rattle.sisal_tree.specs.Depth.{depth_of}
use Rattle.typed_tree.specs.declared.program.Program.{Program}
use Rattle.typed_tree.specs.Typing.{Signature}
use Rattle.typed_tree.specs.Units.{signatures}
use Rattle.typed_rows.specs.Rows.{AreOf}
use Rattle.fitting_texts.specs.Laws.{IsTypedText}
use Rattle.marks_made.specs.Units.{marks_of}
use Rattle.meaning.specs.Plain.{plain_calls}
use Rattle.meaning_laws.specs.Laws.{IsGiven}
use Rattle.graph_meaning.specs.Carried.{Carried, Value, val_of}
use Rattle.graph_meaning.specs.Networks.{network}
use Rattle.graph_meaning.specs.Plain.{Means, Costs}
use Rattle.lowering.specs.Programs.{number_of}
use Rattle.lowering.specs.TooMany.{too_many}
use Rattle.lowered_units.specs.Units.{IsTranslated}
use Rattle.lowering_meaning.specs.Laws.{IsMeant, IsSourced}

-- The unit of the program of a text that is at most 200 deep and within the limits of units
pub record IsTextUnit (bytes : List ℕ) (u : tree.Unit) (p : Program) (v : Unit1) : Type 0 where
  pub text : IsTypedText bytes u p
  pub shallow : depth_of u.items ≤ 200
  pub types : IsTable p.types
  pub within : too_many p ≡ None
  pub translated : IsTranslated p v

-- with the marks that are made it is ready
abbrev pub AreMarkedTextsReady : Type 0
AreMarkedTextsReady = (bytes : List ℕ) (u : tree.Unit) (p : Program) (v : Unit1) → IsTextUnit bytes u p v → IsReady (marks_of v)

-- a function of it, on arguments of the types of its parameters
pub record IsTextRun (bytes : List ℕ) (u : tree.Unit) (p : Program) (v : Unit1) (f : ℕ) (args : List Val) : Type 0 where
  pub unit : IsTextUnit bytes u p v
  pub signature : Signature
  pub there : slice_get (signatures unit.text.typed.declared) f ≡ Some signature
  pub typed : AreOf signature.params args

abbrev pub AreTextsMeant : Type 0
AreTextsMeant = (bytes : List ℕ) (u : tree.Unit) (p : Program) (v : Unit1) (f : ℕ) (args values : List Val) (steps : ℕ) → IsTextRun bytes u p v f args
    → IsGiven (λ n. plain_calls n p.functions f args) values steps → IsMeant (network (marks_of v)) (number_of p f) args values steps

abbrev pub AreTextsSourced : Type 0
AreTextsSourced = (bytes : List ℕ) (u : tree.Unit) (p : Program) (v : Unit1) (f : ℕ) (args : List Val) (results : List Carried) (depth cost : ℕ) → IsTextRun bytes u p v f args
    → Costs (network (marks_of v)) depth (number_of p f) (map Value args) cost → Means (network (marks_of v)) depth (number_of p f) (map Value args) results → IsSourced p f args (map val_of results) cost
