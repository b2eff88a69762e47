-- A lowered program means its source: both directions, and at most eight firings a step.
use Rattle.std.specs.Prelude.{◌≡◌, ℕ, ◌*◌, ◌≤◌, List, map, Some, slice_get}
use Rattle.flow_value.specs.declared.value.Val.{Val}
use Rattle.if1_graph.specs.declared.graph.Unit1.{Unit1}
use Rattle.if1_graph.specs.Ready.{IsReady}
use Rattle.typed_tree.specs.declared.program.Program.{Program}
use Rattle.typed_values.specs.Fitting.{Header}
use Rattle.typed_rows.specs.Rows.{AreOf}
use Rattle.meaning.specs.Plain.{plain_calls}
use Rattle.meaning_laws.specs.Laws.{IsGiven}
use Rattle.marks_made.specs.Units.{marks_of}
use Rattle.graph_meaning.specs.Carried.{Carried, Value, val_of}
use Rattle.graph_meaning.specs.Demand.{Network}
use Rattle.graph_meaning.specs.Networks.{network}
use Rattle.graph_meaning.specs.Plain.{Means, Costs}
use Rattle.lowering.specs.Programs.{number_of}
use Rattle.lowered_units.specs.Fitting.{IsFitting}
use Rattle.lowered_units.specs.Units.{IsTranslated}
use Rattle.sisal_tree.specs.declared.unit.Unit as tree
use Rattle.typed_tree.specs.Units.{IsTyped}
use Rattle.typed_values.specs.Leaves.{AreNamesOnce}
use Rattle.lowering_meaning.specs.Coverage.{plain_forms, AreCovered}

-- a function of a translated program, whose unit is ready, on one argument for each parameter, each of its type
pub record IsCalled (p : Program) (u : Unit1) (f : ℕ) (args : List Val) : Type 0 where
  pub fits : IsFitting p
  pub forms : AreCovered plain_forms p.functions
  pub unit : IsTranslated p u
  pub ready : IsReady u
  pub header : Header
  pub there : slice_get fits.headers f ≡ Some header
  pub typed : AreOf header.params args

-- at some depth a graph has a cost of at most 8 times the steps, and means these values
pub record IsMeant (n : Network) (graph : ℕ) (args values : List Val) (steps : ℕ) : Type 0 where
  pub cost : ℕ
  pub depth : ℕ
  pub costs : Costs n depth graph (map Value args) cost
  pub bound : cost ≤ 8 * steps
  pub means : Means n depth graph (map Value args) (map Value values)

-- where the source gives values at some depth, the graph means these values
abbrev pub AreValuesKept : Type 0
AreValuesKept = (p : Program) (u : Unit1) (f : ℕ) (args values : List Val) (steps : ℕ) → IsCalled p u f args
    → IsGiven (λ n. plain_calls n p.functions f args) values steps → IsMeant (network u) (number_of p f) args values steps

-- where the graph has a cost at some depth, the source gives values at some depth
abbrev pub AreCostsThere : Type 0
AreCostsThere = (p : Program) (u : Unit1) (f : ℕ) (args : List Val) (depth cost : ℕ) → IsCalled p u f args
    → Costs (network u) depth (number_of p f) (map Value args) cost → (values : List Val) × (steps : ℕ) × IsGiven (λ n. plain_calls n p.functions f args) values steps

-- ---- units that run

-- a function of the unit with the marks that are made, which is ready, on one argument for each parameter, each of its type
pub record IsRun (p : Program) (u : Unit1) (f : ℕ) (args : List Val) : Type 0 where
  pub fits : IsFitting p
  pub forms : AreCovered plain_forms p.functions
  pub unit : IsTranslated p u
  pub ready : IsReady (marks_of u)
  pub header : Header
  pub there : slice_get fits.headers f ≡ Some header
  pub typed : AreOf header.params args

abbrev pub AreRunsMeant : Type 0
AreRunsMeant = (p : Program) (u : Unit1) (f : ℕ) (args values : List Val) (steps : ℕ) → IsRun p u f args
    → IsGiven (λ n. plain_calls n p.functions f args) values steps → IsMeant (network (marks_of u)) (number_of p f) args values steps

-- the source gives these values
pub record IsSourced (p : Program) (f : ℕ) (args values : List Val) (cost : ℕ) : Type 0 where
  pub steps : ℕ
  pub given : IsGiven (λ n. plain_calls n p.functions f args) values steps
  pub bound : cost ≤ 8 * steps

-- what the graph gives at a cost, the source gives
abbrev pub AreRunsSourced : Type 0
AreRunsSourced = (p : Program) (u : Unit1) (f : ℕ) (args : List Val) (results : List Carried) (depth cost : ℕ) → IsRun p u f args
    → Costs (network (marks_of u)) depth (number_of p f) (map Value args) cost → Means (network (marks_of u)) depth (number_of p f) (map Value args) results → IsSourced p f args (map val_of results) cost

-- ---- typed programs

-- the program of a typed unit is of the forms of these laws, where no name of the unit is spelled as another one
abbrev pub AreTypedCovered : Type 0
AreTypedCovered = (u : tree.Unit) (p : Program) → AreNamesOnce u.tokens.names → IsTyped u p → AreCovered plain_forms p.functions
