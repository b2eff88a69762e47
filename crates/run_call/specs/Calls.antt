-- What a unit of graphs gives on the words of a command: the values and totals of a run of its entry, or why there are none.
use Rattle.std.specs.Prelude.{◌≡◌, ◌<◌, ℕ, List, map, None, Some}
use Rattle.flow_value.specs.declared.ty.Ty.{Ty}
use Rattle.flow_value.specs.declared.value.Val.{Val}
use Rattle.run_words.specs.declared.command.RunSet.{RunSet}
use Rattle.if1_graph.specs.declared.graph.Unit1.{Unit1}
use Rattle.if1_valid.specs.Params.{params_of}
use Rattle.graph_meaning.specs.Carried.{Value}
use Rattle.unit_code.specs.Runs.{AreTotalsOf}
use Rattle.unit_code.specs.declared.runs.Totals.{Totals}
use Rattle.graph_meaning.specs.Networks.{network}
use Rattle.graph_meaning.specs.Plain.{Costs}
use Rattle.unit_entry.specs.Entries.{entry_of, first_lacking}
use Rattle.mean_call.specs.Words.{AreRead, AreRefused}
use Rattle.mean_call.specs.declared.fault.ArgumentFault.{ArgumentFault}
use Rattle.mean_call.specs.declared.fault.ArgumentFault.TheVariants as argument
use Rattle.mean_call.specs.declared.fault.Refusal.{Refusal}
use Rattle.mean_call.specs.declared.fault.Refusal.TheVariants as refusal

-- ---- the limit

-- each cost of the function on these values is above the limit, if it has any
abbrev pub PassesOn : Unit1 → (function : ℕ) → List Val → (limit : ℕ) → Type 0
PassesOn u function args limit = (depth cost : ℕ) → Costs (network u) depth function (map Value args) cost → limit < cost

-- ---- the entry and its arguments

-- The entry of a word: the first exported function that has the word as its name, in small or capital letters, with the types of its
-- arguments. In a valid unit they are there.
pub record IsEntry (u : Unit1) (word : List ℕ) (function : ℕ) (types : List Ty) : Type 0 where
  pub called : entry_of u word ≡ Some function
  pub arguments : params_of u function ≡ Some types

-- No function stands in another unit, and the words are these values of the types of the entry's arguments.
pub record IsCall (u : Unit1) (set : RunSet) (function : ℕ) (args : List Val) : Type 0 where
  pub linked : first_lacking u ≡ None
  pub types : List Ty
  pub entry : IsEntry u set.entry function types
  pub read : AreRead set.values types args

-- ---- the answer

-- a run of the entry on the words, as it is of record and within the limit of firings
pub record Gives (u : Unit1) (set : RunSet) (totals : Totals) : Type 0 where
  pub function : ℕ
  pub args : List Val
  pub call : IsCall u set function args
  pub run : AreTotalsOf u function set.limit (map Value args) totals

-- there is no entry
pub record HasNoEntry (u : Unit1) (set : RunSet) : Type 0 where
  pub linked : first_lacking u ≡ None
  pub none : entry_of u set.entry ≡ None

-- the words are no arguments of the entry
pub record HasWrongWords (u : Unit1) (set : RunSet) (fault : ArgumentFault) : Type 0 where
  pub linked : first_lacking u ≡ None
  pub function : ℕ
  pub types : List Ty
  pub entry : IsEntry u set.entry function types
  pub refused : AreRefused set.values types (refusal.Argument fault)

-- the run of the entry on the words is longer than the limit, or without end
pub record PassesLimit (u : Unit1) (set : RunSet) : Type 0 where
  pub function : ℕ
  pub args : List Val
  pub call : IsCall u set function args
  pub longer : PassesOn u function args set.limit

-- why there is no run
abbrev pub IsRefused : Unit1 → RunSet → Refusal → Type 0
IsRefused u set (refusal.Unlinked name) = first_lacking u ≡ Some name
IsRefused u set (refusal.Argument argument.Entry) = HasNoEntry u set
IsRefused u set (refusal.Argument (argument.Count wanted given)) = HasWrongWords u set (argument.Count wanted given)
IsRefused u set (refusal.Argument (argument.Value k fault)) = HasWrongWords u set (argument.Value k fault)
IsRefused u set refusal.TurnLimit = PassesLimit u set
IsRefused u set refusal.NoMemory = Unit {0}

-- ---- on the way

-- why a run of a function on values has no results
abbrev pub IsStopped : Unit1 → (function : ℕ) → List Val → (limit : ℕ) → Refusal → Type 0
IsStopped u function args limit refusal.TurnLimit = PassesOn u function args limit
IsStopped u function args limit refusal.NoMemory = Unit {0}
IsStopped u function args limit _ = ⊥
