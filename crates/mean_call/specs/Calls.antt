-- What a typed program gives on the words of a command: the values of its entry, or why there are none.
use Rattle.std.specs.Prelude.{◌≡◌, ◌<◌, ◌≤◌, ℕ, Bool, List, [], Option, Some, None, option_map, slice_get, unwrap_or}
use Rattle.std.specs.List.{find}
use Rattle.std.specs.Option.{is_none}
use Rattle.flow_value.specs.declared.ty.Ty.{Ty}
use Rattle.flow_value.specs.declared.value.Val.{Val}
use Rattle.run_words.specs.declared.command.MeanSet.{MeanSet}
use Rattle.meaning.specs.Plain.{plain_calls}
use Rattle.typed_tree.specs.Entries.{entry_of}
use Rattle.typed_tree.specs.Types.{AreNumbers}
use Rattle.typed_tree.specs.declared.program.Function.{Function}
use Rattle.typed_tree.specs.declared.program.Program.{Program}
use Rattle.mean_call.specs.Words.{AreRead, AreRefused}
use Rattle.mean_call.specs.declared.fault.ArgumentFault.{ArgumentFault}
use Rattle.mean_call.specs.declared.fault.ArgumentFault.TheVariants as argument
use Rattle.mean_call.specs.declared.fault.Refusal.{Refusal}
use Rattle.mean_call.specs.declared.fault.Refusal.TheVariants as refusal

-- ---- functions of other texts

-- the body stands in another text
abbrev pub is_elsewhere : Function → Bool
is_elsewhere f = is_none f.body

-- the name of the first function whose body stands in another text, which is empty where it isn't in the list of names
abbrev pub unlinked : Program → Option (List ℕ)
unlinked p = option_map (λ f. unwrap_or (slice_get p.names f.name) []) (find is_elsewhere p.functions)

-- ---- the entry

-- the numbers of the types of a function's parameters
abbrev pub params_if : Option Function → List ℕ
params_if None = []
params_if (Some f) = f.params

abbrev pub params_of : Program → ℕ → List ℕ
params_of p k = params_if (slice_get p.functions k)

-- The entry of a word: the first function after `define` that has the word as its name, in small or capital letters, where the
-- types of all its parameters are in the table. In a program that typing gives they are.
pub record IsEntry (p : Program) (word : List ℕ) (function : ℕ) (types : List Ty) : Type 0 where
  pub called : entry_of p word ≡ Some function
  pub parameters : AreNumbers p.types p.names (params_of p function) types

abbrev pub IsEntryIf : Program → List ℕ → Option ℕ → Type 0
IsEntryIf p word (Some function) = (types : List Ty) × IsEntry p word function types
IsEntryIf p word None = (function : ℕ) (types : List Ty) → IsEntry p word function types → ⊥

-- ---- the call

-- The values of the entry on the words: those that the meaning of the program gives to its call with the values of the words, at
-- some depth and within the limit of steps; and no function stands in another text.
pub record Gives (p : Program) (set : MeanSet) (values : List Val) : Type 0 where
  pub linked : unlinked p ≡ None
  pub function : ℕ
  pub types : List Ty
  pub entry : IsEntry p set.entry function types
  pub args : List Val
  pub read : AreRead set.values types args
  pub depth : ℕ
  pub steps : ℕ
  pub given : plain_calls depth p.functions function args ≡ Some (values, steps)
  pub within : steps ≤ set.limit

-- There is no entry.
pub record HasNoEntry (p : Program) (set : MeanSet) : Type 0 where
  pub linked : unlinked p ≡ None
  pub none : (function : ℕ) (types : List Ty) → IsEntry p set.entry function types → ⊥

-- The words are no arguments of the entry.
pub record HasWrongWords (p : Program) (set : MeanSet) (fault : ArgumentFault) : Type 0 where
  pub linked : unlinked p ≡ None
  pub function : ℕ
  pub types : List Ty
  pub entry : IsEntry p set.entry function types
  pub refused : AreRefused set.values types (refusal.Argument fault)

-- The call of the entry gives nothing within the limit of steps, at any depth.
pub record PassesLimit (p : Program) (set : MeanSet) : Type 0 where
  pub linked : unlinked p ≡ None
  pub function : ℕ
  pub types : List Ty
  pub entry : IsEntry p set.entry function types
  pub args : List Val
  pub read : AreRead set.values types args
  pub longer : (depth steps : ℕ) (values : List Val) → plain_calls depth p.functions function args ≡ Some (values, steps) → set.limit < steps

-- why there are no values
abbrev pub IsRefused : Program → MeanSet → Refusal → Type 0
IsRefused p set (refusal.Unlinked name) = unlinked p ≡ Some name
IsRefused p set (refusal.Argument argument.Entry) = HasNoEntry p set
IsRefused p set (refusal.Argument (argument.Count wanted given)) = HasWrongWords p set (argument.Count wanted given)
IsRefused p set (refusal.Argument (argument.Value k fault)) = HasWrongWords p set (argument.Value k fault)
IsRefused p set refusal.TurnLimit = PassesLimit p set
IsRefused p set refusal.NoMemory = Unit {0}
