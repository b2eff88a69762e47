-- What the laws say.
use Rattle.std.specs.Prelude.{◌≡◌, ◌≢◌, ℕ, List, map}
use Rattle.flow_value.specs.declared.ty.Ty.{Ty}
use Rattle.flow_value.specs.declared.value.Val.{Val}
use Rattle.run_words.specs.declared.command.MeanSet.{MeanSet}
use Rattle.sisal_tree.specs.declared.unit.Unit as tree
use Rattle.typed_tree.specs.declared.program.Function.{Function}
use Rattle.typed_tree.specs.declared.program.Program.{Program}
use Rattle.typed_tree.specs.Units.{IsTyped}
use Rattle.typing_unique.specs.UnitLaws.{AreSpelledOnce}
use Rattle.typing_unique.specs.Bare.{bare_function}
use Rattle.meaning.specs.Plain.{plain_calls}
use Rattle.mean_call.specs.Calls.{Gives, IsRefused}
use Rattle.mean_call.specs.Words.{AreRead, AreRefused}
use Rattle.mean_call.specs.declared.fault.ArgumentFault.{ArgumentFault}
use Rattle.mean_call.specs.declared.fault.Refusal.{Refusal}
use Rattle.mean_call.specs.declared.fault.Refusal.TheVariants as refusal

-- the numbers of types play no part in what a call gives
abbrev pub AreNumbersNothing : Type 0
AreNumbersNothing = (n f : ℕ) (fs : List Function) (vs : List Val) → plain_calls n (map bare_function fs) f vs ≡ plain_calls n fs f vs

-- two typed trees of one unit give the same at every depth
abbrev pub IsOneMeaning : Type 0
IsOneMeaning = (u : tree.Unit) (p q : Program) → AreSpelledOnce u.tokens.names → IsTyped u p → IsTyped u q → (n f : ℕ) (vs : List Val) → plain_calls n p.functions f vs ≡ plain_calls n q.functions f vs

-- what one typed tree of a unit answers, each answers
pub record AreAnswersMoved : Type 0 where
  pub values : (u : tree.Unit) (p q : Program) → AreSpelledOnce u.tokens.names → IsTyped u p → IsTyped u q → (set : MeanSet) (values : List Val) → Gives p set values → Gives q set values
  pub refusals : (u : tree.Unit) (p q : Program) → AreSpelledOnce u.tokens.names → IsTyped u p → IsTyped u q → (set : MeanSet) (r : Refusal) → IsRefused p set r → IsRefused q set r

-- words that are values of types are refused for nothing, and others for one thing
pub record AreWordsOnce : Type 0 where
  pub either : (words : List (List ℕ)) (types : List Ty) (values : List Val) (f : ArgumentFault) → AreRead words types values → AreRefused words types (refusal.Argument f) → ⊥
  pub one : (words : List (List ℕ)) (types : List Ty) (f g : ArgumentFault) → AreRefused words types (refusal.Argument f) → AreRefused words types (refusal.Argument g) → f ≡ g

-- a program has one answer, but for want of memory
pub record IsProgramOnce : Type 0 where
  pub values : (p : Program) (set : MeanSet) (vs ws : List Val) → Gives p set vs → Gives p set ws → vs ≡ ws
  pub either : (p : Program) (set : MeanSet) (vs : List Val) (r : Refusal) → Gives p set vs → IsRefused p set r → r ≡ refusal.NoMemory
  pub refusals : (p : Program) (set : MeanSet) (r s : Refusal) → r ≢ refusal.NoMemory → s ≢ refusal.NoMemory → IsRefused p set r → IsRefused p set s → r ≡ s
