-- Words as values of types.
use Rattle.std.specs.Prelude.{◌≡◌, ◌≢◌, ℕ, zero, suc, List, [], ◌∷◌, length}
use Rattle.flow_value.specs.declared.ty.Ty.{Ty}
use Rattle.flow_value.specs.declared.value.Val.{Val}
use Rattle.value_text.specs.Grammar.{reads_value}
use Rattle.value_text.specs.Forms.{FirstBad}
use Rattle.value_text.specs.Faults.{MisfitAt, PastLimits}
use Rattle.value_text.specs.declared.fault.ValueFault.{ValueFault}
use Rattle.value_text.specs.declared.fault.ValueFault.TheVariants as faults
use Rattle.mean_call.specs.declared.fault.ArgumentFault.TheVariants as argument
use Rattle.mean_call.specs.declared.fault.Refusal.{Refusal}
use Rattle.mean_call.specs.declared.fault.Refusal.TheVariants as refusal

-- the words are these values, each at the type of its place
abbrev pub AreRead : List (List ℕ) → List Ty → List Val → Type 0
AreRead [] [] [] = Unit {0}
AreRead (w ∷ ws) (t ∷ ts) (v ∷ vs) = reads_value w t v × AreRead ws ts vs
AreRead _ _ _ = ⊥

-- why a word is no value of a type
abbrev pub IsFault : List ℕ → Ty → ValueFault → Type 0
IsFault word t (faults.BadSpelling k) = FirstBad word k
IsFault word t (faults.WrongShape k) = MisfitAt word t k
IsFault word t faults.TooLarge = PastLimits word
IsFault word t faults.NoMemory = ⊥

-- The first word that is no value of its type is this one, counted from 1, and this is why.
abbrev pub IsFirstFault : List (List ℕ) → List Ty → ℕ → ValueFault → Type 0
IsFirstFault (w ∷ ws) (t ∷ ts) (suc zero) fault = IsFault w t fault
IsFirstFault (w ∷ ws) (t ∷ ts) (suc (suc k)) fault = ((v : Val) × reads_value w t v) × IsFirstFault ws ts (suc k) fault
IsFirstFault _ _ _ _ = ⊥

-- why a word at a place is refused
abbrev pub IsWordRefusal : List ℕ → Ty → ℕ → Refusal → Type 0
IsWordRefusal word t place (refusal.Argument (argument.Value k fault)) = (k ≡ place) × IsFault word t fault
IsWordRefusal word t place refusal.NoMemory = Unit {0}
IsWordRefusal word t place _ = ⊥

-- what is answered for the fault of a word at a place
abbrev pub refusal_of : ℕ → ValueFault → Refusal
refusal_of place faults.NoMemory = refusal.NoMemory
refusal_of place (faults.BadSpelling k) = refusal.Argument (argument.Value place (faults.BadSpelling k))
refusal_of place (faults.WrongShape k) = refusal.Argument (argument.Value place (faults.WrongShape k))
refusal_of place faults.TooLarge = refusal.Argument (argument.Value place faults.TooLarge)

-- why as many words as types are refused
abbrev pub AreMisread : List (List ℕ) → List Ty → Refusal → Type 0
AreMisread words types (refusal.Argument (argument.Value k fault)) = IsFirstFault words types k fault
AreMisread words types refusal.NoMemory = Unit {0}
AreMisread words types _ = ⊥

-- why words are refused: there are not as many as types, or else the first that is no value of its type
abbrev pub AreRefused : List (List ℕ) → List Ty → Refusal → Type 0
AreRefused words types (refusal.Argument (argument.Count wanted given)) = (wanted ≡ length types) × (given ≡ length words) × (wanted ≢ given)
AreRefused words types (refusal.Argument (argument.Value k fault)) = (length words ≡ length types) × IsFirstFault words types k fault
AreRefused words types refusal.NoMemory = Unit {0}
AreRefused words types _ = ⊥
