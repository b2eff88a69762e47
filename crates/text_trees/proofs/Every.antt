-- What holds of each element of a list, by recursion on the list, and of what may be absent.
use Rattle.std.proofs.Common.{List, [], ◌∷◌, Option, Some, None, All}
use Rattle.std.proofs.lemmas.List.Elements.{All-nil, All-cons}
use Rattle.sisal_grammar.specs.Spells.{listed}

abbrev pub Each : {A : Type 0} → (A → Type 0) → List A → Type 0
Each P [] = Unit {0}
Each P (x ∷ xs) = P x × Each P xs

abbrev pub IfAny : {A : Type 0} → (A → Type 0) → Option A → Type 0
IfAny P None = Unit {0}
IfAny P (Some a) = P a

pub all_of : {A : Type 0} (P : A → Type 0) (xs : List A) → Each P xs → All P xs
all_of P [] p = All-nil P
all_of P (x ∷ xs) p = All-cons P x xs p.0 (all_of P xs p.1)

pub listed_each : {A : Type 0} (P : A → Type 0) (o : Option (List A)) → IfAny (λ l. Each P l) o → Each P (listed o)
listed_each P None p = tt
listed_each P (Some l) p = p
