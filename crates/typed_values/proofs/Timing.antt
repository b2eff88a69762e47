-- What holds of all that is given.
use Rattle.std.proofs.Common.{ℕ, Some, None}
use Rattle.meaning.specs.Timed.{Timed, plus, andthen}

-- whatever is given has this property
abbrev pub Only : {A : Type 0} → (A → Type 0) → Timed A → Type 0
Only P None = Unit {0}
Only P (Some r) = P r.0

pub only_plus : {A : Type 0} (P : A → Type 0) (k : ℕ) (a : Timed A) → Only P a → Only P (plus k a)
only_plus P k None h = tt
only_plus P k (Some r) h = h

pub only_then : {A B : Type 0} (P : A → Type 0) (Q : B → Type 0) (a : Timed A) (f : A → Timed B) → Only P a → ((x : A) → P x → Only Q (f x)) → Only Q (andthen a f)
only_then P Q None f h g = tt
only_then P Q (Some r) f h g = only_plus Q r.1 (f r.0) (g r.0 h)
