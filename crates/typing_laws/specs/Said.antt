-- What the types and names that a form of expression has of its own stand for.
use Rattle.std.specs.Prelude.{ℕ, ◌<◌, List, length, map, All, Option, Some, None}
use Rattle.flow_value.specs.declared.ty.Ty.{Ty}
use Rattle.type_table.specs.declared.form.Form.{Form}
use Rattle.type_table.specs.declared.form.Form.TheVariants as form
use Rattle.type_table.specs.Tables.{IsOver, AddsAtMost}
use Rattle.typed_tree.specs.Types.{IsNumber}
use Rattle.unit_types.specs.Rests.{HasEachOnce, AreStanding}
use Rattle.type_rules.specs.declared.head.Head.{Head}
use Rattle.type_rules.specs.declared.head.Head.TheVariants as head

-- the number stands for a type
abbrev pub IsThere : List Form → List (List ℕ) → ℕ → Type 0
IsThere forms names n = (t : Ty) × IsNumber forms names n t

abbrev pub IsThereIf : List Form → List (List ℕ) → Option ℕ → Type 0
IsThereIf forms names None = Unit {0}
IsThereIf forms names (Some n) = IsThere forms names n

-- the types of a head stand for types, and the names of fields are spelled
abbrev pub IsSaid : List Form → List (List ℕ) → Head → Type 0
IsSaid forms names (head.ErrorOf n) = IsThere forms names n
IsSaid forms names (head.Array named) = IsThereIf forms names named
IsSaid forms names (head.EmptyArray named) = IsThereIf forms names named
IsSaid forms names (head.Stream named) = IsThereIf forms names named
IsSaid forms names (head.Record named xs) = IsThereIf forms names named × All (λ x. x < length names) xs
IsSaid forms names (head.Union n x) = IsThere forms names n
IsSaid forms names _ = Unit {0}

-- the names of the members of a form are spelled
abbrev pub IsFormSpelled : List (List ℕ) → Form → Type 0
IsFormSpelled names (form.Record ms) = All (λ x. x < length names) (map (λ m. m.name) ms)
IsFormSpelled names (form.Union ms) = All (λ x. x < length names) (map (λ m. m.name) ms)
IsFormSpelled names _ = Unit {0}

-- each number stands for a type, also once a form more is in the table
abbrev pub IsStandingKept : Type 0
IsStandingKept = (names : List (List ℕ)) (old new : List Form) (f : Form) → AreStanding names old → IsOver (length old) f → IsFormSpelled names f → HasEachOnce f → AddsAtMost old f new → AreStanding names new
