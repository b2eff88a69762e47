-- What forms of arrays and streams make, by the numbers of types (SISAL Language Reference Manual 1.2, arrays, streams).
use Rattle.std.specs.Prelude.{ℕ, Bool, true, ◌&&◌, List, [], ◌∷◌, Option, Some, None, nat_eq, is_some, option_map, if◌then◌else◌}
use Rattle.value_ops.specs.declared.operation.Operation.TheVariants as operation
use Rattle.type_table.specs.declared.form.Form.{Form}
use Rattle.type_rules.specs.declared.head.Sort.{Sort}
use Rattle.type_rules.specs.declared.head.Sort.TheVariants as sort
use Rattle.type_rules.specs.declared.head.Outcome.{Outcome}
use Rattle.type_rules.specs.declared.head.Container.{Container}
use Rattle.type_rules.specs.declared.head.Container.TheVariants as container
use Rattle.type_rules.specs.Parts.{integer, array_at, element_in, form_in, is_part, there, outcome_of, sort_if}

-- an array and an index
abbrev pub selects : List Form → List ℕ → Option Outcome
selects forms (a ∷ i ∷ []) = if nat_eq i integer then option_map (there operation.Element) (array_at forms a) else None
selects forms _ = None

-- an array, an index and an element
abbrev pub updates : List Form → List ℕ → Option Outcome
updates forms (a ∷ i ∷ v ∷ []) =
    if nat_eq i integer then (if is_part (array_at forms a) v then Some (there operation.Update a) else None) else None
updates forms _ = None

abbrev pub all_are : ℕ → List ℕ → Bool
all_are a [] = true
all_are a (b ∷ bs) = nat_eq b a && all_are a bs

-- a container with elements of a type: the type that is named, where one is
abbrev pub named_sort : List Form → Container → Option ℕ → ℕ → Option Sort
named_sort forms c None e = Some (sort.Made (form_in c e))
named_sort forms c (Some n) e = sort_if (is_part (element_in forms c n) e) n

-- a container without elements has the type that is named
abbrev pub empty_sort : List Form → Container → Option ℕ → Option Sort
empty_sort forms c None = None
empty_sort forms c (Some n) = sort_if (is_some (element_in forms c n)) n

-- a lower bound, and one element or more, all of one type
abbrev pub arrays : List Form → Option ℕ → List ℕ → Option Outcome
arrays forms named (low ∷ e ∷ es) =
    if nat_eq low integer then (if all_are e es then outcome_of operation.Array (named_sort forms container.Array named e) else None) else None
arrays forms named _ = None

abbrev pub empties : List Form → Option ℕ → List ℕ → Option Outcome
empties forms named [] = outcome_of operation.EmptyArray (empty_sort forms container.Array named)
empties forms named _ = None

-- no element, or elements of one type
abbrev pub streams : List Form → Option ℕ → List ℕ → Option Outcome
streams forms named [] = outcome_of operation.Stream (empty_sort forms container.Stream named)
streams forms named (e ∷ es) = if all_are e es then outcome_of operation.Stream (named_sort forms container.Stream named e) else None
