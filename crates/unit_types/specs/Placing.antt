-- Definitions of types with their places, the newest first.
use Rattle.std.specs.Prelude.{◌≡◌, ℕ, List, [], ◌∷◌, length, map, Option, Some, None, nat_lt, if◌then◌else◌}
use Rattle.name_scope.specs.Newest.{newest}
use Rattle.unit_types.specs.declared.type_names.Definition.{Definition}

-- the names with their types
abbrev pub plain : List (ℕ × Definition) → List (ℕ × ℕ)
plain ds = map (λ d. (d.0, d.1.ty)) ds

-- each has the place of its definition, and no name is defined twice
abbrev pub IsPlaced : List (ℕ × Definition) → Type 0
IsPlaced [] = Unit {0}
IsPlaced (d ∷ ds) = (d.1.place ≡ length (plain ds)) × (newest d.0 ds ≡ None) × IsPlaced ds

-- the type of a definition, where it is among the first ones
abbrev pub known_type : Definition → ℕ → Option ℕ
known_type d known = if nat_lt d.place known then Some d.ty else None

abbrev pub known_in : Option Definition → ℕ → Option ℕ
known_in None known = None
known_in (Some d) known = known_type d known
