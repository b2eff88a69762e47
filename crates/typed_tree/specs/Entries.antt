-- The functions of a program by their names.
use Rattle.std.specs.Prelude.{ℕ, List, Bool, false, Option, slice_get}
use Rattle.std.specs.List.{find}
use Rattle.std.specs.Option.{option_and_then, option_map_or}
use Rattle.std.specs.Str.{str_eq_ignore_ascii_case}
use Rattle.typed_tree.specs.declared.program.Program.{Program}

-- the name of the function of a number
abbrev pub name_of : Program → ℕ → Option (List ℕ)
name_of p n = option_and_then (λ f. slice_get p.names f.name) (slice_get p.functions n)

-- the function of a number has this name, in small or capital letters
abbrev pub has_name : Program → List ℕ → ℕ → Bool
has_name p name n = option_map_or (λ spelling. str_eq_ignore_ascii_case spelling name) (name_of p n) false

-- the first function after `define` of this name
abbrev pub entry_of : Program → List ℕ → Option ℕ
entry_of p name = find (has_name p name) p.defines
