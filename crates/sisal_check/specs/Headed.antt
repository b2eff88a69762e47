-- The functions of a program beside the headers of its unit. Types are numbers of a table.
use Rattle.std.specs.Prelude.{◌≡◌, ℕ, List, map, take, length, Bool, is_some}
use Rattle.typed_tree.specs.declared.program.Function.{Function}
use Rattle.unit_types.specs.declared.header.Signature.{Signature}

-- the line, the name and the parameters of a function, with their types and those of its results
pub record Head : Type 0 where
  pub line : ℕ
  pub name : ℕ
  pub parameters : List ℕ
  pub params : List ℕ
  pub results : List ℕ

abbrev pub head_in : Signature → Head
head_in s = record { line = s.line; name = s.name; parameters = s.parameters; params = s.params; results = s.results }

abbrev pub head_at : Function → Head
head_at f = record { line = f.line; name = f.name; parameters = f.parameters; params = f.params; results = f.results }

-- whether a function has its body in the program
abbrev pub is_defined : Function → Bool
is_defined f = is_some f.body

-- the functions have the first of these headers
abbrev pub HaveFirst : List Signature → List Function → Type 0
HaveFirst headers fs = map head_at fs ≡ take (length fs) (map head_in headers)
