-- The function of a unit that a run begins with, and those that stand in other units.
use Rattle.std.specs.Prelude.{ℕ, Bool, ◌&&◌, not, List, Option, option_map, bytes_eq}
use Rattle.std.specs.List.{find, list_any}
use Rattle.std.specs.Str.{str_eq_ignore_ascii_case}
use Rattle.if1_graph.specs.declared.graph.Graph.{Graph}
use Rattle.if1_graph.specs.declared.graph.Graph.TheViews.{out-Graph}
use Rattle.if1_graph.specs.declared.graph.Unit1.{Unit1}

-- an exported function of this name, in small or capital letters
abbrev pub is_called : List ℕ → Graph → Bool
is_called word g = (out-Graph g).exported && str_eq_ignore_ascii_case (out-Graph g).name word

-- the number of the first of them
abbrev pub entry_of : Unit1 → List ℕ → Option ℕ
entry_of u word = option_map (λ g. (out-Graph g).number) (find (is_called word) u.graphs)

-- one of the functions that other units have is of this name
abbrev pub is_imported : List (ℕ × List ℕ) → List ℕ → Bool
is_imported is name = list_any (λ i. bytes_eq i.1 name) is

-- a function that is not exported and has one of these names
abbrev pub is_of : List (List ℕ) → Graph → Bool
is_of names g = not (out-Graph g).exported && list_any (λ n. bytes_eq n (out-Graph g).name) names

-- a function that is not exported and stands in another unit
abbrev pub is_lacking : Unit1 → Graph → Bool
is_lacking u g = not (out-Graph g).exported && is_imported u.imports (out-Graph g).name

-- the name of the first of them
abbrev pub first_lacking : Unit1 → Option (List ℕ)
first_lacking u = option_map (λ g. (out-Graph g).name) (find (is_lacking u) u.graphs)
