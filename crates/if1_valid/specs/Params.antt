-- The functions of a unit by number, and the types of their arguments.
use Rattle.std.specs.Prelude.{ℕ, List, Option, find, ◌==◌}
use Rattle.flow_value.specs.declared.ty.Ty.{Ty}
use Rattle.if1_graph.specs.declared.graph.Graph.{Graph}
use Rattle.if1_graph.specs.declared.graph.Graph.TheViews.{out-Graph}
use Rattle.if1_graph.specs.declared.graph.TypeEntry.{TypeEntry}
use Rattle.if1_graph.specs.declared.graph.Unit1.{Unit1}
use Rattle.if1_graph.specs.Tables.{◌>>=◌}
use Rattle.if1_graph.specs.Types.{params_at}

abbrev pub function_in : List Graph → ℕ → Option Graph
function_in gs number = find (λ g. (out-Graph g).number == number) gs

abbrev pub params_in : List TypeEntry → List Graph → ℕ → Option (List Ty)
params_in ts gs number = function_in gs number >>= λ g. params_at ts (out-Graph g).fun

-- the function of a number; in a formed unit no two have one number
abbrev pub function_of : Unit1 → ℕ → Option Graph
function_of u number = function_in u.graphs number

-- the types of a function's arguments, with the names of fields and tags
abbrev pub params_of : Unit1 → ℕ → Option (List Ty)
params_of u number = params_in u.types u.graphs number
