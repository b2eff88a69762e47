-- What a node has by the edges that lead into it, by number.
use Rattle.std.specs.Prelude.{ℕ, Bool, List, All, AllPairs, Option, Some, None, slice_get}
use Rattle.if1_graph.specs.declared.graph.Edge.{Edge}
use Rattle.if1_graph.specs.declared.graph.Graph.{Graph}
use Rattle.if1_graph.specs.declared.graph.Graph.TheViews.{out-Graph}
use Rattle.if1_graph.specs.declared.op.Reducer.{Reducer}
use Rattle.if1_graph.specs.declared.row.Want.{Want}
use Rattle.if1_graph.specs.Tables.{◌>>=◌}
use Rattle.if1_graph.specs.Ops.{reducer_at}
use Rattle.if1_graph.specs.Normal.{Precedes}
use Rattle.if1_graph.specs.Units.{edges_into}
use Rattle.if1_ports.specs.Fed.{first_of, text_by}
use Rattle.if1_fits.specs.Views.{carried_at}
use Rattle.if1_fits.specs.Tests.{fits_at}
use Rattle.if1_typing.specs.Tables.{Table}

-- the edges of each graph stand in order
abbrev pub AreOrdered : List Graph → Type 0
AreOrdered gs = All (λ g. AllPairs Precedes (out-Graph g).edges) gs

-- the number of what a port carries, 0 where nothing is carried
abbrev pub carried_in : Table → List Edge → ℕ → ℕ
carried_in t es port = carried_at t.labels t.numbers es port

abbrev pub callee_by : Table → Option (List ℕ) → ℕ
callee_by t None = 0
callee_by t (Some text) = t.callees text

-- the number of the type of the function, and the reduction, that the literal at port 1 names
abbrev pub callee_in : Table → List Edge → ℕ
callee_in t es = callee_by t (text_by (first_of es))

abbrev pub named_in : List Edge → Option Reducer
named_in es = text_by (first_of es) >>= reducer_at

-- a type is one that the table of simple nodes wants
abbrev pub fits_in : Table → List Edge → Want → ℕ → Bool
fits_in t es want n = fits_at t.keys (carried_in t es) (callee_in t es) (named_in es) want n

abbrev pub carried_out : Table → Option Graph → ℕ → ℕ
carried_out t None port = 0
carried_out t (Some g) port = carried_in t (edges_into g 0) port

-- the number of the result of a graph at a port
abbrev pub result_number : Table → List Graph → ℕ → ℕ → ℕ
result_number t gs k port = carried_out t (slice_get gs k) port
