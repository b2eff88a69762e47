-- The graphs of a program: a graph for each function in the order of the text, and behind each the graphs inside of it. Its inputs are
-- the parameters; a function that another text has gives an error for each result (SISAL Language Reference Manual 1.2, programs).
use Rattle.std.specs.Prelude.{ℕ, suc, zero, List, [], ◌∷◌, map, get_or, slice_get, Option, Some, None}
use Rattle.if1_graph.specs.declared.op.Simple.TheVariants as simple
use Rattle.typed_tree.specs.Form.{Form}
use Rattle.typed_tree.specs.declared.expr.TypedExpr.{TypedExpr}
use Rattle.typed_tree.specs.declared.program.Function.{Function}
use Rattle.typed_tree.specs.declared.program.Program.{Program}
use Rattle.lowering.specs.declared.feed.Carried.TheVariants.{One}
use Rattle.lowering.specs.declared.graph.LoweredGraph.{LoweredGraph}
use Rattle.lowering.specs.declared.graph.Lowered.{Lowered}
use Rattle.lowering.specs.Graphs.{Lowering, new_graphs, numbers, closed_graphs}
use Rattle.lowering.specs.Operations.{Lowers, all_lowered, row_lowered}
use Rattle.lowering.specs.Loops.{own_inputs}
use Rattle.lowering.specs.Phrases.{lowers}

-- an error of this type
abbrev pub stub : ℕ → Lowers
stub t env = row_lowered simple.Error [] (t ∷ [])

module _ (forms : List Form) where
  abbrev pub bodies : Option (List TypedExpr) → List ℕ → List Lowers
  bodies None results = map stub results
  bodies (Some es) results = map (lowers forms) es

  abbrev pub function_lowered : Function → Lowering
  function_lowered f = all_lowered (bodies f.body f.results) (own_inputs 1 (map One f.params))

-- the graph of each function with those inside, by number from 1
abbrev pub functions_lowered : Program → List Lowered
functions_lowered p = new_graphs 1 (map (function_lowered p.types) p.functions)

-- all graphs, in the order of their numbers
abbrev pub graphs : Program → List LoweredGraph
graphs p = closed_graphs [] 0 0 (functions_lowered p)

-- the graph of a number, from 1
abbrev pub graph_at : Program → ℕ → Option LoweredGraph
graph_at p zero = None
graph_at p (suc q) = slice_get (graphs p) q

-- the number of the graph of a function, by the place of the function
abbrev pub number_of : Program → ℕ → ℕ
number_of p f = get_or (numbers 1 (functions_lowered p)) f 0
