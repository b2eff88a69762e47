use Rattle.std.proofs.Common.{◌≡◌, ℕ, List, take, bytes_eq, option_map}
use Rattle.indexmap.specs.IndexMap.{get_by}
use Rattle.if1_graph.specs.declared.graph.Graph.TheViews.{out-Graph}
use Rattle.if1_graph.specs.Formed.{function_named}
use Rattle.if1_types.specs.Tables.{number_at}
use Rattle.if1_typing.proofs.tables.callees_of.Given as goal

abbrev pub invariant-loop-graph : goal.invariant-loop-graph
invariant-loop-graph l =
    (text : List ℕ) → get_by (λ k. bytes_eq text k.items) l.callees
    ≡ option_map (λ g. number_at l.sorts.labels l.sorts.numbers (out-Graph g).fun) (function_named (take l.graph-index l.graphs) text)
