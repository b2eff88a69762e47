use Rattle.std.proofs.Common.{◌≡◌, ℕ, List, take, bytes_eq}
use Rattle.indexmap.specs.IndexMap.{get_by}
use Rattle.node_works.specs.Tables.{callee_named}
use Rattle.node_works.proofs.functions.functions_of.Given as goal

abbrev pub invariant-loop-graph : goal.invariant-loop-graph
invariant-loop-graph l = (text : List ℕ) → get_by (λ k. bytes_eq text k.items) l.functions ≡ callee_named (take l.graph-index l.graphs) text
