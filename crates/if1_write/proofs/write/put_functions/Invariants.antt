use Rattle.std.proofs.Common.{◌≡◌, ◌++◌, drop}
use Rattle.std.specs.List.{flat_map}
use Rattle.if1_write.specs.Texts.{function_text}
use Rattle.if1_write.proofs.write.put_functions.Given as goal

abbrev pub invariant-loop-graph : goal.invariant-loop-graph
invariant-loop-graph l = l.to ++ flat_map function_text (drop l.graph-index l.graphs) ≡ l.initial.to ++ flat_map function_text l.graphs
