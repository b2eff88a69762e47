use Rattle.std.proofs.Common.{◌≡◌, ◌++◌, ◌≤◌, ℕ, All, map, take}
use Rattle.if1_graph.specs.declared.graph.Unit1.{Unit1}
use Rattle.if1_graph.specs.Types.{sort_at}
use Rattle.if1_graph.specs.Units.{levels, most_levels}
use Rattle.if1_ports.specs.Outlines.{outline_of, types_in}
use Rattle.graph_inputs.specs.Inputs.{inputs_of}
use Rattle.graph_inputs.specs.Walks.{function_places}
use Rattle.graph_inputs.proofs.walk.add_functions.Given as goal

abbrev pub invariant-loop-graph : goal.invariant-loop-graph
invariant-loop-graph l = (u : Unit1) → ((label : ℕ) → types_in l.types label ≡ outline_of (sort_at u.types label)) → All (λ g. levels g ≤ most_levels) l.graphs → l.all ≡ l.fn.all ++ map (inputs_of u) (function_places 0 (take l.graph-index l.graphs))
