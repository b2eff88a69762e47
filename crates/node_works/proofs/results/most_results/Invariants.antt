use Rattle.std.proofs.Common.{◌≡◌, max, drop}
use Rattle.if1_graph.specs.Ports.{most_results}
use Rattle.node_works.proofs.results.most_results.Given as goal

abbrev pub invariant-loop-i : goal.invariant-loop-i
invariant-loop-i l = max l.most (most_results (drop l.i l.graphs)) ≡ most_results (drop l.from l.graphs)
