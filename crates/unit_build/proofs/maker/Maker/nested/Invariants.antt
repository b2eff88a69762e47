use Rattle.std.proofs.Common.{◌≡◌, ◌+◌, ◌≤◌, suc, ◌++◌, length}
use Rattle.std.specs.Prelude.{All}
use Rattle.lowering.specs.TooMany.{most_graphs}
use Rattle.lowered_units.specs.Units.{inner_graphs}
use Rattle.unit_build.specs.Nesting.{listings}
use Rattle.unit_build.specs.Readiness.{IsReadyGraph}
use Rattle.unit_build.proofs.maker.Maker.nested.Given as goal

abbrev pub invariant-loop-graph : goal.invariant-loop-graph
invariant-loop-graph l = record {
  listed : inner_graphs l.self.program.now l.first l.graphs ++ listings l.made.items ≡ inner_graphs l.self.program.now l.first l.fn.graphs;
  few : l.first + length l.graphs ≤ suc most_graphs;
  ready : All (IsReadyGraph l.self.program.now) l.graphs;
}

abbrev pub decreases-loop-graph : goal.decreases-loop-graph
decreases-loop-graph l = length l.graphs
