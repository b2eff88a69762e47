use Rattle.std.proofs.Common.{◌≡◌, ◌+◌, ◌≤◌, ◌++◌, length}
use Rattle.std.specs.Prelude.{◌^◌, All}
use Rattle.std.specs.Vec.Iter.{into_iter_items}
use Rattle.lowered_units.specs.Units.{edges_into}
use Rattle.unit_build.specs.Readiness.{IsReadyWire}
use Rattle.unit_build.proofs.maker.Maker.put_edges.Given as goal

abbrev pub invariant-loop-wire : goal.invariant-loop-wire
invariant-loop-wire l = record {
  edges :
      l.to ++ edges_into l.self.program.now l.node (l.first + l.before) (into_iter_items l.left)
      ≡ l.initial.to ++ edges_into l.self.program.now l.node l.first l.fn.wires;
  few : l.first + (l.before + length (into_iter_items l.left)) ≤ 2 ^ 32;
  ready : All (IsReadyWire l.self.program.now) (into_iter_items l.left);
}

abbrev pub decreases-loop-wire : goal.decreases-loop-wire
decreases-loop-wire l = length (into_iter_items l.left)
