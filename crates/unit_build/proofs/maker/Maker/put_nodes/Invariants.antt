use Rattle.std.proofs.Common.{◌≡◌, ◌+◌, ◌≤◌, suc, [], ◌++◌, length}
use Rattle.std.specs.Prelude.{All}
use Rattle.std.specs.Vec.Iter.{into_iter_items}
use Rattle.lowering.specs.TooMany.{most_nodes}
use Rattle.lowered_units.specs.Units.{listed_nodes, edges_of}
use Rattle.unit_build.specs.Nesting.{listed, parts, Hold}
use Rattle.unit_build.specs.Readiness.{IsReadyNode}
use Rattle.unit_build.proofs.maker.Maker.put_nodes.Given as goal

abbrev pub invariant-loop-node : goal.invariant-loop-node
invariant-loop-node l = record {
  hold : Hold (listed_nodes l.label (into_iter_items l.left)) l.made.items;
  nodes : listed l.body.nodes ++ listed_nodes l.label (into_iter_items l.left) ≡ listed_nodes 1 l.fn.nodes;
  inside : parts l.body.nodes ++ l.made.items ≡ l.initial.made.items;
  edges : l.body.edges ++ edges_of l.self.program.now l.label (into_iter_items l.left) [] ≡ edges_of l.self.program.now 1 l.fn.nodes [];
  few : l.label + length (into_iter_items l.left) ≤ suc most_nodes;
  ready : All (IsReadyNode l.self.program.now) (into_iter_items l.left);
}

abbrev pub decreases-loop-node : goal.decreases-loop-node
decreases-loop-node l = length (into_iter_items l.left)
