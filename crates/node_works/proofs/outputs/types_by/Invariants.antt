use Rattle.std.proofs.Common.{◌≡◌, ◌≤◌, drop, length, map}
use Rattle.node_works.specs.Tables.{first_leaving}
use Rattle.node_works.proofs.outputs.types_by.Given as goal

abbrev pub decreases-loop-index : goal.decreases-loop-index
decreases-loop-index l = l.index

abbrev pub invariant-loop-index : goal.invariant-loop-index
invariant-loop-index l =
    record {
      inside : l.index ≤ length l.edges;
      types : l.types ≡ map (first_leaving (drop l.index l.edges)) l.labels;
    }
