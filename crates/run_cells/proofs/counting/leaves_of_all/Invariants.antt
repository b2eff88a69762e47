use Rattle.std.proofs.Common.{◌≡◌, take, min}
use Rattle.flow_value.specs.Leaves.{leaf_count_of_all}
use Rattle.run_cells.proofs.counting.leaves_of_all.Given as goal

abbrev pub invariant-loop-v : goal.invariant-loop-v
invariant-loop-v l = l.sum ≡ min (leaf_count_of_all (take l.v-index l.vs)) 18446744073709551615
