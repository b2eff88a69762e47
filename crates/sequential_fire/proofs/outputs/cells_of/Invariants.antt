use Rattle.std.proofs.Common.{◌≡◌, ◌++◌, map, length}
use Rattle.std.specs.Vec.Iter.{into_iter_items}
use Rattle.run_store.specs.Stored as stored
use Rattle.run_cells.specs.Held.{held}
use Rattle.sequential_fire.specs.Outputs.{carried_out}
use Rattle.sequential_fire.proofs.outputs.cells_of.Given as goal

abbrev pub invariant-loop-value : goal.invariant-loop-value
invariant-loop-value l = map held l.made.items ++ map stored.Owns (map (carried_out l.row) (into_iter_items l.values)) ≡ map stored.Owns (map (carried_out l.row) l.fn.outs)

abbrev pub decreases-loop-value : goal.decreases-loop-value
decreases-loop-value l = length (into_iter_items l.values)
