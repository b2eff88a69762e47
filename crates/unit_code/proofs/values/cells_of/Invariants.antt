use Rattle.std.proofs.Common.{◌≡◌, ◌++◌, length, map}
use Rattle.graph_meaning.specs.Carried.{Value}
use Rattle.run_store.specs.Stored as stored
use Rattle.run_cells.specs.Held.{held}
use Rattle.unit_code.proofs.values.cells_of.Given as goal

abbrev pub invariant-loop-value : goal.invariant-loop-value
invariant-loop-value l = map held l.cells.items ++ map stored.Owns (map Value l.left) ≡ map stored.Owns (map Value l.fn.values)

abbrev pub decreases-loop-value : goal.decreases-loop-value
decreases-loop-value l = length l.left
