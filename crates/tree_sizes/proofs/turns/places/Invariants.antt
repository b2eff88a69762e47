use Rattle.std.proofs.Common.{◌≤◌, length, drop}
use Rattle.lowering.specs.Loops.{unless_places}
use Rattle.tree_sizes.specs.Capped.{Keeps}
use Rattle.tree_sizes.proofs.turns.places.Given as goal

-- the values of the clauses from this place on are counted
abbrev pub invariant-loop-at : goal.invariant-loop-at
invariant-loop-at l = (l.at ≤ length l.clauses) × Keeps l.sum (length (unless_places (drop l.at l.clauses)))

abbrev pub decreases-loop-at : goal.decreases-loop-at
decreases-loop-at l = l.at
