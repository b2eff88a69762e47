use Rattle.std.proofs.Common.{◌≤◌, length, drop}
use Rattle.lowering.specs.TooMany.{header_ports}
use Rattle.tree_sizes.specs.Capped.{Keeps}
use Rattle.tree_sizes.proofs.program.headers.Given as goal

-- the functions from this place on are counted
abbrev pub invariant-loop-at : goal.invariant-loop-at
invariant-loop-at l = (l.at ≤ length l.functions) × Keeps l.sum (header_ports (drop l.at l.functions))

abbrev pub decreases-loop-at : goal.decreases-loop-at
decreases-loop-at l = l.at
