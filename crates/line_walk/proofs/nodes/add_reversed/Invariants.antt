use Rattle.std.proofs.Common.{◌≡◌, ◌≤◌, drop, length}
use Rattle.line_types.specs.Traces.{reversed}
use Rattle.line_labels.specs.Needs.{added}
use Rattle.line_walk.proofs.nodes.add_reversed.Given as goal

-- those behind this place are added
abbrev pub invariant-loop-at : goal.invariant-loop-at
invariant-loop-at l = (l.needs ≡ added l.fn.needs (reversed (drop l.at l.carried))) × (l.at ≤ length l.carried)

abbrev pub decreases-loop-at : goal.decreases-loop-at
decreases-loop-at l = l.at
