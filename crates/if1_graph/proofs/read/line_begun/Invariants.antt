use Rattle.std.proofs.Common.{◌≡◌, ◌-◌, drop, length}
use Rattle.if1_graph.specs.Reading.{line_begun}
use Rattle.if1_graph.proofs.read.line_begun.Given as goal

abbrev pub invariant-loop-at : goal.invariant-loop-at
invariant-loop-at l = line_begun (drop l.fn.from l.line) ≡ line_begun (drop l.at l.line)

abbrev pub decreases-loop-at : goal.decreases-loop-at
decreases-loop-at l = length l.line - l.at
