use Rattle.std.proofs.Common.{◌≡◌, ◌-◌, drop, length}
use Rattle.if1_graph.specs.LineParts.{parts_of}
use Rattle.if1_graph.specs.Pragmas.{takes_in}
use Rattle.if1_graph.proofs.pragma.takes.Given as goal

abbrev pub invariant-loop-part : goal.invariant-loop-part
invariant-loop-part l = takes_in (parts_of (drop l.fn.from l.line)) ≡ takes_in (parts_of (drop l.at l.line))

abbrev pub decreases-loop-part : goal.decreases-loop-part
decreases-loop-part l = length l.line - l.at
