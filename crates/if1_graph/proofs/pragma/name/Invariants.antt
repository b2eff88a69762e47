use Rattle.std.proofs.Common.{◌≡◌, ◌-◌, drop, length, []}
use Rattle.if1_graph.specs.LineParts.{parts_of}
use Rattle.if1_graph.specs.Pragmas.{name_after}
use Rattle.if1_graph.proofs.pragma.name.Given as goal

abbrev pub invariant-loop-part : goal.invariant-loop-part
invariant-loop-part l = name_after [] (parts_of (drop l.fn.from l.line)) ≡ name_after l.name (parts_of (drop l.at l.line))

abbrev pub decreases-loop-part : goal.decreases-loop-part
decreases-loop-part l = length l.line - l.at
