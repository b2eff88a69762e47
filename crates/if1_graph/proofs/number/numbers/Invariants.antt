use Rattle.std.proofs.Common.{◌≡◌, ◌-◌, drop, length}
use Rattle.if1_graph.specs.LineParts.{parts_of}
use Rattle.if1_graph.specs.Reading.{numbers_first}
use Rattle.if1_graph.specs.Places.{behind}
use Rattle.if1_graph.proofs.number.numbers.Given as goal

abbrev pub invariant-loop-part : goal.invariant-loop-part
invariant-loop-part l = numbers_first (parts_of (drop l.fn.from l.line)) ≡ behind l.all (numbers_first (parts_of (drop l.at l.line)))

abbrev pub decreases-loop-part : goal.decreases-loop-part
decreases-loop-part l = length l.line - l.at
