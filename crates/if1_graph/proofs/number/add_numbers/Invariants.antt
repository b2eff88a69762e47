use Rattle.std.proofs.Common.{◌≡◌, ◌≤◌, ◌-◌, [], drop, length}
use Rattle.if1_graph.specs.Numbers.{number_list, numerals, pieces}
use Rattle.if1_graph.specs.Places.{added}
use Rattle.if1_graph.proofs.number.add_numbers.Given as goal

abbrev pub invariant-loop-value : goal.invariant-loop-value
invariant-loop-value l = (l.from ≤ length l.text) × (added l.fn.all (number_list l.least l.text) ≡ added l.all (numerals l.least (pieces [] (drop l.from l.text))))

abbrev pub decreases-loop-value : goal.decreases-loop-value
decreases-loop-value l = length l.text - l.from
