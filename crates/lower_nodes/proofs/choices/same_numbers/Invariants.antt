use Rattle.std.proofs.Common.{◌≡◌, replicate}
use Rattle.lower_nodes.proofs.choices.same_numbers.Given as goal

abbrev pub invariant-loop-place : goal.invariant-loop-place
invariant-loop-place l = l.numbers ≡ replicate l.place l.number
