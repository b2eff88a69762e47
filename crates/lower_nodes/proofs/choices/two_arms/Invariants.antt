use Rattle.std.proofs.Common.{◌≡◌}
use Rattle.lower_nodes.specs.Rows.{first_or_second}
use Rattle.lower_nodes.proofs.choices.two_arms.Given as goal

abbrev pub invariant-loop-place : goal.invariant-loop-place
invariant-loop-place l = l.arms ≡ first_or_second l.tag 0 l.place
