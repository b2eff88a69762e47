use Rattle.std.proofs.Common.{◌≡◌, ◌≤◌, length, drop}
use Rattle.lower_nodes.proofs.Lists.{arms_by}
use Rattle.lower_nodes.proofs.choices.arms_of.Given as goal

abbrev pub invariant-loop-left : goal.invariant-loop-left
invariant-loop-left l = record {
  within : l.left ≤ length l.choices;
  arms : l.arms ≡ arms_by l.case.others (drop l.left l.choices) l.tags;
}

abbrev pub decreases-loop-left : goal.decreases-loop-left
decreases-loop-left l = l.left
