use Rattle.std.proofs.Common.{◌≡◌, ◌≤◌, length, drop}
use Rattle.lower_nodes.proofs.Lists.{tags_by}
use Rattle.lower_nodes.proofs.choices.first_tags.Given as goal

abbrev pub invariant-loop-left : goal.invariant-loop-left
invariant-loop-left l = record {
  within : l.left ≤ length l.choices;
  tags : l.tags ≡ tags_by (drop l.left l.choices) l.arms;
}

abbrev pub decreases-loop-left : goal.decreases-loop-left
decreases-loop-left l = l.left
