use Rattle.std.proofs.Common.{◌≡◌, ◌≤◌, drop, length}
use Rattle.value_names.specs.Scopes.{not_yet}
use Rattle.value_names.proofs.in_force.InForce.hide.Given as goal

abbrev pub invariant-loop-place : goal.invariant-loop-place
invariant-loop-place l = record {
  within : l.place ≤ length l.targets;
  hidden : l.self ≡ not_yet l.first (drop l.place l.targets) l.initial.self;
}

abbrev pub decreases-loop-place : goal.decreases-loop-place
decreases-loop-place l = l.place
