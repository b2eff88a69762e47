use Rattle.std.proofs.Common.{◌≡◌, ◌+◌, ◌-◌, drop, length}
use Rattle.value_names.specs.Scopes.{under_old}
use Rattle.value_names.proofs.in_force.InForce.bring_under_old.Given as goal

-- what still comes under `old` decides the whole
abbrev pub invariant-loop-place : goal.invariant-loop-place
invariant-loop-place l = record {
  level : l.level ≡ l.first + l.place;
  rest : under_old l.level (drop l.place l.names) (drop l.place l.types) l.self ≡ under_old l.first l.names l.types l.initial.self;
}

abbrev pub decreases-loop-place : goal.decreases-loop-place
decreases-loop-place l = length l.names - l.place
