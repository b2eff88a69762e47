use Rattle.std.proofs.Common.{◌≡◌, ◌≤◌, ◌+◌, ◌-◌, drop, length}
use Rattle.value_names.specs.Scopes.{define_all}
use Rattle.value_names.proofs.in_force.InForce.define_all.Given as goal

-- what is still to be defined decides the whole, and there is room for its levels
abbrev pub invariant-loop-place : goal.invariant-loop-place
invariant-loop-place l = record {
  room : l.self.height + (length l.names - l.place) ≤ 4294967295;
  rest : define_all (drop l.place l.names) (drop l.place l.types) l.self ≡ define_all l.names l.types l.initial.self;
}

abbrev pub decreases-loop-place : goal.decreases-loop-place
decreases-loop-place l = length l.names - l.place
