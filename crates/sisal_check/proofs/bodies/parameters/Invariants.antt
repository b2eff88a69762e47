use Rattle.std.proofs.Common.{◌≡◌, ◌≤◌, ◌+◌, ◌-◌, drop, length}
use Rattle.typing_laws.specs.Bodies.{define_params}
use Rattle.sisal_check.proofs.bodies.parameters.Given as goal

-- what is still to be defined decides the whole
abbrev pub invariant-loop-place : goal.invariant-loop-place
invariant-loop-place l = record {
  rest : define_params (drop l.place l.xs) (drop l.place l.types) l.names ≡ define_params l.xs l.types l.fn.names;
  room : l.names.height + length l.xs ≤ 4294967295 + l.place;
}

abbrev pub decreases-loop-place : goal.decreases-loop-place
decreases-loop-place l = length l.xs - l.place
