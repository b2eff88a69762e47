use Rattle.std.proofs.Common.{◌≡◌, drop}
use Rattle.mean_call.specs.Known.{known_onto, known_types}
use Rattle.mean_call.proofs.known.known_types.Given as goal

-- the types that are left decide
abbrev pub invariant-loop-place : goal.invariant-loop-place
invariant-loop-place l = known_onto l.fn.names l.known (drop l.place l.fn.types) ≡ known_types l.fn.names l.fn.types
