use Rattle.std.proofs.Common.{◌≡◌, None, replicate}
use Rattle.line_walk.proofs.ports.absents.Given as goal

abbrev pub invariant-loop-place : goal.invariant-loop-place
invariant-loop-place l = l.ports ≡ replicate l.place None
