use Rattle.std.proofs.Common.{◌≡◌, ◌++◌, drop}
use Rattle.lowering.specs.Loops.{unless_places}
use Rattle.lower_nodes.proofs.loops.unless_places.Given as goal

abbrev pub invariant-loop-place : goal.invariant-loop-place
invariant-loop-place l = l.places ++ unless_places (drop l.place l.clauses) ≡ unless_places l.clauses
