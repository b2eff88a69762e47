use Rattle.std.proofs.Common.{◌≡◌, max, drop}
use Rattle.if1_graph.specs.Units.{greatest}
use Rattle.line_walk.proofs.ports.greatest.Given as goal

abbrev pub invariant-loop-place : goal.invariant-loop-place
invariant-loop-place l = max l.most (greatest (drop l.place-index l.places)) ≡ greatest l.places
