use Rattle.if1_components.proofs.Turned.{AreTurnedTo}
use Rattle.if1_components.proofs.backward.turned.Given as goal

abbrev pub invariant-loop-place : goal.invariant-loop-place
invariant-loop-place l = AreTurnedTo l.lists l.place l.back.items
