use Rattle.sequential.proofs.giving.row_goes.Given as goal

abbrev pub invariant-loop-v : goal.invariant-loop-v
invariant-loop-v l = Unit {0}

abbrev pub decreases-loop-v : goal.decreases-loop-v
decreases-loop-v l = goal.left-loop-v l
