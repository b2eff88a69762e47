use Rattle.std.proofs.Common.{◌≡◌, fold, length}
use Rattle.sisal_grammar.specs.Acts.{joined}
use Rattle.sisal_expr_acts.proofs.folds.chained.Given as goal

abbrev pub invariant-loop-operator : goal.invariant-loop-operator
invariant-loop-operator l = fold joined l.left l.rest ≡ fold joined l.initial.left l.initial.rest

abbrev pub decreases-loop-operator : goal.decreases-loop-operator
decreases-loop-operator l = length l.rest
