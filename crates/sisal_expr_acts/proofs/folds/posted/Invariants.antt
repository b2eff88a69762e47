use Rattle.std.proofs.Common.{◌≡◌, fold, length}
use Rattle.sisal_grammar.specs.Acts.{followed}
use Rattle.sisal_expr_acts.proofs.folds.posted.Given as goal

abbrev pub invariant-loop-selector : goal.invariant-loop-selector
invariant-loop-selector l = fold followed l.operand l.rest ≡ fold followed l.initial.operand l.initial.rest

abbrev pub decreases-loop-selector : goal.decreases-loop-selector
decreases-loop-selector l = length l.rest
