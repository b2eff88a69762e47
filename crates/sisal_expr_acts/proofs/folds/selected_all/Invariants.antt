use Rattle.std.proofs.Common.{◌≡◌, fold, length}
use Rattle.sisal_grammar.specs.Acts.{selected}
use Rattle.sisal_expr_acts.proofs.folds.selected_all.Given as goal

abbrev pub invariant-loop-index : goal.invariant-loop-index
invariant-loop-index l = fold selected l.element l.rest ≡ fold selected l.initial.element l.initial.rest

abbrev pub decreases-loop-index : goal.decreases-loop-index
decreases-loop-index l = length l.rest
