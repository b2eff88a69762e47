use Rattle.std.proofs.Common.{◌≡◌, ◌++◌, length}
use Rattle.node_ops.specs.Multiples.{each_kept}
use Rattle.node_ops.proofs.folds.fold_each.Given as goal

abbrev pub invariant-loop-value : goal.invariant-loop-value
invariant-loop-value l = record {
  cells : l.clause.cells ++ each_kept l.values ≡ each_kept l.fn.items;
  folding : l.clause.folding ≡ l.fn.folding;
}

abbrev pub decreases-loop-value : goal.decreases-loop-value
decreases-loop-value l = length l.values
