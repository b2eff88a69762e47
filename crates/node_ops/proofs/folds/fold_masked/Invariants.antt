use Rattle.std.proofs.Common.{◌≡◌, ◌++◌, drop}
use Rattle.graph_meaning.specs.NodeValues.{masked}
use Rattle.node_ops.proofs.folds.fold_masked.Given as goal

abbrev pub invariant-loop-mask : goal.invariant-loop-mask
invariant-loop-mask l = record {
  cells : l.clause.cells ++ masked l.values (drop l.mask-index l.masks) ≡ masked l.fn.items l.masks;
  folding : l.clause.folding ≡ l.fn.folding;
}
