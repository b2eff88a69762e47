use Rattle.std.proofs.Common.{◌≡◌, ◌≤◌, length, arith, rules}
use Rattle.graph_meaning.specs.NodeValues.{masked}
use Rattle.node_ops.proofs.Listing.{masked-end}
use Rattle.node_ops.proofs.folds.fold_masked.Goals as goal

pub returns : goal.returns
returns c =
    let masks = c.args.masks.now in
    let past : length masks ≤ c.loop-mask.mask-index = omega arith in
    let cells : c.loop-mask.clause.cells ≡ masked c.args.items masks =
    masked-end c.loop-mask.clause.cells (masked c.args.items masks) c.loop-mask.values masks c.loop-mask.mask-index past c.loop-mask.invariant.cells in
    search (rules, cells)
