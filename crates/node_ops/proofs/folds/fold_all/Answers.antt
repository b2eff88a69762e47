use Rattle.std.proofs.Common.{rules}
use Rattle.node_ops.proofs.Keeping.{all_gathered}
use Rattle.node_ops.proofs.folds.fold_all.Goals as goal

pub returns-in-Array : goal.returns-in-Array
returns-in-Array c =
    let all = all_gathered c.args.folding c.args.lo c.args.items in
    let array = c.in-Array.is in
    search (rules, all, array)

pub returns-in-Stream : goal.returns-in-Stream
returns-in-Stream c =
    let all = all_gathered c.args.folding c.args.lo c.args.items in
    let stream = c.in-Stream.is in
    search (rules, all, stream)
