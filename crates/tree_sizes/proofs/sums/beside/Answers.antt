use Rattle.std.proofs.Common.{◌+◌, ◌∙◌}
use Rattle.lowered_sizes.specs.Counting.{joined}
use Rattle.tree_sizes.proofs.Kept.{sum-kept, values-kept}
use Rattle.tree_sizes.proofs.sums.beside.Goals as goal

pub returns : goal.returns
returns c = λ a b e f.
    c.valued.ensures (a.values + b.values) (joined a b)
    (c.saturating_add.ensures ∙ sum-kept c.args.first.values c.args.next.values a.values b.values (values-kept c.args.first a e) (values-kept c.args.next b f)) (c.joined.ensures a b e f)
