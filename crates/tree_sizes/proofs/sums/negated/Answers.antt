use Rattle.std.proofs.Common.{◌∙◌, sym, ap, refl}
use Rattle.std.specs.Prelude.{if◌then◌else◌}
use Rattle.lowered_sizes.specs.Counting.{joined, a_node, capped_sizes}
use Rattle.tree_sizes.proofs.Kept.{values-kept}
use Rattle.tree_sizes.proofs.sums.negated.Goals as goal

pub returns-then-is_not : goal.returns-then-is_not
returns-then-is_not c = λ s h.
    c.joined.ensures s (a_node s.values 1) h (c.node.ensures s.values 1 (values-kept c.args.sizes s h) refl)
    ∙ ap (λ b. capped_sizes (if b then joined s (a_node s.values 1) else s)) (sym c.if-is_not.true)
