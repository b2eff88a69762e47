use Rattle.std.proofs.Common.{◌≡◌, ◌∙◌, suc, refl, sym, ap}
use Rattle.loop_folds.specs.declared.folding.Folding.TheVariants as folding
use Rattle.lowered_sizes.specs.Counting.{joined, a_node, capped_sizes}
use Rattle.lowered_sizes.specs.Forms.{fold_sized}
use Rattle.tree_sizes.proofs.Kept.{suc-kept}
use Rattle.tree_sizes.proofs.leaves.fold.Goals as goal

pub returns-then-is_limit : goal.returns-then-is_limit
returns-then-is_limit c = λ k h.
    let is : fold_sized c.args.is_limit c.args.folding k ≡ joined (a_node 1 1) (a_node (suc k) 1) = ap (λ f. fold_sized c.args.is_limit f k) c.in-Array.is ∙ ap (λ b. fold_sized b folding.Array k) c.if-is_limit.true in
    c.joined.ensures (a_node 1 1) (a_node (suc k) 1) (c.node.ensures 1 1 refl refl) (c.node-gather.ensures (suc k) 1 (c.saturating_add.ensures ∙ suc-kept c.args.multiples k h) refl) ∙ ap capped_sizes (sym is)
