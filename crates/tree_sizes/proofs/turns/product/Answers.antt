use Rattle.std.proofs.Common.{[], ◌∷◌, refl}
use Rattle.lowered_sizes.specs.Forms.{returns_sized}
use Rattle.tree_sizes.proofs.Kept.{values-kept}
use Rattle.tree_sizes.proofs.turns.product.Goals as goal

pub returns : goal.returns
returns c = λ g b k p q h.
    let r = returns_sized c.args.is_limit c.args.clauses.now b.values k in
    let folds = c.returns-folds.ensures b.values k (values-kept c.args.body b q) h in
    let last = c.inside.ensures r [] folds (c.only.ensures 0 refl) in
    c.whole.ensures (g ∷ b ∷ r ∷ []) k (c.inside-3.ensures g (b ∷ r ∷ []) p (c.inside-2.ensures b (r ∷ []) q last)) h
