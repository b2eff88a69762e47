use Rattle.std.proofs.Common.{[], ◌∷◌, refl}
use Rattle.lowered_sizes.specs.Counting.{joined, a_node}
use Rattle.tree_sizes.proofs.sums.choice.Goals as goal

pub returns : goal.returns
returns c = λ z y x k p q r h.
    let t = joined z (a_node z.values 1) in
    let last = c.inside.ensures y [] q (c.only.ensures 0 refl) in
    c.whole.ensures (t ∷ x ∷ y ∷ []) k (c.inside-3.ensures t (x ∷ y ∷ []) (c.negated-selector.ensures z p) (c.inside-2.ensures x (y ∷ []) r last)) h
