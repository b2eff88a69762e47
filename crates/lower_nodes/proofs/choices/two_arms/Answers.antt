use Rattle.std.proofs.Common.{◌∙◌, ◌++◌, ◌∷◌, [], List, ℕ, ap}
use Rattle.lower_nodes.specs.Rows.{first_or_second}
use Rattle.lower_nodes.proofs.Lists.{two_more}
use Rattle.lower_nodes.proofs.choices.two_arms.Goals as goal

pub loop-place-preserved : goal.loop-place-preserved
loop-place-preserved c =
    c.in_ok-add.ensures.ok
    ∙ ap (λ (k : List ℕ). k ++ c.either.result ∷ []) c.loop-place.invariant
    ∙ ap (λ (a : ℕ). first_or_second c.args.tag 0 c.loop-place.place ++ a ∷ []) c.either.ensures
    ∙ two_more c.args.tag c.loop-place.place
