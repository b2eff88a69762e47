use Rattle.std.proofs.Common.{[], ◌∷◌, inl, sym, ap, ◌∙◌}
use Rattle.run_cells.specs.Held.{held}
use Rattle.sequential.specs.Firing.{value_operand}
use Rattle.sequential_fire.proofs.TakeSteps.{by-values, taken-gives}
use Rattle.sequential_fire.proofs.taking.on_three.Goals as goal

pub anew_three-requires : goal.anew_three-requires
anew_three-requires c = by-values c.args.row (inl c.requires)

pub returns-in_ok-third-in-Owned : goal.returns-in_ok-third-in-Owned
returns-in_ok-third-in-Owned c = λ k l m is is2 is3.
    taken-gives c.args.row (inl c.requires) c.args.shape c.in-Owned.boxed c.in_place.result (c.in_ok-second-in-Owned.second ∷ c.in_ok-third-in-Owned.third ∷ []) (l ∷ m ∷ []) k
    (ap (λ v. v ∷ c.in_ok-third-in-Owned.third ∷ []) (c.in_ok-second-in-Owned.ensures l is2) ∙ ap (λ v. value_operand l ∷ v ∷ []) (c.in_ok-third-in-Owned.ensures m is3)) (sym (ap held c.in-Owned.is) ∙ is) c.in_place.ensures
