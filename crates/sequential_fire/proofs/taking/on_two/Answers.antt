use Rattle.std.proofs.Common.{[], ◌∷◌, inl, sym, ap, ◌∙◌}
use Rattle.run_cells.specs.Held.{held}
use Rattle.sequential_fire.proofs.TakeSteps.{by-values, taken-gives}
use Rattle.sequential_fire.proofs.taking.on_two.Goals as goal

pub anew_two-requires : goal.anew_two-requires
anew_two-requires c = by-values c.args.row (inl c.requires)

pub returns-in_ok-second-in-Owned : goal.returns-in_ok-second-in-Owned
returns-in_ok-second-in-Owned c = λ k l is is2.
    taken-gives c.args.row (inl c.requires) c.args.shape c.in-Owned.boxed c.in_place.result (c.in_ok-second-in-Owned.second ∷ []) (l ∷ []) k (ap (λ v. v ∷ []) (c.in_ok-second-in-Owned.ensures l is2)) (sym (ap held c.in-Owned.is) ∙ is) c.in_place.ensures
