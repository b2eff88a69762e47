use Rattle.std.proofs.Common.{[], inl, refl, sym, ap, ◌∙◌}
use Rattle.run_cells.specs.Held.{held}
use Rattle.sequential_fire.proofs.TakeSteps.{by-values, taken-gives}
use Rattle.sequential_fire.proofs.taking.on_one.Goals as goal

pub anew_one-requires : goal.anew_one-requires
anew_one-requires c = by-values c.args.row (inl c.requires)

pub returns-in-Owned : goal.returns-in-Owned
returns-in-Owned c = λ k is. taken-gives c.args.row (inl c.requires) c.args.shape c.in-Owned.boxed c.in_place.result [] [] k refl (sym (ap held c.in-Owned.is) ∙ is) c.in_place.ensures
