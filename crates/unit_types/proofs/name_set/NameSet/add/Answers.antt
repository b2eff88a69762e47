use Rattle.std.proofs.Common.{sym, subst, ◌∙◌, Contains}
use Rattle.typed_tree.specs.Scopes.{AreDistinct}
use Rattle.unit_types.proofs.Names.{any_contains, distinct_inserted, not_false}
use Rattle.unit_types.proofs.name_set.NameSet.add.Goals as goal

pub invariant_of-self-2 : goal.invariant_of-self-2
invariant_of-self-2 c = subst AreDistinct (sym c.in_ok-is_new.ensures.keys) (distinct_inserted c.args.name c.self.inside.set.keys c.self.invariant)

pub returns-clause-old : goal.returns-clause-old
returns-clause-old c = λ h. subst (λ l. Contains l c.args.name) c.self.view_is (any_contains c.args.name c.self.inside.set.keys (not_false _ (sym c.in_ok-is_new.ensures.added ∙ h)))
