use Rattle.std.proofs.Common.{ap, ◌∙◌, ◌∷◌, refl, sym}
use Rattle.name_scope.specs.Newest.{newest}
use Rattle.unit_types.specs.Placing.{plain}
use Rattle.unit_types.proofs.Finds.{some_plain, none_plain}
use Rattle.unit_types.proofs.type_names.TypeNames.define.Goals as goal

pub returns-then-is_some-clause-old : goal.returns-then-is_some-clause-old
returns-then-is_some-clause-old c = λ _. ((λ e. some_plain c.args.name c.self.inside.scope c.find.result c.find.ensures (cc) (ap (newest c.args.name) c.self.view_is ∙ e)), refl)

pub returns-clause-new : goal.returns-clause-new
returns-clause-new c = λ _. (
  ap (newest c.args.name) (sym c.self.view_is) ∙ none_plain c.args.name c.self.inside.scope c.find.result c.find.ensures (cc),
  ap plain c.in_ok-define.ensures.ok ∙ ap (λ l. (c.args.name, c.args.ty) ∷ l) c.self.view_is,
)
