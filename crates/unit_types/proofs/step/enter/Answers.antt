use Rattle.std.proofs.Common.{ap, refl, ◌∙◌, ◌∷◌}
use Rattle.unit_types.proofs.Steps.{enters, leads_as}
use Rattle.unit_types.proofs.step.enter.Goals as goal

pub returns-clause-leads : goal.returns-clause-leads
returns-clause-leads c = λ known forms t is.
    leads_as c.inside.ensures (c.in_ok-push.ensures ∙ ap (λ o. o ∷ c.args.stack.now) c.opened.ensures) refl
    (enters known forms c.args.stack.now t c.args.line is c.args.opener)
