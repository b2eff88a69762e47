use Rattle.std.proofs.Common.{refl}
use Rattle.unit_types.proofs.Steps.{names_one, names_behind, leads_as}
use Rattle.unit_types.proofs.step.add_name.Goals as goal

pub returns-clause-name :
    goal.returns-clause-name
returns-clause-name c = λ known forms.
    let e = c.in_ok-add_to_group-in-Id.ensures in
    leads_as refl e.3 e.2 (names_one known forms e.1 c.args.token.now c.in-Id.name e.0 c.in-Id.is)

pub returns-clause-behind :
    goal.returns-clause-behind
returns-clause-behind c = λ known forms.
    let e = c.in_ok-add_to_group-in-Id.ensures in
    leads_as refl e.3 e.2 (names_behind known forms e.1 c.args.token.now c.in-Id.name e.0 c.in-Id.is)
