use Rattle.std.proofs.Common.{◌≡◌, ◌-◌, ap, ◌∙◌, drop, length, Some, None}
use Rattle.name_scope.specs.Newest.{newest}
use Rattle.unit_types.specs.Placing.{known_in}
use Rattle.unit_types.proofs.Finds.{find_known}
use Rattle.unit_types.proofs.type_names.TypeNames.find.Goals as goal

pub returns-in-Some : goal.returns-in-Some
returns-in-Some c =
    let e : Some c.in-Some.definition ≡ newest c.args.name c.self.inside.scope = cc in
    c.known_type.ensures
    ∙ ap (λ o. known_in o c.args.known) e
    ∙ find_known c.args.name c.args.known c.self.inside.scope c.self.invariant
    ∙ ap (λ l. newest c.args.name (drop (length l - c.args.known) l)) c.self.view_is

pub returns-in-None : goal.returns-in-None
returns-in-None c =
    let e : None ≡ newest c.args.name c.self.inside.scope = cc in
    ap (λ o. known_in o c.args.known) e
    ∙ find_known c.args.name c.args.known c.self.inside.scope c.self.invariant
    ∙ ap (λ l. newest c.args.name (drop (length l - c.args.known) l)) c.self.view_is
