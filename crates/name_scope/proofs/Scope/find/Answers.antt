use Rattle.std.proofs.Common.{◌≡◌, ◌∙◌, sym, ap, Some, None, reverse, option_map, slice_get, get_or}
use Rattle.std.proofs.lemmas.List.{reverse-reverse}
use Rattle.name_scope.specs.Newest.{newest}
use Rattle.name_scope.specs.Chain.{place_of, definitions}
use Rattle.name_scope.proofs.Chains.{found, not_found}
use Rattle.name_scope.proofs.Scope.find.Goals as goal

pub returns-in-Some : goal.returns-in-Some
returns-in-Some g c =
    let place : place_of c.args.name (reverse c.self.inside.entries.items) ≡ Some c.in-Some.place =
    sym (c.self.invariant.placed c.args.name) ∙ ap (λ ps. get_or ps c.args.name None) (sym c.as_slice.ensures.value) ∙ sym c.in-Some.ensures in
    let is : newest c.args.name (definitions c.self.inside.entries.items) ≡ option_map (λ e. e.value) (slice_get (reverse (reverse c.self.inside.entries.items)) c.in-Some.place) =
    found c.args.name c.in-Some.place (reverse c.self.inside.entries.items) place in
    c.value_at.ensures
    ∙ ap (λ es. option_map (λ e. e.value) (slice_get es c.in-Some.place)) (c.as_slice-in-Some.ensures.value ∙ sym (reverse-reverse c.self.inside.entries.items))
    ∙ sym is ∙ ap (newest c.args.name) c.self.view_is

pub returns-in-None : goal.returns-in-None
returns-in-None g c =
    let place : place_of c.args.name (reverse c.self.inside.entries.items) ≡ None =
    sym (c.self.invariant.placed c.args.name) ∙ ap (λ ps. get_or ps c.args.name None) (sym c.as_slice.ensures.value) ∙ sym c.in-None.ensures in
    let is : newest c.args.name (definitions c.self.inside.entries.items) ≡ None = not_found c.args.name (reverse c.self.inside.entries.items) place in
    sym is ∙ ap (newest c.args.name) c.self.view_is
