use Rattle.std.proofs.Common.{◌≡◌, sym, ap, ◌∙◌, subst, Some}
use Rattle.std.specs.Option.{option_copied}
use Rattle.type_table.specs.Forms.{first_member}
use Rattle.type_table.specs.Tables.{members_if, members_at, member_at}
use Rattle.type_table.specs.Kept.{place_of}
use Rattle.type_table.proofs.Members.{IsNoted, named_first}
use Rattle.type_table.proofs.store.Store.member.Goals as goal

pub returns : goal.returns
returns c =
    let number = c.args.number in
    let name = c.args.name in
    let place = place_of c.self.inside.places number name in
    let there : place ≡ Some c.in_ok-place.field-0.now = sym c.get.ensures.value ∙ ap option_copied (c.in_ok-place.was {u = tt}) in
    let members : members_at c.args.self.now number ≡ c.members_of-members.result.now =
    ap members_if (sym c.form.ensures ∙ ap option_copied (c.in_ok-form.was {u = tt})) ∙ sym c.members_of-members.ensures in
    let at_number : IsNoted place (member_at c.args.self.now number name) = subst (λ fs. IsNoted place (member_at fs number name)) c.self.view_is (c.self.invariant.placed number name) in
    let noted : IsNoted place (first_member name 0 c.members_of-members.result.now) = subst (λ ms. IsNoted place (first_member name 0 ms)) members at_number in
    c.named_at.ensures ∙ named_first name _ _ place noted there ∙ ap (first_member name 0) (sym members)
