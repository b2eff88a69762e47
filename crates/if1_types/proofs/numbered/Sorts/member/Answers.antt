use Rattle.std.proofs.Common.{◌≡◌, ◌-◌, ◌∙◌, sym, ap, arith}
use Rattle.if1_types.specs.Forms.{list_form_at}
use Rattle.if1_types.specs.Skips.{first_in, end_at, members_at}
use Rattle.if1_types.proofs.Skipping.{member_end, no_member}
use Rattle.if1_types.proofs.numbered.Sorts.member.Goals as goal

pub returns-then-place-members-clause-is : goal.returns-then-place-members-clause-is
returns-then-place-members-clause-is c =
    let ks = c.args.self.now.shapes in
    let members = c.length-members.ensures.members in
    sym (no_member ks c.args.self.now.counted c.args.list c.args.place (omega (arith, members, c.if-place-members.true)))

pub returns-clause-is : goal.returns-clause-is
returns-clause-is c =
    let ks = c.args.self.now.shapes in
    let members = c.length-members.ensures.members in
    let place : members_at ks c.args.list - (c.length-members.result - c.args.place) ≡ c.args.place = omega (arith, members, c.if-place-members.false) in
    c.first_of.ensures ∙ ap first_in c.list.ensures.form
    ∙ ap (λ n. first_in (list_form_at ks n)) (c.end_with-end.ensures ∙ ap (λ d. end_at ks d c.args.list) place)
    ∙ sym (member_end ks c.args.place c.args.list)
