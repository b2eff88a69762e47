use Rattle.std.proofs.Common.{◌≡◌, ◌≤◌, ℕ, sym, ap, ◌∙◌, subst}
use Rattle.if1_types.specs.Skips.{member_at, members_at}
use Rattle.if1_types.specs.Forms.{ty_form_at}
use Rattle.if1_types.proofs.Skipping.{no_member}
use Rattle.if1_arguments.specs.Numbered.{list_of}
use Rattle.if1_arguments.proofs.Reading.{type_found}
use Rattle.if1_arguments.proofs.types.UnitTypesNumberedTypes.member_of.Goals as goal

pub returns-then-place-length : goal.returns-then-place-length
returns-then-place-length c =
    let sorts = c.args.self.now.sorts.now in
    let list = list_of (ty_form_at sorts.shapes c.args.number) in
    let size = c.length.ensures.members ∙ ap (members_at sorts.shapes) (c.list_of-list.ensures ∙ ap list_of c.ty.ensures.form) in
    let past : members_at sorts.shapes list ≤ c.args.place = subst (λ n. n ≤ c.args.place) size c.if-place-length.true in
    sym (type_found sorts.shapes sorts.counted list c.args.place ∙ no_member sorts.shapes sorts.counted list c.args.place past)

pub returns-in-Some : goal.returns-in-Some
returns-in-Some c =
    let sorts = c.args.self.now.sorts.now in
    let list = list_of (ty_form_at sorts.shapes c.args.number) in
    c.in-Some.ensures.is ∙ (ap (λ l. member_at sorts.shapes l c.args.place) (c.list_of-list.ensures ∙ ap list_of c.ty.ensures.form)
    ∙ sym (type_found sorts.shapes sorts.counted list c.args.place))

pub returns-in-None : goal.returns-in-None
returns-in-None c =
    let sorts = c.args.self.now.sorts.now in
    let list = list_of (ty_form_at sorts.shapes c.args.number) in
    c.in-None.ensures.is ∙ (ap (λ l. member_at sorts.shapes l c.args.place) (c.list_of-list.ensures ∙ ap list_of c.ty.ensures.form)
    ∙ sym (type_found sorts.shapes sorts.counted list c.args.place))
