use Rattle.std.proofs.Common.{◌≡◌, sym, ap, ◌∙◌}
use Rattle.if1_types.specs.Skips.{members_at}
use Rattle.if1_types.specs.Forms.{ty_form_at}
use Rattle.if1_arguments.specs.Numbered.{list_of}
use Rattle.if1_arguments.proofs.Reading.{types_counted}
use Rattle.if1_arguments.proofs.types.UnitTypesNumberedTypes.count_of.Goals as goal

pub returns : goal.returns
returns c =
    let sorts = c.args.self.now.sorts.now in
    c.length.ensures.members ∙ (ap (members_at sorts.shapes) (c.list_of.ensures ∙ ap list_of c.ty.ensures.form)
    ∙ sym (types_counted sorts.shapes sorts.counted (list_of (ty_form_at sorts.shapes c.args.number))))
