use Rattle.std.proofs.Common.{◌∙◌, sym, ap, subst}
use Rattle.if1_types.specs.Forms.{IsTyForm, ty_form_of}
use Rattle.if1_types.proofs.Views.{ty_form_is}
use Rattle.if1_types.proofs.numbered.Sorts.ty.Goals as goal

pub returns-in-Some-clause-of : goal.returns-in-Some-clause-of
returns-in-Some-clause-of c = λ t is.
    subst (IsTyForm c.args.self.now.shapes t) (sym (c.ty_form_of.ensures ∙ ap (λ k. ty_form_of k c.in-Some.key.1) c.kind_by.ensures))
    (ty_form_is c.args.self.now.shapes c.args.number c.in-Some.key t c.in-Some.ensures.of is)
