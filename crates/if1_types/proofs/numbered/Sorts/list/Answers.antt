use Rattle.std.proofs.Common.{◌∙◌, sym, ap, subst}
use Rattle.if1_types.specs.Forms.{IsListForm, list_form_of}
use Rattle.if1_types.proofs.Views.{list_form_is}
use Rattle.if1_types.proofs.numbered.Sorts.list.Goals as goal

pub returns-in-Some-clause-of : goal.returns-in-Some-clause-of
returns-in-Some-clause-of c = λ ts is.
    subst (IsListForm c.args.self.now.shapes ts) (sym (c.list_form_of.ensures ∙ ap (λ k. list_form_of k c.in-Some.key.1 c.in-Some.key.2) c.kind_by.ensures))
    (list_form_is c.args.self.now.shapes c.args.number c.in-Some.key ts c.in-Some.ensures.of is)
