use Rattle.std.proofs.Common.{◌∙◌, Some, length, sym, ap, subst}
use Rattle.if1_types.specs.Forms.{IsSortForm}
use Rattle.if1_ports.specs.declared.outline.Outline.TheVariants.{Function}
use Rattle.if1_ports.specs.Outlines.{outline_of}
use Rattle.if1_ports.proofs.outlines.sort_outline.Goals as goal

pub returns-in-Value : goal.returns-in-Value
returns-in-Value c = λ s h.
    let r = subst (IsSortForm c.args.sorts.now.shapes s) c.in-Value.is h in
    c.type_outline.ensures r.0 (c.ty.ensures.of r.0 r.2) ∙ sym (ap (λ s. outline_of (Some s)) r.1)

pub returns-in-Function : goal.returns-in-Function
returns-in-Function c = λ s h.
    let r = subst (IsSortForm c.args.sorts.now.shapes s) c.in-Function.is h in
    ap (λ n. Function n c.length-in-Function.result) (c.length.ensures.of r.0 r.3) ∙ ap (Function (length r.0)) (c.length-in-Function.ensures.of r.1 r.4)
    ∙ sym (ap (λ s. outline_of (Some s)) r.2)

pub returns-in-Multiple : goal.returns-in-Multiple
returns-in-Multiple c = λ s h.
    let r = subst (IsSortForm c.args.sorts.now.shapes s) c.in-Multiple.is h in
    sym (ap (λ s. outline_of (Some s)) r.1)

pub returns-in-Nothing : goal.returns-in-Nothing
returns-in-Nothing c = λ s h. absurd (subst (IsSortForm c.args.sorts.now.shapes s) c.in-Nothing.is h)
