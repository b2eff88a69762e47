use Rattle.std.proofs.Common.{◌≡◌, ◌∙◌, map, sym, ap, subst}
use Rattle.std.proofs.lemmas.List.{length-map}
use Rattle.flow_value.specs.declared.ty.Ty.TheVariants as ty
use Rattle.flow_value.specs.declared.ty.Ty.TheViews.{out-Ty}
use Rattle.if1_types.specs.Forms.{IsTyForm}
use Rattle.if1_ports.specs.declared.outline.Outline.TheVariants.{Record, Union}
use Rattle.if1_ports.specs.Outlines.{ty_outline}
use Rattle.if1_ports.proofs.Known.{bool_out, char_out, int_out, null_out, array_out, stream_out, record_out, union_out}
use Rattle.if1_ports.proofs.outlines.type_outline.Goals as goal

pub returns-in-Boolean : goal.returns-in-Boolean
returns-in-Boolean c = λ t h.
    let e : t ≡ ty.Bool = subst (IsTyForm c.args.sorts.now.shapes t) c.in-Boolean.is h in
    sym (ap ty_outline (ap out-Ty e ∙ bool_out))

pub returns-in-Character : goal.returns-in-Character
returns-in-Character c = λ t h.
    let e : t ≡ ty.Char = subst (IsTyForm c.args.sorts.now.shapes t) c.in-Character.is h in
    sym (ap ty_outline (ap out-Ty e ∙ char_out))

pub returns-in-Integer : goal.returns-in-Integer
returns-in-Integer c = λ t h.
    let e : t ≡ ty.Int = subst (IsTyForm c.args.sorts.now.shapes t) c.in-Integer.is h in
    sym (ap ty_outline (ap out-Ty e ∙ int_out))

pub returns-in-Null : goal.returns-in-Null
returns-in-Null c = λ t h.
    let e : t ≡ ty.Null = subst (IsTyForm c.args.sorts.now.shapes t) c.in-Null.is h in
    sym (ap ty_outline (ap out-Ty e ∙ null_out))

pub returns-in-Array : goal.returns-in-Array
returns-in-Array c = λ t h.
    let r = subst (IsTyForm c.args.sorts.now.shapes t) c.in-Array.is h in
    sym (ap ty_outline (ap out-Ty r.1 ∙ array_out r.0))

pub returns-in-Stream : goal.returns-in-Stream
returns-in-Stream c = λ t h.
    let r = subst (IsTyForm c.args.sorts.now.shapes t) c.in-Stream.is h in
    sym (ap ty_outline (ap out-Ty r.1 ∙ stream_out r.0))

pub returns-in-Record : goal.returns-in-Record
returns-in-Record c = λ t h.
    let r = subst (IsTyForm c.args.sorts.now.shapes t) c.in-Record.is h in
    ap Record (c.length.ensures.of (map (λ m. m.1) r.0) r.2 ∙ length-map r.0 (λ m. m.1)) ∙ sym (ap ty_outline (ap out-Ty r.1 ∙ record_out r.0))

pub returns-in-Union : goal.returns-in-Union
returns-in-Union c = λ t h.
    let r = subst (IsTyForm c.args.sorts.now.shapes t) c.in-Union.is h in
    ap Union (c.length-in-Union.ensures.of (map (λ m. m.1) r.0) r.2 ∙ length-map r.0 (λ m. m.1)) ∙ sym (ap ty_outline (ap out-Ty r.1 ∙ union_out r.0))

pub returns-in-Nothing : goal.returns-in-Nothing
returns-in-Nothing c = λ t h. absurd (subst (IsTyForm c.args.sorts.now.shapes t) c.in-Nothing.is h)
