use Rattle.std.proofs.Common.{◌≡◌, ◌-◌, suc, [], drop, get_or, sym, ap, subst, ◌∙◌, arith}
use Rattle.std.proofs.lemmas.Result.{IfOk-weaker}
use Rattle.lowering.specs.Types.{entry, labelled, members, named, label_within}
use Rattle.std.proofs.Math.Seq.{drop-cons}
use Rattle.type_table.specs.declared.form.Member.{Member}
use Rattle.type_labels.proofs.Knowing.{found_again, known_enter, known_more}
use Rattle.type_labels.proofs.Steps.{one_deeper, needed}
use Rattle.type_labels.proofs.table.Table.+types.Goals as goal

pub members_label-returns-in-Err-clause-too_many : goal.members_label-returns-in-Err-clause-too_many
members_label-returns-in-Err-clause-too_many n c = λ is.
    let past = c.in-Err.ensures.too_many is in
    let parts = c.args.parts.now in
    let at = c.loop-at.at in
    let some = c.loop-at-test.true in
    let inv = c.loop-at.invariant in
    let inside = inv.inside in
    let d : Member = record { name = 0; ty = 0 } in
    let next : at ≡ suc (at - 1) = omega (arith, some) in
    let cons = drop-cons parts (at - 1) d (omega (arith, some, inside)) in
    let rest = subst (λ k. members (label_within c.args.types.now c.args.names.now c.args.depth) c.args.code (named c.args.types.now c.args.names.now (drop k parts)) c.args.self.now ≡ labelled c.loop-at.rest c.loop-at.self) next inv.made in
    let grown = needed c.args.types.now c.args.names.now c.args.depth c.args.code (at - 1) parts (get_or parts (at - 1) d) c.args.self.now (labelled c.loop-at.rest c.loop-at.self) cons rest in
    omega (arith, past, grown)

pub label_within-returns-in-Ok-clause-ok : goal.label_within-returns-in-Ok-clause-ok
label_within-returns-in-Ok-clause-ok t c =
    let later = c.form_label.new.self in
    let made = sym (one_deeper c.args.types.now c.args.names.now c.args.depth c.args.ty c.in-Some-form.form.now c.args.self.now c.if-depth-eq0.false (sym c.in-Some-form.ensures)) ∙ c.in-Ok.ensures.ok in
    IfOk-weaker c.kept.result _ _ (λ l is. made ∙ ap (λ x. labelled x later) (sym is)) c.kept.ensures.is

pub label_within-returns-in-Ok-clause-known : goal.label_within-returns-in-Ok-clause-known
label_within-returns-in-Ok-clause-known t c =
    let forms = c.args.types.now in
    let names = c.args.names.now in
    let later = c.form_label.new.self in
    let made = sym (one_deeper forms names c.args.depth c.args.ty c.in-Some-form.form.now c.args.self.now c.if-depth-eq0.false (sym c.in-Some-form.ensures)) ∙ c.in-Ok.ensures.ok in
    IfOk-weaker c.kept.result _ _
    (λ l more.
    known_more forms names c.form_label.new.known c.kept.new.known c.args.depth c.args.ty c.in-Ok.label later c.in-Ok.ensures.known
    (found_again forms names c.args.depth c.args.ty c.in-Ok.label c.args.self.now later made) more)
    c.kept.ensures.known

pub form_label-returns-in_ok-first-in-Record-clause-known : goal.form_label-returns-in_ok-first-in-Record-clause-known
form_label-returns-in_ok-first-in-Record-clause-known t c =
    IfOk-weaker c.over.result _ _
    (λ l made.
    known_enter c.args.types.now c.args.names.now c.members_label.new.known (entry 5 c.in_ok-first-in-Record.first 0 []) c.members_label.new.self c.over.new.self l c.in_ok-first-in-Record.ensures.known made)
    c.over.ensures.ok

pub form_label-returns-in_ok-first-in-Union-clause-known : goal.form_label-returns-in_ok-first-in-Union-clause-known
form_label-returns-in_ok-first-in-Union-clause-known t c =
    IfOk-weaker c.over-in-Union.result _ _
    (λ l made.
    known_enter c.args.types.now c.args.names.now c.members_label-in-Union.new.known (entry 9 c.in_ok-first-in-Union.first 0 []) c.members_label-in-Union.new.self c.over-in-Union.new.self l c.in_ok-first-in-Union.ensures.known made)
    c.over-in-Union.ensures.ok

pub next_label-returns-clause-known : goal.next_label-returns-clause-known
next_label-returns-clause-known t c =
    IfOk-weaker c.member.result _ _
    (λ l made.
    known_enter c.args.types.now c.args.names.now c.label_within.new.known (entry c.args.code c.in_ok-ty.ty c.args.rest (get_or c.args.names.now c.args.part.now.name [])) c.label_within.new.self c.member.new.self l c.in_ok-ty.ensures.known made)
    c.member.ensures.ok

pub sequence_label-returns-clause-known : goal.sequence_label-returns-clause-known
sequence_label-returns-clause-known t c =
    IfOk-weaker c.over.result _ _
    (λ l made.
    known_enter c.args.types.now c.args.names.now c.label_within.new.known (entry c.args.code c.in_ok-element.element 0 []) c.label_within.new.self c.over.new.self l c.in_ok-element.ensures.known made)
    c.over.ensures.ok
