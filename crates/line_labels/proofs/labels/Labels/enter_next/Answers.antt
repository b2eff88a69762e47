use Rattle.std.proofs.Common.{sym, ap, ◌∙◌, slice_get, arith}
use Rattle.line_labels.proofs.Kept.{next-needed, next-kept}
use Rattle.line_labels.proofs.labels.Labels.enter_next.Goals as goal

pub returns-in-Err-clause-too_many : goal.returns-in-Err-clause-too_many
returns-in-Err-clause-too_many c = λ is.
    let l = c.args.self.now in
    let there = ap (slice_get l.needs) (sym c.len.ensures) ∙ sym c.in-Some.ensures in
    let past = c.in-Err.ensures.too_many is in
    let grown = next-needed c.args.types.now c.args.names.now c.args.functions.now l c.in-Some.carried c.requires.kept there in
    omega (arith, past, grown)

pub returns-in_ok-keep-in-Ok-clause-kept : goal.returns-in_ok-keep-in-Ok-clause-kept
returns-in_ok-keep-in-Ok-clause-kept c =
    let l = c.args.self.now in
    let there = ap (slice_get l.needs) (sym c.len.ensures) ∙ sym c.in-Some.ensures in
    next-kept c.args.types.now c.args.names.now c.args.functions.now l c.in-Some.carried c.in-Ok.label c.carried_label.new.self c.carried_label.new.known c.requires.kept there c.requires.some c.in-Ok.ensures.ok c.in-Ok.ensures.known
    c.keep.new.self c.in_ok-keep-in-Ok.ensures.needs c.in_ok-keep-in-Ok.ensures.labels c.in_ok-keep-in-Ok.ensures.table c.in_ok-keep-in-Ok.ensures.known
