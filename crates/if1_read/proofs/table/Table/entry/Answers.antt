use Rattle.std.proofs.Common.{◌≡◌, slice_index, sym, ap, subst, ◌∙◌, arith}
use Rattle.std.specs.List.{slice_get}
use Rattle.std.specs.List.Sorted.{IsStrictlyIncreasing}
use Rattle.if1_read.proofs.Labels.{found_by, away_by}
use Rattle.if1_read.proofs.table.Table.entry.Goals as goal

pub returns-in-Ok : goal.returns-in-Ok
returns-in-Ok c = λ sound.
    let at : slice_index c.as_slice.result.now c.in-Ok.place ≡ c.args.label = grind (arith, c.in-Ok.ensures.ok 0) in
    let is = c.as_slice.ensures ∙ sound.labels in
    c.item_at.ensures
    ∙ ap (λ ts. slice_get ts c.in-Ok.place) c.as_slice-in-Ok.ensures
    ∙ sym (found_by (λ e. e.label) c.as_slice.result.now c.args.self.now.types c.in-Ok.place c.args.label is (subst IsStrictlyIncreasing (sym is) sound.rising) c.in-Ok.ensures.bound at)

pub returns-in-Err : goal.returns-in-Err
returns-in-Err c = λ sound.
    let is = c.as_slice.ensures ∙ sound.labels in
    sym (away_by (λ e. e.label) c.as_slice.result.now c.args.self.now.types c.args.label c.in-Err.field-0 is (subst IsStrictlyIncreasing (sym is) sound.rising) c.in-Err.ensures.position)
