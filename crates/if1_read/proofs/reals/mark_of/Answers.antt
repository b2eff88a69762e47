use Rattle.std.proofs.Common.{◌≡◌, arith, slice_index}
use Rattle.if1_read.proofs.Spreading.{mark_here, mark_past, mark_away}
use Rattle.if1_read.proofs.reals.mark_of.Goals as goal

pub returns-in-Some : goal.returns-in-Some
returns-in-Some c = λ up.
    let h = c.in-Some.ensures.lookup in
    let at : slice_index c.args.labels.now c.in-Ok.place ≡ c.args.label = grind (arith, c.in-Ok.ensures.ok 0) in
    mark_here c.args.labels.now c.args.marks.now c.in-Ok.place c.args.label c.in-Some.mark.now up c.in-Ok.ensures.bound at h.3.0 h.1

pub returns-in-None : goal.returns-in-None
returns-in-None c = λ up.
    let h = c.in-None.ensures.lookup in
    let at : slice_index c.args.labels.now c.in-Ok.place ≡ c.args.label = grind (arith, c.in-Ok.ensures.ok 0) in
    mark_past c.args.labels.now c.args.marks.now c.in-Ok.place c.args.label up c.in-Ok.ensures.bound at h.3

pub returns-in-Err : goal.returns-in-Err
returns-in-Err c = λ up. mark_away c.args.labels.now c.args.marks.now c.args.label c.in-Err.field-0 up c.in-Err.ensures.position
