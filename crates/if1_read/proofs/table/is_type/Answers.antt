use Rattle.std.proofs.Common.{◌≡◌, slice_index, arith}
use Rattle.if1_read.proofs.TypeLabels.{type_found, type_away}
use Rattle.if1_read.proofs.table.is_type.Goals as goal

pub returns-in-Ok : goal.returns-in-Ok
returns-in-Ok c = λ ts is up.
    let at : slice_index c.args.labels.now c.in-Ok.field-0 ≡ c.args.label = grind (arith, c.in-Ok.ensures.ok 0) in
    type_found c.args.labels.now ts c.in-Ok.field-0 c.args.label is up c.in-Ok.ensures.bound at

pub returns-in-Err : goal.returns-in-Err
returns-in-Err c = λ ts is up. type_away c.args.labels.now ts c.args.label c.in-Err.field-0 is up c.in-Err.ensures.position
