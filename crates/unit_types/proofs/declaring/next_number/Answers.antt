use Rattle.std.proofs.Common.{◌<◌, ◌^◌, length, subst, sym, w32}
use Rattle.std.proofs.Math.Facts.{Fits-of_lt}
use Rattle.unit_types.proofs.Counted.{one_more}
use Rattle.unit_types.proofs.declaring.next_number.Goals as goal

pub overflow_cast-result : goal.overflow_cast-result
overflow_cast-result c =
    let d = c.args.declaring.now in
    let few : length d.functions < 2 ^ 32 = one_more d.functions d.numbers d.counted c.args.name c.requires c.ranges.name.fits in
    let small : c.len.result < 2 ^ 32 = subst (λ n. n < 2 ^ 32) (sym c.len.ensures) few in
    Fits-of_lt {w = w32} small
