use Rattle.std.proofs.Common.{sym, arith}
use Rattle.flow_value.proofs.Rows.{is_packed, count_is}
use Rattle.flow_value.proofs.row.Row.into_vec.Goals as goal

pub attach-requires : goal.attach-requires
attach-requires g c =
    let r = c.args.self in let h = c.requires.0 in
    (c.new.ensures.capacity, sym h.block, is_packed r h c.requires.1, count_is r h, omega (arith, h.fits))
