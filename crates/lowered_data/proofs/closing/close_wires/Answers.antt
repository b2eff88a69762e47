use Rattle.std.proofs.Common.{◌<◌, length, arith}
use Rattle.lowering.specs.Graphs.{closed_wire}
use Rattle.lowered_data.proofs.Lists.{map_next}
use Rattle.lowered_data.proofs.closing.close_wires.Goals as goal

pub loop-place-preserved : goal.loop-place-preserved
loop-place-preserved c =
    let xs = c.into_vec-items.result.items in
    let lt : c.loop-place.place < length xs = omega (arith, c.len-place-end.ensures, c.into_vec-items.result.ok.0) in
    map_next (closed_wire c.args.keys.now c.args.first c.args.own) xs c.loop-place.items.items c.loop-place.place c.index_mut.result.now c.close_wire.new.w lt c.loop-place.invariant
    c.index_mut.ensures.value c.in_ok-close_wire.ensures
