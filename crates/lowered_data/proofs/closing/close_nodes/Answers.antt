use Rattle.std.proofs.Common.{◌<◌, length, arith}
use Rattle.lowered_data.specs.Parts.{node_closed}
use Rattle.lowered_data.proofs.Lists.{map_next}
use Rattle.lowered_data.proofs.closing.close_nodes.Goals as goal

pub loop-place-preserved : goal.loop-place-preserved
loop-place-preserved c =
    let xs = c.into_vec-items.result.items in
    let lt : c.loop-place.place < length xs = omega (arith, c.len-place-end.ensures, c.into_vec-items.result.ok.0) in
    map_next (node_closed c.args.keys.now c.args.first c.args.own) xs c.loop-place.items.items c.loop-place.place c.index_mut.result.now c.close_node.new.node lt c.loop-place.invariant
    c.index_mut.ensures.value c.in_ok-close_node.ensures
