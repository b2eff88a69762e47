use Rattle.std.proofs.Common.{map}
use Rattle.graph_meaning.specs.Carried.{filled_from}
use Rattle.node_ops.specs.Operands.{plain}
use Rattle.place_ops.proofs.Taking.{below, below-behind, below-none, below-some}
use Rattle.place_ops.proofs.records.are_fields.Goals as goal
use Rattle.place_ops.proofs.records.are_fields.Goals.{in-Some+else-port-count, in-None}

pub loop-port-preserved : goal.loop-port-preserved
loop-port-preserved c =
    let ins = c.args.ins.now in
    let all = below c.args.count (filled_from 0 (map plain ins)) in
    let x = c.index-ins-port.result in
    elim c.match-ins-port.branch [
      | in-Some+else-port-count w ↦
          below-behind c.args.count c.loop-port.port x ins all c.loop-port-test.true c.index-ins-port.is
          (below-some c.args.count c.loop-port.port x w.in-Some.field-0 w.in-Some.is w.if-port-count.false) c.loop-port.invariant
      | in-None w ↦
          below-behind c.args.count c.loop-port.port x ins all c.loop-port-test.true c.index-ins-port.is
          (below-none c.args.count c.loop-port.port x w.in-None.is) c.loop-port.invariant
    ]
