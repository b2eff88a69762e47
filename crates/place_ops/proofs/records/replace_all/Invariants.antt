use Rattle.std.proofs.Common.{◌≡◌, map, drop}
use Rattle.value_ops.specs.Aggregates.{replaced}
use Rattle.value_ops.specs.Given.{values_in}
use Rattle.graph_meaning.specs.Carried.{filled_from}
use Rattle.node_ops.specs.Operands.{plain}
use Rattle.place_ops.proofs.records.replace_all.Given as goal

abbrev pub invariant-loop-port : goal.invariant-loop-port
invariant-loop-port l =
    replaced (filled_from l.port (map plain (drop l.port l.ins))) (values_in (drop l.port l.ins)) l.fields
    ≡ replaced (filled_from 0 (map plain l.fn.ins)) (values_in l.fn.ins) l.fn.fields
