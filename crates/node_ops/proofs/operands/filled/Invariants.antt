use Rattle.std.proofs.Common.{◌≡◌, ◌++◌, map, drop}
use Rattle.flow_value.specs.Lent.{operand_value}
use Rattle.graph_meaning.specs.Carried.{filled_from}
use Rattle.node_ops.specs.Operands.{plain}
use Rattle.node_ops.proofs.operands.filled.Given as goal

abbrev pub invariant-loop-port : goal.invariant-loop-port
invariant-loop-port l =
    l.ports ++ filled_from l.port (map plain (map operand_value (drop l.port l.ins))) ≡ filled_from 0 (map plain (map operand_value l.ins))
