use Rattle.std.proofs.Common.{◌≡◌, ◌+◌, ◌++◌, map, drop, length}
use Rattle.flow_value.specs.Lent.{operand_value}
use Rattle.node_ops.proofs.operands.listed.Given as goal

abbrev pub invariant-loop-port : goal.invariant-loop-port
invariant-loop-port l = record {
  all : l.given.operands ++ map operand_value (drop l.port l.ins) ≡ map operand_value l.fn.ins;
  room : l.given.room + l.port ≡ length l.ins;
}
