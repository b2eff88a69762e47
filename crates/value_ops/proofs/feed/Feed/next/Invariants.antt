use Rattle.std.proofs.Common.{◌≡◌, drop, length}
use Rattle.value_ops.specs.Given.{values_in}
use Rattle.value_ops.proofs.feed.Feed.next.Given as goal

abbrev pub invariant-loop-port : goal.invariant-loop-port
invariant-loop-port l = record {
  place : l.self-inside.next ≡ l.port;
  ports : length l.self-inside.operands.operands ≡ l.port-end;
  rest : values_in (drop l.port l.self-inside.operands.operands) ≡ l.fn.self;
}
