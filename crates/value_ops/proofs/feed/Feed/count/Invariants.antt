use Rattle.std.proofs.Common.{◌≡◌, ◌+◌, ◌≤◌, drop, length}
use Rattle.value_ops.specs.Given.{values_in}
use Rattle.value_ops.proofs.feed.Feed.count.Given as goal

abbrev pub invariant-loop-port : goal.invariant-loop-port
invariant-loop-port l = record {
  few : l.count ≤ l.port;
  rest : l.count + length (values_in (drop l.port l.self-inside.operands.operands)) ≡ length l.fn.self;
}
