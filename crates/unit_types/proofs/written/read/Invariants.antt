use Rattle.std.proofs.Common.{drop, length, ◌-◌}
use Rattle.unit_types.specs.Reached.{IsReading}
use Rattle.unit_types.proofs.written.read.Given as goal

-- the tokens so far are read
abbrev pub invariant-loop-token : goal.invariant-loop-token
invariant-loop-token l = IsReading (drop (length l.named - l.known) l.named) l.fn.types l.types l.tokens l.token-index l.next l.stack
