use Rattle.std.proofs.Common.{◌-◌}
use Rattle.flow_value.proofs.Rows.{IsSliding}
use Rattle.flow_value.proofs.row.Row.settle.Given as goal

abbrev pub invariant-loop-place : goal.invariant-loop-place
invariant-loop-place g l = IsSliding l.fn.self l.self l.place

abbrev pub decreases-loop-place : goal.decreases-loop-place
decreases-loop-place g l = l.self.len - l.place
