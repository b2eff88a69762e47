use Rattle.if1_read.proofs.Levelwise.{HaveEnded}
use Rattle.if1_read.proofs.read.all_ended.Given as goal

abbrev pub invariant-loop-level : goal.invariant-loop-level
invariant-loop-level l = HaveEnded l.known l.yielded l.fn.first l.first
