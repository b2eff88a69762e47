use Rattle.std.proofs.Common.{◌≡◌, None}
use Rattle.if1_read.specs.Known.{IsTableSound}
use Rattle.if1_read.proofs.Leading.{HasRun}
use Rattle.if1_read.proofs.Running.{HasTurned}
use Rattle.if1_read.proofs.machine.run.Given as goal

abbrev pub invariant-loop-line : goal.invariant-loop-line
invariant-loop-line l = record {
  clean : l.machine.first ≡ None → l.fn.first ≡ None;
  runs : HasRun l.known l.machine l.yielded;
  turned : IsTableSound l.known.table → HasTurned l.known l.fn.first l.machine l.yielded;
}
