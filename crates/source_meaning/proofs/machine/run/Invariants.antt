use Rattle.std.proofs.Common.{◌≤◌}
use Rattle.meaning.specs.Timed.{Moves}
use Rattle.source_meaning.specs.Tasks.{outcome, fuel}
use Rattle.source_meaning.proofs.machine.run.Given as goal

abbrev pub invariant-loop-frame : goal.invariant-loop-frame
invariant-loop-frame l = record {
  moves : Moves (outcome l.fn.state l.program) (outcome l.state l.program);
  bound : l.fn.state.steps ≤ l.limit → l.state.steps ≤ l.limit;
}

abbrev pub decreases-loop-frame : goal.decreases-loop-frame
decreases-loop-frame l = fuel l.limit l.state
