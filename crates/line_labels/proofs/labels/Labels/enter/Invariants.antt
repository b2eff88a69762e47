use Rattle.std.proofs.Common.{◌≡◌, ◌-◌, length}
use Rattle.line_labels.specs.Labels.{AreKept}
use Rattle.line_labels.proofs.labels.Labels.enter.Given as goal

-- those that have labels are entered
abbrev pub invariant-loop-self : goal.invariant-loop-self
invariant-loop-self l = record {
  kept : AreKept l.types l.names l.functions l.self;
  needs : l.self.needs ≡ l.fn.self.needs;
}

abbrev pub decreases-loop-self : goal.decreases-loop-self
decreases-loop-self l = length l.self.needs - length l.self.labels
