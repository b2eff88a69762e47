use Rattle.std.proofs.Common.{◌≡◌, ◌≤◌, ◌+◌, ◌-◌}
use Rattle.if1_fits.specs.Views.{carried_at}
use Rattle.if1_fits.specs.Tests.{fields_fit}
use Rattle.if1_fits.proofs.wants.fields_fit.Given as goal

abbrev pub invariant-loop-left : goal.invariant-loop-left
invariant-loop-left l = record {
  within : l.left ≤ l.count;
  same :
      fields_fit l.sorts.shapes (carried_at l.sorts.labels l.sorts.numbers l.edges) l.count l.fields 1
      ≡ fields_fit l.sorts.shapes (carried_at l.sorts.labels l.sorts.numbers l.edges) l.left l.rest (l.count - l.left + 1);
}

abbrev pub decreases-loop-left : goal.decreases-loop-left
decreases-loop-left l = l.left
