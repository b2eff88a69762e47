use Rattle.std.proofs.Common.{◌≡◌, ◌≤◌, ◌-◌}
use Rattle.if1_types.specs.Skips.{end_at, members_at}
use Rattle.if1_types.proofs.numbered.Sorts.end_with.Given as goal

abbrev pub invariant-loop-members : goal.invariant-loop-members
invariant-loop-members l = record {
  count : l.members ≡ members_at l.self.shapes l.end;
  is : l.end ≡ end_at l.self.shapes (members_at l.self.shapes l.list - members_at l.self.shapes l.end) l.list;
  left : l.left ≤ l.members;
  within : l.members ≤ members_at l.self.shapes l.list;
}

abbrev pub decreases-loop-members : goal.decreases-loop-members
decreases-loop-members l = l.members
