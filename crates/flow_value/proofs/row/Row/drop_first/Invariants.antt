use Rattle.std.proofs.Common.{◌≡◌, ◌≤◌, drop}
use Rattle.flow_value.specs.Rows.{items_of, IsRow}
use Rattle.flow_value.proofs.row.Row.drop_first.Given as goal

abbrev pub invariant-loop-left : goal.invariant-loop-left
invariant-loop-left g l = record {
  row : IsRow l.self;
  within : l.left ≤ l.self.len;
  rest : drop l.left (items_of l.self) ≡ drop l.n (items_of l.fn.self);
}

abbrev pub decreases-loop-left : goal.decreases-loop-left
decreases-loop-left g l = l.left
