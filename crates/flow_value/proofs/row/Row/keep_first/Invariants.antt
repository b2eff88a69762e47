use Rattle.std.proofs.Common.{◌≡◌, take}
use Rattle.flow_value.specs.Rows.{items_of, IsRow}
use Rattle.flow_value.proofs.row.Row.keep_first.Given as goal

abbrev pub invariant-loop-self : goal.invariant-loop-self
invariant-loop-self g l = record {
  row : IsRow l.self;
  kept : take l.n (items_of l.self) ≡ take l.n (items_of l.fn.self);
}

abbrev pub decreases-loop-self : goal.decreases-loop-self
decreases-loop-self g l = l.self.len
