use Rattle.std.proofs.Common.{◌≡◌, ◌+◌, ◌++◌}
use Rattle.flow_value.specs.Rows.{items_of, IsRow}
use Rattle.flow_value.proofs.row.Row.put_all.Given as goal

abbrev pub invariant-loop-more : goal.invariant-loop-more
invariant-loop-more g l = record {
  mine : IsRow l.self;
  theirs : IsRow l.more;
  all : items_of l.self ++ items_of l.more ≡ items_of l.fn.self ++ items_of l.fn.more;
  same : (l.self.first ≡ l.fn.self.first) × (l.self.room ≡ l.fn.self.room);
  count : l.self.len + l.more.len ≡ l.fn.self.len + l.fn.more.len;
}

abbrev pub decreases-loop-more : goal.decreases-loop-more
decreases-loop-more g l = l.more.len
