use Rattle.std.proofs.Common.{◌≡◌, ◌≤◌, length, drop}
use Rattle.lowering.specs.Types.{labelled, label_within}
use Rattle.type_labels.specs.Functions.{tuple_by}
use Rattle.type_labels.specs.Known.{AreKnown}
use Rattle.type_labels.proofs.table.Table.tuple_label.Given as goal

-- the members from this place on have their label
abbrev pub invariant-loop-at : goal.invariant-loop-at
invariant-loop-at l = record {
  made : tuple_by (label_within l.types l.names l.depth) (drop l.at l.tys) l.fn.self ≡ labelled l.rest l.self;
  inside : l.at ≤ length l.tys;
  known : AreKnown l.types l.names l.known l.self;
}

abbrev pub decreases-loop-at : goal.decreases-loop-at
decreases-loop-at l = l.at
