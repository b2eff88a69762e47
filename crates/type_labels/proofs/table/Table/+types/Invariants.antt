use Rattle.std.proofs.Common.{◌≡◌, ◌+◌, ◌*◌, ◌≤◌, length, drop}
use Rattle.lowering.specs.Types.{labelled, named, members, label_within}
use Rattle.type_labels.specs.Known.{AreKnown}
use Rattle.type_labels.proofs.table.Table.+types.Given as goal

-- the members from this place on have their label
abbrev pub invariant-members_label-loop-at : goal.invariant-members_label-loop-at
invariant-members_label-loop-at l = record {
  made : members (label_within l.types l.names l.depth) l.code (named l.types l.names (drop l.at l.parts)) l.fn.self ≡ labelled l.rest l.self;
  inside : l.at ≤ length l.parts;
  known : AreKnown l.types l.names l.known l.self;
}

abbrev pub decreases-members_label-loop-at : goal.decreases-members_label-loop-at
decreases-members_label-loop-at l = l.at

abbrev pub decreases-label_within : goal.decreases-label_within
decreases-label_within l = 4 * l.depth

abbrev pub decreases-sequence_label : goal.decreases-sequence_label
decreases-sequence_label l = 4 * l.depth + 1

abbrev pub decreases-members_label : goal.decreases-members_label
decreases-members_label l = 4 * l.depth + 2

abbrev pub decreases-next_label : goal.decreases-next_label
decreases-next_label l = 4 * l.depth + 1

abbrev pub decreases-form_label : goal.decreases-form_label
decreases-form_label l = 4 * l.depth + 3
