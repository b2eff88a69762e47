use Rattle.std.proofs.Common.{◌≡◌, length, Some, ◌++◌}
use Rattle.if1_graph.specs.Tables.{◌>>=◌}
use Rattle.if1_types.specs.Tables.{is_line}
use Rattle.if1_types.specs.Parameters.{member_labels}
use Rattle.if1_types.proofs.params.member_labels.Given as goal

abbrev pub invariant-loop-label : goal.invariant-loop-label
invariant-loop-label l = record {
  left :
      member_labels (is_line l.line) l.types (length l.types) l.first
      ≡ (member_labels (is_line l.line) l.types l.left l.label >>= λ others. Some (l.labels ++ others));
}

abbrev pub decreases-loop-label : goal.decreases-loop-label
decreases-loop-label l = l.left
