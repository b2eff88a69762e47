use Rattle.std.proofs.Common.{◌≡◌, ◌+◌, ◌*◌, length, Some, ◌++◌}
use Rattle.if1_graph.specs.Tables.{◌>>=◌}
use Rattle.if1_graph.specs.Types.{with_names, members, ty_within}
use Rattle.if1_types.specs.Tables.{is_line}
use Rattle.if1_types.proofs.params.+params.Given as goal

abbrev pub decreases-label_ty : goal.decreases-label_ty
decreases-label_ty l = 3 * l.depth

abbrev pub decreases-member_types : goal.decreases-member_types
decreases-member_types l = 3 * l.depth + 1

abbrev pub decreases-entry_ty : goal.decreases-entry_ty
decreases-entry_ty l = 3 * l.depth + 2

abbrev pub invariant-member_types-loop-label : goal.invariant-member_types-loop-label
invariant-member_types-loop-label l = record {
  left :
      members with_names (ty_within with_names l.depth l.types) (is_line l.line) l.types (length l.types) l.first
      ≡ (members with_names (ty_within with_names l.depth l.types) (is_line l.line) l.types l.left l.label >>= λ others. Some (l.fields ++ others));
}

abbrev pub decreases-member_types-loop-label : goal.decreases-member_types-loop-label
decreases-member_types-loop-label l = l.left
