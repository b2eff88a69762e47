-- Examples of errors at the ports of nodes, row by row.
use Rattle.std.proofs.Common.{List, refl}
use Rattle.flow_value.specs.declared.cause.Cause.{Cause}
use Rattle.flow_value.specs.declared.value.Val.{Val}
use Rattle.graph_examples.specs.StrictErrors.{AreScalarsStrict, AreListsStrict, AreRecordsStrict, AreGeneratorsStrict, AreFoldsStrict, AreErrorsPassed}
use Rattle.graph_examples.proofs.Outs.{lists, out-error, out-record}

pub scalars-strict : (c d : Cause) → AreScalarsStrict c d
scalars-strict c d =
    record {
      negative = refl;
      absolute = refl;
      other_boolean = refl;
      integer = refl;
      boolean = refl;
      character = refl;
      least_of_two = λ f. refl;
      second = λ f. refl;
      before_its_own = refl;
    }

pub lists-strict : (c d : Cause) (v : Val) → AreListsStrict c d v
lists-strict c d v =
    record {
      built = refl;
      built_stream = refl;
      filled = refl;
      filled_to = refl;
      element = refl;
      element_at = refl;
      replaced = refl;
      replaced_at = refl;
      added_to = refl;
      added_below = refl;
      without_last = refl;
      without_first = refl;
      set = refl;
      set_to = refl;
      adjusted = refl;
      adjusted_from = refl;
      adjusted_to = refl;
      lower_bound = refl;
      last_index = refl;
      size = refl;
      emptiness = refl;
      in_a_row = refl;
      second_in_a_row = refl;
      third_in_a_row = refl;
      first = refl;
      rest = refl;
    }

pub records-strict : (c d : Cause) → AreRecordsStrict c d
records-strict c d = record { each_field = refl; replaced = refl }

pub generators-strict : (c d : Cause) → AreGeneratorsStrict c d
generators-strict c d = record { range = refl; range_to = refl; scattered = simp out-error }

pub folds-strict : (c d : Cause) (vs : List Val) → AreFoldsStrict c d vs
folds-strict c d vs =
    record {
      gathered_from = refl;
      gathered = refl;
      gathered_by = refl;
      stream_gathered = refl;
      last = refl;
      last_by = refl;
      reduced = λ g r name e. rw e;
      reduced_by = λ g r name e. rw e;
    }

pub errors-passed : (c : Cause) → AreErrorsPassed c
errors-passed c =
    record {
      nothing_done = refl;
      is_error = refl;
      is_no_error = refl;
      built = refl;
      built_stream = refl;
      filled = refl;
      element = simp lists;
      replaced = simp lists;
      added_to = simp lists;
      added_to_stream = simp lists;
      added_below = simp lists;
      first = simp lists;
      fields_made = refl;
      union_made = refl;
      field = simp out-record;
      field_replaced = simp out-record;
      scattered = simp lists;
      gathered = refl;
      last = refl;
      dropped = λ g. refl;
    }
