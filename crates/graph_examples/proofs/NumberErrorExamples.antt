-- Examples of nodes with fewer or more operands than their row has: all of them compute.
use Rattle.std.proofs.Common.{refl}
use Rattle.flow_value.specs.declared.value.Val.{Val}
use Rattle.graph_examples.specs.NumberErrors.{AreNumbersForeign}

pub foreign-numbers : (v : Val) → AreNumbersForeign v
foreign-numbers v =
    record {
      one_of_none = λ f. refl;
      one_of_two = λ f. refl;
      two_of_one = λ f. refl;
      two_of_three = λ f. refl;
      nothing_done_of_none = refl;
      nothing_done_of_two = refl;
      built_of_none = refl;
      stream_of_none = refl;
      filled_of_two = refl;
      filled_of_four = refl;
      element_of_one = refl;
      element_of_three = refl;
      replaced_of_two = refl;
      replaced_of_four = refl;
      added_to_of_one = refl;
      added_to_of_three = refl;
      added_below_of_one = refl;
      added_below_of_three = refl;
      without_last_of_none = refl;
      without_last_of_two = refl;
      without_first_of_none = refl;
      without_first_of_two = refl;
      set_of_one = refl;
      set_of_three = refl;
      adjusted_of_two = refl;
      adjusted_of_four = refl;
      lower_bound_of_none = refl;
      lower_bound_of_two = refl;
      last_index_of_none = refl;
      last_index_of_two = refl;
      size_of_none = refl;
      size_of_two = refl;
      emptiness_of_none = refl;
      emptiness_of_two = refl;
      first_of_none = refl;
      first_of_two = refl;
      rest_of_none = refl;
      rest_of_two = refl;
      row_of_none = refl;
      row_of_one = refl;
      fields_of_none = refl;
      fields_of_two = refl;
      fields_replaced_of_none = refl;
      range_of_one = refl;
      range_of_three = refl;
      scattered_of_none = refl;
      scattered_of_two = refl;
      gathered_of_none = refl;
      gathered_of_one = refl;
      gathered_of_four = refl;
      last_of_none = refl;
      last_of_three = refl;
      reduced_of_none = λ g. refl;
      reduced_of_one = λ g. refl;
      reduced_of_four = λ g. refl;
    }
