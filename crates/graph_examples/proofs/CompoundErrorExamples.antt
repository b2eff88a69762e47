-- Examples of compound nodes that fail, and of errors that they pass on: each result is computed at a depth of 20.
use Rattle.std.proofs.Common.{refl}
use Rattle.flow_value.specs.declared.cause.Cause.{Cause}
use Rattle.graph_examples.specs.CompoundErrors.{ArePartsForeign, AreCallsPassing, AreSelectsFailing, AreTagCasesFailing, AreLoopsFailing, AreForAllsFailing}
use Rattle.graph_examples.proofs.Outs.{lists, out-int, out-error, out-union}

pub foreign-parts : ArePartsForeign
foreign-parts =
    record {
      selector_of_none = (20, refl);
      selector_of_two = (20, refl);
      first_test_of_none = (20, refl);
      first_test_of_two = (20, refl);
      last_test_of_none = (20, refl);
      last_test_of_two = (20, refl);
      no_input = (20, refl);
    }

pub calls-passing : AreCallsPassing
calls-passing c = (20, refl)

pub selects-failing : (c d : Cause) → AreSelectsFailing c d
selects-failing c d =
    record {
      number_above = (20, refl);
      number_below = (20, refl);
      selector_error = (20, refl);
      selector_boolean = (20, refl);
      input_unused = (20, refl);
      input_used = (20, refl);
    }

pub tag-cases-failing : (c d : Cause) → AreTagCasesFailing c d
tag-cases-failing c d =
    record {
      union_error = (20, simp out-error);
      no_union = (20, simp out-int);
      no_arm = (20, simp out-union);
      content_used = (20, simp out-union);
      content_unused = (20, simp out-union);
      input_used = (20, simp out-union);
    }

pub loops-failing : (c d : Cause) → AreLoopsFailing c d
loops-failing c d =
    record {
      first_test_error = (20, refl);
      first_test_integer = (20, refl);
      last_test_error = (20, refl);
      last_test_integer = (20, refl);
      test_of_an_error = (20, refl);
      first_value_error = (20, refl);
      next_value_error = (20, refl);
    }

pub for-alls-failing : (c d : Cause) → AreForAllsFailing c d
for-alls-failing c d =
    record {
      first_multiple = (20, refl);
      second_multiple = (20, refl);
      too_many = (20, refl);
      lengths_differ = (20, refl);
      one_has_none = (20, refl);
      scattered_error = (2, simp out-error);
      no_list = (2, simp out-int);
      element_error = (4, simp lists);
    }
