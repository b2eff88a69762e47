-- Examples of the errors of generators and folds.
use Rattle.std.proofs.Common.{◌≡◌, ◌++◌, pos, List, [], ◌∷◌, map, None, refl, ap}
use Rattle.flow_value.specs.declared.value.Val.{Val}
use Rattle.loop_folds.specs.Clauses.{Cell, first_failure, kept_values}
use Rattle.loop_folds.specs.declared.masking.Keep.TheVariants.{Kept}
use Rattle.if1_graph.specs.declared.op.Grouping.{Grouping}
use Rattle.graph_examples.specs.FoldErrors.{AreGeneratorsSpoiled, AreGathersFailing, AreLastsFailing, AreReductionsFailing, AreElementsFailing, AreForeignElements}
use Rattle.graph_examples.proofs.Outs.{lists, out-int}
use Rattle.graph_examples.proofs.ListErrorExamples.{gives, array-too-long, stream-too-long, as-long}

pub generators-spoiled : AreGeneratorsSpoiled
generators-spoiled = record { range_too_long = refl; range_from_a_boolean = refl; range_to_a_boolean = refl; scattered_integer = simp out-int }

-- without a mask all is kept
abbrev kept : List Val → List Cell
kept vs = map (λ v. (v, Kept)) vs

none-failed : (vs : List Val) → first_failure (kept vs) ≡ None
none-failed [] = refl
none-failed (v ∷ vs) = none-failed vs

all-kept : (vs : List Val) → kept_values (kept vs) ≡ vs
all-kept [] = refl
all-kept (v ∷ vs) = ap (λ ws. v ∷ ws) (all-kept vs)

pub gathers-failing : AreGathersFailing
gathers-failing =
    record {
      too_many = λ vs e. rw (none-failed, all-kept) (gives (array-too-long (pos 1) vs e));
      too_many_for_a_stream = λ vs e. rw (none-failed, all-kept) (gives (stream-too-long vs e));
      past_the_word = refl;
      before_the_word = refl;
      mask_error = refl;
      first_mask_error = refl;
      stream_mask_error = refl;
      mask_of_integers = refl;
      from_a_boolean = refl;
      of_a_value = refl;
    }

pub lasts-failing : AreLastsFailing
lasts-failing = record { of_none = refl; of_none_kept = refl; mask_error = refl; mask_of_integers = refl; of_a_value = refl }

pub reductions-failing : (g : Grouping) → AreReductionsFailing g
reductions-failing g =
    record {
      sum_too_great = refl;
      sum_too_small = refl;
      product_too_great = refl;
      product_too_small = refl;
      least_of_none = refl;
      greatest_of_none = refl;
      least_of_none_kept = refl;
      greatest_of_none_kept = refl;
      arrays_too_long = λ lo from vs ws e. simp lists (gives (array-too-long lo (vs ++ (ws ++ [])) (as-long vs ws e)));
      streams_too_long = λ vs ws e. simp lists (gives (stream-too-long (vs ++ (ws ++ [])) (as-long vs ws e)));
      arrays_past_the_word = simp lists;
    }

pub elements-failing : (g : Grouping) → AreElementsFailing g
elements-failing g = record { sum = refl; product = refl; least = refl; greatest = refl; catenation = refl; mask_error = refl; any_mask_error = λ r name e c v vs ms. rw e }

pub foreign-elements : (g : Grouping) → AreForeignElements g
foreign-elements g =
    record {
      sum = refl;
      product = refl;
      least = refl;
      greatest = refl;
      catenation = simp out-int;
      array_and_stream = simp lists;
      mask_of_integers = refl;
      no_reduction = refl;
      no_name = refl;
      of_a_value = refl;
    }
