-- Generators and folds whose operands are no errors, and that give one: an example for each cause of each row (IF1 manual
-- M-170, simple nodes). What needs 4,194,304 elements is told of every list of that length.
use Rattle.std.specs.Prelude.{◌≡◌, ◌++◌, ℕ, ℤ, pos, true, false, List, [], ◌∷◌, length, codes, Some}
use Rattle.flow_value.specs.declared.cause.Cause.{Cause}
use Rattle.flow_value.specs.declared.cause.Cause.TheVariants.{Overflow, Zero, Bounds, Empty, Size, Tag, Explicit}
use Rattle.flow_value.specs.declared.value.Val.{Val}
use Rattle.flow_value.specs.declared.value.Val.TheVariants as val
use Rattle.if1_graph.specs.declared.op.Grouping.{Grouping}
use Rattle.if1_graph.specs.declared.op.Reducer.{Reducer}
use Rattle.if1_graph.specs.declared.op.Simple.TheVariants.{RangeGenerate, AScatter, AGather, FinalValue, Reduce}
use Rattle.if1_graph.specs.Ops.{reducer_at}
use Rattle.graph_meaning.specs.Carried.{Carried, Many, Spoiled, Name}
use Rattle.graph_meaning.specs.NodeValues.{op}
use Rattle.graph_meaning.specs.NodeValues as shape
use Rattle.graph_examples.specs.Words.{num, greatest, least, minus_one, array_from, int, bool, Fails, FailsAsStream, Spoils}

abbrev pub yes : Val
yes = val.Bool true

abbrev pub no : Val
no = val.Bool false

abbrev pub err : Cause → Val
err = val.Err

pub record AreGeneratorsSpoiled : Type 0 where
  pub range_too_long : Spoils RangeGenerate (int (pos 1) ∷ int (pos 4194305) ∷ []) Size
  pub range_from_a_boolean : Spoils RangeGenerate (bool true ∷ int (pos 2) ∷ []) Explicit
  pub range_to_a_boolean : Spoils RangeGenerate (int (pos 2) ∷ bool true ∷ []) Explicit
  pub scattered_integer : op AScatter shape.Plain (int (pos 5) ∷ []) ≡ Spoiled Explicit ∷ Spoiled Explicit ∷ []

-- what an array or stream of the kept elements fails with
pub record AreGathersFailing : Type 0 where
  pub too_many : (vs : List Val) → length vs ≡ 4194305 → Fails AGather (int (pos 1) ∷ Many vs ∷ []) Size
  pub too_many_for_a_stream : (vs : List Val) → length vs ≡ 4194305 → FailsAsStream AGather (int (pos 1) ∷ Many vs ∷ []) Size
  pub past_the_word : Fails AGather (int greatest ∷ Many (num 5 ∷ num 7 ∷ []) ∷ []) Bounds
  pub before_the_word : Fails AGather (int least ∷ Many [] ∷ []) Bounds
  pub mask_error : Fails AGather (int (pos 1) ∷ Many (num 5 ∷ num 7 ∷ []) ∷ Many (yes ∷ err Zero ∷ []) ∷ []) Zero
  pub first_mask_error : Fails AGather (int (pos 1) ∷ Many (num 5 ∷ num 7 ∷ []) ∷ Many (err Tag ∷ err Zero ∷ []) ∷ []) Tag
  pub stream_mask_error : FailsAsStream AGather (int (pos 1) ∷ Many (num 5 ∷ num 7 ∷ []) ∷ Many (no ∷ err Zero ∷ []) ∷ []) Zero
  pub mask_of_integers : Fails AGather (int (pos 1) ∷ Many (num 5 ∷ []) ∷ Many (num 1 ∷ []) ∷ []) Explicit
  pub from_a_boolean : Fails AGather (bool true ∷ Many (num 5 ∷ []) ∷ []) Explicit
  pub of_a_value : Fails AGather (int (pos 1) ∷ int (pos 5) ∷ []) Explicit

pub record AreLastsFailing : Type 0 where
  pub of_none : Fails FinalValue (Many [] ∷ []) Empty
  pub of_none_kept : Fails FinalValue (Many (num 5 ∷ num 7 ∷ []) ∷ Many (no ∷ no ∷ []) ∷ []) Empty
  pub mask_error : Fails FinalValue (Many (num 5 ∷ num 7 ∷ []) ∷ Many (err Zero ∷ yes ∷ []) ∷ []) Zero
  pub mask_of_integers : Fails FinalValue (Many (num 5 ∷ []) ∷ Many (num 1 ∷ []) ∷ []) Explicit
  pub of_a_value : Fails FinalValue (int (pos 5) ∷ []) Explicit

-- a reduction of a multiple, by its name
abbrev pub of_name : List ℕ → Val → List Val → List Carried
of_name name v vs = Name name ∷ Many (v ∷ vs) ∷ []

-- what each of the four reduction nodes fails with
pub record AreReductionsFailing (g : Grouping) : Type 0 where
  pub sum_too_great : Fails (Reduce g) (of_name (codes "sum") (val.Int greatest) (num 1 ∷ [])) Overflow
  pub sum_too_small : Fails (Reduce g) (of_name (codes "sum") (val.Int least) (val.Int minus_one ∷ [])) Overflow
  pub product_too_great : Fails (Reduce g) (of_name (codes "product") (val.Int greatest) (num 2 ∷ [])) Overflow
  pub product_too_small : Fails (Reduce g) (of_name (codes "product") (val.Int least) (num 2 ∷ [])) Overflow
  pub least_of_none : Fails (Reduce g) (Name (codes "least") ∷ Many [] ∷ []) Empty
  pub greatest_of_none : Fails (Reduce g) (Name (codes "greatest") ∷ Many [] ∷ []) Empty
  pub least_of_none_kept : Fails (Reduce g) (Name (codes "least") ∷ Many (num 5 ∷ []) ∷ Many (no ∷ []) ∷ []) Empty
  pub greatest_of_none_kept : Fails (Reduce g) (Name (codes "greatest") ∷ Many (num 5 ∷ []) ∷ Many (no ∷ []) ∷ []) Empty
  pub arrays_too_long : (lo from : ℤ) (vs ws : List Val) → length (vs ++ ws) ≡ 4194305 → Fails (Reduce g) (of_name (codes "catenate") (array_from lo vs) (array_from from ws ∷ [])) Size
  pub streams_too_long : (vs ws : List Val) → length (vs ++ ws) ≡ 4194305 → FailsAsStream (Reduce g) (of_name (codes "catenate") (val.Stream vs) (val.Stream ws ∷ [])) Size
  pub arrays_past_the_word : Fails (Reduce g) (of_name (codes "catenate") (array_from greatest (num 5 ∷ [])) (array_from (pos 1) (num 7 ∷ []) ∷ [])) Bounds

-- the first error among the kept elements
pub record AreElementsFailing (g : Grouping) : Type 0 where
  pub sum : Fails (Reduce g) (of_name (codes "sum") (num 4) (err Zero ∷ err Size ∷ [])) Zero
  pub product : Fails (Reduce g) (of_name (codes "product") (num 0) (err Zero ∷ [])) Zero
  pub least : Fails (Reduce g) (of_name (codes "least") (err Zero) (num 4 ∷ [])) Zero
  pub greatest : Fails (Reduce g) (of_name (codes "greatest") (num 4) (err Zero ∷ [])) Zero
  pub catenation : Fails (Reduce g) (of_name (codes "catenate") (array_from (pos 1) (num 5 ∷ [])) (err Zero ∷ [])) Zero
  -- the first error of the mask comes before them
  pub mask_error : Fails (Reduce g) (Name (codes "sum") ∷ Many (err Zero ∷ num 4 ∷ []) ∷ Many (yes ∷ err Tag ∷ []) ∷ []) Tag
  pub any_mask_error : (r : Reducer) (name : List ℕ) → reducer_at name ≡ Some r → (c : Cause) (v : Val) (vs ms : List Val) → Fails (Reduce g) (Name name ∷ Many (v ∷ vs) ∷ Many (err c ∷ ms) ∷ []) c

-- elements, masks or names of a kind that the node does not have
pub record AreForeignElements (g : Grouping) : Type 0 where
  pub sum : Fails (Reduce g) (of_name (codes "sum") yes []) Explicit
  pub product : Fails (Reduce g) (of_name (codes "product") yes []) Explicit
  pub least : Fails (Reduce g) (of_name (codes "least") yes []) Explicit
  pub greatest : Fails (Reduce g) (of_name (codes "greatest") yes []) Explicit
  pub catenation : Fails (Reduce g) (of_name (codes "catenate") (num 5) []) Explicit
  pub array_and_stream : Fails (Reduce g) (of_name (codes "catenate") (array_from (pos 1) (num 5 ∷ [])) (val.Stream (num 7 ∷ []) ∷ [])) Explicit
  pub mask_of_integers : Fails (Reduce g) (Name (codes "sum") ∷ Many (num 5 ∷ []) ∷ Many (num 1 ∷ []) ∷ []) Explicit
  pub no_reduction : Fails (Reduce g) (of_name (codes "mean") (num 5) []) Explicit
  pub no_name : Fails (Reduce g) (int (pos 1) ∷ Many (num 5 ∷ []) ∷ []) Explicit
  pub of_a_value : Fails (Reduce g) (Name (codes "sum") ∷ int (pos 5) ∷ []) Explicit
