-- Simple nodes with fewer or more operands than their row has: one fewer and one more for each row, in the order of the table
-- (IF1 manual M-170, simple nodes). The rules for ports keep such nodes away. ABuild and ACatenate have no most, RBuild has no
-- least and no most, and Error looks at none.
use Rattle.std.specs.Prelude.{◌≡◌, pos, [], ◌∷◌, codes}
use Rattle.flow_value.specs.declared.cause.Cause.TheVariants.{Explicit}
use Rattle.flow_value.specs.declared.operation.Scalar1.{Scalar1}
use Rattle.flow_value.specs.declared.operation.Scalar2.{Scalar2}
use Rattle.flow_value.specs.declared.value.Val.{Val}
use Rattle.if1_graph.specs.declared.op.Grouping.{Grouping}
use Rattle.if1_graph.specs.declared.op.Simple.TheVariants.{One, Two, NoOp, ABuild, AFill, AElement, AReplace, AAddH, AAddL, ARemH, ARemL, ASetL, AAdjust, ALimL, ALimH, ASize, AIsEmpty, FirstValue, RestValues, ACatenate, RElements, RReplace, RangeGenerate, AScatter, AGather, FinalValue, Reduce}
use Rattle.graph_meaning.specs.Carried.{Value, Many, Spoiled, Name}
use Rattle.graph_meaning.specs.NodeValues.{op}
use Rattle.graph_meaning.specs.NodeValues as shape
use Rattle.graph_examples.specs.Words.{int, error, Fails, FailsAsStream, Spoils}

pub record AreNumbersForeign (v : Val) : Type 0 where
  pub one_of_none : (f : Scalar1) → Fails (One f) [] Explicit
  pub one_of_two : (f : Scalar1) → Fails (One f) (Value v ∷ Value v ∷ []) Explicit
  pub two_of_one : (f : Scalar2) → Fails (Two f) (Value v ∷ []) Explicit
  pub two_of_three : (f : Scalar2) → Fails (Two f) (Value v ∷ Value v ∷ Value v ∷ []) Explicit
  pub nothing_done_of_none : Fails NoOp [] Explicit
  pub nothing_done_of_two : Fails NoOp (Value v ∷ Value v ∷ []) Explicit
  pub built_of_none : Fails ABuild [] Explicit
  pub stream_of_none : FailsAsStream ABuild [] Explicit
  pub filled_of_two : Fails AFill (Value v ∷ Value v ∷ []) Explicit
  pub filled_of_four : Fails AFill (Value v ∷ Value v ∷ Value v ∷ Value v ∷ []) Explicit
  pub element_of_one : Fails AElement (Value v ∷ []) Explicit
  pub element_of_three : Fails AElement (Value v ∷ Value v ∷ Value v ∷ []) Explicit
  pub replaced_of_two : Fails AReplace (Value v ∷ Value v ∷ []) Explicit
  pub replaced_of_four : Fails AReplace (Value v ∷ Value v ∷ Value v ∷ Value v ∷ []) Explicit
  pub added_to_of_one : Fails AAddH (Value v ∷ []) Explicit
  pub added_to_of_three : Fails AAddH (Value v ∷ Value v ∷ Value v ∷ []) Explicit
  pub added_below_of_one : Fails AAddL (Value v ∷ []) Explicit
  pub added_below_of_three : Fails AAddL (Value v ∷ Value v ∷ Value v ∷ []) Explicit
  pub without_last_of_none : Fails ARemH [] Explicit
  pub without_last_of_two : Fails ARemH (Value v ∷ Value v ∷ []) Explicit
  pub without_first_of_none : Fails ARemL [] Explicit
  pub without_first_of_two : Fails ARemL (Value v ∷ Value v ∷ []) Explicit
  pub set_of_one : Fails ASetL (Value v ∷ []) Explicit
  pub set_of_three : Fails ASetL (Value v ∷ Value v ∷ Value v ∷ []) Explicit
  pub adjusted_of_two : Fails AAdjust (Value v ∷ Value v ∷ []) Explicit
  pub adjusted_of_four : Fails AAdjust (Value v ∷ Value v ∷ Value v ∷ Value v ∷ []) Explicit
  pub lower_bound_of_none : Fails ALimL [] Explicit
  pub lower_bound_of_two : Fails ALimL (Value v ∷ Value v ∷ []) Explicit
  pub last_index_of_none : Fails ALimH [] Explicit
  pub last_index_of_two : Fails ALimH (Value v ∷ Value v ∷ []) Explicit
  pub size_of_none : Fails ASize [] Explicit
  pub size_of_two : Fails ASize (Value v ∷ Value v ∷ []) Explicit
  pub emptiness_of_none : Fails AIsEmpty [] Explicit
  pub emptiness_of_two : Fails AIsEmpty (Value v ∷ Value v ∷ []) Explicit
  pub first_of_none : Fails FirstValue [] Explicit
  pub first_of_two : Fails FirstValue (Value v ∷ Value v ∷ []) Explicit
  pub rest_of_none : Fails RestValues [] Explicit
  pub rest_of_two : Fails RestValues (Value v ∷ Value v ∷ []) Explicit
  pub row_of_none : Fails ACatenate [] Explicit
  pub row_of_one : Fails ACatenate (Value v ∷ []) Explicit
  pub fields_of_none : op RElements (shape.Fields 2) [] ≡ error Explicit ∷ error Explicit ∷ []
  pub fields_of_two : op RElements (shape.Fields 2) (Value v ∷ Value v ∷ []) ≡ error Explicit ∷ error Explicit ∷ []
  pub fields_replaced_of_none : Fails RReplace [] Explicit
  pub range_of_one : Spoils RangeGenerate (Value v ∷ []) Explicit
  pub range_of_three : Spoils RangeGenerate (Value v ∷ Value v ∷ Value v ∷ []) Explicit
  pub scattered_of_none : op AScatter shape.Plain [] ≡ Spoiled Explicit ∷ Spoiled Explicit ∷ []
  pub scattered_of_two : op AScatter shape.Plain (Value v ∷ Value v ∷ []) ≡ Spoiled Explicit ∷ Spoiled Explicit ∷ []
  pub gathered_of_none : Fails AGather [] Explicit
  pub gathered_of_one : Fails AGather (int (pos 1) ∷ []) Explicit
  pub gathered_of_four : Fails AGather (int (pos 1) ∷ Many [] ∷ Many [] ∷ Many [] ∷ []) Explicit
  pub last_of_none : Fails FinalValue [] Explicit
  pub last_of_three : Fails FinalValue (Many [] ∷ Many [] ∷ Many [] ∷ []) Explicit
  pub reduced_of_none : (g : Grouping) → Fails (Reduce g) [] Explicit
  pub reduced_of_one : (g : Grouping) → Fails (Reduce g) (Name (codes "sum") ∷ []) Explicit
  pub reduced_of_four : (g : Grouping) → Fails (Reduce g) (Name (codes "sum") ∷ Many [] ∷ Many [] ∷ Many [] ∷ []) Explicit
