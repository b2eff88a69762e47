-- Errors at the ports of nodes, row by row: an error at a strict port is every output, that of the least port of several, and
-- comes before any error of the node's own; at the other ports it goes on as a value (IF1 manual M-170, simple nodes).
use Rattle.std.specs.Prelude.{◌≡◌, ℕ, pos, true, false, List, [], ◌∷◌, Some, codes}
use Rattle.flow_value.specs.declared.cause.Cause.{Cause}
use Rattle.flow_value.specs.declared.operation.Scalar1.TheVariants.{Neg, Abs, Not, Int, Bool as ToBool, Char, IsError}
use Rattle.flow_value.specs.declared.operation.Scalar2.{Scalar2}
use Rattle.flow_value.specs.declared.operation.Scalar2.TheVariants.{Div}
use Rattle.flow_value.specs.declared.value.Val.{Val}
use Rattle.flow_value.specs.declared.value.Val.TheVariants as val
use Rattle.if1_graph.specs.declared.op.Grouping.{Grouping}
use Rattle.if1_graph.specs.declared.op.Reducer.{Reducer}
use Rattle.if1_graph.specs.declared.op.Simple.TheVariants.{One, Two, NoOp, ABuild, AFill, AElement, AReplace, AAddH, AAddL, ARemH, ARemL, ASetL, AAdjust, ALimL, ALimH, ASize, AIsEmpty, ACatenate, FirstValue, RestValues, RBuild, RElements, RReplace, RangeGenerate, AScatter, AGather, FinalValue, Reduce}
use Rattle.if1_graph.specs.Ops.{reducer_at}
use Rattle.graph_meaning.specs.Carried.{Value, Many, Spoiled, Name, Unfilled}
use Rattle.graph_meaning.specs.NodeValues.{op}
use Rattle.graph_meaning.specs.NodeValues as shape
use Rattle.graph_examples.specs.Words.{num, array_from, int, error, array, stream, fields, Gives, Fails, FailsAsStream, Spoils}

-- scalar nodes: the least port of two, then the second port alone
pub record AreScalarsStrict (c d : Cause) : Type 0 where
  pub negative : Fails (One Neg) (error c ∷ []) c
  pub absolute : Fails (One Abs) (error c ∷ []) c
  pub other_boolean : Fails (One Not) (error c ∷ []) c
  pub integer : Fails (One Int) (error c ∷ []) c
  pub boolean : Fails (One ToBool) (error c ∷ []) c
  pub character : Fails (One Char) (error c ∷ []) c
  pub least_of_two : (f : Scalar2) → Fails (Two f) (error c ∷ error d ∷ []) c
  pub second : (f : Scalar2) → Fails (Two f) (int (pos 1) ∷ error d ∷ []) d
  pub before_its_own : Fails (Two Div) (error c ∷ int (pos 0) ∷ []) c

-- nodes on arrays and streams
pub record AreListsStrict (c d : Cause) (v : Val) : Type 0 where
  pub built : Fails ABuild (error c ∷ error d ∷ []) c
  pub built_stream : FailsAsStream ABuild (error c ∷ error d ∷ []) c
  pub filled : Fails AFill (error c ∷ error d ∷ Value v ∷ []) c
  pub filled_to : Fails AFill (int (pos 1) ∷ error d ∷ Value v ∷ []) d
  pub element : Fails AElement (error c ∷ error d ∷ []) c
  pub element_at : Fails AElement (array (pos 1) [] ∷ error d ∷ []) d
  pub replaced : Fails AReplace (error c ∷ error d ∷ Value v ∷ []) c
  pub replaced_at : Fails AReplace (array (pos 1) [] ∷ error d ∷ Value v ∷ []) d
  pub added_to : Fails AAddH (error c ∷ error d ∷ []) c
  pub added_below : Fails AAddL (error c ∷ error d ∷ []) c
  pub without_last : Fails ARemH (error c ∷ []) c
  pub without_first : Fails ARemL (error c ∷ []) c
  pub set : Fails ASetL (error c ∷ error d ∷ []) c
  pub set_to : Fails ASetL (array (pos 1) [] ∷ error d ∷ []) d
  pub adjusted : Fails AAdjust (error c ∷ error d ∷ error d ∷ []) c
  pub adjusted_from : Fails AAdjust (array (pos 1) [] ∷ error c ∷ error d ∷ []) c
  pub adjusted_to : Fails AAdjust (array (pos 1) [] ∷ int (pos 7) ∷ error d ∷ []) d
  pub lower_bound : Fails ALimL (error c ∷ []) c
  pub last_index : Fails ALimH (error c ∷ []) c
  pub size : Fails ASize (error c ∷ []) c
  pub emptiness : Fails AIsEmpty (error c ∷ []) c
  pub in_a_row : Fails ACatenate (error c ∷ error d ∷ []) c
  pub second_in_a_row : Fails ACatenate (array (pos 1) [] ∷ error c ∷ error d ∷ []) c
  pub third_in_a_row : Fails ACatenate (array (pos 1) [] ∷ stream [] ∷ error d ∷ []) d
  pub first : Fails FirstValue (error c ∷ []) c
  pub rest : Fails RestValues (error c ∷ []) c

-- nodes on records: each field of an error is that error
pub record AreRecordsStrict (c d : Cause) : Type 0 where
  pub each_field : op RElements (shape.Fields 2) (error c ∷ []) ≡ error c ∷ error c ∷ []
  pub replaced : Fails RReplace (error c ∷ error d ∷ []) c

-- generators: each multiple is an error as a whole
pub record AreGeneratorsStrict (c d : Cause) : Type 0 where
  pub range : Spoils RangeGenerate (error c ∷ error d ∷ []) c
  pub range_to : Spoils RangeGenerate (int (pos 1) ∷ error d ∷ []) d
  pub scattered : op AScatter shape.Plain (error c ∷ []) ≡ Spoiled c ∷ Spoiled c ∷ []

-- folds: the lower bound, then a multiple that is an error as a whole, then such a mask
pub record AreFoldsStrict (c d : Cause) (vs : List Val) : Type 0 where
  pub gathered_from : Fails AGather (error c ∷ Spoiled d ∷ []) c
  pub gathered : Fails AGather (int (pos 1) ∷ Spoiled c ∷ Spoiled d ∷ []) c
  pub gathered_by : Fails AGather (int (pos 1) ∷ Many vs ∷ Spoiled d ∷ []) d
  pub stream_gathered : FailsAsStream AGather (int (pos 1) ∷ Spoiled c ∷ Spoiled d ∷ []) c
  pub last : Fails FinalValue (Spoiled c ∷ Spoiled d ∷ []) c
  pub last_by : Fails FinalValue (Many vs ∷ Spoiled d ∷ []) d
  pub reduced : (g : Grouping) (r : Reducer) (name : List ℕ) → reducer_at name ≡ Some r → Fails (Reduce g) (Name name ∷ Spoiled c ∷ Spoiled d ∷ []) c
  pub reduced_by : (g : Grouping) (r : Reducer) (name : List ℕ) → reducer_at name ≡ Some r → Fails (Reduce g) (Name name ∷ Many vs ∷ Spoiled d ∷ []) d

-- where an error goes on as a value, or is only looked at
pub record AreErrorsPassed (c : Cause) : Type 0 where
  pub nothing_done : Fails NoOp (error c ∷ []) c
  pub is_error : Gives (One IsError) (error c ∷ []) (val.Bool true)
  pub is_no_error : Gives (One IsError) (array (pos 1) (val.Err c ∷ []) ∷ []) (val.Bool false)
  pub built : Gives ABuild (int (pos 0) ∷ int (pos 5) ∷ error c ∷ []) (array_from (pos 0) (num 5 ∷ val.Err c ∷ []))
  pub built_stream : op ABuild shape.Stream (int (pos 1) ∷ error c ∷ []) ≡ stream (val.Err c ∷ []) ∷ []
  pub filled : Gives AFill (int (pos 2) ∷ int (pos 3) ∷ error c ∷ []) (array_from (pos 2) (val.Err c ∷ val.Err c ∷ []))
  pub element : Fails AElement (array (pos 3) (num 5 ∷ val.Err c ∷ []) ∷ int (pos 4) ∷ []) c
  pub replaced : Gives AReplace (array (pos 3) (num 5 ∷ num 7 ∷ []) ∷ int (pos 4) ∷ error c ∷ []) (array_from (pos 3) (num 5 ∷ val.Err c ∷ []))
  pub added_to : Gives AAddH (array (pos 3) (num 5 ∷ []) ∷ error c ∷ []) (array_from (pos 3) (num 5 ∷ val.Err c ∷ []))
  pub added_to_stream : Gives AAddH (stream (num 5 ∷ []) ∷ error c ∷ []) (val.Stream (num 5 ∷ val.Err c ∷ []))
  pub added_below : Gives AAddL (array (pos 3) (num 5 ∷ []) ∷ error c ∷ []) (array_from (pos 2) (val.Err c ∷ num 5 ∷ []))
  pub first : Fails FirstValue (stream (val.Err c ∷ num 5 ∷ []) ∷ []) c
  pub fields_made : Gives RBuild (error c ∷ int (pos 5) ∷ []) (val.Rec (val.Err c ∷ num 5 ∷ []))
  pub union_made : op RBuild shape.Union (Unfilled ∷ error c ∷ []) ≡ Value (val.Uni 1 (val.Err c)) ∷ []
  pub field : op RElements (shape.Fields 2) (fields (num 5 ∷ val.Err c ∷ []) ∷ []) ≡ int (pos 5) ∷ error c ∷ []
  pub field_replaced : Gives RReplace (fields (num 5 ∷ num 7 ∷ []) ∷ Unfilled ∷ error c ∷ []) (val.Rec (num 5 ∷ val.Err c ∷ []))
  pub scattered : op AScatter shape.Plain (array (pos 3) (num 5 ∷ val.Err c ∷ []) ∷ []) ≡ Many (num 5 ∷ val.Err c ∷ []) ∷ Many (num 3 ∷ num 4 ∷ []) ∷ []
  pub gathered : Gives AGather (int (pos 1) ∷ Many (num 4 ∷ val.Err c ∷ []) ∷ []) (array_from (pos 1) (num 4 ∷ val.Err c ∷ []))
  pub last : Fails FinalValue (Many (num 4 ∷ val.Err c ∷ []) ∷ []) c
  pub dropped : (g : Grouping) → Gives (Reduce g) (Name (codes "sum") ∷ Many (num 4 ∷ val.Err c ∷ []) ∷ Many (val.Bool true ∷ val.Bool false ∷ []) ∷ []) (num 4)
