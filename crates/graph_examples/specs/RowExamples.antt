-- What nodes give on small operands: an example for each row of the table of what each gives (IF1 manual M-170).
use Rattle.std.specs.Prelude.{◌≡◌, ℕ, pos, negsuc, true, false, List, [], ◌∷◌, None, codes}
use Rattle.flow_value.specs.declared.cause.Cause.TheVariants.{Zero, Size}
use Rattle.flow_value.specs.declared.operation.Scalar1.TheVariants.{Neg, Abs, Not, Int, Bool as ToBool, Char}
use Rattle.flow_value.specs.declared.operation.Scalar2.TheVariants.{Plus, Minus, Times, Div, Mod, Max, Min, Equal, NotEqual, Less, LessEqual}
use Rattle.flow_value.specs.declared.value.Val.TheVariants as val
use Rattle.if1_graph.specs.declared.op.Grouping.{Grouping}
use Rattle.if1_graph.specs.declared.op.Simple.TheVariants.{One, Two, NoOp, ABuild, AFill, AElement, AReplace, AAddH, AAddL, ARemH, ARemL, ASetL, AAdjust, ALimL, ALimH, ASize, AIsEmpty, ACatenate, FirstValue, RestValues, RBuild, RElements, RReplace, RangeGenerate, AScatter, AGather, FinalValue, Reduce}
use Rattle.graph_meaning.specs.Carried.{Carried, Value, Many, Name, Unfilled}
use Rattle.graph_meaning.specs.NodeValues.{op}
use Rattle.graph_meaning.specs.NodeValues as shape
use Rattle.graph_meaning.specs.Forms.{LoopA, LoopB}
use Rattle.graph_meaning.specs.Demand.{Port, Fixed, Net, Network, dem}
use Rattle.graph_examples.specs.CompoundErrors.{node, net, around, Leaves}
use Rattle.graph_examples.specs.FoldErrors.{yes, no, err}
use Rattle.graph_examples.specs.Words.{num, greatest, least, minus_one, array_from, int, bool, char, null, error, array, stream, fields, Gives}

-- 97 and 98 are the codes of `a` and `b`
pub record AreScalarRows : Type 0 where
  pub sum : Gives (Two Plus) (int (pos 2) ∷ int (pos 3) ∷ []) (num 5)
  pub either : Gives (Two Plus) (bool false ∷ bool true ∷ []) yes
  pub difference : Gives (Two Minus) (int (pos 2) ∷ int (pos 3) ∷ []) (val.Int minus_one)
  pub product : Gives (Two Times) (int (pos 2) ∷ int (pos 3) ∷ []) (num 6)
  pub both : Gives (Two Times) (bool false ∷ bool true ∷ []) no
  pub quotient : Gives (Two Div) (int (negsuc 6) ∷ int (pos 2) ∷ []) (val.Int (negsuc 2))
  pub remainder : Gives (Two Mod) (int (negsuc 6) ∷ int (pos 2) ∷ []) (val.Int minus_one)
  pub remainder_of_the_least : Gives (Two Mod) (int least ∷ int minus_one ∷ []) (num 0)
  pub negative : Gives (One Neg) (int (pos 3) ∷ []) (val.Int (negsuc 2))
  pub absolute : Gives (One Abs) (int (negsuc 2) ∷ []) (num 3)
  pub greater : Gives (Two Max) (int (negsuc 2) ∷ int (pos 2) ∷ []) (num 2)
  pub lesser : Gives (Two Min) (int (negsuc 2) ∷ int (pos 2) ∷ []) (val.Int (negsuc 2))
  pub equal : Gives (Two Equal) (char 97 ∷ char 98 ∷ []) no
  pub equal_nulls : Gives (Two Equal) (null ∷ null ∷ []) yes
  pub not_equal : Gives (Two NotEqual) (bool true ∷ bool false ∷ []) yes
  pub less : Gives (Two Less) (char 97 ∷ char 98 ∷ []) yes
  pub less_or_equal : Gives (Two LessEqual) (int (pos 2) ∷ int (pos 2) ∷ []) yes
  pub other_boolean : Gives (One Not) (bool true ∷ []) no
  pub integer : Gives (One Int) (char 97 ∷ []) (num 97)
  pub integer_of_true : Gives (One Int) (bool true ∷ []) (num 1)
  pub boolean : Gives (One ToBool) (int (pos 0) ∷ []) no
  pub character : Gives (One Char) (int (pos 97) ∷ []) (val.Char 97)
  pub nothing_done : Gives NoOp (int (pos 5) ∷ []) (num 5)

pub record AreListRows : Type 0 where
  pub built : Gives ABuild (int (pos 0) ∷ int (pos 5) ∷ error Zero ∷ []) (array_from (pos 0) (num 5 ∷ err Zero ∷ []))
  pub stream_built : op ABuild shape.Stream (int (pos 1) ∷ int (pos 5) ∷ []) ≡ stream (num 5 ∷ []) ∷ []
  pub filled : Gives AFill (int (pos 2) ∷ int (pos 3) ∷ bool true ∷ []) (array_from (pos 2) (yes ∷ yes ∷ []))
  pub filled_with_none : Gives AFill (int (pos 2) ∷ int (pos 1) ∷ bool true ∷ []) (array_from (pos 2) [])
  pub element : Gives AElement (array (pos 3) (num 5 ∷ num 7 ∷ []) ∷ int (pos 4) ∷ []) (num 7)
  pub replaced : Gives AReplace (array (pos 3) (num 5 ∷ num 7 ∷ []) ∷ int (pos 4) ∷ int (pos 0) ∷ []) (array_from (pos 3) (num 5 ∷ num 0 ∷ []))
  pub added_to : Gives AAddH (array (pos 3) (num 5 ∷ []) ∷ int (pos 7) ∷ []) (array_from (pos 3) (num 5 ∷ num 7 ∷ []))
  pub added_to_stream : Gives AAddH (stream (num 5 ∷ []) ∷ int (pos 7) ∷ []) (val.Stream (num 5 ∷ num 7 ∷ []))
  pub added_below : Gives AAddL (array (pos 3) (num 5 ∷ []) ∷ int (pos 7) ∷ []) (array_from (pos 2) (num 7 ∷ num 5 ∷ []))
  pub without_last : Gives ARemH (array (pos 3) (num 5 ∷ num 7 ∷ []) ∷ []) (array_from (pos 3) (num 5 ∷ []))
  pub without_first : Gives ARemL (array (pos 3) (num 5 ∷ num 7 ∷ []) ∷ []) (array_from (pos 4) (num 7 ∷ []))
  pub set : Gives ASetL (array (pos 3) (num 5 ∷ num 7 ∷ []) ∷ int (pos 0) ∷ []) (array_from (pos 0) (num 5 ∷ num 7 ∷ []))
  pub adjusted : Gives AAdjust (array (pos 3) (num 5 ∷ num 7 ∷ num 9 ∷ []) ∷ int (pos 4) ∷ int (pos 5) ∷ []) (array_from (pos 4) (num 7 ∷ num 9 ∷ []))
  pub adjusted_to_none : Gives AAdjust (array (pos 3) (num 5 ∷ num 7 ∷ num 9 ∷ []) ∷ int (pos 4) ∷ int (pos 3) ∷ []) (array_from (pos 4) [])
  pub lower_bound : Gives ALimL (array (pos 3) (num 5 ∷ num 7 ∷ []) ∷ []) (num 3)
  pub last_index : Gives ALimH (array (pos 3) (num 5 ∷ num 7 ∷ []) ∷ []) (num 4)
  pub last_index_of_none : Gives ALimH (array (pos 3) [] ∷ []) (num 2)
  pub size : Gives ASize (stream (num 5 ∷ num 7 ∷ []) ∷ []) (num 2)
  pub emptiness : Gives AIsEmpty (array (pos 3) [] ∷ []) yes
  pub in_a_row : Gives ACatenate (array (pos 3) (num 5 ∷ []) ∷ array (pos 8) (num 7 ∷ []) ∷ []) (array_from (pos 3) (num 5 ∷ num 7 ∷ []))
  pub streams_in_a_row : Gives ACatenate (stream (num 5 ∷ []) ∷ stream (num 7 ∷ []) ∷ []) (val.Stream (num 5 ∷ num 7 ∷ []))
  pub first : Gives FirstValue (stream (num 5 ∷ num 7 ∷ []) ∷ []) (num 5)
  pub rest : Gives RestValues (stream (num 5 ∷ num 7 ∷ []) ∷ []) (val.Stream (num 7 ∷ []))

pub record AreRecordRows : Type 0 where
  pub record_built : Gives RBuild (int (pos 5) ∷ bool true ∷ []) (val.Rec (num 5 ∷ yes ∷ []))
  pub union_built : op RBuild shape.Union (Unfilled ∷ int (pos 5) ∷ []) ≡ Value (val.Uni 1 (num 5)) ∷ []
  pub each_field : op RElements (shape.Fields 2) (fields (num 5 ∷ yes ∷ []) ∷ []) ≡ int (pos 5) ∷ bool true ∷ []
  pub field_replaced : Gives RReplace (fields (num 5 ∷ yes ∷ []) ∷ int (pos 7) ∷ Unfilled ∷ []) (val.Rec (num 7 ∷ yes ∷ []))

-- folds of 4, an error and 6, without a mask, with one that drops the error, and with one that is an error there
abbrev pub elements : Carried
elements = Many (num 4 ∷ err Zero ∷ num 6 ∷ [])

abbrev pub dropping : Carried
dropping = Many (yes ∷ no ∷ yes ∷ [])

abbrev pub failing : Carried
failing = Many (yes ∷ err Size ∷ yes ∷ [])

pub record AreFoldRows (g : Grouping) : Type 0 where
  pub range : op RangeGenerate shape.Plain (int (pos 2) ∷ int (pos 4) ∷ []) ≡ Many (num 2 ∷ num 3 ∷ num 4 ∷ []) ∷ []
  pub range_of_none : op RangeGenerate shape.Plain (int (pos 2) ∷ int (pos 1) ∷ []) ≡ Many [] ∷ []
  pub scattered : op AScatter shape.Plain (array (pos 3) (num 5 ∷ num 7 ∷ []) ∷ []) ≡ Many (num 5 ∷ num 7 ∷ []) ∷ Many (num 3 ∷ num 4 ∷ []) ∷ []
  pub scattered_stream : op AScatter shape.Plain (stream (num 5 ∷ num 7 ∷ []) ∷ []) ≡ Many (num 5 ∷ num 7 ∷ []) ∷ Many (num 1 ∷ num 2 ∷ []) ∷ []
  pub gathered : Gives AGather (int (pos 1) ∷ elements ∷ []) (array_from (pos 1) (num 4 ∷ err Zero ∷ num 6 ∷ []))
  pub gathered_kept : Gives AGather (int (pos 1) ∷ elements ∷ dropping ∷ []) (array_from (pos 1) (num 4 ∷ num 6 ∷ []))
  pub gathered_failing : Gives AGather (int (pos 1) ∷ elements ∷ failing ∷ []) (err Size)
  pub stream_gathered : op AGather shape.Stream (int (pos 1) ∷ elements ∷ dropping ∷ []) ≡ stream (num 4 ∷ num 6 ∷ []) ∷ []
  pub last : Gives FinalValue (elements ∷ []) (num 6)
  pub last_kept : Gives FinalValue (elements ∷ dropping ∷ []) (num 6)
  pub last_failing : Gives FinalValue (elements ∷ failing ∷ []) (err Size)
  pub sum : Gives (Reduce g) (Name (codes "sum") ∷ elements ∷ []) (err Zero)
  pub sum_kept : Gives (Reduce g) (Name (codes "sum") ∷ elements ∷ dropping ∷ []) (num 10)
  pub sum_failing : Gives (Reduce g) (Name (codes "sum") ∷ elements ∷ failing ∷ []) (err Size)
  pub product_kept : Gives (Reduce g) (Name (codes "product") ∷ elements ∷ dropping ∷ []) (num 24)
  pub least_kept : Gives (Reduce g) (Name (codes "least") ∷ elements ∷ dropping ∷ []) (num 4)
  pub greatest_kept : Gives (Reduce g) (Name (codes "greatest") ∷ elements ∷ dropping ∷ []) (num 6)
  pub catenation : Gives (Reduce g) (Name (codes "catenate") ∷ Many (array_from (pos 3) (num 5 ∷ []) ∷ array_from (pos 8) (num 7 ∷ []) ∷ []) ∷ []) (array_from (pos 3) (num 5 ∷ num 7 ∷ []))
  pub sum_of_none : Gives (Reduce g) (Name (codes "sum") ∷ Many [] ∷ []) (num 0)
  pub product_of_none : Gives (Reduce g) (Name (codes "product") ∷ Many [] ∷ []) (num 1)
  pub catenation_of_none : Gives (Reduce g) (Name (codes "catenate") ∷ Many [] ∷ []) (array_from (pos 1) [])
  pub streams_of_none : op (Reduce g) shape.Stream (Name (codes "catenate") ∷ Many [] ∷ []) ≡ stream [] ∷ []
  pub sum_past_the_word : Gives (Reduce g) (Name (codes "sum") ∷ Many (val.Int greatest ∷ num 1 ∷ val.Int minus_one ∷ []) ∷ []) (val.Int greatest)

-- ---- a loop: while k is below 20, it is 3 times k; all its values, and the last

abbrev pub loop_parts : List Net
loop_parts =
    net [] (Port 0 1 ∷ [])
    ∷ net (node 1 (Two Less) (Port 0 2 ∷ Fixed (int (pos 20)) ∷ []) ∷ []) (Port 1 1 ∷ [])
    ∷ net (node 1 (Two Times) (Port 0 2 ∷ Fixed (int (pos 3)) ∷ []) ∷ []) (Port 1 1 ∷ [])
    ∷ net (node 1 AGather (Fixed (int (pos 1)) ∷ Port 0 2 ∷ []) ∷ node 2 FinalValue (Port 0 2 ∷ []) ∷ []) (Port 1 1 ∷ Port 2 1 ∷ [])
    ∷ []

abbrev pub testing_first : Network
testing_first = around (LoopB 1 2 3 4 2) (Port 0 1 ∷ []) loop_parts

abbrev pub testing_last : Network
testing_last = around (LoopA 1 2 3 4 2) (Port 0 1 ∷ []) loop_parts

-- a loop whose test is always true, and whose value stays as it is
abbrev pub endless : Network
endless =
    around (LoopB 1 2 1 1 2) (Port 0 1 ∷ []) (net [] (Port 0 1 ∷ []) ∷ net [] (Fixed (bool true) ∷ []) ∷ [])

pub record AreLoopRows : Type 0 where
  pub first_from_1 : Leaves testing_first (int (pos 1) ∷ []) (array (pos 1) (num 1 ∷ num 3 ∷ num 9 ∷ num 27 ∷ [])) (int (pos 27))
  pub last_from_1 : Leaves testing_last (int (pos 1) ∷ []) (array (pos 1) (num 1 ∷ num 3 ∷ num 9 ∷ num 27 ∷ [])) (int (pos 27))
  pub first_from_30 : Leaves testing_first (int (pos 30) ∷ []) (array (pos 1) (num 30 ∷ [])) (int (pos 30))
  pub last_from_30 : Leaves testing_last (int (pos 30) ∷ []) (array (pos 1) (num 30 ∷ num 90 ∷ [])) (int (pos 90))
  -- no depth gives results
  pub never : (v : Carried) (n : ℕ) → dem n endless 0 (v ∷ []) ≡ None
