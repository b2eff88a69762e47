-- Compound nodes that fail, and errors that they pass on: an example for each place of the table of what follows (IF1 manual
-- M-170, compound nodes).
use Rattle.std.specs.Prelude.{◌≡◌, ℕ, pos, negsuc, true, false, List, [], ◌∷◌, get_or, Some}
use Rattle.flow_value.specs.declared.cause.Cause.{Cause}
use Rattle.flow_value.specs.declared.cause.Cause.TheVariants.{Size, Tag, Explicit}
use Rattle.flow_value.specs.declared.operation.Scalar1.TheVariants.{Neg}
use Rattle.flow_value.specs.declared.operation.Scalar2.TheVariants.{Plus, Less}
use Rattle.flow_value.specs.declared.value.Val.{Val}
use Rattle.flow_value.specs.declared.value.Val.TheVariants as val
use Rattle.if1_graph.specs.declared.op.Simple.{Simple}
use Rattle.if1_graph.specs.declared.op.Simple.TheVariants.{One, Two, RangeGenerate, AScatter, AGather, FinalValue}
use Rattle.graph_meaning.specs.Carried.{Carried, Value}
use Rattle.graph_meaning.specs.NodeValues as shape
use Rattle.graph_meaning.specs.Forms.{Form, Call, Select, TagCase, LoopA, LoopB, ForAll}
use Rattle.graph_meaning.specs.Demand.{Source, Port, Fixed, Kind, Plain, Whole, Vertex, Net, Network, dem}
use Rattle.graph_examples.specs.Words.{num, minus_one, int, bool, error, array}

-- ---- small graphs

abbrev pub vertex : ℕ → Kind → List Source → Vertex
vertex l k ins = record { label = l; kind = k; ins = ins; before = [] }

abbrev pub node : ℕ → Simple → List Source → Vertex
node l row ins = vertex l (Plain row shape.Plain) ins

abbrev pub net : List Vertex → List Source → Net
net nodes results = record { nodes = nodes; results = results }

-- graphs numbered from 0, and none from there on
abbrev pub numbered : List Net → Network
numbered nets k = get_or nets k (net [] [])

-- A graph of one node of this form, which has the inputs of the graph, and whose two outputs are its results; then the graphs
-- that the node enters, from 1 on.
abbrev pub around : Form → List Source → List Net → Network
around form ins parts = numbered (net (vertex 1 (Whole form) ins ∷ []) (Port 1 1 ∷ Port 1 2 ∷ []) ∷ parts)

-- graph 0 gives these two results at some depth
abbrev pub Leaves : Network → List Carried → Carried → Carried → Type 0
Leaves u ins a b = (n : ℕ) × (dem n u 0 ins ≡ Some (a ∷ b ∷ []))

-- every output is this error
abbrev pub FailsWith : Network → List Carried → Cause → Type 0
FailsWith u ins c = Leaves u ins (error c) (error c)

-- ---- parts that give too little or too much, and a TagCase of nothing

-- graph 1 gives nothing, graph 2 gives 0 twice
abbrev pub part_around : Form → Network
part_around form = around form [] (net [] [] ∷ net [] (Fixed (int (pos 0)) ∷ Fixed (int (pos 0)) ∷ []) ∷ [])

pub record ArePartsForeign : Type 0 where
  pub selector_of_none : FailsWith (part_around (Select 1 (2 ∷ []) 2)) [] Explicit
  pub selector_of_two : FailsWith (part_around (Select 2 (2 ∷ []) 2)) [] Explicit
  pub first_test_of_none : FailsWith (part_around (LoopB 1 1 1 2 2)) [] Explicit
  pub first_test_of_two : FailsWith (part_around (LoopB 1 2 1 2 2)) [] Explicit
  pub last_test_of_none : FailsWith (part_around (LoopA 1 1 1 2 2)) [] Explicit
  pub last_test_of_two : FailsWith (part_around (LoopA 1 2 1 2 2)) [] Explicit
  pub no_input : FailsWith (part_around (TagCase (2 ∷ []) 2)) [] Explicit

-- ---- Call: the graph gives its argument, and 5

abbrev pub calling : Network
calling = around (Call 1) (Port 0 1 ∷ []) (net [] (Port 0 1 ∷ Fixed (int (pos 5)) ∷ []) ∷ [])

-- an argument that is an error is a value
abbrev pub AreCallsPassing : Type 0
AreCallsPassing = (c : Cause) → Leaves calling (error c ∷ []) (error c) (int (pos 5))

-- ---- Select: the selector gives the first input; the alternatives give the second one twice, and 4 and 5

abbrev pub choosing : Network
choosing =
    around (Select 1 (2 ∷ 3 ∷ []) 2) (Port 0 1 ∷ Port 0 2 ∷ [])
    (net [] (Port 0 1 ∷ []) ∷ net [] (Port 0 2 ∷ Port 0 2 ∷ []) ∷ net [] (Fixed (int (pos 4)) ∷ Fixed (int (pos 5)) ∷ []) ∷ [])

pub record AreSelectsFailing (c d : Cause) : Type 0 where
  pub number_above : FailsWith choosing (int (pos 2) ∷ int (pos 7) ∷ []) Tag
  pub number_below : FailsWith choosing (int minus_one ∷ int (pos 7) ∷ []) Tag
  pub selector_error : FailsWith choosing (error c ∷ error d ∷ []) c
  pub selector_boolean : FailsWith choosing (bool true ∷ int (pos 7) ∷ []) Explicit
  -- an error among the inputs stops nothing, and is passed on where it is used
  pub input_unused : Leaves choosing (int (pos 1) ∷ error d ∷ []) (int (pos 4)) (int (pos 5))
  pub input_used : Leaves choosing (int (pos 0) ∷ error d ∷ []) (error d) (error d)

-- ---- TagCase: the arm of tag 0 gives the content and the second input, that of tag 1 gives 4 and 5; tag 2 has none

abbrev pub by_tag : Network
by_tag =
    around (TagCase (1 ∷ 2 ∷ []) 2) (Port 0 1 ∷ Port 0 2 ∷ [])
    (net [] (Port 0 1 ∷ Port 0 2 ∷ []) ∷ net [] (Fixed (int (pos 4)) ∷ Fixed (int (pos 5)) ∷ []) ∷ [])

abbrev pub union : ℕ → Val → Carried
union tag v = Value (val.Uni tag v)

pub record AreTagCasesFailing (c d : Cause) : Type 0 where
  pub union_error : FailsWith by_tag (error c ∷ error d ∷ []) c
  pub no_union : FailsWith by_tag (int (pos 0) ∷ int (pos 7) ∷ []) Explicit
  pub no_arm : FailsWith by_tag (union 2 (num 5) ∷ int (pos 7) ∷ []) Explicit
  -- a content that is an error is no union that is one
  pub content_used : Leaves by_tag (union 0 (val.Err c) ∷ int (pos 7) ∷ []) (error c) (int (pos 7))
  pub content_unused : Leaves by_tag (union 1 (val.Err c) ∷ error d ∷ []) (int (pos 4)) (int (pos 5))
  pub input_used : Leaves by_tag (union 0 (num 5) ∷ error d ∷ []) (int (pos 5)) (error d)

-- ---- loops: the first input is the loop value, the test is the second, the body gives the third; all values, and the last

abbrev pub loop_parts : List Net
loop_parts =
    net [] (Port 0 1 ∷ [])
    ∷ net [] (Port 0 2 ∷ [])
    ∷ net [] (Port 0 3 ∷ [])
    ∷ net (node 1 AGather (Fixed (int (pos 1)) ∷ Port 0 4 ∷ []) ∷ node 2 FinalValue (Port 0 4 ∷ []) ∷ []) (Port 1 1 ∷ Port 2 1 ∷ [])
    ∷ []

abbrev pub testing_first : Network
testing_first = around (LoopB 1 2 3 4 2) (Port 0 1 ∷ Port 0 2 ∷ Port 0 3 ∷ []) loop_parts

abbrev pub testing_last : Network
testing_last = around (LoopA 1 2 3 4 2) (Port 0 1 ∷ Port 0 2 ∷ Port 0 3 ∷ []) loop_parts

-- while the loop value is below 2, it is 1 more
abbrev pub counting : Network
counting =
    around (LoopB 1 2 3 4 2) (Port 0 1 ∷ [])
    (net [] (Port 0 1 ∷ [])
    ∷ net (node 1 (Two Less) (Port 0 2 ∷ Fixed (int (pos 2)) ∷ []) ∷ []) (Port 1 1 ∷ [])
    ∷ net (node 1 (Two Plus) (Port 0 2 ∷ Fixed (int (pos 1)) ∷ []) ∷ []) (Port 1 1 ∷ [])
    ∷ net (node 1 FinalValue (Port 0 2 ∷ []) ∷ []) (Port 1 1 ∷ Port 1 1 ∷ [])
    ∷ [])

pub record AreLoopsFailing (c d : Cause) : Type 0 where
  pub first_test_error : FailsWith testing_first (error d ∷ error c ∷ error d ∷ []) c
  pub first_test_integer : FailsWith testing_first (int (pos 3) ∷ int (pos 1) ∷ int (pos 7) ∷ []) Explicit
  pub last_test_error : FailsWith testing_last (error d ∷ error c ∷ error d ∷ []) c
  pub last_test_integer : FailsWith testing_last (int (pos 3) ∷ int (pos 1) ∷ int (pos 7) ∷ []) Explicit
  -- a test of an error is that error
  pub test_of_an_error : FailsWith counting (error c ∷ []) c
  -- errors among loop values are values
  pub first_value_error : Leaves testing_first (error c ∷ bool false ∷ int (pos 7) ∷ []) (array (pos 1) (val.Err c ∷ [])) (error c)
  pub next_value_error : Leaves testing_last (int (pos 3) ∷ bool false ∷ error c ∷ []) (array (pos 1) (num 3 ∷ val.Err c ∷ [])) (error c)

-- ---- ForAll: the generator gives the numbers from 1 to the first input and those from 2 to the second; the body negates the
-- first of each pair; all values of it, and the last

abbrev pub spreading : Network
spreading =
    around (ForAll 1 2 3 1 2) (Port 0 1 ∷ Port 0 2 ∷ [])
    (net
    (node 1 RangeGenerate (Fixed (int (pos 1)) ∷ Port 0 1 ∷ []) ∷ node 2 RangeGenerate (Fixed (int (pos 2)) ∷ Port 0 2 ∷ []) ∷ [])
    (Port 1 1 ∷ Port 2 1 ∷ [])
    ∷ net (node 1 (One Neg) (Port 0 3 ∷ []) ∷ []) (Port 1 1 ∷ [])
    ∷ net (node 1 AGather (Fixed (int (pos 1)) ∷ Port 0 5 ∷ []) ∷ node 2 FinalValue (Port 0 5 ∷ []) ∷ []) (Port 1 1 ∷ Port 2 1 ∷ [])
    ∷ [])

-- the generator gives the elements of the input
abbrev pub each_element : Network
each_element =
    around (ForAll 1 2 3 1 2) (Port 0 1 ∷ [])
    (net (node 1 AScatter (Port 0 1 ∷ []) ∷ []) (Port 1 1 ∷ [])
    ∷ net (node 1 (One Neg) (Port 0 2 ∷ []) ∷ []) (Port 1 1 ∷ [])
    ∷ net (node 1 AGather (Fixed (int (pos 1)) ∷ Port 0 3 ∷ []) ∷ node 2 FinalValue (Port 0 3 ∷ []) ∷ []) (Port 1 1 ∷ Port 2 1 ∷ [])
    ∷ [])

pub record AreForAllsFailing (c d : Cause) : Type 0 where
  pub first_multiple : FailsWith spreading (error c ∷ error d ∷ []) c
  pub second_multiple : FailsWith spreading (int (pos 1) ∷ error d ∷ []) d
  pub too_many : FailsWith spreading (int (pos 4194305) ∷ int (pos 2) ∷ []) Size
  -- multiples of different lengths, and a length that differs from none
  pub lengths_differ : FailsWith spreading (int (pos 3) ∷ int (pos 3) ∷ []) Size
  pub one_has_none : FailsWith spreading (int (pos 0) ∷ int (pos 2) ∷ []) Size
  pub scattered_error : FailsWith each_element (error c ∷ []) c
  pub no_list : FailsWith each_element (int (pos 5) ∷ []) Explicit
  -- an error among the elements is one element, and all iterations are run
  pub element_error : Leaves each_element (array (pos 3) (num 1 ∷ val.Err c ∷ num 3 ∷ []) ∷ []) (array (pos 1) (val.Int (negsuc 0) ∷ val.Err c ∷ val.Int (negsuc 2) ∷ [])) (int (negsuc 2))
