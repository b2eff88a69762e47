-- What nodes copy and write, row by row, on small operands.
use Rattle.std.proofs.Common.{◌≡◌, ℕ, pos, Bool, true, false, List, [], ◌∷◌, ◌+◌, length, refl, ap, rules, eqb}
use Rattle.std.specs.Prelude.{codes, ◌||◌}
use Rattle.loop_folds.specs.Bounds.{bounded}
use Rattle.loop_folds.specs.Leaves.{leaf_step, leaf_count, leaf_count_of_all}
use Rattle.loop_folds.specs.Cause.{Cause}
use Rattle.loop_folds.specs.Cause.TheVariants as cause
use Rattle.loop_folds.specs.Val.{Val}
use Rattle.loop_folds.specs.Val.TheFolds.{fold-roll-Val}
use Rattle.loop_folds.specs.Val.TheOpen.{Val-F}
use Rattle.loop_folds.specs.Val.TheVariants as val
use Rattle.loop_folds.specs.Val.TheViews as values
use Rattle.if1_graph.specs.declared.op.Grouping.TheVariants.{Free}
use Rattle.if1_graph.specs.declared.op.Simple.TheVariants as simple
use Rattle.graph_meaning.specs.Carried.{Carried, Value, Many, Spoiled, Name}
use Rattle.graph_meaning.specs.Forms.{Call, Select}
use Rattle.graph_meaning.specs.NodeValues as shape
use Rattle.graph_meaning.specs.Demand.{Port, Plain, Whole, Vertex, Network}
use Rattle.graph_meaning.specs.Plain.{CarryAll, no_port, input, output}
use Rattle.graph_meaning.specs.Plain as plain
use Rattle.graph_meaning.specs.Storage.{Storage, elements_in, copied_by, written_by, node_copied, node_written, copying, writing, Copies, Writes, Weights, GraphAdds, of_nodes, a_node, no_node, of_simple}

-- ---- values

abbrev pub int : ℕ → Val
int n = val.Int (pos n)

abbrev pub array : List Val → Val
array vs = val.Arr (bounded (pos 1) vs)

-- arrays of two and of three integers
abbrev two : Val
two = array (int 7 ∷ int 8 ∷ [])

abbrev three : Val
three = array (int 1 ∷ int 2 ∷ int 3 ∷ [])

-- a record of an array of three and an integer, with four leaves
abbrev pair : Val
pair = val.Rec (three ∷ int 4 ∷ [])

pub one-leaf : (n : ℕ) → leaf_count (int n) ≡ 1
unfolding values.roll-Val denote.Hole.Carrier.roll
one-leaf n = fold-roll-Val ℕ leaf_step (Val-F.Int (pos n))

error-leaf : (c : Cause) → leaf_count (val.Err c) ≡ 1
unfolding values.roll-Val denote.Hole.Carrier.roll
error-leaf c = fold-roll-Val ℕ leaf_step (Val-F.Err c)

pub array-leaves : (vs : List Val) → leaf_count (array vs) ≡ leaf_count_of_all vs
unfolding values.roll-Val denote.Hole.Carrier.roll
array-leaves vs = fold-roll-Val ℕ leaf_step (Val-F.Arr (bounded (pos 1) vs))

stream-leaves : (vs : List Val) → leaf_count (val.Stream vs) ≡ leaf_count_of_all vs
unfolding values.roll-Val denote.Hole.Carrier.roll
stream-leaves vs = fold-roll-Val ℕ leaf_step (Val-F.Stream vs)

record-leaves : (vs : List Val) → leaf_count (val.Rec vs) ≡ leaf_count_of_all vs
unfolding values.roll-Val denote.Hole.Carrier.roll
record-leaves vs = fold-roll-Val ℕ leaf_step (Val-F.Rec vs)

pub array-elements : (vs : List Val) → elements_in (values.out-Val (array vs)) ≡ length vs
array-elements vs =
    let out : values.out-Val (array vs) ≡ Val-F.Arr (bounded (pos 1) vs) = search (rules, values.the_lemmas) in ap elements_in out

stream-elements : (vs : List Val) → elements_in (values.out-Val (val.Stream vs)) ≡ length vs
stream-elements vs =
    let out : values.out-Val (val.Stream vs) ≡ Val-F.Stream vs = search (rules, values.the_lemmas) in ap elements_in out

error-elements : (c : Cause) → elements_in (values.out-Val (val.Err c)) ≡ 0
error-elements c =
    let out : values.out-Val (val.Err c) ≡ Val-F.Err c = search (rules, values.the_lemmas) in ap elements_in out

-- ---- tables of edges

abbrev Ports : Type 0
Ports = ℕ → Bool

abbrev no : Ports
no port = false

abbrev at : ℕ → Ports
at n port = eqb port n

abbrev both : ℕ → ℕ → Ports
both n m port = eqb port n || eqb port m

-- which ports carry aggregates in, and which of them are taken
abbrev edges : Ports → Ports → Storage
edges aggregate taken =
    record {
      is_aggregate = λ g l. aggregate;
      is_taken = λ g l. taken;
      is_given = λ g l. no;
      is_made = λ g l. no;
      is_used = λ g l. no;
      is_joined = λ g l. false;
    }

-- a port that carries an aggregate in, and is given inside
abbrev given : Ports → Ports → Storage
given ports taken =
    record {
      is_aggregate = λ g l. ports;
      is_taken = λ g l. taken;
      is_given = λ g l. ports;
      is_made = λ g l. no;
      is_used = λ g l. no;
      is_joined = λ g l. false;
    }

-- which outputs are aggregates, and which have an edge; an aggregate comes in at port 1
abbrev outputs : Ports → Ports → Storage
outputs made used =
    record {
      is_aggregate = λ g l. at 1;
      is_taken = λ g l. no;
      is_given = λ g l. no;
      is_made = λ g l. made;
      is_used = λ g l. used;
      is_joined = λ g l. false;
    }

-- the result is the operand of an ACatenate
abbrev joined : Storage
joined =
    record {
      is_aggregate = λ g l. both 1 2;
      is_taken = λ g l. no;
      is_given = λ g l. no;
      is_made = λ g l. at 1;
      is_used = λ g l. at 1;
      is_joined = λ g l. true;
    }

-- ---- copies of what is changed and of what is stored

-- the array has another reader, and an array is stored in it
replace-left : copied_by (edges (both 1 3) no) 0 1 simple.AReplace (Value three ∷ Value (int 1) ∷ Value two ∷ []) [] ≡ 5
replace-left = simp (one-leaf, array-leaves)

-- the array is taken, what is stored is not
replace-taken : copied_by (edges (both 1 3) (at 1)) 0 1 simple.AReplace (Value three ∷ Value (int 1) ∷ Value two ∷ []) [] ≡ 2
replace-taken = simp (one-leaf, array-leaves)

replace-all-taken : copied_by (edges (both 1 3) (both 1 3)) 0 1 simple.AReplace (Value three ∷ Value (int 1) ∷ Value two ∷ []) [] ≡ 0
replace-all-taken = refl

-- an integer is stored
replace-integer : copied_by (edges (at 1) no) 0 1 simple.AReplace (Value three ∷ Value (int 1) ∷ Value (int 1) ∷ []) [] ≡ 3
replace-integer = simp (one-leaf, array-leaves)

-- an error is one leaf
replace-error : copied_by (edges (at 1) no) 0 1 simple.AReplace (Value (val.Err cause.Bounds) ∷ Value (int 1) ∷ Value (int 1) ∷ []) [] ≡ 1
replace-error = simp error-leaf

add-high-left : copied_by (edges (both 1 2) no) 0 1 simple.AAddH (Value three ∷ Value two ∷ []) [] ≡ 5
add-high-left = simp (one-leaf, array-leaves)

add-high-taken : copied_by (edges (both 1 2) (at 1)) 0 1 simple.AAddH (Value three ∷ Value two ∷ []) [] ≡ 2
add-high-taken = simp (one-leaf, array-leaves)

add-low-left : copied_by (edges (both 1 2) no) 0 1 simple.AAddL (Value three ∷ Value two ∷ []) [] ≡ 5
add-low-left = simp (one-leaf, array-leaves)

remove-high-left : copied_by (edges (at 1) no) 0 1 simple.ARemH (Value three ∷ []) [] ≡ 3
remove-high-left = simp (one-leaf, array-leaves)

remove-high-taken : copied_by (edges (at 1) (at 1)) 0 1 simple.ARemH (Value three ∷ []) [] ≡ 0
remove-high-taken = refl

remove-low-left : copied_by (edges (at 1) no) 0 1 simple.ARemL (Value three ∷ []) [] ≡ 3
remove-low-left = simp (one-leaf, array-leaves)

set-low-left : copied_by (edges (at 1) no) 0 1 simple.ASetL (Value three ∷ Value (int 1) ∷ []) [] ≡ 3
set-low-left = simp (one-leaf, array-leaves)

adjust-left : copied_by (edges (at 1) no) 0 1 simple.AAdjust (Value three ∷ Value (int 1) ∷ Value (int 1) ∷ []) [] ≡ 3
adjust-left = simp (one-leaf, array-leaves)

rest-left : copied_by (edges (at 1) no) 0 1 simple.RestValues (Value (val.Stream (int 1 ∷ int 2 ∷ [])) ∷ []) [] ≡ 2
rest-left = simp (one-leaf, stream-leaves)

no-op-left : copied_by (edges (at 1) no) 0 1 simple.NoOp (Value three ∷ []) [] ≡ 3
no-op-left = simp (one-leaf, array-leaves)

no-op-taken : copied_by (edges (at 1) (at 1)) 0 1 simple.NoOp (Value three ∷ []) [] ≡ 0
no-op-taken = refl

-- elements of a new array
build-left : copied_by (edges (both 2 3) no) 0 1 simple.ABuild (Value (int 1) ∷ Value three ∷ Value two ∷ []) [] ≡ 5
build-left = simp (one-leaf, array-leaves)

build-taken : copied_by (edges (both 2 3) (at 2)) 0 1 simple.ABuild (Value (int 1) ∷ Value three ∷ Value two ∷ []) [] ≡ 2
build-taken = simp (one-leaf, array-leaves)

-- fields of a new record, one of them an integer
record-left : copied_by (edges (both 1 3) no) 0 1 simple.RBuild (Value three ∷ Value (int 1) ∷ Value two ∷ []) [] ≡ 5
record-left = simp (one-leaf, array-leaves)

record-taken : copied_by (edges (both 1 3) (at 3)) 0 1 simple.RBuild (Value three ∷ Value (int 1) ∷ Value two ∷ []) [] ≡ 3
record-taken = simp (one-leaf, array-leaves)

-- a record of four leaves, one field of which is changed
change-left : copied_by (edges (both 1 2) no) 0 1 simple.RReplace (Value pair ∷ Value two ∷ []) [] ≡ 6
change-left = simp (one-leaf, array-leaves, record-leaves)

change-taken : copied_by (edges (both 1 2) (at 1)) 0 1 simple.RReplace (Value pair ∷ Value two ∷ []) [] ≡ 2
change-taken = simp (one-leaf, array-leaves)

catenate-left : copied_by (edges (both 1 2) no) 0 1 simple.ACatenate (Value three ∷ Value two ∷ []) [] ≡ 5
catenate-left = simp (one-leaf, array-leaves)

catenate-taken : copied_by (edges (both 1 2) (at 1)) 0 1 simple.ACatenate (Value three ∷ Value two ∷ []) [] ≡ 2
catenate-taken = simp (one-leaf, array-leaves)

-- ---- what is only read is not copied

size-read : copied_by (edges (at 1) no) 0 1 simple.ASize (Value three ∷ []) [] ≡ 0
size-read = refl

scatter-read : copied_by (edges (at 1) no) 0 1 simple.AScatter (Value three ∷ []) (Many (int 1 ∷ int 2 ∷ int 3 ∷ []) ∷ Many (int 1 ∷ int 2 ∷ int 3 ∷ []) ∷ []) ≡ 0
scatter-read = refl

-- ---- copies of what is handed out

-- the element alone, not the array
element-made : copied_by (outputs (at 1) (at 1)) 0 1 simple.AElement (Value (array (three ∷ two ∷ [])) ∷ Value (int 2) ∷ []) (Value two ∷ []) ≡ 2
element-made = simp (one-leaf, array-leaves)

element-integer : copied_by (outputs no (at 1)) 0 1 simple.AElement (Value three ∷ Value (int 2) ∷ []) (Value (int 2) ∷ []) ≡ 0
element-integer = refl

first-made : copied_by (outputs (at 1) (at 1)) 0 1 simple.FirstValue (Value (val.Stream (three ∷ two ∷ [])) ∷ []) (Value three ∷ []) ≡ 3
first-made = simp (one-leaf, array-leaves)

-- fields that are aggregates and have an edge
fields-used : copied_by (outputs (both 1 2) (both 1 3)) 0 1 simple.RElements (Value (val.Rec (three ∷ two ∷ int 4 ∷ [])) ∷ []) (Value three ∷ Value two ∷ Value (int 4) ∷ []) ≡ 3
fields-used = simp (one-leaf, array-leaves)

fields-all-used : copied_by (outputs (both 1 2) (both 1 2)) 0 1 simple.RElements (Value (val.Rec (three ∷ two ∷ int 4 ∷ [])) ∷ []) (Value three ∷ Value two ∷ Value (int 4) ∷ []) ≡ 5
fields-all-used = simp (one-leaf, array-leaves)

-- what fills an array, once for each place
fill-aggregate : copied_by (edges (at 3) no) 0 1 simple.AFill (Value (int 1) ∷ Value (int 3) ∷ Value two ∷ []) (Value (array (two ∷ two ∷ two ∷ [])) ∷ []) ≡ 6
fill-aggregate = simp (one-leaf, array-leaves, array-elements)

fill-integer : copied_by (edges no no) 0 1 simple.AFill (Value (int 1) ∷ Value (int 3) ∷ Value (int 1) ∷ []) (Value (array (int 1 ∷ int 1 ∷ int 1 ∷ [])) ∷ []) ≡ 0
fill-integer = refl

fill-error : copied_by (edges (at 3) no) 0 1 simple.AFill (Value (int 1) ∷ Value (val.Err cause.Zero) ∷ Value two ∷ []) (Value (val.Err cause.Zero) ∷ []) ≡ 0
fill-error = simp (one-leaf, array-leaves, error-elements)

-- ---- copies of elements of multiples

gather-all : copied_by (edges (at 2) no) 0 1 simple.AGather (Value (int 1) ∷ Many (three ∷ two ∷ []) ∷ []) (Value (array (three ∷ two ∷ [])) ∷ []) ≡ 5
gather-all = simp (one-leaf, array-leaves)

gather-kept : copied_by (edges (at 2) no) 0 1 simple.AGather (Value (int 1) ∷ Many (three ∷ two ∷ []) ∷ Many (val.Bool true ∷ val.Bool false ∷ []) ∷ []) (Value (array (three ∷ [])) ∷ []) ≡ 3
gather-kept = simp (one-leaf, array-leaves)

gather-taken : copied_by (edges (at 2) (at 2)) 0 1 simple.AGather (Value (int 1) ∷ Many (three ∷ two ∷ []) ∷ Many (val.Bool true ∷ val.Bool false ∷ []) ∷ []) (Value (array (three ∷ [])) ∷ []) ≡ 0
gather-taken = refl

gather-integers : copied_by (edges no no) 0 1 simple.AGather (Value (int 1) ∷ Many (int 1 ∷ int 2 ∷ []) ∷ []) (Value (array (int 1 ∷ int 2 ∷ [])) ∷ []) ≡ 0
gather-integers = refl

-- an error multiple is one leaf
gather-spoiled : copied_by (edges (at 2) no) 0 1 simple.AGather (Value (int 1) ∷ Spoiled cause.Size ∷ []) (Value (val.Err cause.Size) ∷ []) ≡ 1
gather-spoiled = refl

-- a last value without a mask: the result; with a mask: each kept element
last-result : copied_by (edges (at 1) no) 0 1 simple.FinalValue (Many (three ∷ two ∷ []) ∷ []) (Value two ∷ []) ≡ 2
last-result = simp (one-leaf, array-leaves)

last-taken : copied_by (edges (at 1) (at 1)) 0 1 simple.FinalValue (Many (three ∷ two ∷ []) ∷ []) (Value two ∷ []) ≡ 0
last-taken = refl

last-kept : copied_by (edges (at 1) no) 0 1 simple.FinalValue (Many (three ∷ two ∷ []) ∷ Many (val.Bool true ∷ val.Bool true ∷ []) ∷ []) (Value two ∷ []) ≡ 5
last-kept = simp (one-leaf, array-leaves)

last-kept-one : copied_by (edges (at 1) no) 0 1 simple.FinalValue (Many (three ∷ two ∷ []) ∷ Many (val.Bool false ∷ val.Bool true ∷ []) ∷ []) (Value two ∷ []) ≡ 2
last-kept-one = simp (one-leaf, array-leaves)

reduce-catenate : copied_by (edges (at 2) no) 0 1 (simple.Reduce Free) (Name (codes "catenate") ∷ Many (three ∷ two ∷ []) ∷ []) [] ≡ 5
reduce-catenate = simp (one-leaf, array-leaves)

reduce-catenate-kept : copied_by (edges (at 2) no) 0 1 (simple.Reduce Free) (Name (codes "catenate") ∷ Many (three ∷ two ∷ []) ∷ Many (val.Bool false ∷ val.Bool true ∷ []) ∷ []) [] ≡ 2
reduce-catenate-kept = simp (one-leaf, array-leaves)

reduce-sum : copied_by (edges no no) 0 1 (simple.Reduce Free) (Name (codes "sum") ∷ Many (int 1 ∷ int 2 ∷ []) ∷ []) [] ≡ 0
reduce-sum = refl

-- ---- Calls, compound nodes and results

-- the first argument of a Call is at port 2
call-given : node_copied (given (at 2) no) 0 1 (Whole (Call 1)) (Value three ∷ Value two ∷ []) [] ≡ 3
call-given = simp (one-leaf, array-leaves)

call-second-given : node_copied (given (at 3) no) 0 1 (Whole (Call 1)) (Value three ∷ Value two ∷ []) [] ≡ 2
call-second-given = simp (one-leaf, array-leaves)

call-taken : node_copied (given (at 2) (at 2)) 0 1 (Whole (Call 1)) (Value three ∷ Value two ∷ []) [] ≡ 0
call-taken = refl

call-not-given : node_copied (edges (both 2 3) no) 0 1 (Whole (Call 1)) (Value three ∷ Value two ∷ []) [] ≡ 0
call-not-given = refl

select-given : node_copied (given (at 2) no) 0 1 (Whole (Select 1 (2 ∷ []) 1)) (Value (int 1) ∷ Value three ∷ []) [] ≡ 3
select-given = simp (one-leaf, array-leaves)

select-taken : node_copied (given (at 2) (at 2)) 0 1 (Whole (Select 1 (2 ∷ []) 1)) (Value (int 1) ∷ Value three ∷ []) [] ≡ 0
select-taken = refl

-- results of a graph
results-left : (copying (edges (both 1 2) no)).of_results 0 (Value three ∷ Value two ∷ Value (int 1) ∷ []) ≡ 5
results-left = simp (one-leaf, array-leaves)

results-taken : (copying (edges (both 1 2) (at 2))).of_results 0 (Value three ∷ Value two ∷ Value (int 1) ∷ []) ≡ 3
results-taken = simp (one-leaf, array-leaves)

-- ---- writes

build-writes : written_by (edges (both 1 2) no) 0 1 simple.ABuild (Value (int 1) ∷ Value three ∷ Value two ∷ []) (Value (array (three ∷ two ∷ [])) ∷ []) ≡ 2
build-writes = simp array-elements

build-stream-writes : written_by (edges (both 1 2) no) 0 1 simple.ABuild (Value (int 1) ∷ Value (int 1) ∷ Value (int 1) ∷ []) (Value (val.Stream (int 1 ∷ int 1 ∷ [])) ∷ []) ≡ 2
build-stream-writes = simp stream-elements

-- an error has no element
build-error-writes : written_by (edges (both 1 2) no) 0 1 simple.ABuild (Value (val.Err cause.Zero) ∷ Value (int 1) ∷ []) (Value (val.Err cause.Zero) ∷ []) ≡ 0
build-error-writes = simp error-elements

fill-writes : written_by (edges (both 1 2) no) 0 1 simple.AFill (Value (int 1) ∷ Value (int 3) ∷ Value two ∷ []) (Value (array (two ∷ two ∷ two ∷ [])) ∷ []) ≡ 3
fill-writes = simp array-elements

gather-writes : written_by (edges (both 1 2) no) 0 1 simple.AGather (Value (int 1) ∷ Many (three ∷ two ∷ []) ∷ Many (val.Bool true ∷ val.Bool false ∷ []) ∷ []) (Value (array (three ∷ [])) ∷ []) ≡ 1
gather-writes = simp array-elements

catenate-writes : written_by (edges (both 1 2) no) 0 1 simple.ACatenate (Value three ∷ Value two ∷ []) (Value (array (int 1 ∷ int 2 ∷ int 3 ∷ int 7 ∷ int 8 ∷ [])) ∷ []) ≡ 5
catenate-writes = simp array-elements

-- the next ACatenate writes its elements
catenate-joined-writes : written_by joined 0 1 simple.ACatenate (Value three ∷ Value two ∷ []) (Value (array (int 1 ∷ int 2 ∷ int 3 ∷ int 7 ∷ int 8 ∷ [])) ∷ []) ≡ 0
catenate-joined-writes = refl

reduce-catenate-writes : written_by (edges (both 1 2) no) 0 1 (simple.Reduce Free) (Name (codes "catenate") ∷ Many (three ∷ two ∷ []) ∷ []) (Value (array (int 1 ∷ int 2 ∷ int 3 ∷ int 7 ∷ int 8 ∷ [])) ∷ []) ≡ 5
reduce-catenate-writes = simp array-elements

reduce-sum-writes : written_by (edges (both 1 2) no) 0 1 (simple.Reduce Free) (Name (codes "sum") ∷ Many (int 1 ∷ int 2 ∷ []) ∷ []) (Value (int 3) ∷ []) ≡ 0
reduce-sum-writes = refl

replace-writes : written_by (edges (both 1 2) no) 0 1 simple.AReplace (Value three ∷ Value (int 1) ∷ Value (int 1) ∷ []) (Value three ∷ []) ≡ 0
replace-writes = refl

record-writes : written_by (edges (both 1 2) no) 0 1 simple.RBuild (Value three ∷ Value two ∷ []) (Value (val.Rec (three ∷ two ∷ [])) ∷ []) ≡ 0
record-writes = refl

last-writes : written_by (edges (both 1 2) no) 0 1 simple.FinalValue (Many (three ∷ two ∷ []) ∷ []) (Value two ∷ []) ≡ 0
last-writes = refl

select-writes : node_written (edges (at 1) no) 0 1 (Whole (Select 1 (2 ∷ []) 1)) (Value (int 1) ∷ []) (Value three ∷ []) ≡ 0
select-writes = refl

-- ---- a whole graph

abbrev hands_on : Vertex
hands_on = record { label = 1; kind = Plain simple.NoOp shape.Plain; ins = Port 0 1 ∷ []; before = [] }

-- a graph that gives its input as a node hands it on
abbrev handing : Network
handing g = record { nodes = hands_on ∷ []; results = Port 1 1 ∷ [] }

abbrev one_array : List Carried
one_array = Value three ∷ []

handed : CarryAll handing 0 0 one_array (Port 0 1 ∷ []) one_array
handed = plain.port 0 0 one_array (Port 0 1) [] (Value three) [] (input 0 0 one_array 1) (no_port 0 0 one_array)

handed-on : CarryAll handing 0 0 one_array (Port 1 1 ∷ []) one_array
handed-on =
    plain.port 0 0 one_array (Port 1 1) [] (Value three) []
    (output 0 0 one_array 0 1 hands_on one_array one_array refl handed (plain.simple 0 simple.NoOp shape.Plain one_array))
    (no_port 0 0 one_array)

handing-adds : (w : Weights) → GraphAdds handing w 0 0 one_array (w.of_results 0 one_array + (w.of_node 0 hands_on one_array one_array + (0 + 0)))
handing-adds w =
    of_nodes 0 0 one_array one_array (w.of_node 0 hands_on one_array one_array + (0 + 0)) handed-on
    (
    a_node 0 0 one_array hands_on [] one_array one_array 0 0 handed (plain.simple 0 simple.NoOp shape.Plain one_array)
    (of_simple 0 simple.NoOp shape.Plain one_array) (no_node 0 0 one_array)
    )

-- the node copies the array of three, and so does the boundary
handing-copies : Copies (edges (at 1) no) handing 0 0 one_array 6
handing-copies = (_, handing-adds (copying (edges (at 1) no)), simp (one-leaf, array-leaves))

-- both take it
handing-taken : Copies (edges (at 1) (at 1)) handing 0 0 one_array 0
handing-taken = (_, handing-adds (copying (edges (at 1) (at 1))), refl)

handing-writes : Writes (edges (at 1) no) handing 0 0 one_array 0
handing-writes = (_, handing-adds (writing (edges (at 1) no)), refl)
