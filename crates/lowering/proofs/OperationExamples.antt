-- Names, constants and operations, lowered: each operation is one node. Names are levels, from 0.
use Rattle.std.proofs.Common.{◌≡◌, refl, List, [], ◌∷◌}
use Rattle.flow_value.specs.declared.operation.Scalar1.TheVariants as unary
use Rattle.flow_value.specs.declared.operation.Scalar2.TheVariants as two
use Rattle.if1_graph.specs.declared.op.Simple.TheVariants as simple
use Rattle.typed_tree.specs.Constant.TheVariants as constants
use Rattle.typed_tree.specs.Operation.TheVariants as operation
use Rattle.typed_tree.specs.declared.expr.TypedKind.TheOpen.{TypedKind-F}
use Rattle.lowering.specs.declared.feed.Feed.TheVariants.{Literal}
use Rattle.lowering.specs.declared.feed.Carried.TheVariants.{One, Callee}
use Rattle.lowering.specs.declared.graph.Action.TheVariants.{Call}
use Rattle.lowering.specs.Graphs.{node}
use Rattle.lowering.specs.Operations.{absent}
use Rattle.lowering.specs.Loops.{Phrase}
use Rattle.lowering.proofs.Words.{own, out, value, int, truth, number, letter, row, graph, at, constant, num, name, var, apply, call, graphs_of, lines_of}

-- a constant or a name makes no node, and a text one:
--     a, true, 'x', nil, "ab", (5)
abbrev constants_and_names_text : List Phrase
constants_and_names_text =
    var 0
    ∷ constant constants.True 0
    ∷ constant (constants.Letter 120) 1
    ∷ constant constants.Nil 3
    ∷ constant (constants.Quoted (97 ∷ 98 ∷ [])) 4
    ∷ at (TypedKind-F.Group (num 5 ∷ [])) (2 ∷ [])
    ∷ []

constants_and_names : graphs_of (2 ∷ []) constants_and_names_text ≡
    graph (row simple.ABuild (number 1 ∷ letter 97 ∷ letter 98 ∷ []) ∷ []) (int (own 1) ∷ truth (Literal constants.True) ∷ letter 120 ∷ value 3 (Literal constants.Nil) ∷ value 4 (out 1 1) ∷ number 5 ∷ []) ∷ []
constants_and_names = refl

-- every definition is lowered, used or not:
--     let x := (a + 1); y, z := f(x); k := x * y in y, 7 end let
abbrev definitions_text : List Phrase
definitions_text =
    at (TypedKind-F.Let ((at (TypedKind-F.Group (apply (operation.Binary two.Plus) (var 0 ∷ num 1 ∷ []) 2 ∷ [])) (2 ∷ []) ∷ []) ∷ (call 1 (var 1 ∷ []) (2 ∷ 2 ∷ []) ∷ []) ∷ (apply (operation.Binary two.Times) (var 1 ∷ var 2 ∷ []) 2 ∷ []) ∷ []) (var 2 ∷ num 7 ∷ [])) (2 ∷ 2 ∷ [])
    ∷ []

definitions : graphs_of (2 ∷ []) definitions_text ≡
    graph (row (simple.Two two.Plus) (int (own 1) ∷ number 1 ∷ []) ∷ node (Call 1) (int (out 1 1) ∷ []) ∷ row (simple.Two two.Times) (int (out 1 1) ∷ int (out 2 1) ∷ []) ∷ []) (int (out 2 1) ∷ number 7 ∷ []) ∷ []
definitions = refl

-- what its lines carry, in the order of the text
definitions_lines : lines_of (2 ∷ []) definitions_text ≡
    One 2 ∷ One 2 ∷ Callee 1 ∷ One 2 ∷ One 2 ∷ One 2 ∷ One 2 ∷ One 2 ∷ []
definitions_lines = refl

-- scalar operations; `a > b` is Less of b and a:
--     -a, abs(a), ~t, integer(t), boolean(a), character(a), is error(a), a + b, a - b, a * b, a / b, mod(a, b), max(a, b), min(a, b),
--     a = b, a ~= b, a < b, a <= b, a > b, a >= b, t | t, t & t, error[integer]
abbrev scalar_nodes_text : List Phrase
scalar_nodes_text =
    apply (operation.Unary unary.Neg) (var 0 ∷ []) 2
    ∷ apply (operation.Unary unary.Abs) (var 0 ∷ []) 2
    ∷ apply (operation.Unary unary.Not) (name 2 0 ∷ []) 0
    ∷ apply (operation.Unary unary.Int) (name 2 0 ∷ []) 2
    ∷ apply (operation.Unary unary.Bool) (var 0 ∷ []) 0
    ∷ apply (operation.Unary unary.Char) (var 0 ∷ []) 1
    ∷ apply (operation.Unary unary.IsError) (var 0 ∷ []) 0
    ∷ apply (operation.Binary two.Plus) (var 0 ∷ var 1 ∷ []) 2
    ∷ apply (operation.Binary two.Minus) (var 0 ∷ var 1 ∷ []) 2
    ∷ apply (operation.Binary two.Times) (var 0 ∷ var 1 ∷ []) 2
    ∷ apply (operation.Binary two.Div) (var 0 ∷ var 1 ∷ []) 2
    ∷ apply (operation.Binary two.Mod) (var 0 ∷ var 1 ∷ []) 2
    ∷ apply (operation.Binary two.Max) (var 0 ∷ var 1 ∷ []) 2
    ∷ apply (operation.Binary two.Min) (var 0 ∷ var 1 ∷ []) 2
    ∷ apply (operation.Binary two.Equal) (var 0 ∷ var 1 ∷ []) 0
    ∷ apply (operation.Binary two.NotEqual) (var 0 ∷ var 1 ∷ []) 0
    ∷ apply (operation.Binary two.Less) (var 0 ∷ var 1 ∷ []) 0
    ∷ apply (operation.Binary two.LessEqual) (var 0 ∷ var 1 ∷ []) 0
    ∷ apply (operation.Swapped two.Less) (var 0 ∷ var 1 ∷ []) 0
    ∷ apply (operation.Swapped two.LessEqual) (var 0 ∷ var 1 ∷ []) 0
    ∷ apply (operation.Binary two.Plus) (name 2 0 ∷ name 2 0 ∷ []) 0
    ∷ apply (operation.Binary two.Times) (name 2 0 ∷ name 2 0 ∷ []) 0
    ∷ apply operation.Error [] 2
    ∷ []

scalar_nodes : graphs_of (2 ∷ 2 ∷ 0 ∷ []) scalar_nodes_text ≡
    graph (row (simple.One unary.Neg) (int (own 1) ∷ []) ∷ row (simple.One unary.Abs) (int (own 1) ∷ []) ∷ row (simple.One unary.Not) (truth (own 3) ∷ []) ∷ row (simple.One unary.Int) (truth (own 3) ∷ []) ∷ row (simple.One unary.Bool) (int (own 1) ∷ []) ∷ row (simple.One unary.Char) (int (own 1) ∷ []) ∷ row (simple.One unary.IsError) (int (own 1) ∷ []) ∷ row (simple.Two two.Plus) (int (own 1) ∷ int (own 2) ∷ []) ∷ row (simple.Two two.Minus) (int (own 1) ∷ int (own 2) ∷ []) ∷ row (simple.Two two.Times) (int (own 1) ∷ int (own 2) ∷ []) ∷ row (simple.Two two.Div) (int (own 1) ∷ int (own 2) ∷ []) ∷ row (simple.Two two.Mod) (int (own 1) ∷ int (own 2) ∷ []) ∷ row (simple.Two two.Max) (int (own 1) ∷ int (own 2) ∷ []) ∷ row (simple.Two two.Min) (int (own 1) ∷ int (own 2) ∷ []) ∷ row (simple.Two two.Equal) (int (own 1) ∷ int (own 2) ∷ []) ∷ row (simple.Two two.NotEqual) (int (own 1) ∷ int (own 2) ∷ []) ∷ row (simple.Two two.Less) (int (own 1) ∷ int (own 2) ∷ []) ∷ row (simple.Two two.LessEqual) (int (own 1) ∷ int (own 2) ∷ []) ∷ row (simple.Two two.Less) (int (own 2) ∷ int (own 1) ∷ []) ∷ row (simple.Two two.LessEqual) (int (own 2) ∷ int (own 1) ∷ []) ∷ row (simple.Two two.Plus) (truth (own 3) ∷ truth (own 3) ∷ []) ∷ row (simple.Two two.Times) (truth (own 3) ∷ truth (own 3) ∷ []) ∷ row simple.Error [] ∷ []) (int (out 1 1) ∷ int (out 2 1) ∷ truth (out 3 1) ∷ int (out 4 1) ∷ truth (out 5 1) ∷ value 1 (out 6 1) ∷ truth (out 7 1) ∷ int (out 8 1) ∷ int (out 9 1) ∷ int (out 10 1) ∷ int (out 11 1) ∷ int (out 12 1) ∷ int (out 13 1) ∷ int (out 14 1) ∷ truth (out 15 1) ∷ truth (out 16 1) ∷ truth (out 17 1) ∷ truth (out 18 1) ∷ truth (out 19 1) ∷ truth (out 20 1) ∷ truth (out 21 1) ∷ truth (out 22 1) ∷ int (out 23 1) ∷ []) ∷ []
scalar_nodes = refl

-- operations on arrays; the bound of an empty array is 1:
--     array [0: a, b], array A [], array_fill(a, b, 3), v[a], v[a: b], array_addh(v, a), array_addl(v, a), array_remh(v), array_reml(v),
--     array_setl(v, a), array_adjust(v, a, b), array_liml(v), array_limh(v), array_size(v), v || v
abbrev array_nodes_text : List Phrase
array_nodes_text =
    apply operation.Array (num 0 ∷ var 0 ∷ var 1 ∷ []) 5
    ∷ apply operation.EmptyArray [] 5
    ∷ apply operation.Fill (var 0 ∷ var 1 ∷ num 3 ∷ []) 5
    ∷ apply operation.Element (name 2 5 ∷ var 0 ∷ []) 2
    ∷ apply operation.Update (name 2 5 ∷ var 0 ∷ var 1 ∷ []) 5
    ∷ apply operation.AddHigh (name 2 5 ∷ var 0 ∷ []) 5
    ∷ apply operation.AddLow (name 2 5 ∷ var 0 ∷ []) 5
    ∷ apply operation.RemoveHigh (name 2 5 ∷ []) 5
    ∷ apply operation.RemoveLow (name 2 5 ∷ []) 5
    ∷ apply operation.SetLow (name 2 5 ∷ var 0 ∷ []) 5
    ∷ apply operation.Adjust (name 2 5 ∷ var 0 ∷ var 1 ∷ []) 5
    ∷ apply operation.LimitLow (name 2 5 ∷ []) 2
    ∷ apply operation.LimitHigh (name 2 5 ∷ []) 2
    ∷ apply operation.Size (name 2 5 ∷ []) 2
    ∷ apply operation.Catenate (name 2 5 ∷ name 2 5 ∷ []) 5
    ∷ []

array_nodes : graphs_of (2 ∷ 2 ∷ 5 ∷ []) array_nodes_text ≡
    graph (row simple.ABuild (number 0 ∷ int (own 1) ∷ int (own 2) ∷ []) ∷ row simple.ABuild (number 1 ∷ []) ∷ row simple.AFill (int (own 1) ∷ int (own 2) ∷ number 3 ∷ []) ∷ row simple.AElement (value 5 (own 3) ∷ int (own 1) ∷ []) ∷ row simple.AReplace (value 5 (own 3) ∷ int (own 1) ∷ int (own 2) ∷ []) ∷ row simple.AAddH (value 5 (own 3) ∷ int (own 1) ∷ []) ∷ row simple.AAddL (value 5 (own 3) ∷ int (own 1) ∷ []) ∷ row simple.ARemH (value 5 (own 3) ∷ []) ∷ row simple.ARemL (value 5 (own 3) ∷ []) ∷ row simple.ASetL (value 5 (own 3) ∷ int (own 1) ∷ []) ∷ row simple.AAdjust (value 5 (own 3) ∷ int (own 1) ∷ int (own 2) ∷ []) ∷ row simple.ALimL (value 5 (own 3) ∷ []) ∷ row simple.ALimH (value 5 (own 3) ∷ []) ∷ row simple.ASize (value 5 (own 3) ∷ []) ∷ row simple.ACatenate (value 5 (own 3) ∷ value 5 (own 3) ∷ []) ∷ []) (value 5 (out 1 1) ∷ value 5 (out 2 1) ∷ value 5 (out 3 1) ∷ int (out 4 1) ∷ value 5 (out 5 1) ∷ value 5 (out 6 1) ∷ value 5 (out 7 1) ∷ value 5 (out 8 1) ∷ value 5 (out 9 1) ∷ value 5 (out 10 1) ∷ value 5 (out 11 1) ∷ int (out 12 1) ∷ int (out 13 1) ∷ int (out 14 1) ∷ value 5 (out 15 1) ∷ []) ∷ []
array_nodes = refl

-- operations on streams; their bound is 1:
--     stream [a, 2], stream S [], stream_first(s), stream_rest(s), stream_empty(s), stream_append(s, a), stream_size(s), s || s
abbrev stream_nodes_text : List Phrase
stream_nodes_text =
    apply operation.Stream (var 0 ∷ num 2 ∷ []) 6
    ∷ apply operation.Stream [] 6
    ∷ apply operation.First (name 1 6 ∷ []) 2
    ∷ apply operation.Rest (name 1 6 ∷ []) 6
    ∷ apply operation.IsEmpty (name 1 6 ∷ []) 0
    ∷ apply operation.AddHigh (name 1 6 ∷ var 0 ∷ []) 6
    ∷ apply operation.Size (name 1 6 ∷ []) 2
    ∷ apply operation.Catenate (name 1 6 ∷ name 1 6 ∷ []) 6
    ∷ []

stream_nodes : graphs_of (2 ∷ 6 ∷ []) stream_nodes_text ≡
    graph (row simple.ABuild (number 1 ∷ int (own 1) ∷ number 2 ∷ []) ∷ row simple.ABuild (number 1 ∷ []) ∷ row simple.FirstValue (value 6 (own 2) ∷ []) ∷ row simple.RestValues (value 6 (own 2) ∷ []) ∷ row simple.AIsEmpty (value 6 (own 2) ∷ []) ∷ row simple.AAddH (value 6 (own 2) ∷ int (own 1) ∷ []) ∷ row simple.ASize (value 6 (own 2) ∷ []) ∷ row simple.ACatenate (value 6 (own 2) ∷ value 6 (own 2) ∷ []) ∷ []) (value 6 (out 1 1) ∷ value 6 (out 2 1) ∷ int (out 3 1) ∷ value 6 (out 4 1) ∷ truth (out 5 1) ∷ value 6 (out 6 1) ∷ int (out 7 1) ∷ value 6 (out 8 1) ∷ []) ∷ []
stream_nodes = refl

-- a field leaves at its own port, a changed field enters at its own, and the content of a union at that of its tag:
--     record [x: a; y: 2; t: v], union U [p: a], union U [z: a], r.x, r.t, r replace [y: a], r replace [t: v; x: a]
abbrev record_nodes_text : List Phrase
record_nodes_text =
    apply operation.Record (var 0 ∷ num 2 ∷ name 2 5 ∷ []) 9
    ∷ apply (operation.Union 0) (var 0 ∷ []) 8
    ∷ apply (operation.Union 3) (var 0 ∷ []) 8
    ∷ apply (operation.Field 0) (name 1 9 ∷ []) 2
    ∷ apply (operation.Field 2) (name 1 9 ∷ []) 5
    ∷ apply (operation.Change (1 ∷ [])) (name 1 9 ∷ var 0 ∷ []) 9
    ∷ apply (operation.Change (2 ∷ 0 ∷ [])) (name 1 9 ∷ name 2 5 ∷ var 0 ∷ []) 9
    ∷ []

record_nodes : graphs_of (2 ∷ 9 ∷ 5 ∷ []) record_nodes_text ≡
    graph (row simple.RBuild (int (own 1) ∷ number 2 ∷ value 5 (own 3) ∷ []) ∷ row simple.RBuild (int (own 1) ∷ []) ∷ row simple.RBuild (absent ∷ absent ∷ absent ∷ int (own 1) ∷ []) ∷ row simple.RElements (value 9 (own 2) ∷ []) ∷ row simple.RElements (value 9 (own 2) ∷ []) ∷ row simple.RReplace (value 9 (own 2) ∷ absent ∷ int (own 1) ∷ []) ∷ row simple.RReplace (value 9 (own 2) ∷ int (own 1) ∷ absent ∷ value 5 (own 3) ∷ []) ∷ []) (value 9 (out 1 1) ∷ value 8 (out 2 1) ∷ value 8 (out 3 1) ∷ int (out 4 1) ∷ value 5 (out 5 3) ∷ value 9 (out 6 1) ∷ value 9 (out 7 1) ∷ []) ∷ []
record_nodes = refl
