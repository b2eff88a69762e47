-- `for initial`, lowered: loop values are the loop names, and behind them each clause value or mask that is no loop name, made in the
-- initialization and again in the body.
use Rattle.std.proofs.Common.{◌≡◌, refl, true, false, List, [], ◌∷◌, Some, None}
use Rattle.std.specs.Prelude.{codes}
use Rattle.flow_value.specs.declared.operation.Scalar1.TheVariants as unary
use Rattle.flow_value.specs.declared.operation.Scalar2.TheVariants as two
use Rattle.if1_graph.specs.declared.op.Simple.TheVariants as simple
use Rattle.if1_graph.specs.declared.op.Grouping.TheVariants as grouping
use Rattle.if1_graph.specs.declared.op.Compound.TheVariants as compound
use Rattle.typed_tree.specs.Constant.TheVariants as constants
use Rattle.typed_tree.specs.Direction.TheVariants as direction
use Rattle.typed_tree.specs.Operation.TheVariants as operation
use Rattle.typed_tree.specs.Folding.TheVariants as folding
use Rattle.typed_tree.specs.Masking.TheVariants as masking
use Rattle.typed_tree.specs.declared.expr.TypedKind.TheOpen.{TypedKind-F}
use Rattle.lowering.specs.declared.feed.Feed.TheVariants.{Literal, Named}
use Rattle.lowering.specs.declared.feed.Carried.TheVariants.{One, Many}
use Rattle.lowering.specs.declared.graph.Action.TheVariants.{Call, Whole}
use Rattle.lowering.specs.Graphs.{node}
use Rattle.lowering.specs.Loops.{Phrase}
use Rattle.lowering.proofs.Words.{own, out, value, int, ints, truth, truths, number, row, graph, clause, masked, at, constant, num, name, var, apply, call, graphs_of, lines_of}

-- a LoopB; `i` and `t` are collected as loop names, `s` is not renewed:
--     for initial i := 1; t := true; s := n
--     while i <= n
--     repeat i := old i + s; t := ~old t; d := i * i
--     returns value of i when t array of i * s value of sum (i) unless t
--     end for
abbrev test_first_text : List Phrase
test_first_text =
    at (TypedKind-F.Initial (record { is_first = true; is_until = false; renewed = (Some 0 ∷ Some 1 ∷ None ∷ []); clauses = (masked folding.Last direction.Any masking.When ∷ clause folding.Array ∷ masked folding.Sum direction.Any masking.Unless ∷ []) })
    ((num 1 ∷ []) ∷ (constant constants.True 0 ∷ []) ∷ (var 0 ∷ []) ∷ []) (apply (operation.Binary two.LessEqual) (var 1 ∷ var 0 ∷ []) 0 ∷ [])
    ((apply (operation.Binary two.Plus) (var 1 ∷ var 3 ∷ []) 2 ∷ []) ∷ (apply (operation.Unary unary.Not) (name 2 0 ∷ []) 0 ∷ []) ∷ (apply (operation.Binary two.Times) (var 4 ∷ var 4 ∷ []) 2 ∷ []) ∷ [])
    (var 1 ∷ name 2 0 ∷ apply (operation.Binary two.Times) (var 1 ∷ var 3 ∷ []) 2 ∷ at (TypedKind-F.Group (var 1 ∷ [])) (2 ∷ []) ∷ name 2 0 ∷ [])) (2 ∷ 5 ∷ 2 ∷ [])
    ∷ []

test_first : graphs_of (2 ∷ []) test_first_text ≡
    graph (node (Whole compound.LoopB (2 ∷ 3 ∷ 4 ∷ 5 ∷ []) (0 ∷ 1 ∷ 2 ∷ 3 ∷ []) 0 3) (int (own 1) ∷ []) ∷ []) (int (out 1 1) ∷ value 5 (out 1 2) ∷ int (out 1 3) ∷ [])
    ∷ graph (row (simple.Two two.Times) (number 1 ∷ int (own 1) ∷ []) ∷ row (simple.One unary.Not) (truth (Literal constants.True) ∷ []) ∷ []) (number 1 ∷ truth (Literal constants.True) ∷ int (own 1) ∷ int (out 1 1) ∷ number 1 ∷ truth (out 2 1) ∷ [])
    ∷ graph (row (simple.Two two.LessEqual) (int (own 2) ∷ int (own 1) ∷ []) ∷ []) (truth (out 1 1) ∷ [])
    ∷ graph (row (simple.Two two.Plus) (int (own 2) ∷ int (own 4) ∷ []) ∷ row (simple.One unary.Not) (truth (own 3) ∷ []) ∷ row (simple.Two two.Times) (int (out 1 1) ∷ int (out 1 1) ∷ []) ∷ row (simple.Two two.Times) (int (out 1 1) ∷ int (own 4) ∷ []) ∷ row (simple.One unary.Not) (truth (out 2 1) ∷ []) ∷ []) (int (out 1 1) ∷ truth (out 2 1) ∷ int (own 4) ∷ int (out 4 1) ∷ int (out 1 1) ∷ truth (out 5 1) ∷ [])
    ∷ graph (row simple.FinalValue (ints (own 2) ∷ truths (own 3) ∷ []) ∷ row simple.AGather (number 1 ∷ ints (own 5) ∷ []) ∷ row (simple.Reduce grouping.Free) (int (Named (codes "sum")) ∷ ints (own 6) ∷ truths (own 7) ∷ []) ∷ []) (int (out 1 1) ∷ value 5 (out 2 1) ∷ int (out 3 1) ∷ []) ∷ []
test_first = refl

-- what its lines carry, in the order of the text
test_first_lines : lines_of (2 ∷ []) test_first_text ≡
    One 2 ∷ One 2 ∷ One 0 ∷ One 2 ∷ One 0 ∷ One 2 ∷ One 2 ∷ One 2 ∷ One 0 ∷ One 2 ∷ One 2 ∷ One 0 ∷ One 2 ∷ One 2 ∷ One 0 ∷ One 2 ∷ One 2 ∷ One 2 ∷ One 2 ∷ One 0 ∷ One 2 ∷ One 0 ∷ One 2 ∷ One 2 ∷ One 2 ∷ One 0 ∷ Many 2 ∷ Many 0 ∷ One 2 ∷ Many 2 ∷ One 2 ∷ Many 2 ∷ Many 0 ∷ One 2 ∷ One 5 ∷ One 2 ∷ One 2 ∷ One 2 ∷ One 5 ∷ One 2 ∷ []
test_first_lines = refl

-- a LoopA with `until`, in which a name of the turn stands for the loop name until it is renewed:
--     for initial i, j := f(a)
--     repeat j := old i + n; i := j + old j
--     until i > j
--     returns value of left product j stream of a when i = 3
--     end for
abbrev test_last_text : List Phrase
test_last_text =
    at (TypedKind-F.Initial (record { is_first = false; is_until = true; renewed = (Some 1 ∷ Some 0 ∷ []); clauses = (masked folding.Product direction.Left masking.All ∷ masked folding.Stream direction.Any masking.When ∷ []) })
    ((call 1 (var 0 ∷ []) (2 ∷ 2 ∷ []) ∷ []) ∷ []) (apply (operation.Swapped two.Less) (var 2 ∷ var 3 ∷ []) 0 ∷ [])
    ((apply (operation.Binary two.Plus) (var 2 ∷ var 1 ∷ []) 2 ∷ []) ∷ (apply (operation.Binary two.Plus) (var 4 ∷ var 3 ∷ []) 2 ∷ []) ∷ [])
    (var 3 ∷ var 0 ∷ apply (operation.Binary two.Equal) (var 2 ∷ num 3 ∷ []) 0 ∷ [])) (2 ∷ 6 ∷ [])
    ∷ []

test_last : graphs_of (2 ∷ 2 ∷ []) test_last_text ≡
    graph (node (Whole compound.LoopA (2 ∷ 3 ∷ 4 ∷ 5 ∷ []) (0 ∷ 1 ∷ 2 ∷ 3 ∷ []) 0 2) (int (own 1) ∷ int (own 2) ∷ []) ∷ []) (int (out 1 1) ∷ value 6 (out 1 2) ∷ [])
    ∷ graph (node (Call 1) (int (own 1) ∷ []) ∷ row (simple.Two two.Equal) (int (out 1 1) ∷ number 3 ∷ []) ∷ []) (int (out 1 1) ∷ int (out 1 2) ∷ int (own 1) ∷ truth (out 2 1) ∷ [])
    ∷ graph (row (simple.Two two.Less) (int (own 4) ∷ int (own 3) ∷ []) ∷ row (simple.One unary.Not) (truth (out 1 1) ∷ []) ∷ []) (truth (out 2 1) ∷ [])
    ∷ graph (row (simple.Two two.Plus) (int (own 3) ∷ int (own 2) ∷ []) ∷ row (simple.Two two.Plus) (int (out 1 1) ∷ int (own 4) ∷ []) ∷ row (simple.Two two.Equal) (int (out 2 1) ∷ number 3 ∷ []) ∷ []) (int (out 2 1) ∷ int (out 1 1) ∷ int (own 1) ∷ truth (out 3 1) ∷ [])
    ∷ graph (row (simple.Reduce grouping.Left) (int (Named (codes "product")) ∷ ints (own 4) ∷ []) ∷ row simple.AGather (number 1 ∷ ints (own 5) ∷ truths (own 6) ∷ []) ∷ []) (int (out 1 1) ∷ value 6 (out 2 1) ∷ []) ∷ []
test_last = refl

-- a loop in the turn of a loop, with `old` of both:
--     for initial i := 1; k := 0
--     while i < n
--     repeat i := old i + 1;
--     k := for initial m := old k repeat m := old m + i + old i until m > n returns value of m end for
--     returns value of k
--     end for
abbrev nested_turns_text : List Phrase
nested_turns_text =
    at (TypedKind-F.Initial (record { is_first = true; is_until = false; renewed = (Some 0 ∷ Some 1 ∷ []); clauses = (clause folding.Last ∷ []) })
    ((num 1 ∷ []) ∷ (num 0 ∷ []) ∷ []) (apply (operation.Binary two.Less) (var 1 ∷ var 0 ∷ []) 0 ∷ [])
    ((apply (operation.Binary two.Plus) (var 1 ∷ num 1 ∷ []) 2 ∷ []) ∷ (at (TypedKind-F.Initial (record { is_first = false; is_until = true; renewed = (Some 0 ∷ []); clauses = (clause folding.Last ∷ []) })
    ((var 2 ∷ []) ∷ []) (apply (operation.Swapped two.Less) (var 4 ∷ var 0 ∷ []) 0 ∷ [])
    ((apply (operation.Binary two.Plus) (apply (operation.Binary two.Plus) (var 4 ∷ var 3 ∷ []) 2 ∷ var 1 ∷ []) 2 ∷ []) ∷ [])
    (var 4 ∷ [])) (2 ∷ []) ∷ []) ∷ [])
    (var 2 ∷ [])) (2 ∷ [])
    ∷ []

nested_turns : graphs_of (2 ∷ []) nested_turns_text ≡
    graph (node (Whole compound.LoopB (2 ∷ 3 ∷ 4 ∷ 9 ∷ []) (0 ∷ 1 ∷ 2 ∷ 3 ∷ []) 0 1) (int (own 1) ∷ []) ∷ []) (int (out 1 1) ∷ [])
    ∷ graph [] (number 1 ∷ number 0 ∷ [])
    ∷ graph (row (simple.Two two.Less) (int (own 2) ∷ int (own 1) ∷ []) ∷ []) (truth (out 1 1) ∷ [])
    ∷ graph (row (simple.Two two.Plus) (int (own 2) ∷ number 1 ∷ []) ∷ node (Whole compound.LoopA (5 ∷ 6 ∷ 7 ∷ 8 ∷ []) (0 ∷ 1 ∷ 2 ∷ 3 ∷ []) 0 1) (int (own 3) ∷ int (own 1) ∷ int (out 1 1) ∷ int (own 2) ∷ []) ∷ []) (int (out 1 1) ∷ int (out 2 1) ∷ [])
    ∷ graph [] (int (own 1) ∷ [])
    ∷ graph (row (simple.Two two.Less) (int (own 2) ∷ int (own 5) ∷ []) ∷ row (simple.One unary.Not) (truth (out 1 1) ∷ []) ∷ []) (truth (out 2 1) ∷ [])
    ∷ graph (row (simple.Two two.Plus) (int (own 5) ∷ int (own 3) ∷ []) ∷ row (simple.Two two.Plus) (int (out 1 1) ∷ int (own 4) ∷ []) ∷ []) (int (out 2 1) ∷ [])
    ∷ graph (row simple.FinalValue (ints (own 5) ∷ []) ∷ []) (int (out 1 1) ∷ [])
    ∷ graph (row simple.FinalValue (ints (own 3) ∷ []) ∷ []) (int (out 1 1) ∷ []) ∷ []
nested_turns = refl
