-- Calls, `if`, `tagcase` and `is t(u)`, lowered: what graphs inside use of the graph around are inputs of the compound node, each
-- once, in the order of first use.
use Rattle.std.proofs.Common.{◌≡◌, refl, List, [], ◌∷◌}
use Rattle.flow_value.specs.declared.operation.Scalar1.TheVariants as unary
use Rattle.flow_value.specs.declared.operation.Scalar2.TheVariants as two
use Rattle.if1_graph.specs.declared.op.Simple.TheVariants as simple
use Rattle.if1_graph.specs.declared.op.Compound.TheVariants as compound
use Rattle.typed_tree.specs.Constant.TheVariants as constants
use Rattle.typed_tree.specs.Operation.TheVariants as operation
use Rattle.typed_tree.specs.declared.expr.TypedKind.TheOpen.{TypedKind-F}
use Rattle.lowering.specs.declared.feed.Feed.TheVariants.{Literal}
use Rattle.lowering.specs.declared.feed.Carried.TheVariants.{One, Callee}
use Rattle.lowering.specs.declared.graph.Action.TheVariants.{Call, Whole}
use Rattle.lowering.specs.Graphs.{node}
use Rattle.lowering.specs.Loops.{Phrase}
use Rattle.lowering.proofs.Words.{arms, by, own, out, value, int, truth, number, row, graph, at, num, name, var, apply, call, graphs_of, lines_of}

-- a call of a function with two results, on the results of its operands:
--     f(a + b), b
abbrev calls_text : List Phrase
calls_text =
    call 1 (apply (operation.Binary two.Plus) (var 0 ∷ var 1 ∷ []) 2 ∷ []) (2 ∷ 2 ∷ [])
    ∷ var 1
    ∷ []

calls : graphs_of (2 ∷ 2 ∷ []) calls_text ≡
    graph (row (simple.Two two.Plus) (int (own 1) ∷ int (own 2) ∷ []) ∷ node (Call 1) (int (out 1 1) ∷ []) ∷ []) (int (out 2 1) ∷ int (out 2 2) ∷ int (own 2) ∷ []) ∷ []
calls = refl

-- what its lines carry, in the order of the text
calls_lines : lines_of (2 ∷ 2 ∷ []) calls_text ≡
    One 2 ∷ One 2 ∷ Callee 1 ∷ One 2 ∷ One 2 ∷ One 2 ∷ One 2 ∷ []
calls_lines = refl

-- alternative 0 is the `else` part, and an `elseif` is a Select in it; constants stand inside:
--     if a > b then a, 1 elseif b = 3 then b, a else 0, 1 end if
abbrev choice_text : List Phrase
choice_text =
    at (TypedKind-F.If (apply (operation.Swapped two.Less) (var 0 ∷ var 1 ∷ []) 0 ∷ []) (var 0 ∷ num 1 ∷ []) (at (TypedKind-F.If (apply (operation.Binary two.Equal) (var 1 ∷ num 3 ∷ []) 0 ∷ []) (var 1 ∷ var 0 ∷ []) (num 0 ∷ num 1 ∷ [])) (2 ∷ 2 ∷ []) ∷ [])) (2 ∷ 2 ∷ [])
    ∷ []

choice : graphs_of (2 ∷ 2 ∷ []) choice_text ≡
    graph (node (Whole compound.Select (2 ∷ 3 ∷ 7 ∷ []) (0 ∷ 1 ∷ 2 ∷ []) 0 2) (int (own 2) ∷ int (own 1) ∷ []) ∷ []) (int (out 1 1) ∷ int (out 1 2) ∷ [])
    ∷ graph (row (simple.Two two.Less) (int (own 1) ∷ int (own 2) ∷ []) ∷ row (simple.One unary.Int) (truth (out 1 1) ∷ []) ∷ []) (int (out 2 1) ∷ [])
    ∷ graph (node (Whole compound.Select (4 ∷ 5 ∷ 6 ∷ []) (0 ∷ 1 ∷ 2 ∷ []) 0 2) (int (own 1) ∷ int (own 2) ∷ []) ∷ []) (int (out 1 1) ∷ int (out 1 2) ∷ [])
    ∷ graph (row (simple.Two two.Equal) (int (own 1) ∷ number 3 ∷ []) ∷ row (simple.One unary.Int) (truth (out 1 1) ∷ []) ∷ []) (int (out 2 1) ∷ [])
    ∷ graph [] (number 0 ∷ number 1 ∷ [])
    ∷ graph [] (int (own 1) ∷ int (own 2) ∷ [])
    ∷ graph [] (int (own 2) ∷ number 1 ∷ []) ∷ []
choice = refl

-- what its lines carry, in the order of the text
choice_lines : lines_of (2 ∷ 2 ∷ []) choice_text ≡
    One 2 ∷ One 2 ∷ One 0 ∷ One 2 ∷ One 2 ∷ One 2 ∷ One 0 ∷ One 2 ∷ One 2 ∷ One 2 ∷ One 2 ∷ One 2 ∷ One 2 ∷ One 2 ∷ One 2 ∷ One 2 ∷ One 2 ∷ One 2 ∷ One 2 ∷ One 2 ∷ One 2 ∷ One 2 ∷ []
choice_lines = refl

-- whether a union has a tag:
--     is q(u)
abbrev tag_test_text : List Phrase
tag_test_text =
    apply (operation.IsTag 1) (name 0 8 ∷ []) 0
    ∷ []

tag_test : graphs_of (8 ∷ []) tag_test_text ≡
    graph (node (Whole compound.TagCase (2 ∷ 3 ∷ []) (1 ∷ 0 ∷ 1 ∷ 1 ∷ []) 0 1) (value 8 (own 1) ∷ []) ∷ []) (truth (out 1 1) ∷ [])
    ∷ graph [] (truth (Literal constants.True) ∷ [])
    ∷ graph [] (truth (Literal constants.False) ∷ []) ∷ []
tag_test = refl

-- arms of several tags, `otherwise` last, and a union that is used inside its own arms:
--     tagcase c := u
--     tag p, z: c + a
--     tag q: if c then b else tagcase u tag w: a otherwise: b end tagcase end if
--     otherwise: if is w(u) then a else 1 end if
--     end tagcase
abbrev the_arms_text : List Phrase
the_arms_text =
    at (TypedKind-F.Case (arms 2 (by 0 0 ∷ by 3 0 ∷ by 1 1 ∷ []) 2) (name 2 8 ∷ []) ((apply (operation.Binary two.Plus) (var 3 ∷ var 0 ∷ []) 2 ∷ []) ∷ (at (TypedKind-F.If (name 3 0 ∷ []) (var 1 ∷ []) (at (TypedKind-F.Case (arms 0 (by 2 0 ∷ []) 1) (name 2 8 ∷ []) ((var 0 ∷ []) ∷ (var 1 ∷ []) ∷ [])) (2 ∷ []) ∷ [])) (2 ∷ []) ∷ []) ∷ (at (TypedKind-F.If (apply (operation.IsTag 2) (name 2 8 ∷ []) 0 ∷ []) (var 0 ∷ []) (num 1 ∷ [])) (2 ∷ []) ∷ []) ∷ [])) (2 ∷ [])
    ∷ []

the_arms : graphs_of (2 ∷ 2 ∷ 8 ∷ []) the_arms_text ≡
    graph (node (Whole compound.TagCase (2 ∷ 3 ∷ 9 ∷ []) (0 ∷ 1 ∷ 2 ∷ 0 ∷ []) 0 1) (value 8 (own 3) ∷ int (own 1) ∷ int (own 2) ∷ value 8 (own 3) ∷ []) ∷ []) (int (out 1 1) ∷ [])
    ∷ graph (row (simple.Two two.Plus) (int (own 1) ∷ int (own 2) ∷ []) ∷ []) (int (out 1 1) ∷ [])
    ∷ graph (node (Whole compound.Select (4 ∷ 5 ∷ 8 ∷ []) (0 ∷ 1 ∷ 2 ∷ []) 0 1) (truth (own 1) ∷ int (own 2) ∷ int (own 3) ∷ value 8 (own 4) ∷ []) ∷ []) (int (out 1 1) ∷ [])
    ∷ graph (row (simple.One unary.Int) (truth (own 1) ∷ []) ∷ []) (int (out 1 1) ∷ [])
    ∷ graph (node (Whole compound.TagCase (6 ∷ 7 ∷ []) (1 ∷ 1 ∷ 0 ∷ 1 ∷ []) 0 1) (value 8 (own 4) ∷ int (own 2) ∷ int (own 3) ∷ []) ∷ []) (int (out 1 1) ∷ [])
    ∷ graph [] (int (own 2) ∷ [])
    ∷ graph [] (int (own 3) ∷ [])
    ∷ graph [] (int (own 3) ∷ [])
    ∷ graph (node (Whole compound.Select (10 ∷ 13 ∷ 14 ∷ []) (0 ∷ 1 ∷ 2 ∷ []) 0 1) (value 8 (own 4) ∷ int (own 2) ∷ []) ∷ []) (int (out 1 1) ∷ [])
    ∷ graph (node (Whole compound.TagCase (11 ∷ 12 ∷ []) (1 ∷ 1 ∷ 0 ∷ 1 ∷ []) 0 1) (value 8 (own 1) ∷ []) ∷ row (simple.One unary.Int) (truth (out 1 1) ∷ []) ∷ []) (int (out 2 1) ∷ [])
    ∷ graph [] (truth (Literal constants.True) ∷ [])
    ∷ graph [] (truth (Literal constants.False) ∷ [])
    ∷ graph [] (number 1 ∷ [])
    ∷ graph [] (int (own 2) ∷ []) ∷ []
the_arms = refl

-- what its lines carry, in the order of the text
the_arms_lines : lines_of (2 ∷ 2 ∷ 8 ∷ []) the_arms_text ≡
    One 2 ∷ One 2 ∷ One 2 ∷ One 0 ∷ One 2 ∷ One 2 ∷ One 2 ∷ One 8 ∷ One 2 ∷ One 2 ∷ One 2 ∷ One 2 ∷ One 0 ∷ One 2 ∷ One 2 ∷ One 8 ∷ One 2 ∷ One 0 ∷ One 0 ∷ One 8 ∷ One 0 ∷ One 2 ∷ One 2 ∷ One 2 ∷ One 8 ∷ One 2 ∷ One 2 ∷ One 8 ∷ One 2 ∷ One 2 ∷ One 8 ∷ One 2 ∷ []
the_arms_lines = refl

-- the arms use their inputs before the line of the union:
--     if t then tagcase u tag p: a otherwise: 0 end tagcase else 1 end if
abbrev union_of_a_graph_around_text : List Phrase
union_of_a_graph_around_text =
    at (TypedKind-F.If (name 1 0 ∷ []) (at (TypedKind-F.Case (arms 0 (by 0 0 ∷ []) 1) (name 2 8 ∷ []) ((var 0 ∷ []) ∷ (num 0 ∷ []) ∷ [])) (2 ∷ []) ∷ []) (num 1 ∷ [])) (2 ∷ [])
    ∷ []

union_of_a_graph_around : graphs_of (2 ∷ 0 ∷ 8 ∷ []) union_of_a_graph_around_text ≡
    graph (node (Whole compound.Select (2 ∷ 3 ∷ 4 ∷ []) (0 ∷ 1 ∷ 2 ∷ []) 0 1) (truth (own 2) ∷ int (own 1) ∷ value 8 (own 3) ∷ []) ∷ []) (int (out 1 1) ∷ [])
    ∷ graph (row (simple.One unary.Int) (truth (own 1) ∷ []) ∷ []) (int (out 1 1) ∷ [])
    ∷ graph [] (number 1 ∷ [])
    ∷ graph (node (Whole compound.TagCase (5 ∷ 6 ∷ []) (0 ∷ 1 ∷ 1 ∷ 1 ∷ []) 0 1) (value 8 (own 3) ∷ int (own 2) ∷ []) ∷ []) (int (out 1 1) ∷ [])
    ∷ graph [] (int (own 2) ∷ [])
    ∷ graph [] (number 0 ∷ []) ∷ []
union_of_a_graph_around = refl
