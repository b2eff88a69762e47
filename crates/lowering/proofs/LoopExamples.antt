-- `for` over generators, lowered: bounds stand outside, the generator has a node for each generator, the body gives the values and masks
-- of the clauses, and returns has a node for each clause.
use Rattle.std.proofs.Common.{◌≡◌, refl, true, false, List, [], ◌∷◌, Some}
use Rattle.std.specs.Prelude.{codes}
use Rattle.flow_value.specs.declared.operation.Scalar1.TheVariants as unary
use Rattle.flow_value.specs.declared.operation.Scalar2.TheVariants as two
use Rattle.if1_graph.specs.declared.op.Simple.TheVariants as simple
use Rattle.if1_graph.specs.declared.op.Grouping.TheVariants as grouping
use Rattle.if1_graph.specs.declared.op.Compound.TheVariants as compound
use Rattle.typed_tree.specs.Direction.TheVariants as direction
use Rattle.typed_tree.specs.Operation.TheVariants as operation
use Rattle.typed_tree.specs.Folding.TheVariants as folding
use Rattle.typed_tree.specs.Masking.TheVariants as masking
use Rattle.typed_tree.specs.declared.expr.Source.TheVariants as source
use Rattle.typed_tree.specs.declared.expr.TypedKind.TheOpen.{TypedKind-F}
use Rattle.lowering.specs.declared.feed.Feed.TheVariants.{Named}
use Rattle.lowering.specs.declared.feed.Carried.TheVariants.{One, Many}
use Rattle.lowering.specs.declared.graph.Action.TheVariants.{Whole}
use Rattle.lowering.specs.Graphs.{node}
use Rattle.lowering.specs.Loops.{Phrase}
use Rattle.lowering.proofs.Words.{own, out, value, values, int, ints, truth, truths, number, row, graph, clause, masked, at, num, name, var, apply, graphs_of, lines_of}

-- the lower bound of an array is the first number, and constants stand inside:
--     for i in a, n returns array of i * n array of 5 stream of i value of i end for
abbrev range_loop_text : List Phrase
range_loop_text =
    at (TypedKind-F.Product (record { sources = (source.Range ∷ []); clauses = (clause folding.Array ∷ clause folding.Array ∷ clause folding.Stream ∷ clause folding.Last ∷ []) })
    (var 0 ∷ var 1 ∷ []) []
    (apply (operation.Binary two.Times) (var 2 ∷ var 1 ∷ []) 2 ∷ num 5 ∷ var 2 ∷ var 2 ∷ [])) (5 ∷ 5 ∷ 6 ∷ 2 ∷ [])
    ∷ []

range_loop : graphs_of (2 ∷ 2 ∷ []) range_loop_text ≡
    graph (node (Whole compound.ForAll (2 ∷ 3 ∷ 4 ∷ []) (0 ∷ 1 ∷ 2 ∷ []) 4 4) (int (own 1) ∷ int (own 2) ∷ []) ∷ []) (value 5 (out 1 1) ∷ value 5 (out 1 2) ∷ value 6 (out 1 3) ∷ int (out 1 4) ∷ [])
    ∷ graph (row simple.RangeGenerate (int (own 1) ∷ int (own 2) ∷ []) ∷ []) (ints (out 1 1) ∷ [])
    ∷ graph (row (simple.Two two.Times) (int (own 3) ∷ int (own 2) ∷ []) ∷ []) (int (out 1 1) ∷ number 5 ∷ int (own 3) ∷ int (own 3) ∷ [])
    ∷ graph (row simple.AGather (int (own 1) ∷ ints (own 4) ∷ []) ∷ row simple.AGather (int (own 1) ∷ ints (own 5) ∷ []) ∷ row simple.AGather (number 1 ∷ ints (own 6) ∷ []) ∷ row simple.FinalValue (ints (own 7) ∷ []) ∷ []) (value 5 (out 1 1) ∷ value 5 (out 2 1) ∷ value 6 (out 3 1) ∷ int (out 4 1) ∷ []) ∷ []
range_loop = refl

-- what its lines carry, in the order of the text
range_loop_lines : lines_of (2 ∷ 2 ∷ []) range_loop_text ≡
    One 2 ∷ One 2 ∷ Many 2 ∷ One 2 ∷ One 2 ∷ One 2 ∷ One 2 ∷ One 2 ∷ One 2 ∷ One 2 ∷ Many 2 ∷ One 2 ∷ Many 2 ∷ One 2 ∷ Many 2 ∷ Many 2 ∷ One 5 ∷ One 5 ∷ One 6 ∷ One 2 ∷ One 2 ∷ One 2 ∷ One 5 ∷ One 5 ∷ One 6 ∷ One 2 ∷ []
range_loop_lines = refl

-- generators joined by `dot`, one of them not used, with an index, and masks:
--     for x in v at k dot y in s dot z in 1, n
--     d := x + k; e := d * d
--     returns value of d unless d > n array of x when k = 2 stream of d
--     end for
abbrev joined_generators_text : List Phrase
joined_generators_text =
    at (TypedKind-F.Product (record { sources = (source.Indexed ∷ source.Elements ∷ source.Range ∷ []); clauses = (masked folding.Last direction.Any masking.Unless ∷ masked folding.Array direction.Any masking.When ∷ clause folding.Stream ∷ []) })
    (name 1 5 ∷ name 2 6 ∷ num 1 ∷ var 0 ∷ []) ((apply (operation.Binary two.Plus) (var 3 ∷ var 4 ∷ []) 2 ∷ []) ∷ (apply (operation.Binary two.Times) (var 7 ∷ var 7 ∷ []) 2 ∷ []) ∷ [])
    (var 7 ∷ apply (operation.Swapped two.Less) (var 7 ∷ var 0 ∷ []) 0 ∷ var 3 ∷ apply (operation.Binary two.Equal) (var 4 ∷ num 2 ∷ []) 0 ∷ var 7 ∷ [])) (2 ∷ 5 ∷ 6 ∷ [])
    ∷ []

joined_generators : graphs_of (2 ∷ 5 ∷ 6 ∷ []) joined_generators_text ≡
    graph (node (Whole compound.ForAll (2 ∷ 3 ∷ 4 ∷ []) (0 ∷ 1 ∷ 2 ∷ []) 5 3) (value 5 (own 2) ∷ value 6 (own 3) ∷ int (own 1) ∷ []) ∷ []) (int (out 1 1) ∷ value 5 (out 1 2) ∷ value 6 (out 1 3) ∷ [])
    ∷ graph (row simple.AScatter (value 5 (own 1) ∷ []) ∷ row simple.AScatter (value 6 (own 2) ∷ []) ∷ row simple.RangeGenerate (number 1 ∷ int (own 3) ∷ []) ∷ []) (ints (out 1 1) ∷ ints (out 1 2) ∷ ints (out 2 1) ∷ ints (out 3 1) ∷ [])
    ∷ graph (row (simple.Two two.Plus) (int (own 4) ∷ int (own 5) ∷ []) ∷ row (simple.Two two.Times) (int (out 1 1) ∷ int (out 1 1) ∷ []) ∷ row (simple.Two two.Less) (int (own 3) ∷ int (out 1 1) ∷ []) ∷ row (simple.One unary.Not) (truth (out 3 1) ∷ []) ∷ row (simple.Two two.Equal) (int (own 5) ∷ number 2 ∷ []) ∷ []) (int (out 1 1) ∷ truth (out 4 1) ∷ int (own 4) ∷ truth (out 5 1) ∷ int (out 1 1) ∷ [])
    ∷ graph (row simple.FinalValue (ints (own 8) ∷ truths (own 9) ∷ []) ∷ row simple.ALimL (value 5 (own 1) ∷ []) ∷ row simple.AGather (int (out 2 1) ∷ ints (own 10) ∷ truths (own 11) ∷ []) ∷ row simple.AGather (number 1 ∷ ints (own 12) ∷ []) ∷ []) (int (out 1 1) ∷ value 5 (out 3 1) ∷ value 6 (out 4 1) ∷ []) ∷ []
joined_generators = refl

-- what its lines carry, in the order of the text
joined_generators_lines : lines_of (2 ∷ 5 ∷ 6 ∷ []) joined_generators_text ≡
    One 5 ∷ One 6 ∷ One 2 ∷ One 2 ∷ Many 2 ∷ Many 2 ∷ Many 2 ∷ Many 2 ∷ One 2 ∷ One 2 ∷ One 2 ∷ One 2 ∷ One 2 ∷ One 2 ∷ One 0 ∷ One 2 ∷ One 2 ∷ One 2 ∷ One 0 ∷ One 2 ∷ One 0 ∷ One 2 ∷ Many 2 ∷ Many 0 ∷ One 5 ∷ One 2 ∷ Many 2 ∷ Many 0 ∷ One 2 ∷ Many 2 ∷ One 2 ∷ One 5 ∷ One 6 ∷ One 5 ∷ One 6 ∷ One 2 ∷ One 2 ∷ One 5 ∷ One 6 ∷ []
joined_generators_lines = refl

-- every reduction, by each of its orders:
--     for x in v dot w in g
--     returns value of sum x value of left product x value of right least x value of tree greatest x value of catenate w
--     value of catenate s when x = 1
--     end for
abbrev reductions_text : List Phrase
reductions_text =
    at (TypedKind-F.Product (record { sources = (source.Elements ∷ source.Elements ∷ []); clauses = (clause folding.Sum ∷ masked folding.Product direction.Left masking.All ∷ masked folding.Least direction.Right masking.All ∷ masked folding.Greatest direction.Tree masking.All ∷ clause folding.CatenateArrays ∷ masked folding.CatenateStreams direction.Any masking.When ∷ []) })
    (name 0 5 ∷ name 1 7 ∷ []) []
    (var 3 ∷ var 3 ∷ var 3 ∷ var 3 ∷ name 4 5 ∷ name 2 6 ∷ apply (operation.Binary two.Equal) (var 3 ∷ num 1 ∷ []) 0 ∷ [])) (2 ∷ 2 ∷ 2 ∷ 2 ∷ 5 ∷ 6 ∷ [])
    ∷ []

reductions : graphs_of (5 ∷ 7 ∷ 6 ∷ []) reductions_text ≡
    graph (node (Whole compound.ForAll (2 ∷ 3 ∷ 4 ∷ []) (0 ∷ 1 ∷ 2 ∷ []) 7 6) (value 5 (own 1) ∷ value 7 (own 2) ∷ value 6 (own 3) ∷ []) ∷ []) (int (out 1 1) ∷ int (out 1 2) ∷ int (out 1 3) ∷ int (out 1 4) ∷ value 5 (out 1 5) ∷ value 6 (out 1 6) ∷ [])
    ∷ graph (row simple.AScatter (value 5 (own 1) ∷ []) ∷ row simple.AScatter (value 7 (own 2) ∷ []) ∷ []) (ints (out 1 1) ∷ values 5 (out 2 1) ∷ [])
    ∷ graph (row (simple.Two two.Equal) (int (own 4) ∷ number 1 ∷ []) ∷ []) (int (own 4) ∷ int (own 4) ∷ int (own 4) ∷ int (own 4) ∷ value 5 (own 5) ∷ value 6 (own 3) ∷ truth (out 1 1) ∷ [])
    ∷ graph (row (simple.Reduce grouping.Free) (int (Named (codes "sum")) ∷ ints (own 6) ∷ []) ∷ row (simple.Reduce grouping.Left) (int (Named (codes "product")) ∷ ints (own 7) ∷ []) ∷ row (simple.Reduce grouping.Right) (int (Named (codes "least")) ∷ ints (own 8) ∷ []) ∷ row (simple.Reduce grouping.Tree) (int (Named (codes "greatest")) ∷ ints (own 9) ∷ []) ∷ row (simple.Reduce grouping.Free) (int (Named (codes "catenate")) ∷ values 5 (own 10) ∷ []) ∷ row (simple.Reduce grouping.Free) (int (Named (codes "catenate")) ∷ values 6 (own 11) ∷ truths (own 12) ∷ []) ∷ []) (int (out 1 1) ∷ int (out 2 1) ∷ int (out 3 1) ∷ int (out 4 1) ∷ value 5 (out 5 1) ∷ value 6 (out 6 1) ∷ []) ∷ []
reductions = refl

-- the lower bound of an array over a stream is 1:
--     for x in s returns array of x end for
abbrev array_bounds_text : List Phrase
array_bounds_text =
    at (TypedKind-F.Product (record { sources = (source.Elements ∷ []); clauses = (clause folding.Array ∷ []) })
    (name 0 6 ∷ []) []
    (var 1 ∷ [])) (5 ∷ [])
    ∷ []

array_bounds : graphs_of (6 ∷ []) array_bounds_text ≡
    graph (node (Whole compound.ForAll (2 ∷ 3 ∷ 4 ∷ []) (0 ∷ 1 ∷ 2 ∷ []) 1 1) (value 6 (own 1) ∷ []) ∷ []) (value 5 (out 1 1) ∷ [])
    ∷ graph (row simple.AScatter (value 6 (own 1) ∷ []) ∷ []) (ints (out 1 1) ∷ [])
    ∷ graph [] (int (own 2) ∷ [])
    ∷ graph (row simple.AGather (number 1 ∷ ints (own 3) ∷ []) ∷ []) (value 5 (out 1 1) ∷ []) ∷ []
array_bounds = refl

-- a group before `cross` is a loop around the others, here with a `for initial` in the body:
--     for i in 1, n cross x in v
--     y := for initial k := x; m := i while k < n repeat k := old k + a + m returns value of k end for
--     returns array of y value of sum y
--     end for
abbrev crossed_groups_text : List Phrase
crossed_groups_text =
    at (TypedKind-F.Product (record { sources = (source.Range ∷ []); clauses = (clause folding.Array ∷ clause folding.Sum ∷ []) })
    (num 1 ∷ var 1 ∷ []) []
    (at (TypedKind-F.Product (record { sources = (source.Elements ∷ []); clauses = (clause folding.Array ∷ clause folding.Sum ∷ []) })
    (name 2 5 ∷ []) ((at (TypedKind-F.Initial (record { is_first = true; is_until = false; renewed = (Some 0 ∷ []); clauses = (clause folding.Last ∷ []) })
    ((var 4 ∷ []) ∷ (var 3 ∷ []) ∷ []) (apply (operation.Binary two.Less) (var 5 ∷ var 1 ∷ []) 0 ∷ [])
    ((apply (operation.Binary two.Plus) (apply (operation.Binary two.Plus) (var 5 ∷ var 0 ∷ []) 2 ∷ var 6 ∷ []) 2 ∷ []) ∷ [])
    (var 5 ∷ [])) (2 ∷ []) ∷ []) ∷ [])
    (var 5 ∷ var 5 ∷ [])) (5 ∷ 2 ∷ []) ∷ [])) (7 ∷ 2 ∷ [])
    ∷ []

crossed_groups : graphs_of (2 ∷ 2 ∷ 5 ∷ []) crossed_groups_text ≡
    graph (node (Whole compound.ForAll (2 ∷ 3 ∷ 11 ∷ []) (0 ∷ 1 ∷ 2 ∷ []) 2 2) (int (own 2) ∷ value 5 (own 3) ∷ int (own 1) ∷ []) ∷ []) (value 7 (out 1 1) ∷ int (out 1 2) ∷ [])
    ∷ graph (row simple.RangeGenerate (number 1 ∷ int (own 1) ∷ []) ∷ []) (ints (out 1 1) ∷ [])
    ∷ graph (node (Whole compound.ForAll (4 ∷ 5 ∷ 10 ∷ []) (0 ∷ 1 ∷ 2 ∷ []) 2 2) (value 5 (own 2) ∷ int (own 4) ∷ int (own 1) ∷ int (own 3) ∷ []) ∷ []) (value 5 (out 1 1) ∷ int (out 1 2) ∷ [])
    ∷ graph (row simple.AScatter (value 5 (own 1) ∷ []) ∷ []) (ints (out 1 1) ∷ [])
    ∷ graph (node (Whole compound.LoopB (6 ∷ 7 ∷ 8 ∷ 9 ∷ []) (0 ∷ 1 ∷ 2 ∷ 3 ∷ []) 0 1) (int (own 5) ∷ int (own 2) ∷ int (own 3) ∷ int (own 4) ∷ []) ∷ []) (int (out 1 1) ∷ int (out 1 1) ∷ [])
    ∷ graph [] (int (own 1) ∷ int (own 2) ∷ [])
    ∷ graph (row (simple.Two two.Less) (int (own 5) ∷ int (own 3) ∷ []) ∷ []) (truth (out 1 1) ∷ [])
    ∷ graph (row (simple.Two two.Plus) (int (own 5) ∷ int (own 4) ∷ []) ∷ row (simple.Two two.Plus) (int (out 1 1) ∷ int (own 6) ∷ []) ∷ []) (int (out 2 1) ∷ int (own 6) ∷ [])
    ∷ graph (row simple.FinalValue (ints (own 5) ∷ []) ∷ []) (int (out 1 1) ∷ [])
    ∷ graph (row simple.ALimL (value 5 (own 1) ∷ []) ∷ row simple.AGather (int (out 1 1) ∷ ints (own 6) ∷ []) ∷ row (simple.Reduce grouping.Free) (int (Named (codes "sum")) ∷ ints (own 7) ∷ []) ∷ []) (value 5 (out 2 1) ∷ int (out 3 1) ∷ [])
    ∷ graph (row simple.AGather (number 1 ∷ values 5 (own 5) ∷ []) ∷ row (simple.Reduce grouping.Free) (int (Named (codes "sum")) ∷ ints (own 6) ∷ []) ∷ []) (value 7 (out 1 1) ∷ int (out 2 1) ∷ []) ∷ []
crossed_groups = refl
