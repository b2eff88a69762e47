-- The definitions on small graphs: each compound node, its errors, an endless loop, and a ForAll cut in two ways.
use Rattle.std.proofs.Common.{◌≡◌, ℕ, zero, suc, pos, true, false, List, [], ◌∷◌, ◌++◌, Some, None, refl, ap, subst, rules, eqb, Bool, if◌then◌else◌, inl, inr}
use Rattle.std.specs.Prelude.{codes, get_or}
use Rattle.loop_folds.specs.Bounds.{bounded}
use Rattle.loop_folds.specs.Cause.{Cause}
use Rattle.loop_folds.specs.Cause.TheVariants as cause
use Rattle.loop_folds.specs.Val.{Val}
use Rattle.loop_folds.specs.Val.TheOpen.{Val-F}
use Rattle.loop_folds.specs.Val.TheVariants as val
use Rattle.loop_folds.specs.Val.TheViews as values
use Rattle.loop_folds.specs.Scalar2.TheVariants as two
use Rattle.if1_graph.specs.declared.op.Grouping.TheVariants.{Free}
use Rattle.if1_graph.specs.declared.op.Simple.{Simple}
use Rattle.if1_graph.specs.declared.op.Simple.TheVariants as simple
use Rattle.graph_meaning.specs.Carried.{Carried, Value, Many, Spoiled, Name}
use Rattle.graph_meaning.specs.NodeValues.{Shape, op}
use Rattle.graph_meaning.specs.NodeValues as shape
use Rattle.graph_meaning.specs.Forms.{Form, Call, Select, TagCase, LoopA, LoopB, ForAll, Chosen, Begins, Skips, next_of, first, arm_in}
use Rattle.graph_meaning.specs.Entered.{NoNode, SimpleNode, WholeNode, Left, GraphStep, SliceStep, cost, IsIn}
use Rattle.graph_meaning.specs.Demand.{Source, Port, Fixed, Kind, Plain, Whole, Vertex, Net, Network, data_labels, waits_of, WaitsFor, straight, through, IsOrderly, AreOrderly, leads_to, dem, tree, flatten, IsCut}
use Rattle.graph_meaning.specs.Histories.{IsConfluent}
use Rattle.graph_meaning.specs.Laws.{run_of}
use Rattle.graph_meaning.proofs.Theorems.{runs-confluent}

abbrev int : ℕ → Carried
int n = Value (val.Int (pos n))

abbrev err : Cause → Carried
err c = Value (val.Err c)

abbrev vertex : ℕ → Kind → List Source → Vertex
vertex l k ins = record { label = l; kind = k; ins = ins; before = [] }

abbrev node : ℕ → Simple → List Source → Vertex
node l row ins = vertex l (Plain row shape.Plain) ins

abbrev net : List Vertex → List Source → Net
net nodes results = record { nodes = nodes; results = results }

-- graphs numbered from 0, and none from there on
abbrev numbered : List Net → Network
numbered nets k = get_or nets k (net [] [])

-- all iterations in one slice, and each in one of its own
abbrev together : List (List Carried) → List (List (List Carried))
together [] = []
together (r ∷ rs) = (r ∷ rs) ∷ []

abbrev apart : List (List Carried) → List (List (List Carried))
apart [] = []
apart (r ∷ rs) = (r ∷ []) ∷ apart rs

joins-together : (rows : List (List Carried)) → flatten (together rows) ≡ rows
joins-together [] = refl
joins-together (r ∷ rs) = ap (λ x. r ∷ x) (nil rs)
  where
    nil : (xs : List (List Carried)) → xs ++ [] ≡ xs
    nil [] = refl
    nil (x ∷ xs) = ap (λ y. x ∷ y) (nil xs)

joins-apart : (rows : List (List Carried)) → flatten (apart rows) ≡ rows
joins-apart [] = refl
joins-apart (r ∷ rs) = ap (λ x. r ∷ x) (joins-apart rs)

pub is-cut-together : IsCut together
is-cut-together = record { joins = joins-together; some = λ r rs. (r ∷ rs, [], refl) }

pub is-cut-apart : IsCut apart
is-cut-apart = record { joins = joins-apart; some = λ r rs. (r ∷ [], apart rs, refl) }

-- ---- simple nodes

sum-of-two : op (simple.Two two.Plus) shape.Plain (int 2 ∷ int 3 ∷ []) ≡ int 5 ∷ []
sum-of-two = refl

least-port : op (simple.Two two.Plus) shape.Plain (err cause.Zero ∷ err cause.Size ∷ []) ≡ err cause.Zero ∷ []
least-port = refl

by-zero : op (simple.Two two.Div) shape.Plain (int 1 ∷ int 0 ∷ []) ≡ err cause.Zero ∷ []
by-zero = refl

spoiled-range : op simple.RangeGenerate shape.Plain (int 1 ∷ err cause.Tag ∷ []) ≡ Spoiled cause.Tag ∷ []
spoiled-range = refl

spoiled-twice : op simple.RangeGenerate shape.Plain (err cause.Zero ∷ err cause.Tag ∷ []) ≡ Spoiled cause.Zero ∷ []
spoiled-twice = refl

large-range : op simple.RangeGenerate shape.Plain (int 1 ∷ int 4194305 ∷ []) ≡ Spoiled cause.Size ∷ []
large-range = refl

-- the bound of a stream is strict too
spoiled-bound : op simple.ABuild shape.Stream (err cause.Zero ∷ int 5 ∷ []) ≡ err cause.Zero ∷ []
spoiled-bound = refl

-- a mask that is an error comes before an error among the elements
masked-sum : op (simple.Reduce Free) shape.Plain (Name (codes "sum") ∷ Many (val.Int (pos 5) ∷ val.Err cause.Zero ∷ []) ∷ Many (val.Bool true ∷ val.Err cause.Tag ∷ []) ∷ []) ≡ err cause.Tag ∷ []
masked-sum = refl

-- an element that is dropped may be an error
dropped-error : op (simple.Reduce Free) shape.Plain (Name (codes "sum") ∷ Many (val.Int (pos 5) ∷ val.Err cause.Zero ∷ []) ∷ Many (val.Bool true ∷ val.Bool false ∷ []) ∷ []) ≡ int 5 ∷ []
dropped-error = refl

no-last : op simple.FinalValue shape.Plain (Many [] ∷ []) ≡ err cause.Empty ∷ []
no-last = refl

-- ---- loops

-- while i < k do i := i + 1, from 0, with k the first input; the result is the last value
abbrev loop_parts : List Net
loop_parts =
    net [] (Fixed (int 0) ∷ [])
    ∷ net (node 1 (simple.Two two.Less) (Port 0 2 ∷ Port 0 1 ∷ []) ∷ []) (Port 1 1 ∷ [])
    ∷ net (node 1 (simple.Two two.Plus) (Port 0 2 ∷ Fixed (int 1) ∷ []) ∷ []) (Port 1 1 ∷ [])
    ∷ net (node 1 simple.FinalValue (Port 0 2 ∷ []) ∷ []) (Port 1 1 ∷ [])
    ∷ []

abbrev counting : Network
counting = numbered (net (vertex 1 (Whole (LoopB 1 2 3 4 1)) (Port 0 1 ∷ []) ∷ []) (Port 1 1 ∷ []) ∷ loop_parts)

counts-to-two : dem 10 counting 0 (int 2 ∷ []) ≡ Some (int 2 ∷ [])
counts-to-two = refl

too-shallow : dem 4 counting 0 (int 2 ∷ []) ≡ None
too-shallow = refl

-- the loop, two turns with their sums, three tests, the node of the returns
costs-nine : cost (tree together 10 counting 0 (int 2 ∷ [])) ≡ Some 9
costs-nine = refl

-- a test that is an error is that error
spoiled-test : dem 10 counting 0 (err cause.Bounds ∷ []) ≡ Some (err cause.Bounds ∷ [])
spoiled-test = refl

-- the body once before the first test
abbrev counting_after : Network
counting_after = numbered (net (vertex 1 (Whole (LoopA 1 2 3 4 1)) (Port 0 1 ∷ []) ∷ []) (Port 1 1 ∷ []) ∷ loop_parts)

counts-at-least-once : dem 10 counting_after 0 (int 0 ∷ []) ≡ Some (int 1 ∷ [])
counts-at-least-once = refl

-- the loop, a turn with its sum, a test, the node of the returns
costs-five : cost (tree together 10 counting_after 0 (int 0 ∷ [])) ≡ Some 5
costs-five = refl

-- a loop that never ends, whose outputs nothing uses
abbrev endless : Network
endless =
    numbered (
    net (vertex 1 (Whole (LoopB 1 2 1 1 1)) [] ∷ []) (Fixed (int 7) ∷ [])
    ∷ net [] (Fixed (int 0) ∷ [])
    ∷ net [] (Fixed (Value (val.Bool true)) ∷ [])
    ∷ []
    )

endless-means : dem 1 endless 0 [] ≡ Some (int 7 ∷ [])
endless-means = refl

endless-has-no-cost : cost (tree together 20 endless 0 []) ≡ None
endless-has-no-cost = refl

-- ---- Select, TagCase and Call

-- 4 or 5 by the input
abbrev choosing : Network
choosing =
    numbered (
    net (vertex 1 (Whole (Select 1 (2 ∷ 3 ∷ []) 1)) (Port 0 1 ∷ []) ∷ []) (Port 1 1 ∷ [])
    ∷ net [] (Port 0 1 ∷ [])
    ∷ net [] (Fixed (int 4) ∷ [])
    ∷ net [] (Fixed (int 5) ∷ [])
    ∷ []
    )

chooses-five : dem 5 choosing 0 (int 1 ∷ []) ≡ Some (int 5 ∷ [])
chooses-five = refl

no-alternative : dem 5 choosing 0 (int 2 ∷ []) ≡ Some (err cause.Tag ∷ [])
no-alternative = refl

spoiled-selector : dem 5 choosing 0 (err cause.Zero ∷ []) ≡ Some (err cause.Zero ∷ [])
spoiled-selector = refl

-- the content of a union at tag 1, and 0 at tag 0
abbrev by_tag : Network
by_tag =
    numbered (
    net (vertex 1 (Whole (TagCase (1 ∷ 2 ∷ []) 1)) (Port 0 1 ∷ []) ∷ []) (Port 1 1 ∷ [])
    ∷ net [] (Fixed (int 0) ∷ [])
    ∷ net [] (Port 0 1 ∷ [])
    ∷ []
    )

abbrev tags : Form
tags = TagCase (1 ∷ 2 ∷ []) 1

spoiled-union : (c : Cause) → first tags (err c ∷ []) ≡ Skips (err c ∷ [])
spoiled-union c = let out : values.out-Val (val.Err c) ≡ Val-F.Err c = search (rules, values.the_lemmas) in ap (arm_in (1 ∷ 2 ∷ []) 1 []) out

tagged : (v : Val) → first tags (Value (val.Uni 1 v) ∷ []) ≡ Begins 2 (Value v ∷ []) Chosen
tagged v = let out : values.out-Val (val.Uni 1 v) ≡ Val-F.Uni 1 v = search (rules, values.the_lemmas) in ap (arm_in (1 ∷ 2 ∷ []) 1 []) out

-- what the node gives
spoiled-union-given : (c : Cause) → leads_to 5 by_tag tags (err c ∷ []) (next_of (first tags (err c ∷ []))) ≡ Some (err c ∷ [])
spoiled-union-given c = ap (λ f. leads_to 5 by_tag tags (err c ∷ []) (next_of f)) (spoiled-union c)

content-given : (v : Val) → leads_to 5 by_tag tags (Value (val.Uni 1 v) ∷ []) (next_of (first tags (Value (val.Uni 1 v) ∷ []))) ≡ Some (Value v ∷ [])
content-given v = ap (λ f. leads_to 5 by_tag tags (Value (val.Uni 1 v) ∷ []) (next_of f)) (tagged v)

-- a call of a graph that adds 1
abbrev calling : Network
calling =
    numbered (
    net (vertex 1 (Whole (Call 1)) (Port 0 1 ∷ []) ∷ []) (Port 1 1 ∷ [])
    ∷ net (node 1 (simple.Two two.Plus) (Port 0 1 ∷ Fixed (int 1) ∷ []) ∷ []) (Port 1 1 ∷ [])
    ∷ []
    )

calls : dem 5 calling 0 (int 6 ∷ []) ≡ Some (int 7 ∷ [])
calls = refl

costs-two : cost (tree together 5 calling 0 (int 6 ∷ [])) ≡ Some 2
costs-two = refl

-- ---- ForAll

-- the sum of i + 5 over i from 1 to the input
abbrev spreading : Network
spreading =
    numbered (
    net (vertex 1 (Whole (ForAll 1 2 3 1 1)) (Port 0 1 ∷ []) ∷ []) (Port 1 1 ∷ [])
    ∷ net (node 1 simple.RangeGenerate (Fixed (int 1) ∷ Port 0 1 ∷ []) ∷ []) (Port 1 1 ∷ [])
    ∷ net (node 1 (simple.Two two.Plus) (Port 0 2 ∷ Fixed (int 5) ∷ []) ∷ []) (Port 1 1 ∷ [])
    ∷ net (node 1 (simple.Reduce Free) (Fixed (Name (codes "sum")) ∷ Port 0 3 ∷ []) ∷ []) (Port 1 1 ∷ [])
    ∷ []
    )

sums : dem 10 spreading 0 (int 3 ∷ []) ≡ Some (int 21 ∷ [])
sums = refl

sums-none : dem 10 spreading 0 (int 0 ∷ []) ≡ Some (int 0 ∷ [])
sums-none = refl

spoiled-generator : dem 10 spreading 0 (err cause.Overflow ∷ []) ≡ Some (err cause.Overflow ∷ [])
spoiled-generator = refl

-- one slice or three, the cost is the same
sums-together : tree together 10 spreading 0 (int 3 ∷ []) ≡ WholeNode 1 [] (SimpleNode 1 [] NoNode) (SliceStep (Some 6 ∷ []) (GraphStep false (SimpleNode 1 [] NoNode) Left)) NoNode
sums-together = refl

sums-apart : tree apart 10 spreading 0 (int 3 ∷ []) ≡ WholeNode 1 [] (SimpleNode 1 [] NoNode) (SliceStep (Some 2 ∷ Some 2 ∷ Some 2 ∷ []) (GraphStep false (SimpleNode 1 [] NoNode) Left)) NoNode
sums-apart = refl

costs-nine-together : cost (tree together 10 spreading 0 (int 3 ∷ [])) ≡ Some 9
costs-nine-together = refl

costs-nine-apart : cost (tree apart 10 spreading 0 (int 3 ∷ [])) ≡ Some 9
costs-nine-apart = refl

-- Generators from 1 to the first input and from 2 to the second: the array from 1 of the second one's numbers, where the
-- first one's is below 2.
abbrev pairs : Network
pairs =
    numbered (
    net (vertex 1 (Whole (ForAll 1 2 3 2 1)) (Port 0 1 ∷ Port 0 2 ∷ []) ∷ []) (Port 1 1 ∷ [])
    ∷ net
    (node 1 simple.RangeGenerate (Fixed (int 1) ∷ Port 0 1 ∷ []) ∷ node 2 simple.RangeGenerate (Fixed (int 2) ∷ Port 0 2 ∷ []) ∷ [])
    (Port 1 1 ∷ Port 2 1 ∷ [])
    ∷ net (node 1 (simple.Two two.Less) (Port 0 3 ∷ Fixed (int 2) ∷ []) ∷ []) (Port 0 4 ∷ Port 1 1 ∷ [])
    ∷ net (node 1 simple.AGather (Fixed (int 1) ∷ Port 0 5 ∷ Port 0 6 ∷ []) ∷ []) (Port 1 1 ∷ [])
    ∷ []
    )

keeps-one : dem 10 pairs 0 (int 2 ∷ int 3 ∷ []) ≡ Some (Value (val.Arr (bounded (pos 1) (val.Int (pos 2) ∷ []))) ∷ [])
keeps-one = refl

lengths-differ : dem 10 pairs 0 (int 2 ∷ int 2 ∷ []) ≡ Some (err cause.Size ∷ [])
lengths-differ = refl

first-of-two-errors : dem 10 pairs 0 (err cause.Zero ∷ err cause.Empty ∷ []) ≡ Some (err cause.Zero ∷ [])
first-of-two-errors = refl

-- ---- the premises can be met: every history of the counting loop ends alike

no-wait : (k : Kind) (ins : List Source) → data_labels ins ≡ [] → {l m : ℕ} → WaitsFor (vertex 1 k ins ∷ []) l m → ⊥
no-wait k ins e (straight {l = l} {m = m} i) = go (eqb 1 l) i
  where
    go : (b : Bool) → IsIn m (waits_of (if b then Some (vertex 1 k ins) else None)) → ⊥
    go true i = absurd (subst (λ xs. IsIn m (xs ++ [])) e i)
    go false i = absurd i
no-wait k ins e (through a b) = no-wait k ins e a

one-orderly : (k : Kind) (ins : List Source) → data_labels ins ≡ [] → IsOrderly (net (vertex 1 k ins ∷ []) (Port 1 1 ∷ []))
one-orderly k ins e =
    record {
      once = ((λ i. i), tt);
      named = ((λ n i. absurd (subst (λ xs. IsIn n (xs ++ [])) e i)), tt);
      results_named = λ n. elim [ inl e ↦ inl e | inr i ↦ absurd i ];
      acyclic = λ l w. no-wait k ins e w;
    }

none-waits : {l m : ℕ} → WaitsFor [] l m → ⊥
none-waits (straight i) = absurd i
none-waits (through a b) = none-waits a

none-orderly : (results : List Source) → data_labels results ≡ [] → IsOrderly (net [] results)
none-orderly results e =
    record { once = tt; named = tt; results_named = λ n i. absurd (subst (IsIn n) e i); acyclic = λ l w. none-waits w }

counting-orderly : AreOrderly counting
counting-orderly zero = one-orderly (Whole (LoopB 1 2 3 4 1)) (Port 0 1 ∷ []) refl
counting-orderly (suc zero) = none-orderly (Fixed (int 0) ∷ []) refl
counting-orderly (suc (suc zero)) = one-orderly (Plain (simple.Two two.Less) shape.Plain) (Port 0 2 ∷ Port 0 1 ∷ []) refl
counting-orderly (suc (suc (suc zero))) = one-orderly (Plain (simple.Two two.Plus) shape.Plain) (Port 0 2 ∷ Fixed (int 1) ∷ []) refl
counting-orderly (suc (suc (suc (suc zero)))) = one-orderly (Plain simple.FinalValue shape.Plain) (Port 0 2 ∷ []) refl
counting-orderly (suc (suc (suc (suc (suc g))))) = none-orderly [] refl

counting-confluent : (limit : ℕ) → IsConfluent (run_of apart counting 0 (int 2 ∷ [])) limit
counting-confluent limit = runs-confluent apart counting 0 (int 2 ∷ []) limit is-cut-apart counting-orderly
