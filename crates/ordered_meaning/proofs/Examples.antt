-- The ordered meaning of one small graph of each form. The sum tells which nodes have fired: each adds its label, and 10 for
-- each graph before its own.
use Rattle.std.proofs.Common.{◌≡◌, ℕ, ◌+◌, ◌*◌, pos, List, [], ◌∷◌, Option, Some, refl, ap, rules}
use Rattle.std.specs.Prelude.{codes, get_or}
use Rattle.graph_meaning.specs.Scalar2.TheVariants as two
use Rattle.graph_meaning.specs.Val.{Val}
use Rattle.graph_meaning.specs.Val.TheOpen.{Val-F}
use Rattle.graph_meaning.specs.Val.TheVariants as val
use Rattle.graph_meaning.specs.Val.TheViews as values
use Rattle.graph_meaning.specs.Grouping.TheVariants.{Free}
use Rattle.graph_meaning.specs.Simple.{Simple}
use Rattle.graph_meaning.specs.Simple.TheVariants as simple
use Rattle.graph_meaning.specs.Carried.{Carried, Value, Name}
use Rattle.graph_meaning.specs.NodeValues as shape
use Rattle.graph_meaning.specs.Forms.{First, Call, Select, TagCase, LoopA, LoopB, ForAll, Chosen, Begins, first, next_of, arm_in}
use Rattle.graph_meaning.specs.Demand.{Source, Port, Fixed, Kind, Plain, Whole, Vertex, Net, Network, and_then}
use Rattle.graph_meaning.specs.Storage.{Weights}
use Rattle.ordered_meaning.specs.Ordered.{Bindings, Total, Inputs, Fired, with_both, and_results, nothing, MeansInOrder}
use Rattle.ordered_meaning.specs.Laws.{counting}
use Rattle.ordered_meaning.proofs.Computed.{computed, graph_run, steps_run, read_all}

abbrev int : ℕ → Carried
int n = Value (val.Int (pos n))

abbrev vertex : ℕ → Kind → List Source → Vertex
vertex l k ins = record { label = l; kind = k; ins = ins; before = [] }

abbrev node : ℕ → Simple → List Source → Vertex
node l row ins = vertex l (Plain row shape.Plain) ins

abbrev net : List Vertex → List Source → Net
net nodes results = record { nodes = nodes; results = results }

-- graphs numbered from 0
abbrev numbered : List Net → Network
numbered nets k = get_or nets k (net [] [])

abbrev labels : Weights
labels = record { of_node = λ g v ks rs. 10 * g + v.label; of_results = λ g rs. 0 }

-- graph 0 of these, its nodes as they stand, on these inputs: these results, so many firings and this sum
abbrev Gives : List Net → List Carried → List Carried → (fires sum : ℕ) → Type 0
Gives nets ins rs fires sum = MeansInOrder (counting labels) (numbered nets) (λ g. (numbered nets g).nodes) 0 ins rs (record { fires = fires; sum = sum })

abbrev Runs : List Net → List Carried → List Carried → (fires sum : ℕ) → Type 0
Runs nets ins rs fires sum = graph_run (counting labels) (numbered nets) (λ g. (numbered nets g).nodes) (steps_run (counting labels) (numbered nets) (λ g. (numbered nets g).nodes) 12) 0 ins ≡ Some (rs, record { fires = fires; sum = sum })

gives : (nets : List Net) (ins rs : List Carried) (fires sum : ℕ) → Runs nets ins rs fires sum → Gives nets ins rs fires sum
gives nets ins rs fires sum e = computed (counting labels) (numbered nets) (λ g. (numbered nets g).nodes) 12 0 ins rs (record { fires = fires; sum = sum }) e

-- (a + b) * a
abbrev products : List Net
products = net (node 1 (simple.Two two.Plus) (Port 0 1 ∷ Port 0 2 ∷ []) ∷ node 2 (simple.Two two.Times) (Port 1 1 ∷ Port 0 1 ∷ []) ∷ []) (Port 2 1 ∷ []) ∷ []

simple-nodes : Gives products (int 2 ∷ int 3 ∷ []) (int 10 ∷ []) 2 3
simple-nodes = gives products (int 2 ∷ int 3 ∷ []) (int 10 ∷ []) 2 3 refl

-- a call of a graph that adds 1
abbrev calling : List Net
calling =
    net (vertex 1 (Whole (Call 1)) (Port 0 1 ∷ []) ∷ []) (Port 1 1 ∷ [])
    ∷ net (node 1 (simple.Two two.Plus) (Port 0 1 ∷ Fixed (int 1) ∷ []) ∷ []) (Port 1 1 ∷ [])
    ∷ []

a-call : Gives calling (int 6 ∷ []) (int 7 ∷ []) 2 12
a-call = gives calling (int 6 ∷ []) (int 7 ∷ []) 2 12 refl

-- 4 or 5 by the input
abbrev choosing : List Net
choosing =
    net (vertex 1 (Whole (Select 1 (2 ∷ 3 ∷ []) 1)) (Port 0 1 ∷ []) ∷ []) (Port 1 1 ∷ [])
    ∷ net [] (Port 0 1 ∷ [])
    ∷ net [] (Fixed (int 4) ∷ [])
    ∷ net (node 1 simple.NoOp (Fixed (int 5) ∷ []) ∷ []) (Port 1 1 ∷ [])
    ∷ []

a-select : Gives choosing (int 1 ∷ []) (int 5 ∷ []) 2 32
a-select = gives choosing (int 1 ∷ []) (int 5 ∷ []) 2 32 refl

-- while i < k do i := i + 1, from 0, with k the first input; the result is the last value
abbrev loop_parts : List Net
loop_parts =
    net [] (Fixed (int 0) ∷ [])
    ∷ net (node 1 (simple.Two two.Less) (Port 0 2 ∷ Port 0 1 ∷ []) ∷ []) (Port 1 1 ∷ [])
    ∷ net (node 1 (simple.Two two.Plus) (Port 0 2 ∷ Fixed (int 1) ∷ []) ∷ []) (Port 1 1 ∷ [])
    ∷ net (node 1 simple.FinalValue (Port 0 2 ∷ []) ∷ []) (Port 1 1 ∷ [])
    ∷ []

-- the loop, two turns with their sums, three tests, the node of the returns
a-loop : Gives (net (vertex 1 (Whole (LoopB 1 2 3 4 1)) (Port 0 1 ∷ []) ∷ []) (Port 1 1 ∷ []) ∷ loop_parts) (int 2 ∷ []) (int 2 ∷ []) 9 167
a-loop = gives (net (vertex 1 (Whole (LoopB 1 2 3 4 1)) (Port 0 1 ∷ []) ∷ []) (Port 1 1 ∷ []) ∷ loop_parts) (int 2 ∷ []) (int 2 ∷ []) 9 167 refl

-- the body once before the first test
a-loop-after : Gives (net (vertex 1 (Whole (LoopA 1 2 3 4 1)) (Port 0 1 ∷ []) ∷ []) (Port 1 1 ∷ []) ∷ loop_parts) (int 0 ∷ []) (int 1 ∷ []) 5 94
a-loop-after = gives (net (vertex 1 (Whole (LoopA 1 2 3 4 1)) (Port 0 1 ∷ []) ∷ []) (Port 1 1 ∷ []) ∷ loop_parts) (int 0 ∷ []) (int 1 ∷ []) 5 94 refl

-- the sum of i + 5 over i from 1 to the input
abbrev spreading : List Net
spreading =
    net (vertex 1 (Whole (ForAll 1 2 3 1 1)) (Port 0 1 ∷ []) ∷ []) (Port 1 1 ∷ [])
    ∷ net (node 1 simple.RangeGenerate (Fixed (int 1) ∷ Port 0 1 ∷ []) ∷ []) (Port 1 1 ∷ [])
    ∷ net (node 1 (simple.Two two.Plus) (Port 0 2 ∷ Fixed (int 5) ∷ []) ∷ []) (Port 1 1 ∷ [])
    ∷ net (node 1 (simple.Reduce Free) (Fixed (Name (codes "sum")) ∷ Port 0 3 ∷ []) ∷ []) (Port 1 1 ∷ [])
    ∷ []

a-for-all : Gives spreading (int 3 ∷ []) (int 21 ∷ []) 9 106
a-for-all = gives spreading (int 3 ∷ []) (int 21 ∷ []) 9 106 refl

-- the content of a union at tag 1, and 0 at tag 0
abbrev by_tag : List Net
by_tag =
    net (vertex 1 (Whole (TagCase (1 ∷ 2 ∷ []) 1)) (Port 0 1 ∷ []) ∷ []) (Port 1 1 ∷ [])
    ∷ net [] (Fixed (int 0) ∷ [])
    ∷ net (node 1 simple.NoOp (Port 0 1 ∷ []) ∷ []) (Port 1 1 ∷ [])
    ∷ []

tagged : (v : Val) → first (TagCase (1 ∷ 2 ∷ []) 1) (Value (val.Uni 1 v) ∷ []) ≡ Begins 2 (Value v ∷ []) Chosen
tagged v = let out : values.out-Val (val.Uni 1 v) ≡ Val-F.Uni 1 v = search (rules, values.the_lemmas) in ap (arm_in (1 ∷ 2 ∷ []) 1 []) out

a-tag-case : (v : Val) → Gives by_tag (Value (val.Uni 1 v) ∷ []) (Value v ∷ []) 2 22
a-tag-case v = gives by_tag (Value (val.Uni 1 v) ∷ []) (Value v ∷ []) 2 22 (ap from (tagged v))
  where
    -- the run of the graph, where the node does this first
    from : First → Option (List Carried × Total (counting labels))
    from f =
        and_then (and_then (steps_run (counting labels) (numbered by_tag) (λ g. (numbered by_tag g).nodes) 12 (TagCase (1 ∷ 2 ∷ []) 1) (Value (val.Uni 1 v) ∷ []) (next_of f))
        (λ x. let y : Bindings × Total (counting labels) = (Fired 1 x.0 (Inputs (Value (val.Uni 1 v) ∷ [])), with_both (counting labels) 1 1 x.1 (nothing (counting labels))) in Some y))
        (λ y. and_then (read_all y.0 (Port 1 1 ∷ [])) (λ rs. let z : List Carried × Total (counting labels) = (rs, and_results (counting labels) y.1 0) in Some z))
