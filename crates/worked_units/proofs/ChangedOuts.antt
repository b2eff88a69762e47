-- The graph of the change, opened, and its ends.
use Rattle.std.proofs.Common.{◌≡◌, ℕ, true, List, [], ◌∷◌, Some, None, sym, subst, rules}
use Rattle.std.specs.Prelude.{All, codes}
use Rattle.std.specs.List.{AllByRecursion as ByRecursion}
use Rattle.std.proofs.lemmas.List.Elements.{All-from_recursion}
use Rattle.if1_graph.specs.declared.graph.Edge.{Edge}
use Rattle.if1_graph.specs.declared.graph.Graph.TheViews as views
use Rattle.if1_graph.specs.declared.graph.Node.{Node, out-Node}
use Rattle.if1_graph.specs.Units.{label_of, number_of, node_at, edges_into, ports_into, edge_into, ends, Function, Place, places}
use Rattle.worked_units.specs.Changed.{node, nodes, edges, main, changed}

pub out-main : views.out-Graph main ≡ record { number = 1; exported = true; name = codes "main"; fun = 8; nodes = nodes; edges = edges }
out-main = search (rules, views.the_lemmas)

pub out-node : (label op : ℕ) (before : List ℕ) → out-Node (node label op before) ≡ record { label = label; op = op; subs = []; assoc = []; before = before; name = [] }
out-node label op before = search (rules, views.the_lemmas)

pub ruleset opened = (out-main, out-node, label_of, number_of)

-- and the nodes and edges by labels and ports
pub ruleset looks = (opened, node_at, edges_into, ports_into, edge_into)

abbrev pub place : Place
place = record { graph = main; home = Function 0 }

pub places-are : places changed ≡ place ∷ []
places-are = simp opened

pub edges-are : (views.out-Graph main).edges ≡ edges
edges-are = simp out-main

pub nodes-are : (views.out-Graph main).nodes ≡ nodes
nodes-are = simp out-main

pub at-place : (P : Place → Type 0) → P place → All P (places changed)
at-place P h = subst (All P) (sym places-are) (All-from_recursion P (place ∷ []) (h, tt))

pub all-edges : (P : Edge → Type 0) → ByRecursion P edges → All P (views.out-Graph main).edges
all-edges P h = subst (All P) (sym edges-are) (All-from_recursion P edges h)

pub all-nodes : (P : Node → Type 0) → ByRecursion P nodes → All P (views.out-Graph main).nodes
all-nodes P h = subst (All P) (sym nodes-are) (All-from_recursion P nodes h)

ends-are : ends main ≡ 0 ∷ 1 ∷ 2 ∷ 3 ∷ 1 ∷ 1 ∷ 1 ∷ 2 ∷ 2 ∷ 2 ∷ 3 ∷ 3 ∷ 0 ∷ 0 ∷ []
ends-are = simp opened

-- what holds at the boundary and at each node
pub at-ends : (P : ℕ → Type 0) → P 0 → P 1 → P 2 → P 3 → All P (ends main)
at-ends P boundary fill change look =
    subst (All P) (sym ends-are) (All-from_recursion P (0 ∷ 1 ∷ 2 ∷ 3 ∷ 1 ∷ 1 ∷ 1 ∷ 2 ∷ 2 ∷ 2 ∷ 3 ∷ 3 ∷ 0 ∷ 0 ∷ [])
    (boundary, (fill, (change, (look, (fill, (fill, (fill, (change, (change, (change, (look, (look, (boundary, (boundary, tt)))))))))))))))

pub the-fill : node_at (views.out-Graph main).nodes 1 ≡ Some (node 1 106 [])
the-fill = simp looks

pub the-change : node_at (views.out-Graph main).nodes 2 ≡ Some (node 2 113 (3 ∷ []))
the-change = simp looks

pub the-look : node_at (views.out-Graph main).nodes 3 ≡ Some (node 3 105 [])
the-look = simp looks

pub no-boundary : node_at (views.out-Graph main).nodes 0 ≡ None
no-boundary = simp looks
