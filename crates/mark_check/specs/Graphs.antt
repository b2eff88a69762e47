-- The graphs of a unit in the order of their numbers.
use Rattle.std.specs.Prelude.{◌≡◌, ℕ, zero, suc, false, List, [], ◌∷◌, map, All}
use Rattle.std.specs.Borrow.{Bor}
use Rattle.std.specs.List.{flat_map}
use Rattle.if1_graph.specs.declared.graph.Graph.{Graph}
use Rattle.if1_graph.specs.declared.graph.Graph.TheViews.{out-Graph}
use Rattle.if1_graph.specs.declared.graph.Node.{Node, out-Node}
use Rattle.if1_graph.specs.declared.graph.Unit1.{Unit1}
use Rattle.if1_graph.specs.Units.{places}

-- a graph and the graphs inside its nodes, down to a number of levels
abbrev pub graphs_of : ℕ → Graph → List Graph
graphs_of zero g = g ∷ []
graphs_of (suc more) g = g ∷ flat_map (λ n. flat_map (graphs_of more) (out-Node n).subs) (out-Graph g).nodes

abbrev pub graphs_in : ℕ → List Graph → List Graph
graphs_in more gs = flat_map (graphs_of more) gs

abbrev pub graphs_below : ℕ → List Node → List Graph
graphs_below more ns = flat_map (λ n. graphs_in more (out-Node n).subs) ns

-- the graph of each place of a unit
abbrev pub unit_graphs : Unit1 → List Graph
unit_graphs u = map (λ p. p.graph) (places u)

-- what is lent
abbrev pub lent : List (Bor Graph) → List Graph
lent gs = map (λ g. g.now) gs

-- no edge of these graphs takes
abbrev pub AreUntaken : List (Bor Graph) → Type 0
AreUntaken gs = All (λ g. All (λ e. e.takes ≡ false) (out-Graph g.now).edges) gs
