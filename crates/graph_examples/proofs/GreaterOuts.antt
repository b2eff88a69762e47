-- The graphs of the example, opened.
use Rattle.std.proofs.Common.{◌≡◌, ℕ, Bool, List, [], ◌∷◌, rules}
use Rattle.if1_graph.specs.declared.graph.Graph.{Graph}
use Rattle.if1_graph.specs.declared.graph.Graph.TheViews as views
use Rattle.if1_graph.specs.declared.graph.Node.{Node, roll-Node, out-Node}
use Rattle.if1_graph.specs.declared.graph.Edge.{Edge}
use Rattle.if1_graph.specs.Units.{Home, Function, Inside, Place, places, ends, label_of, number_of, node_at, edges_into, ports_into, edge_into}
use Rattle.graph_examples.specs.Greater.{which, otherwise, equal, choice, main, greater}

pub out-graph : (number fun : ℕ) (exported : Bool) (name : List ℕ) (nodes : List Node) (edges : List Edge) →
    views.out-Graph (views.roll-Graph (record { number = number; exported = exported; name = name; fun = fun; nodes = nodes; edges = edges })) ≡ record { number = number; exported = exported; name = name; fun = fun; nodes = nodes; edges = edges }
out-graph number fun exported name nodes edges = search (rules, views.the_lemmas)

pub out-node : (label op : ℕ) (subs : List Graph) (assoc before name : List ℕ) →
    out-Node (roll-Node (record { label = label; op = op; subs = subs; assoc = assoc; before = before; name = name })) ≡ record { label = label; op = op; subs = subs; assoc = assoc; before = before; name = name }
out-node label op subs assoc before name = search (rules, views.the_lemmas)

pub ruleset outs = (out-graph, out-node, label_of, number_of)

-- and the nodes and edges of a graph, by labels and ports
pub ruleset looks = (outs, node_at, edges_into, ports_into, edge_into)

pub which-ends : ends which ≡ 0 ∷ 1 ∷ 2 ∷ 1 ∷ 2 ∷ 2 ∷ 0 ∷ []
which-ends = simp outs

pub otherwise-ends : ends otherwise ≡ 0 ∷ 1 ∷ 1 ∷ 1 ∷ 0 ∷ []
otherwise-ends = simp outs

pub equal-ends : ends equal ≡ 0 ∷ 1 ∷ 1 ∷ 1 ∷ 0 ∷ []
equal-ends = simp outs

pub main-ends : ends main ≡ 0 ∷ 2 ∷ 2 ∷ 2 ∷ 0 ∷ []
main-ends = simp outs

abbrev pub place : Graph → Home → Place
place g h = record { graph = g; home = h }

abbrev pub all-places : List Place
all-places = place main (Function 0) ∷ place which (Inside main choice 0) ∷ place otherwise (Inside main choice 1) ∷ place equal (Inside main choice 2) ∷ []

pub places-are : places greater ≡ all-places
places-are = simp outs
