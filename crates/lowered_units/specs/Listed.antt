-- Graphs as the text of a unit lists them: a graph, and behind it the graphs inside of its nodes, with the numbers of these in their
-- place (IF1 manual M-170, text form).
use Rattle.std.specs.Prelude.{ℕ, Bool, List, [], ◌∷◌, map}
use Rattle.std.specs.List.{flat_map}
use Rattle.if1_graph.specs.declared.graph.Graph.{Graph}
use Rattle.if1_graph.specs.declared.graph.Graph.TheOpen.{Graph-F, Node-F}
use Rattle.if1_graph.specs.declared.graph.Graph.TheFolds.{fold-Graph, fold-Node}
use Rattle.if1_graph.specs.declared.graph.Node.{Node}
use Rattle.if1_graph.specs.declared.graph.Edge.{Edge}

-- a node with the numbers of the graphs inside
pub record ListedNode : Type 0 where
  pub label : ℕ
  pub op : ℕ
  pub parts : List ℕ
  pub assoc : List ℕ
  pub before : List ℕ
  pub name : List ℕ

pub record ListedGraph : Type 0 where
  pub number : ℕ
  pub exported : Bool
  pub name : List ℕ
  pub fun : ℕ
  pub nodes : List ListedNode
  pub edges : List Edge

abbrev pub Listing : Type 0
Listing = List ListedGraph

-- a node, and the graphs inside of it
pub record NodeListing : Type 0 where
  pub node : ListedNode
  pub inside : Listing

-- the number of the graph that a listing begins with
abbrev pub first_number : Listing → ℕ
first_number [] = 0
first_number (g ∷ gs) = g.number

abbrev pub all_of : List Listing → Listing
all_of ls = flat_map (λ l. l) ls

abbrev pub list_graph : Graph-F Listing NodeListing → Listing
list_graph g =
    record { number = g.number; exported = g.exported; name = g.name; fun = g.fun; nodes = map (λ n. n.node) g.nodes; edges = g.edges }
    ∷ flat_map (λ n. n.inside) g.nodes

abbrev pub list_node : Node-F Listing NodeListing → NodeListing
list_node n = record {
  node = record { label = n.label; op = n.op; parts = map first_number n.subs; assoc = n.assoc; before = n.before; name = n.name };
  inside = all_of n.subs;
}

-- a graph with those inside
abbrev pub listing : Graph → Listing
listing = fold-Graph Listing NodeListing list_graph list_node

abbrev pub node_listing : Node → NodeListing
node_listing = fold-Node Listing NodeListing list_graph list_node
