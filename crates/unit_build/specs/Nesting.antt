-- How graphs that stand one behind another are put inside of nodes: each node has the first of those that are left (IF1 manual M-170,
-- compound nodes).
use Rattle.std.specs.Prelude.{◌≡◌, ℕ, suc, List, ◌∷◌, ◌++◌, map, take, length}
use Rattle.std.specs.List.{flat_map}
use Rattle.if1_graph.specs.declared.graph.Graph.{Graph}
use Rattle.if1_graph.specs.declared.graph.Graph.TheViews.{out-Graph}
use Rattle.if1_graph.specs.declared.graph.Node.{Node, out-Node}
use Rattle.typed_tree.specs.declared.program.Program.{Program}
use Rattle.lowering.specs.declared.graph.LoweredGraph.{LoweredGraph}
use Rattle.lowering.specs.declared.graph.Lowered.{Lowered}
use Rattle.lowered_units.specs.Listed.{ListedNode, ListedGraph, Listing, NodeListing, first_number, all_of, listing, node_listing}
use Rattle.lowered_units.specs.Units.{listed_nodes, inner_graph, inner_graphs}

-- graphs, each with those inside of it
abbrev pub listings : List Graph → Listing
listings gs = all_of (map listing gs)

-- nodes, with the numbers of the graphs inside
abbrev pub listed : List Node → List ListedNode
listed ns = map (λ (i : NodeListing). i.node) (map node_listing ns)

-- a graph without those inside
abbrev pub head : Graph → ListedGraph
head g = record {
  number = (out-Graph g).number;
  exported = (out-Graph g).exported;
  name = (out-Graph g).name;
  fun = (out-Graph g).fun;
  nodes = listed (out-Graph g).nodes;
  edges = (out-Graph g).edges;
}

-- the graphs directly inside of nodes
abbrev pub parts : List Node → List Graph
parts ns = flat_map (λ (n : Node). (out-Node n).subs) ns

-- the first of these graphs have these numbers
abbrev pub BeginWith : List ℕ → List Graph → Type 0
BeginWith numbers gs = map first_number (map listing (take (length numbers) gs)) ≡ numbers

-- some graphs are listed so
pub record IsNesting (xs : Listing) : Type 0 where
  pub graphs : List Graph
  pub same : listings graphs ≡ xs

-- some graphs are listed as this one, of this number, and these behind it
pub record IsNext (p : Program) (number : ℕ) (d : LoweredGraph) (gs : List Graph) : Type 0 where
  pub nesting : IsNesting (inner_graph p number d ∷ listings gs)

-- some nodes are listed so, and the first of these graphs are inside of them
pub record Hold (xs : List ListedNode) (gs : List Graph) : Type 0 where
  pub nodes : List Node
  pub rest : List Graph
  pub same : listed nodes ≡ xs
  pub inside : parts nodes ++ rest ≡ gs

-- some nodes are listed as those of the function with the graph of this number, and inside of them are its graphs
pub record IsNested (p : Program) (number : ℕ) (m : Lowered) : Type 0 where
  pub nodes : List Node
  pub same : listed nodes ≡ listed_nodes 1 m.nodes
  pub inside : listings (parts nodes) ≡ inner_graphs p (suc number) m.graphs
