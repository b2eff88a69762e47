-- The graphs of a unit as lowered graphs, and where they stand (IF1 manual M-170, text form).
use Rattle.std.specs.Prelude.{◌≡◌, ℕ, nat_eq, All, map, Some, slice_get}
use Rattle.std.specs.List.{list_any}
use Rattle.if1_graph.specs.declared.graph.Graph.{Graph}
use Rattle.if1_graph.specs.declared.graph.Graph.TheViews.{out-Graph}
use Rattle.if1_graph.specs.declared.graph.Node.{Node, out-Node}
use Rattle.if1_graph.specs.declared.graph.Unit1.{Unit1}
use Rattle.if1_graph.specs.Units.{Home, Function, Inside, Place, places}
use Rattle.typed_tree.specs.declared.program.Function as typed
use Rattle.typed_tree.specs.declared.program.Program.{Program}
use Rattle.lowering.specs.declared.graph.LoweredGraph.{LoweredGraph}
use Rattle.lowering.specs.Programs.{graph_at, number_of}
use Rattle.lowering.specs.Types.{header_label}
use Rattle.lowered_units.specs.Listed.{NodeListing, node_listing}
use Rattle.lowered_units.specs.Units.{listed_nodes, edges_of, name_of, IsTranslated}

-- the nodes and edges of a graph are those of the lowered graph of its number
pub record IsGraphOf (p : Program) (g : Graph) (d : LoweredGraph) : Type 0 where
  pub there : graph_at p (out-Graph g).number ≡ Some d
  pub nodes : map (λ (i : NodeListing). i.node) (map node_listing (out-Graph g).nodes) ≡ listed_nodes 1 d.nodes
  pub edges : (out-Graph g).edges ≡ edges_of p 1 d.nodes d.results

abbrev pub IsLowered : Program → Graph → Type 0
IsLowered p g = (d : LoweredGraph) × IsGraphOf p g d

-- the graph is that of the function of a place
pub record IsFunctionOf (p : Program) (place : ℕ) (f : typed.Function) (g : Graph) : Type 0 where
  pub there : slice_get p.functions place ≡ Some f
  pub number : (out-Graph g).number ≡ number_of p place
  pub exported : (out-Graph g).exported ≡ list_any (nat_eq place) p.defines
  pub name : (out-Graph g).name ≡ name_of p f
  pub fun : (out-Graph g).fun ≡ header_label p f

-- the graphs inside of a node, by place
abbrev pub ArePartsLowered : Program → Node → Type 0
ArePartsLowered p n = (k : ℕ) (s : Graph) → slice_get (out-Node n).subs k ≡ Some s → IsLowered p s

-- a part of a node of a graph
pub record IsPartOf (p : Program) (outer : Graph) (n : Node) (k : ℕ) (g : Graph) : Type 0 where
  pub around : LoweredGraph
  pub is : IsGraphOf p outer around
  pub place : ℕ
  pub node : slice_get (out-Graph outer).nodes place ≡ Some n
  pub part : slice_get (out-Node n).subs k ≡ Some g
  pub parts : ArePartsLowered p n

abbrev pub StandsAt : Program → Home → Graph → Type 0
StandsAt p (Function k) g = (f : typed.Function) × IsFunctionOf p k f g
StandsAt p (Inside outer n k) g = IsPartOf p outer n k g

pub record IsShaped (p : Program) (x : Place) : Type 0 where
  pub graph : LoweredGraph
  pub is : IsGraphOf p x.graph graph
  pub home : StandsAt p x.home x.graph
  pub inside : (i : ℕ) (n : Node) → slice_get (out-Graph x.graph).nodes i ≡ Some n → ArePartsLowered p n

abbrev pub ArePlacesShaped : Type 0
ArePlacesShaped = (p : Program) (u : Unit1) → IsTranslated p u → All (IsShaped p) (places u)
