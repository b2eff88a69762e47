-- What lines of graphs have made, told of all graphs that differ in their numbers alone.
use Rattle.std.specs.Prelude.{◌≡◌, ℕ, ◌≤◌, ◌<◌, ◌==◌, ◌+◌, ◌*◌, ◌-◌, false, List, [], ◌∷◌, map, length, All, if◌then◌else◌}
use Rattle.std.specs.List.Sorted.{IsStrictlyIncreasing, IsNonDecreasingBy, IsPermutation}
use Rattle.if1_graph.specs.declared.line.Line.{Line}
use Rattle.if1_graph.specs.Spelling.{IsSpelled, IsLabel, IsName, IsQuotable}
use Rattle.if1_graph.specs.declared.graph.Graph.{Graph}
use Rattle.if1_graph.specs.declared.graph.Graph.TheViews.{out-Graph}
use Rattle.if1_graph.specs.declared.graph.Node.{Node, out-Node}
use Rattle.if1_graph.specs.declared.graph.Edge.{Edge}
use Rattle.if1_graph.specs.declared.graph.Origin.{Origin}
use Rattle.if1_graph.specs.declared.graph.Origin.TheVariants.{Port, Lit}
use Rattle.if1_graph.specs.declared.graph.Unit1.{Unit1}
use Rattle.if1_graph.specs.Units.{label_of}
use Rattle.if1_graph.specs.Formed.{most, IsWholeType, IsImport}
use Rattle.if1_graph.specs.Lines.{edge_line}
use Rattle.if1_graph.specs.Reads.{GivesBody, GivesParts, GivesUnit, AreNodes, into_port}
use Rattle.if1_read.specs.declared.judge.Known.{Known}
use Rattle.if1_read.specs.declared.part.Part.{Part}
use Rattle.if1_read.specs.Like.{AreNodesLike, AreLike}
use Rattle.if1_read.specs.Known.{IsClear, Fits, IsCanonical}
use Rattle.if1_read.specs.Fine.{IsNodeFine, IsFineWithin, AreFineWithin}

-- ---- lists that correspond

pub data Each {A B : Type 0} (R : A → B → Type 0) : List A → List B → Type 0 where
  none : Each R [] []
  more : (x : A) (y : B) (xs : List A) (ys : List B) → R x y → Each R xs ys → Each R (x ∷ xs) (y ∷ ys)

-- ---- the graph of lines that have ended

-- by node, the boundary last, and by port
abbrev pub place_of : ℕ → ℕ → ℕ
place_of node port = (if node == 0 then 4294967295 else node - 1) * 4294967296 + port

abbrev pub edge_place : Edge → ℕ
edge_place e = place_of e.node e.port

-- a node and a port of 32 bits
pub record IsBounded (e : Edge) : Type 0 where
  pub node : e.node < 4294967296
  pub port : e.port < 4294967296

-- nodes and edges without their lines
abbrev pub lined_nodes : List (ℕ × Node) → List Node
lined_nodes ns = map (λ n. n.1) ns

abbrev pub lined_edges : List (ℕ × Edge) → List Edge
lined_edges es = map (λ e. e.1) es

abbrev pub nodes_of : Part → List Node
nodes_of p = lined_nodes p.nodes.items

abbrev pub edges_of : Part → List Edge
edges_of p = lined_edges p.edges.items

-- the graph has the nodes by rising label, and the edges by port with literals in canonical spelling
pub record Ends (k : Known) (p : Part) (g : Graph) : Type 0 where
  pub exported_is : (out-Graph g).exported ≡ p.exported
  pub fun_is : (out-Graph g).fun ≡ p.fun
  pub name_is : (out-Graph g).name ≡ p.name
  pub rising : IsStrictlyIncreasing (map label_of (out-Graph g).nodes)
  pub these : IsPermutation (nodes_of p) (out-Graph g).nodes
  pub nodes : AreNodes (out-Graph g).nodes (nodes_of p)
  pub sorted : List Edge
  pub order : IsNonDecreasingBy edge_place sorted
  pub all : IsPermutation (edges_of p) sorted
  pub ports : All IsBounded (edges_of p) → (l port : ℕ) → l < 4294967296 → port < 4294967296 → into_port l port sorted ≡ into_port l port (edges_of p)
  pub literals : Each (IsCanonical k (out-Graph g).nodes) sorted (out-Graph g).edges

-- ---- lines that are read

-- an edge as its line has it, with a type that is clear
abbrev pub NoLiteralTakes : Edge → Origin → Type 0
NoLiteralTakes e (Port node port) = Unit {0}
NoLiteralTakes e (Lit text) = e.takes ≡ false

pub record IsEdgeMade (k : Known) (e : Edge) : Type 0 where
  pub spelled : IsSpelled (edge_line e)
  pub takes : NoLiteralTakes e e.from
  pub ty : IsClear k.table e.ty

-- what lines give where the nodes may have other numbers inside
pub record NodesMade (u : Unit1) (m : ℕ) (ls : List Line) (es : List Edge) (ns : List Node) : Type 0 where
  pub gives : GivesBody u ls ns es
  pub nodes : All IsNodeFine ns
  pub parts : All (λ n. AreFineWithin u m (out-Node n).subs) ns

-- the lines of a graph so far, in which graphs may be so many levels deep
pub record IsBodyMade (k : Known) (m : ℕ) (ls : List Line) (ns : List Node) (es : List Edge) : Type 0 where
  pub nodes : (u : Unit1) → Fits k u → (ms : List Node) → AreNodesLike ns ms → NodesMade u m ls es ms
  pub edges : All (IsEdgeMade k) es
  pub few : length ns ≤ most

pub record PartsMade (u : Unit1) (m : ℕ) (ls : List Line) (gs : List Graph) : Type 0 where
  pub gives : GivesParts u ls gs
  pub fine : AreFineWithin u m gs

-- the lines of graphs in a node
abbrev pub ArePartsMade : Known → ℕ → List Line → List Graph → Type 0
ArePartsMade k m ls gs = (u : Unit1) → Fits k u → (hs : List Graph) → AreLike gs hs → PartsMade u m ls hs

-- a part of a node is read without a type, and is not exported
pub record IsInner (p : Part) : Type 0 where
  pub fun : p.fun ≡ 0
  pub inner : p.exported ≡ false
  pub name : IsName p.name

-- a function is read with a type that is clear
pub record IsOuter (k : Known) (p : Part) : Type 0 where
  pub fun : IsLabel p.fun
  pub clear : IsClear k.table p.fun
  pub name : IsQuotable p.name

-- a function has a type and a name in quotes
pub record IsFunctionFine (u : Unit1) (m : ℕ) (g : Graph) : Type 0 where
  pub fun : IsWholeType u.types (out-Graph g).fun
  pub name : IsQuotable (out-Graph g).name
  pub within : IsFineWithin u m g

pub record FunctionsMade (u : Unit1) (m : ℕ) (ls : List Line) (is : List (ℕ × List ℕ)) (gs : List Graph) : Type 0 where
  pub gives : GivesUnit u ls is gs
  pub imports : All (IsImport u.types) is
  pub fine : All (IsFunctionFine u m) gs

-- the lines of functions
abbrev pub AreFunctionsMade : Known → ℕ → List Line → List (ℕ × List ℕ) → List Graph → Type 0
AreFunctionsMade k m ls is gs = (u : Unit1) → Fits k u → (hs : List Graph) → AreLike gs hs → FunctionsMade u m ls is hs
