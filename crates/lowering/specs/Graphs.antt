-- Graphs as they are made: nodes in the order of their labels, with what fills their ports, and the graphs inside of them (IF1
-- manual M-170, compound nodes).
use Rattle.std.specs.Prelude.{ℕ, zero, suc, ◌+◌, List, [], ◌∷◌, ◌++◌, map, length}
use Rattle.if1_graph.specs.declared.op.Compound.{Compound}
use Rattle.if1_graph.specs.declared.op.Compound.TheVariants as compound
use Rattle.lowering.specs.declared.feed.Feed.{Feed}
use Rattle.lowering.specs.declared.feed.Feed.TheVariants.{Port}
use Rattle.lowering.specs.declared.feed.Carried.{Carried}
use Rattle.lowering.specs.declared.feed.Carried.TheVariants.{One, Callee}
use Rattle.lowering.specs.declared.feed.Wire.{Wire}
use Rattle.lowering.specs.Feeds.{wire, outsides, carried, distinct, place}
use Rattle.lowering.specs.declared.graph.Action.{Action}
use Rattle.lowering.specs.declared.graph.Action.TheVariants.{Call, Whole}
use Rattle.lowering.specs.declared.graph.LoweredNode.{LoweredNode}
use Rattle.lowering.specs.declared.graph.LoweredGraph.{LoweredGraph}
use Rattle.lowering.specs.declared.graph.Lowered.{Lowered}

abbrev pub node : Action → List Wire → LoweredNode
node a ins = record { action = a; ins = ins }

-- behind so many nodes of the graph, where the next graph inside has this number
abbrev pub Lowering : Type 0
Lowering = (nodes number : ℕ) → Lowered

-- no node
abbrev pub only : List Wire → Lowering
only ws n q = record { nodes = []; graphs = []; lines = []; values = ws }

abbrev pub joined : Lowered → Lowered → Lowered
joined a b = record { nodes = a.nodes ++ b.nodes; graphs = a.graphs ++ b.graphs; lines = a.lines ++ b.lines; values = b.values }

abbrev pub behind : ℕ → ℕ → Lowered → (List Wire → Lowering) → Lowered
behind n q a f = joined a (f a.values (n + length a.nodes) (q + length a.graphs))

-- one after the other
abbrev pub andthen : Lowering → (List Wire → Lowering) → Lowering
andthen m f n q = behind n q (m n q) f

-- the output ports of a node from a port on
abbrev pub ports : ℕ → ℕ → List Carried → List Wire
ports node port [] = []
ports node port (t ∷ ts) = wire (Port 0 node port) t ∷ ports node (suc port) ts

-- the name of a called function stands before its arguments
abbrev pub callee : Action → List Carried
callee (Call f) = Callee f ∷ []
callee a = []

-- a node without graphs inside, which gives values at its ports from one on
abbrev pub a_node : Action → List Wire → ℕ → List Carried → Lowering
a_node a ins port ts n q = record {
  nodes = node a ins ∷ [];
  graphs = [];
  lines = callee a ++ carried ins;
  values = ports (suc n) port ts;
}

-- ---- a graph is closed

-- what a node and the graphs inside of it use of the graphs around, in the order of the text, in which the arms of a TagCase stand
-- before the line of its union
abbrev pub used_by : Action → List Wire → List Wire
used_by (Whole compound.TagCase gs arms given outs) [] = []
used_by (Whole compound.TagCase gs arms given outs) (u ∷ ks) = ks ++ u ∷ []
used_by a ws = ws

abbrev pub used : List LoweredNode → List Wire
used [] = []
used (v ∷ vs) = used_by v.action v.ins ++ used vs

abbrev pub uses : Lowered → List Wire
uses m = used m.nodes ++ m.values

-- What fills a port, where these are the ports of the graph around that the compound node has as inputs, and so many inputs stand
-- before them; a port of the graph's own inputs stands so many further on.
abbrev pub resolved : List Wire → ℕ → ℕ → Feed → Feed
resolved ks first own (Port zero zero p) = Port 0 0 (own + p)
resolved ks first own (Port zero (suc n) p) = Port 0 (suc n) p
resolved ks first own (Port (suc up) n p) = Port 0 0 (suc (first + place ks (Port up n p)))
resolved ks first own f = f

abbrev pub closed_wire : List Wire → ℕ → ℕ → Wire → Wire
closed_wire ks first own w = wire (resolved ks first own w.feed) w.ty

abbrev pub closed_wires : List Wire → ℕ → ℕ → List Wire → List Wire
closed_wires ks first own ws = map (closed_wire ks first own) ws

abbrev pub closed_nodes : List Wire → ℕ → ℕ → List LoweredNode → List LoweredNode
closed_nodes ks first own vs = map (λ v. node v.action (closed_wires ks first own v.ins)) vs

abbrev pub closed : List Wire → ℕ → ℕ → Lowered → LoweredGraph
closed ks first own m = record { nodes = closed_nodes ks first own m.nodes; results = closed_wires ks first own m.values }

-- ---- compound nodes

abbrev pub all_uses : List Lowered → List Wire
all_uses [] = []
all_uses (m ∷ ms) = uses m ++ all_uses ms

-- the inputs of a compound node, by the graphs inside
abbrev pub inputs : List Lowered → List Wire
inputs ms = distinct [] (outsides (all_uses ms))

-- how many graphs a graph is, with those inside
abbrev pub size : Lowered → ℕ
size m = suc (length m.graphs)

abbrev pub numbers : ℕ → List Lowered → List ℕ
numbers q [] = []
numbers q (m ∷ ms) = q ∷ numbers (q + size m) ms

abbrev pub closed_graphs : List Wire → ℕ → ℕ → List Lowered → List LoweredGraph
closed_graphs ks first own [] = []
closed_graphs ks first own (m ∷ ms) = closed ks first own m ∷ m.graphs ++ closed_graphs ks first own ms

-- what the lines of graphs carry: those of their nodes, and those of their results
abbrev pub graph_lines : List Lowered → List Carried
graph_lines [] = []
graph_lines (m ∷ ms) = m.lines ++ carried m.values ++ graph_lines ms

abbrev pub whole_with : List Wire → Compound → List Lowered → List ℕ → ℕ → List ℕ → Lowering
whole_with ks c ms arms given ts n q = record {
  nodes = node (Whole c (numbers q ms) arms given (length ts)) ks ∷ [];
  graphs = closed_graphs ks 0 (length ks) ms;
  lines = graph_lines ms ++ carried ks;
  values = ports (suc n) 1 (map One ts);
}

-- a compound node other than a TagCase on these graphs, with its association list and how many results its body has
abbrev pub whole : Compound → List Lowered → List ℕ → ℕ → List ℕ → Lowering
whole c ms arms given ts = whole_with (inputs ms) c ms arms given ts

-- a TagCase: its union stands before the other inputs, and the content is the first input of each arm
abbrev pub tag_case_with : List Wire → Wire → List Lowered → List ℕ → List ℕ → Lowering
tag_case_with ks u ms arms ts n q = record {
  nodes = node (Whole compound.TagCase (numbers q ms) arms 0 (length ts)) (u ∷ ks) ∷ [];
  graphs = closed_graphs ks 1 0 ms;
  lines = graph_lines ms ++ carried (u ∷ ks);
  values = ports (suc n) 1 (map One ts);
}

abbrev pub tag_case_on : Wire → List Lowered → List ℕ → List ℕ → Lowering
tag_case_on u ms arms ts = tag_case_with (inputs ms) u ms arms ts

-- a graph of this number: its nodes begin anew, and the graphs inside come behind it
abbrev pub new_graph : Lowering → ℕ → Lowered
new_graph f q = f 0 (suc q)

-- graphs one after another, from a number on
abbrev pub new_graphs : ℕ → List Lowering → List Lowered
new_graphs q [] = []
new_graphs q (f ∷ fs) = let m = new_graph f q in m ∷ new_graphs (q + size m) fs
