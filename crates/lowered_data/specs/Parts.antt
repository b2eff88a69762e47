-- Graphs inside of a compound node, before the node closes them: the ports of the graphs around stand in them as in the making.
use Rattle.std.specs.Prelude.{ℕ, List, [], ◌∷◌, ◌++◌, get_or, slice_set}
use Rattle.lowering.specs.declared.feed.Wire.{Wire}
use Rattle.lowering.specs.Feeds.{outsides, distinct}
use Rattle.lowering.specs.declared.graph.LoweredNode.{LoweredNode}
use Rattle.lowering.specs.declared.graph.LoweredGraph.{LoweredGraph}
use Rattle.lowering.specs.Graphs.{node, used, closed_wires, closed_nodes}

abbrev pub blank : LoweredGraph
blank = record { nodes = []; results = [] }

-- the union of a TagCase behind its other inputs
abbrev pub union_last : List Wire → List Wire
union_last [] = []
union_last (u ∷ ks) = ks ++ u ∷ []

-- what a graph uses
abbrev pub graph_uses : LoweredGraph → List Wire
graph_uses g = used g.nodes ++ g.results

abbrev pub graph_closed : List Wire → ℕ → ℕ → LoweredGraph → LoweredGraph
graph_closed ks first own g = record { nodes = closed_nodes ks first own g.nodes; results = closed_wires ks first own g.results }

abbrev pub node_closed : List Wire → ℕ → ℕ → LoweredNode → LoweredNode
node_closed ks first own v = node v.action (closed_wires ks first own v.ins)

-- the graphs at these places
abbrev pub uses_at : List ℕ → List LoweredGraph → List Wire
uses_at [] gs = []
uses_at (p ∷ ps) gs = graph_uses (get_or gs p blank) ++ uses_at ps gs

abbrev pub inputs_at : List ℕ → List LoweredGraph → List Wire
inputs_at ps gs = distinct [] (outsides (uses_at ps gs))

-- closed one after another
abbrev pub closed_at : List Wire → ℕ → ℕ → List ℕ → List LoweredGraph → List LoweredGraph
closed_at ks first own [] gs = gs
closed_at ks first own (p ∷ ps) gs = closed_at ks first own ps (slice_set gs p (graph_closed ks first own (get_or gs p blank)))
