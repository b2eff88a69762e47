-- The text of each part of a unit.
use Rattle.std.specs.Prelude.{ℕ, ◌-◌, ◌==◌, List, [], ◌∷◌, ◌++◌, filter, length, is_some, if◌then◌else◌}
use Rattle.std.specs.List.{flat_map}
use Rattle.if1_graph.specs.declared.line.Line.TheVariants as line
use Rattle.if1_graph.specs.Spelling.{opening, text_of}
use Rattle.if1_graph.specs.declared.graph.Graph.{Graph}
use Rattle.if1_graph.specs.declared.graph.Graph.TheViews.{out-Graph}
use Rattle.if1_graph.specs.declared.graph.Node.{Node, out-Node}
use Rattle.if1_graph.specs.declared.graph.Edge.{Edge}
use Rattle.if1_graph.specs.declared.graph.TypeEntry.{TypeEntry}
use Rattle.if1_graph.specs.Ops.{compound_at}
use Rattle.if1_graph.specs.Units.{label_of}
use Rattle.if1_graph.specs.Lines.{entry_line, import_line, edge_line, body}

-- edges stand by rising label of the node to which they lead, with the boundary, 0, last
abbrev pub rank : ℕ → ℕ
rank node = if node == 0 then 4294967295 else node - 1

abbrev pub rank_of : Edge → ℕ
rank_of e = rank e.node

unfoldable pub entry_text : TypeEntry → List ℕ
entry_text e = text_of (entry_line e ∷ [])

unfoldable pub import_text : ℕ × List ℕ → List ℕ
import_text i = text_of (import_line i ∷ [])

unfoldable pub edge_text : Edge → List ℕ
edge_text e = text_of (edge_line e ∷ [])

-- what leads into a node, or into the boundary for 0
abbrev pub edges_text : List Edge → ℕ → List ℕ
edges_text es node = flat_map edge_text (filter (λ e. e.node == node) es)

unfoldable pub simple_text : Node → List ℕ
simple_text n = text_of (line.Node (out-Node n).label (out-Node n).op (out-Node n).before (out-Node n).name ∷ [])

unfoldable pub open_text : Node → List ℕ
open_text n = text_of (opening (out-Node n).label (out-Node n).op ∷ [])

unfoldable pub close_text : Node → List ℕ
close_text n = text_of (line.Close (out-Node n).label (out-Node n).op (length (out-Node n).subs) (out-Node n).assoc (out-Node n).before (out-Node n).name ∷ [])

unfoldable pub subgraph_text : Graph → List ℕ
subgraph_text g = text_of (line.Subgraph (out-Graph g).name ∷ [])

unfoldable pub header_text : Graph → List ℕ
header_text g = text_of (line.Function (out-Graph g).exported (out-Graph g).fun (out-Graph g).name ∷ [])

-- the lines of a graph after its first
unfoldable pub body_text : Graph → List ℕ
body_text g = text_of (body g).1

abbrev pub part_text : Graph → List ℕ
part_text g = subgraph_text g ++ body_text g

abbrev pub function_text : Graph → List ℕ
function_text g = header_text g ++ body_text g

abbrev pub compound_text : Node → List ℕ
compound_text n = open_text n ++ flat_map part_text (out-Node n).subs ++ close_text n

abbrev pub node_text : Node → List ℕ
node_text n = if is_some (compound_at (out-Node n).op) then compound_text n else simple_text n

-- a node with what leads into it
abbrev pub filled_text : List Edge → Node → List ℕ
filled_text es n = node_text n ++ edges_text es (label_of n)
