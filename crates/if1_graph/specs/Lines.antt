-- The canonical text of a unit whose parts stand in normal order (IF1 manual M-170, text form): types, functions of other
-- units, and then each graph with its nodes, each node followed by what leads into it, and the boundary last.
use Rattle.std.specs.Prelude.{ℕ, List, [], ◌∷◌, ◌++◌, map, filter, length, ◌==◌, is_some, if◌then◌else◌}
use Rattle.std.specs.List.{flat_map}
use Rattle.if1_graph.specs.declared.line.Line.{Line}
use Rattle.if1_graph.specs.declared.line.Line.TheVariants as line
use Rattle.if1_graph.specs.Spelling.{compound_words, text_of}
use Rattle.if1_graph.specs.declared.graph.Graph.{Graph}
use Rattle.if1_graph.specs.declared.graph.Graph.TheViews.{out-Graph}
use Rattle.if1_graph.specs.declared.graph.Graph.TheOpen.{Graph-F, Node-F}
use Rattle.if1_graph.specs.declared.graph.Graph.TheFolds.{fold-Graph}
use Rattle.if1_graph.specs.declared.graph.Edge.{Edge}
use Rattle.if1_graph.specs.declared.graph.Origin.{Origin}
use Rattle.if1_graph.specs.declared.graph.Origin.TheVariants.{Port, Lit}
use Rattle.if1_graph.specs.declared.graph.TypeEntry.{TypeEntry}
use Rattle.if1_graph.specs.declared.graph.Unit1.{Unit1}
use Rattle.if1_graph.specs.Ops.{compound_at}

abbrev pub entry_line : TypeEntry → Line
entry_line e = line.Entry e.label e.code e.first e.second e.name

abbrev pub import_line : ℕ × List ℕ → Line
import_line i = line.Import i.0 i.1

abbrev pub origin_line : Edge → Origin → Line
origin_line e (Port node port) = line.Edge node port e.node e.port e.ty e.takes e.name
origin_line e (Lit text) = line.Literal e.node e.port e.ty text e.name

abbrev pub edge_line : Edge → Line
edge_line e = origin_line e e.from

-- the lines into a node, or into the boundary for 0
abbrev pub lines_into : List Edge → ℕ → List Line
lines_into es l = map edge_line (filter (λ e. e.node == l) es)

-- the name of a graph, and its lines after the first
abbrev pub Body : Type 0
Body = List ℕ × List Line

-- the label of a node, and its lines before those that lead into it
abbrev pub Head : Type 0
Head = ℕ × List Line

abbrev pub graph_step : Graph-F Body Head → Body
graph_step g = (g.name, flat_map (λ head. head.1 ++ lines_into g.edges head.0) g.nodes ++ lines_into g.edges 0)

abbrev pub part_lines : Body → List Line
part_lines body = line.Subgraph body.0 ∷ body.1

abbrev pub compound_lines : Node-F Body Head → List Line
compound_lines n =
    line.Open (compound_words n.label n.op) ∷ flat_map part_lines n.subs
    ++ line.Close n.label n.op (length n.subs) n.assoc n.before n.name ∷ []

abbrev pub node_step : Node-F Body Head → Head
node_step n = (n.label, if is_some (compound_at n.op) then compound_lines n else line.Node n.label n.op n.before n.name ∷ [])

abbrev pub body : Graph → Body
body = fold-Graph Body Head graph_step node_step

abbrev pub function_lines : Graph → List Line
function_lines g = line.Function (out-Graph g).exported (out-Graph g).fun (out-Graph g).name ∷ (body g).1

abbrev pub lines_of : Unit1 → List Line
lines_of u = map entry_line u.types ++ map import_line u.imports ++ flat_map function_lines u.graphs

abbrev pub if1_text : Unit1 → List ℕ
if1_text u = text_of (lines_of u)
