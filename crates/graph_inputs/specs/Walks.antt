-- The places of the graphs inside graphs, one after another.
use Rattle.std.specs.Prelude.{ℕ, List}
use Rattle.if1_graph.specs.declared.graph.Graph.{Graph}
use Rattle.if1_graph.specs.declared.graph.Node.{Node, out-Node}
use Rattle.if1_graph.specs.Units.{Function, Inside, Place, each_from, most_levels, places_of}

-- of graphs of a node, from the place of the first one on
abbrev pub part_places : (more : ℕ) → (outer : Graph) → Node → (first : ℕ) → List Graph → List Place
part_places more outer n k gs = each_from (λ k s. places_of more (Inside outer n k) s) k gs

abbrev pub node_places : (more : ℕ) → (outer : Graph) → Node → List Place
node_places more outer n = part_places more outer n 0 (out-Node n).subs

-- of functions
abbrev pub function_places : (first : ℕ) → List Graph → List Place
function_places k gs = each_from (λ k g. places_of most_levels (Function k) g) k gs
