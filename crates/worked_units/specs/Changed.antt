-- A unit with marks: `main` fills an array of three places with 5, changes its first element to 9, and gives the first element
-- before the change, and the changed array. The change takes the array, after the node that reads it, and the results take the
-- changed one.
use Rattle.std.specs.Prelude.{ℕ, Bool, true, false, List, [], ◌∷◌, codes}
use Rattle.if1_graph.specs.declared.graph.Edge.{Edge}
use Rattle.if1_graph.specs.declared.graph.Graph.{Graph}
use Rattle.if1_graph.specs.declared.graph.Graph.TheViews.{roll-Graph}
use Rattle.if1_graph.specs.declared.graph.Node.{Node, roll-Node}
use Rattle.if1_graph.specs.declared.graph.Origin.TheVariants.{Port}
use Rattle.if1_graph.specs.declared.graph.TypeEntry.{TypeEntry}
use Rattle.if1_graph.specs.declared.graph.Unit1.{Unit1}
use Rattle.graph_examples.specs.Greater.{entry}
use Rattle.worked_units.specs.Chosen.{literal}

-- boolean, character, integer and null; an array of integers; the tuple of it, and that of an integer and it; the type of a
-- function without arguments that gives both
abbrev pub types : List TypeEntry
types =
    entry 1 1 0 0 (codes "boolean") ∷
    entry 2 1 1 0 (codes "character") ∷
    entry 3 1 3 0 (codes "integer") ∷
    entry 4 1 4 0 (codes "null") ∷
    entry 5 0 3 0 [] ∷
    entry 6 8 5 0 [] ∷
    entry 7 8 3 6 [] ∷
    entry 8 3 0 7 [] ∷
    []

-- from a port of a node to a port of a node, taking or not
abbrev pub edge : Bool → ℕ → ℕ → ℕ → ℕ → ℕ → Edge
edge takes from out node port ty = record { from = Port from out; node = node; port = port; ty = ty; takes = takes; name = [] }

-- a simple node: label, opcode and ordering list
abbrev pub node : ℕ → ℕ → List ℕ → Node
node label op before = roll-Node (record { label = label; op = op; subs = []; assoc = []; before = before; name = [] })

abbrev pub nodes : List Node
nodes = node 1 106 [] ∷ node 2 113 (3 ∷ []) ∷ node 3 105 [] ∷ []

abbrev pub edges : List Edge
edges =
    literal (codes "1") 1 1 3 ∷
    literal (codes "3") 1 2 3 ∷
    literal (codes "5") 1 3 3 ∷
    edge true 1 1 2 1 5 ∷
    literal (codes "1") 2 2 3 ∷
    literal (codes "9") 2 3 3 ∷
    edge false 1 1 3 1 5 ∷
    literal (codes "1") 3 2 3 ∷
    edge false 3 1 0 1 3 ∷
    edge true 2 1 0 2 5 ∷
    []

abbrev pub main : Graph
main = roll-Graph (record { number = 1; exported = true; name = codes "main"; fun = 8; nodes = nodes; edges = edges })

abbrev pub changed : Unit1
changed = record { types = types; imports = []; graphs = main ∷ [] }

-- its canonical text, line by line
abbrev pub text : List (List ℕ)
text =
    codes "T 1 1 0 %na=boolean" ∷
    codes "T 2 1 1 %na=character" ∷
    codes "T 3 1 3 %na=integer" ∷
    codes "T 4 1 4 %na=null" ∷
    codes "T 5 0 3" ∷
    codes "T 6 8 5 0" ∷
    codes "T 7 8 3 6" ∷
    codes "T 8 3 0 7" ∷
    codes "X 8 \"main\"" ∷
    codes "N 1 106" ∷
    codes "L 1 1 3 \"1\"" ∷
    codes "L 1 2 3 \"3\"" ∷
    codes "L 1 3 3 \"5\"" ∷
    codes "N 2 113 %bf=3" ∷
    codes "E 1 1 2 1 5 %tk=1" ∷
    codes "L 2 2 3 \"1\"" ∷
    codes "L 2 3 3 \"9\"" ∷
    codes "N 3 105" ∷
    codes "E 1 1 3 1 5" ∷
    codes "L 3 2 3 \"1\"" ∷
    codes "E 3 1 0 1 3" ∷
    codes "E 2 1 0 2 5 %tk=1" ∷
    []
