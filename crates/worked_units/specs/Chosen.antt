-- A unit whose `main` gives 4 or 5 by its input, 0 or 1: a Select whose alternatives are literals.
use Rattle.std.specs.Prelude.{ℕ, true, false, List, [], ◌∷◌, codes}
use Rattle.if1_graph.specs.declared.graph.Edge.{Edge}
use Rattle.if1_graph.specs.declared.graph.Graph.{Graph}
use Rattle.if1_graph.specs.declared.graph.Graph.TheViews.{roll-Graph}
use Rattle.if1_graph.specs.declared.graph.Node.{Node, roll-Node}
use Rattle.if1_graph.specs.declared.graph.Origin.TheVariants.{Lit}
use Rattle.if1_graph.specs.declared.graph.TypeEntry.{TypeEntry}
use Rattle.if1_graph.specs.declared.graph.Unit1.{Unit1}
use Rattle.graph_examples.specs.Greater.{entry, edge, part}

-- integer; the tuple of one; the type of a function of an integer that gives one
abbrev pub types : List TypeEntry
types = entry 1 1 3 0 [] ∷ entry 2 8 1 0 [] ∷ entry 3 3 2 2 [] ∷ []

-- a literal at a port of a node, and its type
abbrev pub literal : List ℕ → ℕ → ℕ → ℕ → Edge
literal text node port ty = record { from = Lit text; node = node; port = port; ty = ty; takes = false; name = [] }

abbrev pub which : Graph
which = part 2 [] [] (edge 0 1 0 1 1 ∷ [])

abbrev pub four : Graph
four = part 3 [] [] (literal (codes "4") 0 1 1 ∷ [])

abbrev pub five : Graph
five = part 4 [] [] (literal (codes "5") 0 1 1 ∷ [])

abbrev pub choice : Node
choice = roll-Node (record { label = 1; op = 1; subs = which ∷ four ∷ five ∷ []; assoc = 0 ∷ 1 ∷ 2 ∷ []; before = []; name = [] })

abbrev pub main : Graph
main =
    roll-Graph (record {
      number = 1;
      exported = true;
      name = codes "main";
      fun = 3;
      nodes = choice ∷ [];
      edges = edge 0 1 1 1 1 ∷ edge 1 1 0 1 1 ∷ [];
    })

abbrev pub chosen : Unit1
chosen = record { types = types; imports = []; graphs = main ∷ [] }

-- its canonical text, line by line
abbrev pub text : List (List ℕ)
text =
    codes "T 1 1 3" ∷
    codes "T 2 8 1 0" ∷
    codes "T 3 3 2 2" ∷
    codes "X 3 \"main\"" ∷
    codes "{ Compound 1 1" ∷
    codes "G 0" ∷
    codes "E 0 1 0 1 1" ∷
    codes "G 0" ∷
    codes "L 0 1 1 \"4\"" ∷
    codes "G 0" ∷
    codes "L 0 1 1 \"5\"" ∷
    codes "} 1 1 3 0 1 2" ∷
    codes "E 0 1 1 1 1" ∷
    codes "E 1 1 0 1 1" ∷
    []
