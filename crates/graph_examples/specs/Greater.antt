-- An example: the unit of one function of two integers, `main`, that gives the greater one, and their sum where they are equal.
-- Its graph is one Select. The selector makes an integer of whether the two are equal; alternative 0 is the greater one,
-- alternative 1 the sum.
use Rattle.std.specs.Prelude.{ℕ, true, false, List, [], ◌∷◌, codes}
use Rattle.if1_graph.specs.declared.graph.Edge.{Edge}
use Rattle.if1_graph.specs.declared.graph.Graph.{Graph}
use Rattle.if1_graph.specs.declared.graph.Graph.TheViews.{roll-Graph}
use Rattle.if1_graph.specs.declared.graph.Node.{Node, roll-Node}
use Rattle.if1_graph.specs.declared.graph.Origin.TheVariants.{Port}
use Rattle.if1_graph.specs.declared.graph.TypeEntry.{TypeEntry}
use Rattle.if1_graph.specs.declared.graph.Unit1.{Unit1}

-- a line of the table of types: label, code and two numbers
abbrev pub entry : ℕ → ℕ → ℕ → ℕ → List ℕ → TypeEntry
entry label code first second name = record { label = label; code = code; first = first; second = second; name = name }

-- integer; boolean; the tuple of two integers, and that of one from its second member on; the tuple of one integer; the type of
-- a function of two integers that gives one
abbrev pub types : List TypeEntry
types =
    entry 1 1 3 0 (codes "integer") ∷
    entry 2 1 0 0 [] ∷
    entry 3 8 1 4 [] ∷
    entry 4 8 1 0 [] ∷
    entry 5 8 1 0 [] ∷
    entry 7 3 3 5 [] ∷
    []

-- an edge: from a port of a node to a port of a node, and its type
abbrev pub edge : ℕ → ℕ → ℕ → ℕ → ℕ → Edge
edge from out node port ty = record { from = Port from out; node = node; port = port; ty = ty; takes = false; name = [] }

-- a simple node: label and opcode
abbrev pub simple : ℕ → ℕ → Node
simple label op = roll-Node (record { label = label; op = op; subs = []; assoc = []; before = []; name = [] })

-- a part of a compound node
abbrev pub part : ℕ → List ℕ → List Node → List Edge → Graph
part number name nodes edges = roll-Graph (record { number = number; exported = false; name = name; fun = 0; nodes = nodes; edges = edges })

abbrev pub which : Graph
which =
    part 2 (codes "which") (simple 1 129 ∷ simple 2 124 ∷ [])
    (edge 2 1 1 1 2 ∷ edge 0 1 2 1 1 ∷ edge 0 2 2 2 1 ∷ edge 1 1 0 1 1 ∷ [])

abbrev pub otherwise : Graph
otherwise = part 3 (codes "otherwise") (simple 1 133 ∷ []) (edge 0 1 1 1 1 ∷ edge 0 2 1 2 1 ∷ edge 1 1 0 1 1 ∷ [])

abbrev pub equal : Graph
equal = part 4 (codes "equal") (simple 1 141 ∷ []) (edge 0 1 1 1 1 ∷ edge 0 2 1 2 1 ∷ edge 1 1 0 1 1 ∷ [])

abbrev pub choice : Node
choice = roll-Node (record { label = 2; op = 1; subs = which ∷ otherwise ∷ equal ∷ []; assoc = 0 ∷ 1 ∷ 2 ∷ []; before = []; name = [] })

abbrev pub main : Graph
main =
    roll-Graph (record {
      number = 1;
      exported = true;
      name = codes "main";
      fun = 7;
      nodes = choice ∷ [];
      edges = edge 0 1 2 1 1 ∷ edge 0 2 2 2 1 ∷ edge 2 1 0 1 1 ∷ [];
    })

abbrev pub greater : Unit1
greater = record { types = types; imports = []; graphs = main ∷ [] }

-- its canonical text, line by line
abbrev pub text : List (List ℕ)
text =
    codes "T 1 1 3 %na=integer" ∷
    codes "T 2 1 0" ∷
    codes "T 3 8 1 4" ∷
    codes "T 4 8 1 0" ∷
    codes "T 5 8 1 0" ∷
    codes "T 7 3 3 5" ∷
    codes "X 7 \"main\"" ∷
    codes "{ Compound 2 1" ∷
    codes "G 0 %na=which" ∷
    codes "N 1 129" ∷
    codes "E 2 1 1 1 2" ∷
    codes "N 2 124" ∷
    codes "E 0 1 2 1 1" ∷
    codes "E 0 2 2 2 1" ∷
    codes "E 1 1 0 1 1" ∷
    codes "G 0 %na=otherwise" ∷
    codes "N 1 133" ∷
    codes "E 0 1 1 1 1" ∷
    codes "E 0 2 1 2 1" ∷
    codes "E 1 1 0 1 1" ∷
    codes "G 0 %na=equal" ∷
    codes "N 1 141" ∷
    codes "E 0 1 1 1 1" ∷
    codes "E 0 2 1 2 1" ∷
    codes "E 1 1 0 1 1" ∷
    codes "} 2 1 3 0 1 2" ∷
    codes "E 0 1 2 1 1" ∷
    codes "E 0 2 2 2 1" ∷
    codes "E 2 1 0 1 1" ∷
    []
