-- The storage rules on small graphs.
use Rattle.std.proofs.Common.{◌≡◌, ℕ, Bool, true, false, List, [], ◌∷◌, map, refl, rules}
use Rattle.std.specs.Prelude.{codes}
use Rattle.if1_graph.specs.declared.graph.Edge.{Edge}
use Rattle.if1_graph.specs.declared.graph.Graph.{Graph}
use Rattle.if1_graph.specs.declared.graph.Graph.TheViews as views
use Rattle.if1_graph.specs.declared.graph.Node.{Node, roll-Node, out-Node}
use Rattle.if1_graph.specs.declared.graph.Origin.TheVariants.{Port, Lit}
use Rattle.if1_graph.specs.declared.graph.TypeEntry.{TypeEntry}
use Rattle.if1_graph.specs.declared.graph.Unit1.{Unit1}
use Rattle.if1_graph.specs.declared.op.Grouping.TheVariants.{Free}
use Rattle.if1_graph.specs.declared.op.Simple.{Simple}
use Rattle.if1_graph.specs.declared.op.Simple.TheVariants.{NoOp, Error, Call, ABuild, AFill, AElement, AReplace, AAddH, AAddL, ARemH, ARemL, ASetL, AAdjust, ALimL, ALimH, ASize, AIsEmpty, ACatenate, FirstValue, RestValues, RBuild, RElements, RReplace, RangeGenerate, AScatter, AGather, FinalValue, Reduce}
use Rattle.if1_graph.specs.Rows.{operand_of}
use Rattle.if1_graph.specs.Units.{label_of, Function, Inside}
use Rattle.if1_marks.specs.Aggregates.{is_aggregate}
use Rattle.if1_marks.specs.Given.{is_operand_consumed, is_consumed_by, is_given_inside, consumes}
use Rattle.if1_marks.specs.Owned.{is_owned, users}
use Rattle.if1_marks.proofs.Consumed.{given-at, consumed-at, used-at, label-at}

-- ---- small graphs

abbrev entry : ℕ → ℕ → ℕ → ℕ → TypeEntry
entry label code first second = record { label = label; code = code; first = first; second = second; name = [] }

-- integer; an array of it; boolean; multiples of arrays, of integers and of booleans
abbrev types : List TypeEntry
types = entry 1 1 3 0 ∷ entry 2 0 1 0 ∷ entry 3 1 0 0 ∷ entry 4 4 2 0 ∷ entry 5 4 1 0 ∷ entry 6 4 3 0 ∷ []

abbrev edge : ℕ → ℕ → ℕ → ℕ → ℕ → Edge
edge from out node port ty = record { from = Port from out; node = node; port = port; ty = ty; takes = false; name = [] }

abbrev literal : List ℕ → ℕ → ℕ → ℕ → Edge
literal text node port ty = record { from = Lit text; node = node; port = port; ty = ty; takes = false; name = [] }

abbrev node : ℕ → ℕ → Node
node label op = roll-Node (record { label = label; op = op; subs = []; assoc = []; before = []; name = [] })

abbrev compound : ℕ → ℕ → List Graph → Node
compound label op subs = roll-Node (record { label = label; op = op; subs = subs; assoc = []; before = []; name = [] })

abbrev graph : List ℕ → List Node → List Edge → Graph
graph name nodes edges = views.roll-Graph (record { number = 1; exported = false; name = name; fun = 0; nodes = nodes; edges = edges })

abbrev unit : List Graph → Unit1
unit gs = record { types = types; imports = []; graphs = gs }

out-graph : (name : List ℕ) (nodes : List Node) (edges : List Edge) → views.out-Graph (graph name nodes edges) ≡ record { number = 1; exported = false; name = name; fun = 0; nodes = nodes; edges = edges }
out-graph name nodes edges = search (rules, views.the_lemmas)

out-node : (label op : ℕ) (subs : List Graph) → out-Node (compound label op subs) ≡ record { label = label; op = op; subs = subs; assoc = []; before = []; name = [] }
out-node label op subs = search (rules, views.the_lemmas)

ruleset opened = (given-at, consumed-at, used-at, label-at, out-graph, out-node, label_of)

-- ---- aggregates

which-are : map (is_aggregate types) (1 ∷ 2 ∷ 3 ∷ 4 ∷ 5 ∷ 6 ∷ 7 ∷ []) ≡ false ∷ true ∷ false ∷ true ∷ false ∷ false ∷ false ∷ []
which-are = refl

-- ---- the operands that simple nodes consume

-- of the first four ports
abbrev consumed : Simple → List Bool
consumed op = map (λ port. is_operand_consumed (operand_of op port)) (1 ∷ 2 ∷ 3 ∷ 4 ∷ [])

changed-and-stored : map consumed (AReplace ∷ AAddH ∷ AAddL ∷ []) ≡
    (true ∷ false ∷ true ∷ false ∷ []) ∷ (true ∷ true ∷ false ∷ false ∷ []) ∷ (true ∷ true ∷ false ∷ false ∷ []) ∷ []
changed-and-stored = refl

changed-alone : map consumed (ARemH ∷ ARemL ∷ ASetL ∷ AAdjust ∷ RestValues ∷ NoOp ∷ []) ≡ map (λ op. true ∷ false ∷ false ∷ false ∷ []) (ARemH ∷ ARemL ∷ ASetL ∷ AAdjust ∷ RestValues ∷ NoOp ∷ [])
changed-alone = refl

all-operands : map consumed (RReplace ∷ RBuild ∷ ACatenate ∷ []) ≡ map (λ op. true ∷ true ∷ true ∷ true ∷ []) (RReplace ∷ RBuild ∷ ACatenate ∷ [])
all-operands = refl

elements-of-a-new-array : consumed ABuild ≡ false ∷ true ∷ true ∷ true ∷ []
elements-of-a-new-array = refl

multiples : map consumed (AGather ∷ FinalValue ∷ Reduce Free ∷ []) ≡
    (false ∷ true ∷ false ∷ false ∷ []) ∷ (true ∷ false ∷ false ∷ false ∷ []) ∷ (false ∷ true ∷ false ∷ false ∷ []) ∷ []
multiples = refl

abbrev readers : List Simple
readers = Error ∷ Call ∷ AFill ∷ AElement ∷ ALimL ∷ ALimH ∷ ASize ∷ AIsEmpty ∷ FirstValue ∷ RElements ∷ RangeGenerate ∷ AScatter ∷ []

only-read : map consumed readers ≡ map (λ op. false ∷ false ∷ false ∷ false ∷ []) readers
only-read = refl

-- ---- given inputs

-- adds its second input, an integer, to its first one, an array; tells the size of the array; leaves both alone
abbrev adds : Graph
adds = graph (codes "adds") (node 1 100 ∷ []) (edge 0 1 1 1 2 ∷ edge 0 2 1 2 1 ∷ edge 1 1 0 1 2 ∷ [])

abbrev measures : Graph
measures = graph (codes "measures") (node 1 116 ∷ []) (edge 0 1 1 1 2 ∷ edge 1 1 0 1 1 ∷ [])

abbrev rests : Graph
rests = graph (codes "rests") [] (literal (codes "1") 0 1 1 ∷ [])

abbrev alone : Unit1
alone = unit []

what-is-changed : is_given_inside alone adds 1 ≡ true
what-is-changed = simp opened

no-integer : is_given_inside alone adds 2 ≡ false
no-integer = simp opened

what-is-read : is_given_inside alone measures 1 ≡ false
what-is-read = simp opened

-- what is a result is given
hands-on : is_given_inside alone (graph [] [] (edge 0 1 0 1 2 ∷ [])) 1 ≡ true
hands-on = simp opened

-- a Select: one alternative changes the array
in-an-alternative : is_consumed_by alone (compound 1 1 (rests ∷ measures ∷ adds ∷ [])) 1 ≡ true
in-an-alternative = simp opened

-- its selector does not count
in-the-selector : is_consumed_by alone (compound 1 1 (adds ∷ measures ∷ measures ∷ [])) 1 ≡ false
in-the-selector = simp opened

in-an-arm : is_consumed_by alone (compound 1 2 (measures ∷ adds ∷ [])) 1 ≡ true
in-an-arm = simp opened

in-no-arm : is_consumed_by alone (compound 1 2 (measures ∷ rests ∷ [])) 1 ≡ false
in-no-arm = simp opened

-- a loop whose initialization changes the array, and nothing else uses it
in-the-initialization : is_consumed_by alone (compound 1 4 (adds ∷ rests ∷ rests ∷ rests ∷ [])) 1 ≡ true
in-the-initialization = simp opened

-- the body reads it in each turn
read-by-the-body : is_consumed_by alone (compound 1 3 (adds ∷ rests ∷ measures ∷ rests ∷ [])) 1 ≡ false
read-by-the-body = simp opened

read-by-the-test : is_consumed_by alone (compound 1 4 (adds ∷ measures ∷ rests ∷ rests ∷ [])) 1 ≡ false
read-by-the-test = simp opened

read-by-the-returns : is_consumed_by alone (compound 1 4 (adds ∷ rests ∷ rests ∷ measures ∷ [])) 1 ≡ false
read-by-the-returns = simp opened

-- a ForAll may change it in each iteration
in-no-iteration : is_consumed_by alone (compound 1 0 (rests ∷ adds ∷ rests ∷ [])) 1 ≡ false
in-no-iteration = simp opened

-- a Select in the initialization of a loop
abbrev chooses : Graph
chooses = graph [] (compound 1 1 (rests ∷ adds ∷ measures ∷ []) ∷ []) (edge 0 1 1 1 2 ∷ edge 1 1 0 1 2 ∷ [])

two-levels : is_consumed_by alone (compound 1 4 (chooses ∷ rests ∷ rests ∷ rests ∷ [])) 1 ≡ true
two-levels = simp opened

-- ---- calls

-- calls `adds` on its own inputs
abbrev calls : Graph
calls = graph (codes "calls") (node 1 120 ∷ []) (literal (codes "adds") 1 1 1 ∷ edge 0 1 1 2 2 ∷ edge 0 2 1 3 1 ∷ edge 1 1 0 1 2 ∷ [])

abbrev both : Unit1
both = unit (adds ∷ calls ∷ [])

an-argument-is-consumed : consumes both calls 1 2 ≡ true
an-argument-is-consumed = simp opened

-- but the caller's input is not given, since the edge leads to a Call
a-call-gives-nothing : is_given_inside both calls 1 ≡ false
a-call-gives-nothing = simp opened

-- ---- owned ports

-- a loop with one input, so that 2 is its first L, and a ForAll with one input and one T, so that 3 is its first M
abbrev around : Node → Graph
around n = graph [] (n ∷ []) (edge 0 1 1 1 2 ∷ edge 1 1 0 1 2 ∷ [])

abbrev loop : Graph → Graph → Node
loop body returns = compound 1 4 (rests ∷ rests ∷ body ∷ returns ∷ [])

abbrev forall : Graph → Node
forall returns = compound 1 0 (rests ∷ rests ∷ returns ∷ [])

-- a body that reads its array, the L, and changes it
abbrev turns : Graph
turns = graph [] (node 1 100 ∷ []) (edge 0 2 1 1 2 ∷ edge 1 1 0 1 2 ∷ [])

-- the last value, the last where a mask holds, and the array of all
abbrev last : Graph
last = graph [] (node 1 127 ∷ []) (edge 0 2 1 1 4 ∷ edge 1 1 0 1 2 ∷ [])

abbrev last-where : Graph
last-where = graph [] (node 1 127 ∷ []) (edge 0 2 1 1 4 ∷ edge 0 3 1 2 6 ∷ edge 1 1 0 1 2 ∷ [])

abbrev last-twice : Graph
last-twice = graph [] (node 1 127 ∷ node 2 127 ∷ []) (edge 0 2 1 1 4 ∷ edge 0 2 2 1 4 ∷ edge 1 1 0 1 2 ∷ edge 2 1 0 2 2 ∷ [])

owned-last : is_owned alone (record { graph = last; home = Inside (around (loop turns last)) (loop turns last) 3 }) (Port 0 2) ≡ true
owned-last = simp opened

lent-where-masked : is_owned alone (record { graph = last-where; home = Inside (around (loop turns last-where)) (loop turns last-where) 3 }) (Port 0 2) ≡ false
lent-where-masked = simp opened

owned-where-unread : is_owned alone (record { graph = last-where; home = Inside (around (loop rests last-where)) (loop rests last-where) 3 }) (Port 0 2) ≡ true
owned-where-unread = simp opened

lent-to-two : is_owned alone (record { graph = last-twice; home = Inside (around (loop rests last-twice)) (loop rests last-twice) 3 }) (Port 0 2) ≡ false
lent-to-two = simp opened

-- an input of the loop is lent in returns
lent-input : is_owned alone (record { graph = measures; home = Inside (around (loop turns measures)) (loop turns measures) 3 }) (Port 0 1) ≡ false
lent-input = simp opened

owned-in-the-body : is_owned alone (record { graph = turns; home = Inside (around (loop turns last)) (loop turns last) 2 }) (Port 0 2) ≡ true
owned-in-the-body = simp opened

lent-in-the-test : is_owned alone (record { graph = rests; home = Inside (around (loop turns last)) (loop turns last) 1 }) (Port 0 2) ≡ false
lent-in-the-test = simp opened

-- an M of a ForAll, and a T
abbrev gathers : ℕ → Graph
gathers port = graph [] (node 1 107 ∷ []) (literal (codes "1") 1 1 1 ∷ edge 0 port 1 2 4 ∷ edge 1 1 0 1 2 ∷ [])

owned-multiple : is_owned alone (record { graph = gathers 3; home = Inside (around (forall (gathers 3))) (forall (gathers 3)) 2 }) (Port 0 3) ≡ true
owned-multiple = simp opened

lent-elements : is_owned alone (record { graph = gathers 2; home = Inside (around (forall (gathers 2))) (forall (gathers 2)) 2 }) (Port 0 2) ≡ false
lent-elements = simp opened

-- a function's input
owned-argument : is_owned both (record { graph = adds; home = Function 0 }) (Port 0 1) ≡ true
owned-argument = simp opened

lent-argument : is_owned both (record { graph = calls; home = Function 1 }) (Port 0 1) ≡ false
lent-argument = simp opened

-- ---- users

used-by-two : users last-twice (Port 0 2) ≡ 1 ∷ 2 ∷ []
used-by-two = simp opened
