-- Copies and writes of a whole unit, with and without marks.
--
-- `main` fills an array of three places with 5, changes its first element to 9, and gives the first element of the array before
-- the change, and the changed array.
use Rattle.std.proofs.Common.{◌≡◌, ℕ, pos, Bool, true, false, not, List, [], ◌∷◌, ◌+◌, sym, ap, subst, rules, if◌then◌else◌, arith}
use Rattle.std.specs.Prelude.{codes}
use Rattle.loop_folds.specs.Bounds.{bounded}
use Rattle.loop_folds.specs.Val.{Val}
use Rattle.loop_folds.specs.Val.TheOpen.{Val-F}
use Rattle.loop_folds.specs.Val.TheViews as values
use Rattle.if1_graph.specs.declared.graph.Edge.{Edge}
use Rattle.if1_graph.specs.declared.graph.Graph.{Graph}
use Rattle.if1_graph.specs.declared.graph.Graph.TheViews as views
use Rattle.if1_graph.specs.declared.graph.Node.{Node, roll-Node, out-Node}
use Rattle.if1_graph.specs.declared.graph.Origin.TheVariants as origin
use Rattle.if1_graph.specs.declared.graph.TypeEntry.{TypeEntry}
use Rattle.if1_graph.specs.declared.graph.Unit1.{Unit1}
use Rattle.if1_graph.specs.declared.op.Simple.TheVariants as simple
use Rattle.if1_graph.specs.Units.{label_of, number_of, node_at, edges_into, ports_into, edge_into}
use Rattle.graph_meaning.specs.Carried.{Carried, Value}
use Rattle.graph_meaning.specs.NodeValues.{op}
use Rattle.graph_meaning.specs.NodeValues as shape
use Rattle.graph_meaning.specs.Demand.{Port, Fixed, Plain, Vertex, Net, Network, at_label}
use Rattle.graph_meaning.specs.Networks.{network}
use Rattle.graph_meaning.specs.Plain.{CarryAll, Carries, Outputs, fixed, output, no_port, port}
use Rattle.graph_meaning.specs.Plain as plain
use Rattle.graph_meaning.specs.Storage.{Weights, NodesAdd, no_node, a_node, of_simple, GraphAdds, of_nodes, is_left, copying, writing, capped}
use Rattle.graph_meaning.specs.StorageUnits.{storage_of, UnitCopies, UnitWrites}
use Rattle.graph_meaning.proofs.StorageExamples.{int, array, one-leaf, array-leaves, array-elements}

-- ---- the unit

abbrev entry : ℕ → ℕ → ℕ → ℕ → TypeEntry
entry label code first second = record { label = label; code = code; first = first; second = second; name = [] }

-- integer; an array of it; the tuple of both; the function without arguments that gives the tuple
abbrev types : List TypeEntry
types = entry 1 1 3 0 ∷ entry 2 0 1 0 ∷ entry 3 8 1 4 ∷ entry 4 8 2 0 ∷ entry 5 3 0 3 ∷ []

abbrev edge : Bool → ℕ → ℕ → ℕ → ℕ → ℕ → Edge
edge takes from out node to ty = record { from = origin.Port from out; node = node; port = to; ty = ty; takes = takes; name = [] }

abbrev literal : List ℕ → ℕ → ℕ → Edge
literal text node to = record { from = origin.Lit text; node = node; port = to; ty = 1; takes = false; name = [] }

abbrev node : ℕ → ℕ → List ℕ → Node
node label op before = roll-Node (record { label = label; op = op; subs = []; assoc = []; before = before; name = [] })

-- whether the change takes the array that it changes, and the results the changed one; what comes before the change
module _ (changed given : Bool) (before : List ℕ) where
  abbrev nodes : List Node
  nodes = node 1 106 [] ∷ node 2 113 before ∷ node 3 105 [] ∷ []

  abbrev edges : List Edge
  edges =
      literal (codes "1") 1 1
      ∷ literal (codes "3") 1 2
      ∷ literal (codes "5") 1 3
      ∷ edge changed 1 1 2 1 2
      ∷ literal (codes "1") 2 2
      ∷ literal (codes "9") 2 3
      ∷ edge false 1 1 3 1 2
      ∷ literal (codes "1") 3 2
      ∷ edge false 3 1 0 1 1
      ∷ edge given 2 1 0 2 2
      ∷ []

  abbrev main : Graph
  main = views.roll-Graph (record { number = 1; exported = true; name = codes "main"; fun = 5; nodes = nodes; edges = edges })

  abbrev unit : Unit1
  unit = record { types = types; imports = []; graphs = main ∷ [] }

  -- ---- the graph as it runs

  abbrev fill : Vertex
  fill = record { label = 1; kind = Plain simple.AFill shape.Plain; ins = Fixed (Value (int 1)) ∷ Fixed (Value (int 3)) ∷ Fixed (Value (int 5)) ∷ []; before = [] }

  abbrev change : Vertex
  change = record { label = 2; kind = Plain simple.AReplace shape.Plain; ins = Port 1 1 ∷ Fixed (Value (int 1)) ∷ Fixed (Value (int 9)) ∷ []; before = before }

  abbrev look : Vertex
  look = record { label = 3; kind = Plain simple.AElement shape.Plain; ins = Port 1 1 ∷ Fixed (Value (int 1)) ∷ []; before = [] }

  abbrev net : Net
  net = record { nodes = fill ∷ change ∷ look ∷ []; results = Port 3 1 ∷ Port 2 1 ∷ [] }

  out-main : views.out-Graph main ≡ record { number = 1; exported = true; name = codes "main"; fun = 5; nodes = nodes; edges = edges }
  out-main = search (rules, views.the_lemmas)

  out-node : (label op : ℕ) (before : List ℕ) → out-Node (node label op before) ≡ record { label = label; op = op; subs = []; assoc = []; before = before; name = [] }
  out-node label op before = search (rules, views.the_lemmas)

  ruleset opened = (out-main, out-node, label_of, number_of)

  net-is : network unit 1 ≡ net
  net-is = simp (opened, node_at, edges_into, ports_into, edge_into)

  -- ---- what is known of its edges

  -- the change copies what it does not take, and so do the results
  change-left : is_left (storage_of unit) 1 2 1 ≡ not changed
  change-left = simp (opened)

  stored-left : is_left (storage_of unit) 1 2 3 ≡ false
  stored-left = simp (opened)

  element-left : is_left (storage_of unit) 1 0 1 ≡ false
  element-left = simp (opened)

  array-left : is_left (storage_of unit) 1 0 2 ≡ not given
  array-left = simp (opened)

  filler-left : (storage_of unit).is_aggregate 1 1 3 ≡ false
  filler-left = simp (opened)

  element-made : (storage_of unit).is_made 1 3 1 ≡ false
  element-made = simp (opened)

  -- ---- what its ports carry

  abbrev run : Network
  run = network unit

  abbrev fives : Val
  fives = array (int 5 ∷ int 5 ∷ int 5 ∷ [])

  abbrev nine : Val
  nine = array (int 9 ∷ int 5 ∷ int 5 ∷ [])

  abbrev fill-ports : List Carried
  fill-ports = Value (int 1) ∷ Value (int 3) ∷ Value (int 5) ∷ []

  abbrev change-ports : List Carried
  change-ports = Value fives ∷ Value (int 1) ∷ Value (int 9) ∷ []

  abbrev look-ports : List Carried
  look-ports = Value fives ∷ Value (int 1) ∷ []

  at-label-is : (l : ℕ) → at_label (run 1).nodes l ≡ at_label net.nodes l
  at-label-is l = ap (λ (g : Net). at_label g.nodes l) net-is

  fill-ins : CarryAll run 0 1 [] fill.ins fill-ports
  fill-ins =
      port 0 1 [] (Fixed (Value (int 1))) _ (Value (int 1)) _ (fixed 0 1 [] (Value (int 1)))
      (port 0 1 [] (Fixed (Value (int 3))) _ (Value (int 3)) _ (fixed 0 1 [] (Value (int 3)))
      (port 0 1 [] (Fixed (Value (int 5))) _ (Value (int 5)) _ (fixed 0 1 [] (Value (int 5))) (no_port 0 1 [])))

  array-carried : Carries run 0 1 [] (Port 1 1) (Value fives)
  array-carried = output 0 1 [] 0 1 fill fill-ports (Value fives ∷ []) (at-label-is 1) fill-ins (plain.simple 0 simple.AFill shape.Plain fill-ports)

  change-ins : CarryAll run 0 1 [] change.ins change-ports
  change-ins =
      port 0 1 [] (Port 1 1) _ (Value fives) _ array-carried
      (port 0 1 [] (Fixed (Value (int 1))) _ (Value (int 1)) _ (fixed 0 1 [] (Value (int 1)))
      (port 0 1 [] (Fixed (Value (int 9))) _ (Value (int 9)) _ (fixed 0 1 [] (Value (int 9))) (no_port 0 1 [])))

  look-ins : CarryAll run 0 1 [] look.ins look-ports
  look-ins =
      port 0 1 [] (Port 1 1) _ (Value fives) _ array-carried
      (port 0 1 [] (Fixed (Value (int 1))) _ (Value (int 1)) _ (fixed 0 1 [] (Value (int 1))) (no_port 0 1 []))

  fives-out : values.out-Val fives ≡ Val-F.Arr (bounded (pos 1) (int 5 ∷ int 5 ∷ int 5 ∷ []))
  fives-out = search (rules, values.the_lemmas)

  changed-is : op simple.AReplace shape.Plain change-ports ≡ Value nine ∷ []
  changed-is = simp fives-out

  looked-is : op simple.AElement shape.Plain look-ports ≡ Value (int 5) ∷ []
  looked-is = simp fives-out

  change-outs : Outputs run 0 (Plain simple.AReplace shape.Plain) change-ports (Value nine ∷ [])
  change-outs = subst (λ rs. Outputs run 0 (Plain simple.AReplace shape.Plain) change-ports rs) changed-is (plain.simple 0 simple.AReplace shape.Plain change-ports)

  look-outs : Outputs run 0 (Plain simple.AElement shape.Plain) look-ports (Value (int 5) ∷ [])
  look-outs = subst (λ rs. Outputs run 0 (Plain simple.AElement shape.Plain) look-ports rs) looked-is (plain.simple 0 simple.AElement shape.Plain look-ports)

  abbrev results : List Carried
  results = Value (int 5) ∷ Value nine ∷ []

  results-are : CarryAll run 0 1 [] net.results results
  results-are =
      port 0 1 [] (Port 3 1) _ (Value (int 5)) _ (output 0 1 [] 2 1 look look-ports (Value (int 5) ∷ []) (at-label-is 3) look-ins look-outs)
      (port 0 1 [] (Port 2 1) _ (Value nine) _ (output 0 1 [] 1 1 change change-ports (Value nine ∷ []) (at-label-is 2) change-ins change-outs) (no_port 0 1 []))

  -- ---- sums

  module _ (w : Weights) where
    abbrev look-sum : ℕ
    look-sum = w.of_node 1 look look-ports (Value (int 5) ∷ []) + (0 + 0)

    abbrev change-sum : ℕ
    change-sum = w.of_node 1 change change-ports (Value nine ∷ []) + (0 + look-sum)

    abbrev whole-sum : ℕ
    whole-sum = w.of_node 1 fill fill-ports (Value fives ∷ []) + (0 + change-sum)

    adds : NodesAdd run w 0 1 [] net.nodes whole-sum
    adds =
        a_node 0 1 [] fill _ fill-ports (Value fives ∷ []) 0 change-sum fill-ins (plain.simple 0 simple.AFill shape.Plain fill-ports) (of_simple 0 simple.AFill shape.Plain fill-ports)
        (a_node 0 1 [] change _ change-ports (Value nine ∷ []) 0 look-sum change-ins change-outs (of_simple 0 simple.AReplace shape.Plain change-ports)
        (a_node 0 1 [] look _ look-ports (Value (int 5) ∷ []) 0 0 look-ins look-outs (of_simple 0 simple.AElement shape.Plain look-ports) (no_node 0 1 [])))

    graph-adds : GraphAdds run w 0 1 [] (w.of_results 1 results + whole-sum)
    graph-adds =
        of_nodes 0 1 [] results whole-sum (subst (λ (g : Net). CarryAll run 0 1 [] g.results results) (sym net-is) results-are)
        (subst (λ (g : Net). NodesAdd run w 0 1 [] g.nodes whole-sum) (sym net-is) adds)

  copied-is : (copying (storage_of unit)).of_results 1 results + whole-sum (copying (storage_of unit)) ≡ (if not given then 3 else 0) + (if not changed then 3 else 0)
  copied-is = simp (filler-left, change-left, stored-left, element-left, array-left, element-made, array-leaves, one-leaf) (omega arith)

  written-is : (writing (storage_of unit)).of_results 1 results + whole-sum (writing (storage_of unit)) ≡ 3
  written-is = simp array-elements

  copies : UnitCopies unit 1 [] (capped ((if not given then 3 else 0) + (if not changed then 3 else 0)))
  copies = (0, (_, graph-adds (copying (storage_of unit)), ap capped (sym copied-is)))

  writes : UnitWrites unit 1 [] 3
  writes = (0, (_, graph-adds (writing (storage_of unit)), ap capped (sym written-is)))

-- without marks both changes copy
unmarked : UnitCopies (unit false false []) 1 [] 6
unmarked = copies false false []

-- where the element is looked at before the change, the change may take the array
marked : UnitCopies (unit true false (3 ∷ [])) 1 [] 3
marked = copies true false (3 ∷ [])

-- or the results what was changed
results-marked : UnitCopies (unit false true []) 1 [] 3
results-marked = copies false true []

-- with both marks nothing is copied
both-marked : UnitCopies (unit true true (3 ∷ [])) 1 [] 0
both-marked = copies true true (3 ∷ [])

-- the array that is filled is written, marked or not
written : UnitWrites (unit false false []) 1 [] 3
written = writes false false []

written-marked : UnitWrites (unit true true (3 ∷ [])) 1 [] 3
written-marked = writes true true (3 ∷ [])
