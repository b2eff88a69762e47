-- What the unit of the change gives, costs, copies and writes.
use Rattle.std.proofs.Common.{◌≡◌, ◌+◌, ℕ, pos, false, List, [], ◌∷◌, sym, ap, subst, rules}
use Rattle.flow_value.specs.Bounds.{bounded}
use Rattle.flow_value.specs.declared.value.Val.{Val}
use Rattle.flow_value.specs.declared.value.Val.TheOpen.{Val-F}
use Rattle.flow_value.specs.declared.value.Val.TheViews as values
use Rattle.if1_graph.specs.declared.op.Simple.{Simple}
use Rattle.if1_graph.specs.declared.op.Simple.TheVariants as simple
use Rattle.graph_meaning.specs.Carried.{Carried, Value}
use Rattle.graph_meaning.specs.NodeValues.{op}
use Rattle.graph_meaning.specs.NodeValues as shape
use Rattle.graph_meaning.specs.Demand.{Source, Port, Fixed, Plain, Vertex, Net, Network, at_label}
use Rattle.graph_meaning.specs.Networks.{network}
use Rattle.graph_meaning.specs.Plain.{CarryAll, Carries, Outputs, Means, Costs, NodesFire, fixed, output, no_port, port}
use Rattle.graph_meaning.specs.Plain as plain
use Rattle.graph_meaning.specs.Storage.{Weights, NodesAdd, no_node, a_node, of_simple, GraphAdds, of_nodes, is_left, copying, writing, capped}
use Rattle.graph_meaning.specs.StorageUnits.{storage_of}
use Rattle.graph_meaning.proofs.StorageExamples.{array-elements}
use Rattle.graph_examples.specs.CompoundErrors.{net}
use Rattle.graph_examples.specs.Words.{num, int, array, array_from}
use Rattle.worked_units.specs.Changed.{changed}
use Rattle.worked_units.specs.WorkedUnits.{IsChangedAnswered}
use Rattle.worked_units.proofs.ChangedOuts.{opened, looks}

-- ---- the graph as it runs

abbrev a-vertex : ℕ → Simple → List Source → List ℕ → Vertex
a-vertex l row ins before = record { label = l; kind = Plain row shape.Plain; ins = ins; before = before }

abbrev fill : Vertex
fill = a-vertex 1 simple.AFill (Fixed (int (pos 1)) ∷ Fixed (int (pos 3)) ∷ Fixed (int (pos 5)) ∷ []) []

abbrev change : Vertex
change = a-vertex 2 simple.AReplace (Port 1 1 ∷ Fixed (int (pos 1)) ∷ Fixed (int (pos 9)) ∷ []) (3 ∷ [])

abbrev look : Vertex
look = a-vertex 3 simple.AElement (Port 1 1 ∷ Fixed (int (pos 1)) ∷ []) []

abbrev main-net : Net
main-net = net (fill ∷ change ∷ look ∷ []) (Port 3 1 ∷ Port 2 1 ∷ [])

abbrev run : Network
run = network changed

net-is : run 1 ≡ main-net
net-is = simp looks

-- ---- what its ports carry

abbrev fives : Val
fives = array_from (pos 1) (num 5 ∷ num 5 ∷ num 5 ∷ [])

abbrev nine : Val
nine = array_from (pos 1) (num 9 ∷ num 5 ∷ num 5 ∷ [])

abbrev fill-ports : List Carried
fill-ports = int (pos 1) ∷ int (pos 3) ∷ int (pos 5) ∷ []

abbrev change-ports : List Carried
change-ports = Value fives ∷ int (pos 1) ∷ int (pos 9) ∷ []

abbrev look-ports : List Carried
look-ports = Value fives ∷ int (pos 1) ∷ []

at-label-is : (l : ℕ) → at_label (run 1).nodes l ≡ at_label main-net.nodes l
at-label-is l = ap (λ (g : Net). at_label g.nodes l) net-is

-- a fixed value before other ports
fixed-first : (c : Carried) (os : List Source) (cs : List Carried) → CarryAll run 0 1 [] os cs → CarryAll run 0 1 [] (Fixed c ∷ os) (c ∷ cs)
fixed-first c os cs h = port 0 1 [] (Fixed c) os c cs (fixed 0 1 [] c) h

fill-ins : CarryAll run 0 1 [] fill.ins fill-ports
fill-ins = fixed-first (int (pos 1)) _ _ (fixed-first (int (pos 3)) _ _ (fixed-first (int (pos 5)) _ _ (no_port 0 1 [])))

array-carried : Carries run 0 1 [] (Port 1 1) (Value fives)
array-carried = output 0 1 [] 0 1 fill fill-ports (Value fives ∷ []) (at-label-is 1) fill-ins (plain.simple 0 simple.AFill shape.Plain fill-ports)

change-ins : CarryAll run 0 1 [] change.ins change-ports
change-ins = port 0 1 [] (Port 1 1) _ (Value fives) _ array-carried (fixed-first (int (pos 1)) _ _ (fixed-first (int (pos 9)) _ _ (no_port 0 1 [])))

look-ins : CarryAll run 0 1 [] look.ins look-ports
look-ins = port 0 1 [] (Port 1 1) _ (Value fives) _ array-carried (fixed-first (int (pos 1)) _ _ (no_port 0 1 []))

fives-out : values.out-Val fives ≡ Val-F.Arr (bounded (pos 1) (num 5 ∷ num 5 ∷ num 5 ∷ []))
fives-out = search (rules, values.the_lemmas)

changed-is : op simple.AReplace shape.Plain change-ports ≡ Value nine ∷ []
changed-is = simp fives-out

looked-is : op simple.AElement shape.Plain look-ports ≡ int (pos 5) ∷ []
looked-is = simp fives-out

change-outs : Outputs run 0 (Plain simple.AReplace shape.Plain) change-ports (Value nine ∷ [])
change-outs = subst (λ rs. Outputs run 0 (Plain simple.AReplace shape.Plain) change-ports rs) changed-is (plain.simple 0 simple.AReplace shape.Plain change-ports)

look-outs : Outputs run 0 (Plain simple.AElement shape.Plain) look-ports (int (pos 5) ∷ [])
look-outs = subst (λ rs. Outputs run 0 (Plain simple.AElement shape.Plain) look-ports rs) looked-is (plain.simple 0 simple.AElement shape.Plain look-ports)

abbrev results : List Carried
results = int (pos 5) ∷ array (pos 1) (num 9 ∷ num 5 ∷ num 5 ∷ []) ∷ []

results-are : CarryAll run 0 1 [] main-net.results results
results-are =
    port 0 1 [] (Port 3 1) _ (int (pos 5)) _ (output 0 1 [] 2 1 look look-ports (int (pos 5) ∷ []) (at-label-is 3) look-ins look-outs)
    (port 0 1 [] (Port 2 1) _ (Value nine) _ (output 0 1 [] 1 1 change change-ports (Value nine ∷ []) (at-label-is 2) change-ins change-outs) (no_port 0 1 []))

gives : Means run 0 1 [] results
gives = subst (λ (g : Net). CarryAll run 0 1 [] g.results results) (sym net-is) results-are

-- ---- firings

fires : NodesFire run 0 1 [] main-net.nodes 3
fires =
    plain.a_node 0 1 [] fill _ 0 2 (plain.of_simple 0 1 [] simple.AFill shape.Plain fill.ins)
    (plain.a_node 0 1 [] change _ 0 1 (plain.of_simple 0 1 [] simple.AReplace shape.Plain change.ins)
    (plain.a_node 0 1 [] look [] 0 0 (plain.of_simple 0 1 [] simple.AElement shape.Plain look.ins) (plain.no_node 0 1 [])))

costs : Costs run 0 1 [] 3
costs = subst (λ (g : Net). NodesFire run 0 1 [] g.nodes 3) (sym net-is) fires

-- ---- copies and writes

-- what the change and the results do not take, and what is an aggregate
change-left : is_left (storage_of changed) 1 2 1 ≡ false
change-left = simp opened

stored-left : is_left (storage_of changed) 1 2 3 ≡ false
stored-left = simp opened

element-left : is_left (storage_of changed) 1 0 1 ≡ false
element-left = simp opened

array-left : is_left (storage_of changed) 1 0 2 ≡ false
array-left = simp opened

filler-left : (storage_of changed).is_aggregate 1 1 3 ≡ false
filler-left = simp opened

element-made : (storage_of changed).is_made 1 3 1 ≡ false
element-made = simp opened

module _ (w : Weights) where
  abbrev look-sum : ℕ
  look-sum = w.of_node 1 look look-ports (int (pos 5) ∷ []) + (0 + 0)

  abbrev change-sum : ℕ
  change-sum = w.of_node 1 change change-ports (Value nine ∷ []) + (0 + look-sum)

  abbrev whole-sum : ℕ
  whole-sum = w.of_node 1 fill fill-ports (Value fives ∷ []) + (0 + change-sum)

  adds : NodesAdd run w 0 1 [] main-net.nodes whole-sum
  adds =
      a_node 0 1 [] fill _ fill-ports (Value fives ∷ []) 0 change-sum fill-ins (plain.simple 0 simple.AFill shape.Plain fill-ports) (of_simple 0 simple.AFill shape.Plain fill-ports)
      (a_node 0 1 [] change _ change-ports (Value nine ∷ []) 0 look-sum change-ins change-outs (of_simple 0 simple.AReplace shape.Plain change-ports)
      (a_node 0 1 [] look _ look-ports (int (pos 5) ∷ []) 0 0 look-ins look-outs (of_simple 0 simple.AElement shape.Plain look-ports) (no_node 0 1 [])))

  graph-adds : GraphAdds run w 0 1 [] (w.of_results 1 results + whole-sum)
  graph-adds = of_nodes 0 1 [] results whole-sum gives (subst (λ (g : Net). NodesAdd run w 0 1 [] g.nodes whole-sum) (sym net-is) adds)

copied-is : (copying (storage_of changed)).of_results 1 results + whole-sum (copying (storage_of changed)) ≡ 0
copied-is = simp (filler-left, change-left, stored-left, element-left, array-left, element-made)

written-is : (writing (storage_of changed)).of_results 1 results + whole-sum (writing (storage_of changed)) ≡ 3
written-is = simp array-elements

pub changed-answered : IsChangedAnswered
changed-answered =
    record {
      gives = (0, gives);
      costs = (0, costs);
      copied = (0, (_, graph-adds (copying (storage_of changed)), ap capped (sym copied-is)));
      written = (0, (_, graph-adds (writing (storage_of changed)), ap capped (sym written-is)));
    }
