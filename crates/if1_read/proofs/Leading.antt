-- A step without a fault leads on.
use Rattle.std.proofs.Common.{◌≡◌, ℕ, Bool, false, rules, List, [], ◌∷◌, ◌++◌, Some, None, Result, Ok, Err, refl, sym, subst, ◌∙◌}
use Rattle.std.specs.Prelude.{All, IfOk}
use Rattle.std.proofs.lemmas.List.Elements.{All-pop}
use Rattle.if1_graph.specs.declared.line.Line.{Line}
use Rattle.if1_graph.specs.declared.line.Line.TheVariants as line
use Rattle.if1_graph.specs.Spelling.{IsSpelled}
use Rattle.if1_graph.specs.declared.graph.Graph.{Graph}
use Rattle.if1_graph.specs.declared.graph.Graph.TheViews.{roll-Node}
use Rattle.if1_graph.specs.declared.graph.Graph.TheViews as graphs
use Rattle.if1_graph.specs.declared.graph.Node.{Node, out-Node}
use Rattle.if1_graph.specs.declared.graph.Edge.{Edge}
use Rattle.if1_graph.specs.declared.graph.Origin.TheVariants.{Port, Lit}
use Rattle.if1_graph.specs.Units.{label_of}
use Rattle.if1_graph.specs.Reads.{IsSimpleNode, IsCompoundNode, edge_of}
use Rattle.if1_read.specs.declared.judge.Known.{Known}
use Rattle.if1_read.specs.declared.machine.Machine.{Machine}
use Rattle.if1_read.specs.Known.{IsTableSound}
use Rattle.if1_read.specs.Stands.{lines_of, IsRead, Runs, GoesOn}
use Rattle.if1_read.specs.Effects.{AddsNode, AddsEdge, BeginsFunction, BeginsSubgraph, Imports, Opens, Closes}
use Rattle.if1_read.proofs.Pushing.{seconds_push}
use Rattle.if1_read.proofs.Going.{node_goes, edge_goes, function_goes, subgraph_goes, import_goes, open_goes, close_goes}

-- a node by its fields
abbrev pub node_of : ℕ → ℕ → List Graph → List ℕ → List ℕ → List ℕ → Node
node_of label op subs assoc before name = roll-Node (record { label = label; op = op; subs = subs; assoc = assoc; before = before; name = name })

simple_is : (label op : ℕ) (subs : List Graph) (assoc before name : List ℕ) → subs ≡ [] → assoc ≡ [] → IsSimpleNode (node_of label op subs assoc before name) label op before name
simple_is label op subs assoc before name no_graphs no_list = record {
  label_is = search (rules, graphs.the_lemmas);
  op_is = search (rules, graphs.the_lemmas);
  no_graphs = subs_are ∙ no_graphs;
  no_list = list_is ∙ no_list;
  before_is = search (rules, graphs.the_lemmas);
  name_is = search (rules, graphs.the_lemmas);
}
  where
    subs_are : (out-Node (node_of label op subs assoc before name)).subs ≡ subs
    subs_are = search (rules, graphs.the_lemmas)

    list_is : (out-Node (node_of label op subs assoc before name)).assoc ≡ assoc
    list_is = search (rules, graphs.the_lemmas)

compound_is : (made : Node) (label op : ℕ) (subs gs : List Graph) (assoc before name : List ℕ) →
    IsCompoundNode made (label_of (node_of label op subs assoc before name)) (out-Node (node_of label op subs assoc before name)).op gs
    (out-Node (node_of label op subs assoc before name)).assoc (out-Node (node_of label op subs assoc before name)).before (out-Node (node_of label op subs assoc before name)).name →
    IsCompoundNode made label op gs assoc before name
compound_is made label op subs gs assoc before name is = record {
  label_is = is.label_is ∙ search (rules, graphs.the_lemmas);
  op_is = is.op_is ∙ search (rules, graphs.the_lemmas);
  graphs_are = is.graphs_are;
  list_is = is.list_is ∙ search (rules, graphs.the_lemmas);
  before_is = is.before_is ∙ search (rules, graphs.the_lemmas);
  name_is = is.name_is ∙ search (rules, graphs.the_lemmas);
}

module _ {E : Type 0} (k : Known) (m : Machine) (r : Result Machine E) where
  abbrev pub IsClean : Type 0
  IsClean = IfOk r (λ n. n.first ≡ None → m.first ≡ None)

  -- what a line does
  abbrev pub Does : (Machine → Type 0) → Type 0
  Does X = IfOk r (λ n. n.first ≡ None → IsTableSound k.table → X n)

  abbrev pub Leads : Line → Type 0
  Leads l = IfOk r (λ n. IsTableSound k.table → IsRead l → GoesOn k m l n)

leads_on : {E : Type 0} (k : Known) (m : Machine) (r : Result Machine E) (l : Line) (X : Machine → Type 0) → IsClean k m r → Does k m r X →
    ((n : Machine) (done : List Line) → IsTableSound k.table → IsSpelled l → X n → Runs k done m → Runs k (done ++ l ∷ []) n) → Leads k m r l
leads_on k m (Ok n) l X clean does step = λ sound read none. (clean none, λ done runs. step n done sound read.spelled (does none sound) runs)
leads_on k m (Err e) l X clean does step = tt

-- a line that is this one
pub told : {E : Type 0} (k : Known) (m : Machine) (r : Result Machine E) (l j : Line) → j ≡ l → Leads k m r l → Leads k m r j
told k m r l j same h = subst (λ (x : Line). Leads k m r x) (sym same) h

-- without a look at the table
plainly : {E : Type 0} (k : Known) (m : Machine) (r : Result Machine E) (X : Machine → Type 0) → IfOk r (λ n. n.first ≡ None → X n) → Does k m r X
plainly k m (Ok n) X h = λ none sound. h none
plainly k m (Err e) X h = tt

pub node_leads : {E : Type 0} (k : Known) (m : Machine) (r : Result Machine E) (label op : ℕ) (subs : List Graph) (assoc before name : List ℕ) → IsClean k m r →
    subs ≡ [] → assoc ≡ [] → IfOk r (λ n. n.first ≡ None → AddsNode m n (node_of label op subs assoc before name)) →
    Leads k m r (line.Node label op before name)
node_leads k m r label op subs assoc before name clean no_graphs no_list adds =
    let node = node_of label op subs assoc before name in
    leads_on k m r (line.Node label op before name) (λ n. AddsNode m n node) clean (plainly k m r (λ n. AddsNode m n node) adds)
    (λ n done sound sp x runs. node_goes k m n done runs node label op before name x (simple_is label op subs assoc before name no_graphs no_list) sp)

pub edge_leads : {E : Type 0} (k : Known) (m : Machine) (r : Result Machine E) (from out node port ty : ℕ) (takes : Bool) (name : List ℕ) → IsClean k m r →
    Does k m r (λ n. AddsEdge k m n (edge_of (Port from out) node port ty takes name)) → Leads k m r (line.Edge from out node port ty takes name)
edge_leads k m r from out node port ty takes name clean adds =
    let e : Edge = edge_of (Port from out) node port ty takes name in
    leads_on k m r (line.Edge from out node port ty takes name) (λ n. AddsEdge k m n e) clean adds
    (λ n done sound sp x runs. edge_goes k m n done runs e x (λ i rest. refl) tt sp)

pub literal_leads : {E : Type 0} (k : Known) (m : Machine) (r : Result Machine E) (node port ty : ℕ) (text name : List ℕ) → IsClean k m r →
    Does k m r (λ n. AddsEdge k m n (edge_of (Lit text) node port ty false name)) → Leads k m r (line.Literal node port ty text name)
literal_leads k m r node port ty text name clean adds =
    let e : Edge = edge_of (Lit text) node port ty false name in
    leads_on k m r (line.Literal node port ty text name) (λ n. AddsEdge k m n e) clean adds
    (λ n done sound sp x runs. edge_goes k m n done runs e x (λ i rest. refl) refl sp)

pub function_leads : {E : Type 0} (k : Known) (m : Machine) (r : Result Machine E) (exported : Bool) (fun : ℕ) (name : List ℕ) → IsClean k m r →
    Does k m r (λ n. BeginsFunction k m n exported fun name) → Leads k m r (line.Function exported fun name)
function_leads k m r exported fun name clean begins =
    leads_on k m r (line.Function exported fun name) (λ n. BeginsFunction k m n exported fun name) clean begins
    (λ n done sound sp x runs. function_goes k m n done runs exported fun name sound x sp)

pub subgraph_leads : {E : Type 0} (k : Known) (m : Machine) (r : Result Machine E) (name : List ℕ) → IsClean k m r → Does k m r (λ n. BeginsSubgraph k m n name) →
    Leads k m r (line.Subgraph name)
subgraph_leads k m r name clean begins =
    leads_on k m r (line.Subgraph name) (λ n. BeginsSubgraph k m n name) clean begins (λ n done sound sp x runs. subgraph_goes k m n done runs name sound x sp)

pub import_leads : {E : Type 0} (k : Known) (m : Machine) (r : Result Machine E) (ty : ℕ) (name : List ℕ) → IsClean k m r → Does k m r (λ n. Imports k m n ty name) →
    Leads k m r (line.Import ty name)
import_leads k m r ty name clean imports =
    leads_on k m r (line.Import ty name) (λ n. Imports k m n ty name) clean imports (λ n done sound sp x runs. import_goes k m n done runs ty name sound x sp)

pub open_leads : {E : Type 0} (k : Known) (m : Machine) (r : Result Machine E) (rest : List ℕ) → IsClean k m r → IfOk r (λ n. n.first ≡ None → Opens m n) →
    Leads k m r (line.Open rest)
open_leads k m r rest clean opens =
    leads_on k m r (line.Open rest) (Opens m) clean (plainly k m r (Opens m) opens) (λ n done sound sp x runs. open_goes k m n done runs rest x)

pub close_leads : {E : Type 0} (k : Known) (m : Machine) (r : Result Machine E) (label op count : ℕ) (subs : List Graph) (assoc before name : List ℕ) →
    IsClean k m r → Does k m r (λ n. Closes k m n count (node_of label op subs assoc before name)) → Leads k m r (line.Close label op count assoc before name)
close_leads k m r label op count subs assoc before name clean closes =
    let node = node_of label op subs assoc before name in
    leads_on k m r (line.Close label op count assoc before name) (λ n. Closes k m n count node) clean closes
    (λ n done sound sp x runs.
    close_goes k m n done runs label op count assoc before name node sound x (compound_is x.made label op subs x.graphs assoc before name x.is) sp)

-- ---- the lines so far

abbrev pub HasRun : Known → Machine → List (ℕ × Line) → Type 0
HasRun k m ls = m.first ≡ None → IsTableSound k.table → All IsRead (lines_of ls) → Runs k (lines_of ls) m

pub run_more : (k : Known) (m n : Machine) (ls : List (ℕ × Line)) (x : ℕ × Line) → (IsTableSound k.table → IsRead x.1 → GoesOn k m x.1 n) → HasRun k m ls → HasRun k n (ls ++ x ∷ [])
run_more k m n ls x goes run none sound read =
    let more = seconds_push ls x in
    let each = All-pop IsRead (lines_of (ls ++ x ∷ [])) (lines_of ls) (Some x.1) more read in
    let step = goes sound each.1 none in
    subst (λ (js : List Line). Runs k js n) (sym more) (step.1 (lines_of ls) (run step.0 sound each.0))
