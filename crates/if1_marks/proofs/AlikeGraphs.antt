-- What graphs have that are the same without their marks.
use Rattle.std.proofs.Common.{◌≡◌, ℕ, suc, ◌+◌, List, [], ◌∷◌, ◌++◌, map, option_map, Option, Some, None, refl, sym, ap, subst, ◌∙◌, ◌==◌}
use Rattle.std.specs.Prelude.{bytes_eq, nat_lt, slice_get, take, drop, sum, length, unwrap_or}
use Rattle.std.specs.List.{filter, flat_map}
use Rattle.if1_graph.specs.declared.graph.Edge.{Edge}
use Rattle.if1_graph.specs.declared.graph.Graph.{Graph}
use Rattle.if1_graph.specs.declared.graph.Graph.TheViews.{out-Graph, roll-Graph, roll-out-Graph, roll-out-Node, out-roll-Graph, out-roll-Node}
use Rattle.if1_graph.specs.declared.graph.Graph.TheOpen.{Graph-F, Node-F}
use Rattle.if1_graph.specs.declared.graph.Graph.TheFolds.{fold-Graph, fold-Node, fold-roll-Graph, fold-roll-Node, map-Graph, map-Node, ind-Graph}
use Rattle.if1_graph.specs.declared.graph.Node.{Node, roll-Node, out-Node}
use Rattle.if1_graph.specs.declared.graph.Unit1.{Unit1}
use Rattle.if1_graph.specs.declared.op.Compound.{Compound}
use Rattle.if1_graph.specs.declared.op.Compound.TheVariants as compound
use Rattle.if1_graph.specs.declared.op.Part.{Part}
use Rattle.if1_graph.specs.declared.op.Part.TheVariants as part
use Rattle.if1_graph.specs.declared.op.Simple.{Simple}
use Rattle.if1_graph.specs.declared.row.Gives.{Gives}
use Rattle.if1_graph.specs.declared.row.Gives.TheVariants.{One, Pair, Results, AllFields}
use Rattle.if1_graph.specs.Formed.{function_named, want_at}
use Rattle.if1_graph.specs.Ops.{simple_at, compound_at, reducer_at}
use Rattle.if1_graph.specs.Ports.{carried, text_of, literal_at, callee, arguments_of, results_of, fields_of, edges_from, results_at, most_results, compound_outputs, given_outputs, outputs_as, outputs, part_inputs, part_of, inputs, part_results, wanted_results}
use Rattle.if1_graph.specs.Rows.{operand_of, row_of}
use Rattle.if1_graph.specs.Tables.{◌>>=◌}
use Rattle.if1_graph.specs.Types.{sort_at}
use Rattle.if1_graph.specs.Typing.{known, result_of}
use Rattle.if1_graph.specs.Units.{label_of, greatest, size, sizes, levels, level_below, node_at, edge_into, edges_into, ports_into, width, results, Home, Function, Inside, Place, size_before, graphs_before, ends}
use Rattle.if1_marks.specs.Unmarked.{untaken, with_edges, without_list, unmarked, unmarked_node, unmarked_unit, unmarked_home}
use Rattle.if1_marks.proofs.AlikeLists.{over-mapped, over-all, slice-mapped, take-mapped, drop-mapped}
use Rattle.if1_marks.proofs.Unmarked.{unmarked-at, unmarked-node-at, label-same, name-same, found-mapped, filter-mapped, node-at-same, edge-into-same, edges-from-same, width-same, subs-same, part-same}

-- ---- folds that don't see marks

module _ (A B : Type 0) (gs : Graph-F A B → A) (ns : Node-F A B → B)
    (no-takers : (x : Graph-F A B) → gs (record { number = x.number; exported = x.exported; name = x.name; fun = x.fun; nodes = x.nodes; edges = map untaken x.edges }) ≡ gs x)
    (no-lists : (y : Node-F A B) → ns (record { label = y.label; op = y.op; subs = y.subs; assoc = y.assoc; before = []; name = y.name }) ≡ ns y) where
  abbrev of : Graph → A
  of = fold-Graph A B gs ns

  abbrev of-node : Node → B
  of-node = fold-Node A B gs ns

  of-at : (g : Graph) → of g ≡ gs (record { number = (out-Graph g).number; exported = (out-Graph g).exported; name = (out-Graph g).name; fun = (out-Graph g).fun; nodes = map of-node (out-Graph g).nodes; edges = (out-Graph g).edges })
  of-at g = ap of (sym (roll-out-Graph g)) ∙ fold-roll-Graph A B gs ns (out-Graph g)

  of-node-at : (n : Node) → of-node n ≡ ns (record { label = (out-Node n).label; op = (out-Node n).op; subs = map of (out-Node n).subs; assoc = (out-Node n).assoc; before = (out-Node n).before; name = (out-Node n).name })
  of-node-at n = ap of-node (sym (roll-out-Node n)) ∙ fold-roll-Node A B gs ns (out-Node n)

  abbrev Same : Graph → Type 0
  Same g = of (unmarked g) ≡ of g

  abbrev NodeSame : Node → Type 0
  NodeSame n = of-node (unmarked_node n) ≡ of-node n

  nodes-same : (ns : List ((n : Node) × NodeSame n)) → map of-node (map unmarked_node (map (λ n. n.0) ns)) ≡ map of-node (map (λ n. n.0) ns)
  nodes-same [] = refl
  nodes-same (n ∷ ns) = ap (λ o. o ∷ map of-node (map unmarked_node (map (λ n. n.0) ns))) n.1 ∙ ap (λ os. of-node n.0 ∷ os) (nodes-same ns)

  graphs-same : (gs : List ((g : Graph) × Same g)) → map of (map unmarked (map (λ g. g.0) gs)) ≡ map of (map (λ g. g.0) gs)
  graphs-same [] = refl
  graphs-same (g ∷ gs) = ap (λ o. o ∷ map of (map unmarked (map (λ g. g.0) gs))) g.1 ∙ ap (λ os. of g.0 ∷ os) (graphs-same gs)

  graph-same : (g : Graph) → map of-node (map unmarked_node (out-Graph g).nodes) ≡ map of-node (out-Graph g).nodes → Same g
  graph-same g h =
      of-at (unmarked g)
      ∙ (ap (λ (x : Graph-F Graph Node). gs (record { number = x.number; exported = x.exported; name = x.name; fun = x.fun; nodes = map of-node x.nodes; edges = x.edges })) (unmarked-at g)
      ∙ (ap (λ os. gs (record { number = (out-Graph g).number; exported = (out-Graph g).exported; name = (out-Graph g).name; fun = (out-Graph g).fun; nodes = os; edges = map untaken (out-Graph g).edges })) h
      ∙ (no-takers (record { number = (out-Graph g).number; exported = (out-Graph g).exported; name = (out-Graph g).name; fun = (out-Graph g).fun; nodes = map of-node (out-Graph g).nodes; edges = (out-Graph g).edges })
      ∙ sym (of-at g))))

  node-same : (n : Node) → map of (map unmarked (out-Node n).subs) ≡ map of (out-Node n).subs → NodeSame n
  node-same n h =
      of-node-at (unmarked_node n)
      ∙ (ap (λ (x : Node-F Graph Node). ns (record { label = x.label; op = x.op; subs = map of x.subs; assoc = x.assoc; before = x.before; name = x.name })) (unmarked-node-at n)
      ∙ (ap (λ os. ns (record { label = (out-Node n).label; op = (out-Node n).op; subs = os; assoc = (out-Node n).assoc; before = []; name = (out-Node n).name })) h
      ∙ (no-lists (record { label = (out-Node n).label; op = (out-Node n).op; subs = map of (out-Node n).subs; assoc = (out-Node n).assoc; before = (out-Node n).before; name = (out-Node n).name })
      ∙ sym (of-node-at n))))

  graph-layer : (y : Graph-F ((g : Graph) × Same g) ((n : Node) × NodeSame n)) → Same (roll-Graph (map-Graph ((g : Graph) × Same g) ((n : Node) × NodeSame n) Graph Node (λ g. g.0) (λ n. n.0) y))
  graph-layer y =
      let x : Graph-F Graph Node = map-Graph ((g : Graph) × Same g) ((n : Node) × NodeSame n) Graph Node (λ g. g.0) (λ n. n.0) y in
      graph-same (roll-Graph x) (subst (λ (z : Graph-F Graph Node). map of-node (map unmarked_node z.nodes) ≡ map of-node z.nodes) (sym (out-roll-Graph x)) (nodes-same y.nodes))

  node-layer : (y : Node-F ((g : Graph) × Same g) ((n : Node) × NodeSame n)) → NodeSame (roll-Node (map-Node ((g : Graph) × Same g) ((n : Node) × NodeSame n) Graph Node (λ g. g.0) (λ n. n.0) y))
  node-layer y =
      let x : Node-F Graph Node = map-Node ((g : Graph) × Same g) ((n : Node) × NodeSame n) Graph Node (λ g. g.0) (λ n. n.0) y in
      node-same (roll-Node x) (subst (λ (z : Node-F Graph Node). map of (map unmarked z.subs) ≡ map of z.subs) (sym (out-roll-Node x)) (graphs-same y.subs))

  fold-same : (g : Graph) → of (unmarked g) ≡ of g
  fold-same = ind-Graph Same NodeSame (λ x y is. subst (λ z. Same (roll-Graph z)) is (graph-layer y)) (λ x y is. subst (λ z. NodeSame (roll-Node z)) is (node-layer y))

pub size-same : (g : Graph) → size (unmarked g) ≡ size g
size-same = fold-same ℕ ℕ (λ g. suc (sum g.nodes)) (λ n. sum n.subs) (λ x. refl) (λ y. refl)

pub levels-same : (g : Graph) → levels (unmarked g) ≡ levels g
levels-same = fold-same ℕ ℕ (λ g. greatest g.nodes) (λ n. level_below n.subs) (λ x. refl) (λ y. refl)

twice : (es : List Edge) → map untaken (map untaken es) ≡ map untaken es
twice [] = refl
twice (e ∷ es) = ap (λ fs. untaken e ∷ fs) (twice es)

-- without marks nothing more is left out
pub unmarked-twice : (g : Graph) → unmarked (unmarked g) ≡ unmarked g
unmarked-twice =
    fold-same Graph Node with_edges without_list
    (λ x. ap (λ es. roll-Graph (record { number = x.number; exported = x.exported; name = x.name; fun = x.fun; nodes = x.nodes; edges = es })) (twice x.edges))
    (λ y. refl)

-- ---- alike

abbrev pub Bare : Graph → Graph → Type 0
Bare g h = unmarked g ≡ unmarked h

abbrev pub BareNode : Node → Node → Type 0
BareNode n m = unmarked_node n ≡ unmarked_node m

abbrev pub Alike : Unit1 → Unit1 → Type 0
Alike u v = unmarked_unit u ≡ unmarked_unit v

pub over-graph : {X : Type 0} (f : Graph → X) → ((g : Graph) → f (unmarked g) ≡ f g) → (g h : Graph) → Bare g h → f g ≡ f h
over-graph f same g h e = sym (same g) ∙ (ap f e ∙ same h)

pub over-node : {X : Type 0} (f : Node → X) → ((n : Node) → f (unmarked_node n) ≡ f n) → (n m : Node) → BareNode n m → f n ≡ f m
over-node f same n m e = sym (same n) ∙ (ap f e ∙ same m)

pub over-unit : {X : Type 0} (f : Unit1 → X) → ((u : Unit1) → f (unmarked_unit u) ≡ f u) → (u v : Unit1) → Alike u v → f u ≡ f v
over-unit f same u v e = sym (same u) ∙ (ap f e ∙ same v)

pub over-both : {X : Type 0} (f : Unit1 → Graph → X) → ((u : Unit1) (g : Graph) → f (unmarked_unit u) (unmarked g) ≡ f u g) → (u v : Unit1) → Alike u v → (g h : Graph) → Bare g h → f u g ≡ f v h
over-both f same u v a g h e = sym (same u g) ∙ (ap (λ w. f w (unmarked g)) a ∙ (ap (f (unmarked_unit v)) e ∙ same v h))

pub over-list : {X : Type 0} (f : Unit1 → List Graph → X) → ((u : Unit1) (gs : List Graph) → f (unmarked_unit u) (map unmarked gs) ≡ f u gs) → (u v : Unit1) → Alike u v → (gs hs : List Graph) → map unmarked gs ≡ map unmarked hs → f u gs ≡ f v hs
over-list f same u v a gs hs e = sym (same u gs) ∙ (ap (λ w. f w (map unmarked gs)) a ∙ (ap (f (unmarked_unit v)) e ∙ same v hs))

pub over-three : {X : Type 0} (f : Unit1 → Graph → Node → X) → ((u : Unit1) (g : Graph) (n : Node) → f (unmarked_unit u) (unmarked g) (unmarked_node n) ≡ f u g n) → (u v : Unit1) → Alike u v → (g h : Graph) → Bare g h → (n m : Node) → BareNode n m → f u g n ≡ f v h m
over-three f same u v a g h e n m k = sym (same u g n) ∙ (ap (λ w. f w (unmarked g) (unmarked_node n)) a ∙ (ap (λ x. f (unmarked_unit v) x (unmarked_node n)) e ∙ (ap (f (unmarked_unit v) (unmarked h)) k ∙ same v h m)))

-- ---- nodes

pub op-same : (n : Node) → (out-Node (unmarked_node n)).op ≡ (out-Node n).op
op-same n = ap (λ (x : Node-F Graph Node). x.op) (unmarked-node-at n)

pub assoc-same : (n : Node) → (out-Node (unmarked_node n)).assoc ≡ (out-Node n).assoc
assoc-same n = ap (λ (x : Node-F Graph Node). x.assoc) (unmarked-node-at n)

pub node-name-same : (n : Node) → (out-Node (unmarked_node n)).name ≡ (out-Node n).name
node-name-same n = ap (λ (x : Node-F Graph Node). x.name) (unmarked-node-at n)

pub subs-like : (n m : Node) → BareNode n m → map unmarked (out-Node n).subs ≡ map unmarked (out-Node m).subs
subs-like n m e = sym (subs-same n) ∙ (ap (λ x. (out-Node x).subs) e ∙ subs-same m)

-- ---- graphs

pub number-same : (g : Graph) → (out-Graph (unmarked g)).number ≡ (out-Graph g).number
number-same g = ap (λ (x : Graph-F Graph Node). x.number) (unmarked-at g)

pub exported-same : (g : Graph) → (out-Graph (unmarked g)).exported ≡ (out-Graph g).exported
exported-same g = ap (λ (x : Graph-F Graph Node). x.exported) (unmarked-at g)

pub fun-same : (g : Graph) → (out-Graph (unmarked g)).fun ≡ (out-Graph g).fun
fun-same g = ap (λ (x : Graph-F Graph Node). x.fun) (unmarked-at g)

pub edges-same : (g : Graph) → (out-Graph (unmarked g)).edges ≡ map untaken (out-Graph g).edges
edges-same g = ap (λ (x : Graph-F Graph Node). x.edges) (unmarked-at g)

pub nodes-are : (g : Graph) → (out-Graph (unmarked g)).nodes ≡ map unmarked_node (out-Graph g).nodes
nodes-are g = ap (λ (x : Graph-F Graph Node). x.nodes) (unmarked-at g)

pub edges-like : (g h : Graph) → Bare g h → map untaken (out-Graph g).edges ≡ map untaken (out-Graph h).edges
edges-like g h e = sym (edges-same g) ∙ (ap (λ x. (out-Graph x).edges) e ∙ edges-same h)

pub nodes-like : (g h : Graph) → Bare g h → map unmarked_node (out-Graph g).nodes ≡ map unmarked_node (out-Graph h).nodes
nodes-like g h e = sym (nodes-are g) ∙ (ap (λ x. (out-Graph x).nodes) e ∙ nodes-are h)

pub into-like : (g h : Graph) → Bare g h → (l : ℕ) → map untaken (edges_into g l) ≡ map untaken (edges_into h l)
into-like g h e l =
    sym (filter-mapped untaken (λ e. e.node == l) (λ e. refl) (out-Graph g).edges)
    ∙ (ap (filter (λ e. e.node == l)) (edges-like g h e) ∙ filter-mapped untaken (λ e. e.node == l) (λ e. refl) (out-Graph h).edges)

pub from-like : (g h : Graph) → Bare g h → (l port : ℕ) → map untaken (edges_from g l port) ≡ map untaken (edges_from h l port)
from-like g h e l port = sym (edges-from-same g l port) ∙ (ap (λ x. edges_from x l port) e ∙ edges-from-same h l port)

pub ports-like : (g h : Graph) → Bare g h → (l : ℕ) → ports_into g l ≡ ports_into h l
ports-like g h e l = over-all untaken (λ e. e.port) (λ e. refl) (edges_into g l) (edges_into h l) (into-like g h e l)

pub node-at-like : (g h : Graph) → Bare g h → (l : ℕ) → option_map unmarked_node (node_at (out-Graph g).nodes l) ≡ option_map unmarked_node (node_at (out-Graph h).nodes l)
node-at-like g h e l = sym (node-at-same g l) ∙ (ap (λ x. node_at (out-Graph x).nodes l) e ∙ node-at-same h l)

pub labels-like : (g h : Graph) → Bare g h → map label_of (out-Graph g).nodes ≡ map label_of (out-Graph h).nodes
labels-like g h e = over-all unmarked_node label_of label-same (out-Graph g).nodes (out-Graph h).nodes (nodes-like g h e)

pub ends-like : (g h : Graph) → Bare g h → ends g ≡ ends h
ends-like g h e =
    ap (λ ls. 0 ∷ ls ++ map (λ e. e.node) (out-Graph g).edges) (labels-like g h e)
    ∙ ap (λ ls. 0 ∷ map label_of (out-Graph h).nodes ++ ls) (over-all untaken (λ e. e.node) (λ e. refl) (out-Graph g).edges (out-Graph h).edges (edges-like g h e))

abbrev SameAt : {A B : Type 0} (f : A → A) (F : A → Option B) → Type 0
SameAt {A = A} f F = (x : A) → F (f x) ≡ F x

bound-same : {A B : Type 0} (f : A → A) (F : A → Option B) → SameAt f F → (o : Option A) → (option_map f o >>= F) ≡ (o >>= F)
bound-same f F same None = refl
bound-same f F same (Some x) = same x

pub literal-same : (g : Graph) (l port : ℕ) → literal_at (unmarked g) l port ≡ literal_at g l port
literal-same g l port = ap (λ o. o >>= λ e. text_of e.from) (edge-into-same g l port) ∙ bound-same untaken (λ e. text_of e.from) (λ e. refl) (edge_into g l port)

pub want-same : (g : Graph) (l port : ℕ) → want_at (unmarked g) l port ≡ want_at g l port
want-same g l port =
    ap (λ o. o >>= λ n. simple_at (out-Node n).op >>= λ op. operand_of op port >>= λ operand. Some operand.1) (node-at-same g l)
    ∙ bound-same unmarked_node (λ n. simple_at (out-Node n).op >>= λ op. operand_of op port >>= λ operand. Some operand.1)
    (λ n. ap (λ k. simple_at k >>= λ op. operand_of op port >>= λ operand. Some operand.1) (op-same n)) (node_at (out-Graph g).nodes l)

pub carried-same : (l port : ℕ) (u : Unit1) (g : Graph) → carried (unmarked_unit u) (unmarked g) l port ≡ carried u g l port
carried-same l port u g = ap (λ o. o >>= λ e. sort_at u.types e.ty) (edge-into-same g l port) ∙ bound-same untaken (λ e. sort_at u.types e.ty) (λ e. refl) (edge_into g l port)

pub named-same : (gs : List Graph) (name : List ℕ) → function_named (map unmarked gs) name ≡ option_map unmarked (function_named gs name)
named-same gs name = found-mapped unmarked (λ g. bytes_eq (out-Graph g).name name) (λ g. bytes_eq (out-Graph g).name name) (λ g. ap (λ s. bytes_eq s name) (name-same g)) gs

pub named-like : (u v : Unit1) → Alike u v → (name : List ℕ) → option_map unmarked (function_named u.graphs name) ≡ option_map unmarked (function_named v.graphs name)
named-like u v a name = sym (named-same u.graphs name) ∙ (ap (λ (w : Unit1). function_named w.graphs name) a ∙ named-same v.graphs name)

pub callee-same : (l : ℕ) (u : Unit1) (g : Graph) → callee (unmarked_unit u) (unmarked g) l ≡ callee u g l
callee-same l u g = ap (λ o. o >>= λ name. function_named (map unmarked u.graphs) name >>= λ f. sort_at u.types (out-Graph f).fun) (literal-same g l 1) ∙ go (literal_at g l 1)
  where
    go : (o : Option (List ℕ)) → (o >>= λ name. function_named (map unmarked u.graphs) name >>= λ f. sort_at u.types (out-Graph f).fun) ≡ (o >>= λ name. function_named u.graphs name >>= λ f. sort_at u.types (out-Graph f).fun)
    go None = refl
    go (Some name) =
        ap (λ o. o >>= λ f. sort_at u.types (out-Graph f).fun) (named-same u.graphs name)
        ∙ bound-same unmarked (λ f. sort_at u.types (out-Graph f).fun) (λ f. ap (sort_at u.types) (fun-same f)) (function_named u.graphs name)

pub known-same : (l : ℕ) (u : Unit1) (g : Graph) → known (unmarked_unit u) (unmarked g) l ≡ known u g l
known-same l u g = λ j. record {
  at = λ port. carried-same l port u g j;
  callee = callee-same l u g j;
  reducer = ap (λ o. o >>= reducer_at) (literal-same g l 1) j;
}

-- ---- graphs in nodes

pub results-same : (g : Graph) → results (unmarked g) ≡ results g
results-same g = width-same g 0

pub results-at-same : (gs : List Graph) (k : ℕ) → results_at (map unmarked gs) k ≡ results_at gs k
results-at-same gs k = ap (λ o. unwrap_or (option_map results o) 0) (slice-mapped unmarked gs k) ∙ go (slice_get gs k)
  where
    go : (o : Option Graph) → unwrap_or (option_map results (option_map unmarked o)) 0 ≡ unwrap_or (option_map results o) 0
    go None = refl
    go (Some g) = results-same g

pub most-same : (gs : List Graph) → most_results (map unmarked gs) ≡ most_results gs
most-same gs = ap greatest (over-mapped unmarked results results-same gs)

pub most-but-first-same : (gs : List Graph) → most_results (drop 1 (map unmarked gs)) ≡ most_results (drop 1 gs)
most-but-first-same gs = ap most_results (drop-mapped unmarked 1 gs) ∙ most-same (drop 1 gs)

pub compound-outputs-same : (c : Compound) (gs : List Graph) → compound_outputs c (map unmarked gs) ≡ compound_outputs c gs
compound-outputs-same compound.Select gs = most-but-first-same gs
compound-outputs-same compound.TagCase gs = most-same gs
compound-outputs-same compound.ForAll gs = results-at-same gs 2
compound-outputs-same compound.LoopA gs = results-at-same gs 3
compound-outputs-same compound.LoopB gs = results-at-same gs 3

pub result-of-same : (k port : ℕ) (u : Unit1) (gs : List Graph) → result_of (unmarked_unit u) (map unmarked gs) k port ≡ result_of u gs k port
result-of-same k port u gs = ap (λ o. o >>= λ g. carried (unmarked_unit u) g 0 port) (slice-mapped unmarked gs k) ∙ go (slice_get gs k)
  where
    go : (o : Option Graph) → (option_map unmarked o >>= λ g. carried (unmarked_unit u) g 0 port) ≡ (o >>= λ g. carried u g 0 port)
    go None = refl
    go (Some g) = carried-same 0 port u g

pub part-inputs-same : (c : Compound) (p : Part) (k : ℕ) (gs : List Graph) → part_inputs c p k (map unmarked gs) ≡ part_inputs c p k gs
part-inputs-same c part.Test k gs = ap (λ n. k + n) (results-at-same gs 0)
part-inputs-same c part.Body k gs = ap (λ n. k + n) (results-at-same gs 0)
part-inputs-same compound.ForAll part.Returns k gs = ap (λ n. k + n + results_at (map unmarked gs) 1) (results-at-same gs 0) ∙ ap (λ n. k + results_at gs 0 + n) (results-at-same gs 1)
part-inputs-same compound.Select part.Returns k gs = ap (λ n. k + n) (results-at-same gs 0)
part-inputs-same compound.TagCase part.Returns k gs = ap (λ n. k + n) (results-at-same gs 0)
part-inputs-same compound.LoopA part.Returns k gs = ap (λ n. k + n) (results-at-same gs 0)
part-inputs-same compound.LoopB part.Returns k gs = ap (λ n. k + n) (results-at-same gs 0)
part-inputs-same c part.Selector k gs = refl
part-inputs-same c part.Alternative k gs = refl
part-inputs-same c part.Arm k gs = refl
part-inputs-same c part.Generator k gs = refl
part-inputs-same c part.Initialization k gs = refl

pub part-results-same : (c : Compound) (p : Part) (own : ℕ) (gs : List Graph) → part_results c p (map unmarked gs) own ≡ part_results c p gs own
part-results-same c part.Selector own gs = refl
part-results-same c part.Test own gs = refl
part-results-same c part.Alternative own gs = most-but-first-same gs
part-results-same c part.Arm own gs = most-same gs
part-results-same c part.Generator own gs = refl
part-results-same compound.ForAll part.Body own gs = refl
part-results-same compound.Select part.Body own gs = results-at-same gs 0
part-results-same compound.TagCase part.Body own gs = results-at-same gs 0
part-results-same compound.LoopA part.Body own gs = results-at-same gs 0
part-results-same compound.LoopB part.Body own gs = results-at-same gs 0
part-results-same c part.Initialization own gs = refl
part-results-same c part.Returns own gs = refl

-- ---- what depends on a graph's node or home

given-outputs-same : (u : Unit1) (g : Graph) (l : ℕ) (gives : Gives) → given_outputs (unmarked_unit u) (unmarked g) l gives ≡ given_outputs u g l gives
given-outputs-same u g l (One a) = refl
given-outputs-same u g l (Pair a b) = refl
given-outputs-same u g l Results = ap (λ s. option_map length (results_of s)) (callee-same l u g)
given-outputs-same u g l AllFields = ap (λ s. option_map length (fields_of s)) (carried-same l 1 u g)

outputs-as-same : (u : Unit1) (g : Graph) (n : Node) (c : Option Compound) (op : Option Simple) → outputs_as (unmarked_unit u) (unmarked g) (unmarked_node n) c op ≡ outputs_as u g n c op
outputs-as-same u g n (Some c) op = ap Some (ap (compound_outputs c) (subs-same n) ∙ compound-outputs-same c (out-Node n).subs)
outputs-as-same u g n None (Some op) = ap (λ l. given_outputs (unmarked_unit u) (unmarked g) l (row_of op).gives) (label-same n) ∙ given-outputs-same u g (label_of n) (row_of op).gives
outputs-as-same u g n None None = refl

pub outputs-same : (u : Unit1) (g : Graph) (n : Node) → outputs (unmarked_unit u) (unmarked g) (unmarked_node n) ≡ outputs u g n
outputs-same u g n = ap (λ o. outputs_as (unmarked_unit u) (unmarked g) (unmarked_node n) (compound_at o) (simple_at o)) (op-same n) ∙ outputs-as-same u g n (compound_at (out-Node n).op) (simple_at (out-Node n).op)

pub width-here : (outer : Graph) (n : Node) → width (unmarked outer) (label_of (unmarked_node n)) ≡ width outer (label_of n)
width-here outer n = ap (width (unmarked outer)) (label-same n) ∙ width-same outer (label_of n)

abbrev at_home : Graph → Home → Place
at_home g home = record { graph = g; home = home }

pub inputs-same : (u : Unit1) (g : Graph) (home : Home) → inputs (unmarked_unit u) (at_home (unmarked g) (unmarked_home home)) ≡ inputs u (at_home g home)
inputs-same u g (Function k) = ap (λ l. option_map length (arguments_of (sort_at u.types l))) (fun-same g)
inputs-same u g (Inside outer n k) =
    ap (λ o. option_map (λ cp. part_inputs cp.0 cp.1 (width (unmarked outer) (label_of (unmarked_node n))) (out-Node (unmarked_node n)).subs) o) (part-same n k) ∙ go (part_of n k)
  where
    go : (o : Option (Compound × Part)) → option_map (λ (cp : Compound × Part). part_inputs cp.0 cp.1 (width (unmarked outer) (label_of (unmarked_node n))) (out-Node (unmarked_node n)).subs) o ≡ option_map (λ (cp : Compound × Part). part_inputs cp.0 cp.1 (width outer (label_of n)) (out-Node n).subs) o
    go None = refl
    go (Some cp) =
        ap Some (ap (λ w. part_inputs cp.0 cp.1 w (out-Node (unmarked_node n)).subs) (width-here outer n)
        ∙ (ap (part_inputs cp.0 cp.1 (width outer (label_of n))) (subs-same n) ∙ part-inputs-same cp.0 cp.1 (width outer (label_of n)) (out-Node n).subs))

pub wanted-results-same : (u : Unit1) (g : Graph) (home : Home) → wanted_results (unmarked_unit u) (at_home (unmarked g) (unmarked_home home)) ≡ wanted_results u (at_home g home)
wanted-results-same u g (Function k) =
    ap (λ l. unwrap_or (option_map length (results_of (sort_at u.types l))) (results (unmarked g))) (fun-same g)
    ∙ ap (unwrap_or (option_map length (results_of (sort_at u.types (out-Graph g).fun)))) (results-same g)
wanted-results-same u g (Inside outer n k) =
    ap (λ o. unwrap_or (option_map (λ cp. part_results cp.0 cp.1 (out-Node (unmarked_node n)).subs (results (unmarked g))) o) (results (unmarked g))) (part-same n k) ∙ go (part_of n k)
  where
    go : (o : Option (Compound × Part)) → unwrap_or (option_map (λ (cp : Compound × Part). part_results cp.0 cp.1 (out-Node (unmarked_node n)).subs (results (unmarked g))) o) (results (unmarked g)) ≡ unwrap_or (option_map (λ (cp : Compound × Part). part_results cp.0 cp.1 (out-Node n).subs (results g)) o) (results g)
    go None = results-same g
    go (Some cp) =
        ap (λ gs. part_results cp.0 cp.1 gs (results (unmarked g))) (subs-same n)
        ∙ (part-results-same cp.0 cp.1 (results (unmarked g)) (out-Node n).subs ∙ ap (part_results cp.0 cp.1 (out-Node n).subs) (results-same g))

-- ---- numbers

sizes-same : (gs : List Graph) → sizes (map unmarked gs) ≡ sizes gs
sizes-same gs = ap sum (over-mapped unmarked size size-same gs)

flat-subs : (ns : List Node) → flat_map (λ n. (out-Node n).subs) (map unmarked_node ns) ≡ map unmarked (flat_map (λ n. (out-Node n).subs) ns)
flat-subs [] = refl
flat-subs (n ∷ ns) =
    ap (λ gs. gs ++ flat_map (λ n. (out-Node n).subs) (map unmarked_node ns)) (subs-same n)
    ∙ (ap (λ gs. map unmarked (out-Node n).subs ++ gs) (flat-subs ns) ∙ sym (map-both (out-Node n).subs (flat_map (λ n. (out-Node n).subs) ns)))
  where
    map-both : (xs ys : List Graph) → map unmarked (xs ++ ys) ≡ map unmarked xs ++ map unmarked ys
    map-both [] ys = refl
    map-both (x ∷ xs) ys = ap (λ zs. unmarked x ∷ zs) (map-both xs ys)

size-before-same : (ns : List Node) (l : ℕ) → size_before (map unmarked_node ns) l ≡ size_before ns l
size-before-same ns l =
    ap (λ ms. sizes (flat_map (λ n. (out-Node n).subs) ms)) (filter-mapped unmarked_node (λ n. nat_lt (label_of n) l) (λ n. ap (λ k. nat_lt k l) (label-same n)) ns)
    ∙ (ap sizes (flat-subs (filter (λ n. nat_lt (label_of n) l) ns)) ∙ sizes-same (flat_map (λ n. (out-Node n).subs) (filter (λ n. nat_lt (label_of n) l) ns)))

taken-same : (k : ℕ) (gs : List Graph) → sizes (take k (map unmarked gs)) ≡ sizes (take k gs)
taken-same k gs = ap sizes (take-mapped unmarked k gs) ∙ sizes-same (take k gs)

pub graphs-before-same : (u : Unit1) (home : Home) → graphs_before (unmarked_unit u) (unmarked_home home) ≡ graphs_before u home
graphs-before-same u (Function k) = taken-same k u.graphs
graphs-before-same u (Inside outer n k) =
    ap (λ a. a + size_before (out-Graph (unmarked outer)).nodes (label_of (unmarked_node n)) + sizes (take k (out-Node (unmarked_node n)).subs)) (number-same outer)
    ∙ (ap (λ ns. (out-Graph outer).number + size_before ns (label_of (unmarked_node n)) + sizes (take k (out-Node (unmarked_node n)).subs)) (nodes-are outer)
    ∙ (ap (λ l. (out-Graph outer).number + size_before (map unmarked_node (out-Graph outer).nodes) l + sizes (take k (out-Node (unmarked_node n)).subs)) (label-same n)
    ∙ (ap (λ a. (out-Graph outer).number + a + sizes (take k (out-Node (unmarked_node n)).subs)) (size-before-same (out-Graph outer).nodes (label_of n))
    ∙ ap (λ a. (out-Graph outer).number + size_before (out-Graph outer).nodes (label_of n) + a) (ap (λ gs. sizes (take k gs)) (subs-same n) ∙ taken-same k (out-Node n).subs))))

-- ---- homes

pub data HomesAlike : Home → Home → Type 0 where
  functions : (k : ℕ) → HomesAlike (Function k) (Function k)
  insides : (outer other : Graph) (n m : Node) (k : ℕ) → Bare outer other → BareNode n m → HomesAlike (Inside outer n k) (Inside other m k)

no-function : (k : ℕ) (outer : Graph) (n : Node) (j : ℕ) → Function k ≡ Inside outer n j → ⊥
no-function k outer n j e = cc

place-same : (k j : ℕ) → Function k ≡ Function j → k ≡ j
place-same k j e = cc

pub homes-alike : (a b : Home) → unmarked_home a ≡ unmarked_home b → HomesAlike a b
homes-alike (Function k) (Function j) e = subst (λ i. HomesAlike (Function k) (Function i)) (place-same k j e) (functions k)
homes-alike (Function k) (Inside outer n j) e = absurd (no-function k (unmarked outer) (unmarked_node n) j e)
homes-alike (Inside outer n j) (Function k) e = absurd (no-function k (unmarked outer) (unmarked_node n) j (sym e))
homes-alike (Inside outer n k) (Inside other m j) e =
    let outers : unmarked outer ≡ unmarked other = cc in
    let nodes : unmarked_node n ≡ unmarked_node m = cc in
    let places : k ≡ j = cc in
    subst (λ i. HomesAlike (Inside outer n k) (Inside other m i)) places (insides outer other n m k outers nodes)
