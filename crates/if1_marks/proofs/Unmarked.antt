-- The storage rules look at no marks.
use Rattle.std.proofs.Common.{◌≡◌, ℕ, zero, suc, ◌-◌, ◌+◌, Bool, true, false, ◌&&◌, ◌||◌, not, List, [], ◌∷◌, ◌++◌, All, map, find, length, option_map, Option, Some, None, refl, sym, ap, ◌∙◌, subst, cond, if◌then◌else◌, ◌==◌}
use Rattle.std.specs.Prelude.{bytes_eq, is_none, nat_lt}
use Rattle.std.specs.List.{list_any, list_all, filter, flat_map}
use Rattle.std.proofs.lemmas.List.Elements.{All-nil, All-cons}
use Rattle.if1_graph.specs.declared.graph.Edge.{Edge}
use Rattle.if1_graph.specs.declared.graph.Graph.{Graph}
use Rattle.if1_graph.specs.declared.graph.Graph.TheViews.{out-Graph, roll-Graph, roll-out-Graph, roll-out-Node, out-roll-Graph, out-roll-Node}
use Rattle.if1_graph.specs.declared.graph.Graph.TheOpen.{Graph-F, Node-F}
use Rattle.if1_graph.specs.declared.graph.Graph.TheFolds.{fold-roll-Graph, fold-roll-Node, map-Graph, map-Node, ind-Graph, ind-Node}
use Rattle.if1_graph.specs.declared.graph.Node.{Node, roll-Node, out-Node}
use Rattle.if1_graph.specs.declared.graph.Origin.{Origin}
use Rattle.if1_graph.specs.declared.graph.Origin.TheVariants.{Port, Lit}
use Rattle.if1_graph.specs.declared.graph.TypeEntry.{TypeEntry}
use Rattle.if1_graph.specs.declared.graph.Unit1.{Unit1}
use Rattle.if1_graph.specs.Ops.{simple_at, compound_at}
use Rattle.if1_graph.specs.Ports.{leaves, edges_from, results_at, part_of, literal_at, text_of}
use Rattle.if1_graph.specs.Tables.{◌>>=◌}
use Rattle.if1_graph.specs.declared.op.Compound.{Compound}
use Rattle.if1_graph.specs.declared.op.Compound.TheVariants as compound
use Rattle.if1_graph.specs.declared.op.Part.{Part}
use Rattle.if1_graph.specs.declared.op.Part.TheVariants as part
use Rattle.if1_graph.specs.Parts.{part_at}
use Rattle.if1_graph.specs.Units.{label_of, greatest, node_at, edge_into, width, Home, Function, Inside as In, Place, places, places_of, each_from, most_levels}
use Rattle.if1_graph.specs.Formed.{function_named}
use Rattle.if1_marks.specs.Aggregates.{is_aggregate}
use Rattle.if1_marks.specs.Given.{Inside, Operands, node_step, inside, operands, is_consuming_in, is_call_as, is_call, is_consumed_by, is_given_inside, is_used_inside, called, is_given_to_called, consumes_node, consumes}
use Rattle.if1_marks.specs.Owned.{users, has_one_edge, is_final_value, is_last_value, is_last_wanted, is_read_in_turns, is_own, is_made, is_owned_in_body, is_owned_in_returns, is_owned_in, is_owned_as, is_input_owned, is_owned}
use Rattle.if1_marks.specs.Laws.{AreMarksNotLookedAt, AreUnmarkedWithout}
use Rattle.if1_marks.specs.Unmarked.{untaken, with_edges, without_list, unmarked, unmarked_node, unmarked_unit, unmarked_home, unmarked_place}
use Rattle.if1_marks.proofs.Consumed.{inside-at, operands-at}

-- ---- one level

pub unmarked-at : (g : Graph) → out-Graph (unmarked g) ≡ record { number = (out-Graph g).number; exported = (out-Graph g).exported; name = (out-Graph g).name; fun = (out-Graph g).fun; nodes = map unmarked_node (out-Graph g).nodes; edges = map untaken (out-Graph g).edges }
unmarked-at g =
    ap out-Graph (ap unmarked (sym (roll-out-Graph g)) ∙ fold-roll-Graph Graph Node with_edges without_list (out-Graph g))
    ∙ out-roll-Graph (record { number = (out-Graph g).number; exported = (out-Graph g).exported; name = (out-Graph g).name; fun = (out-Graph g).fun; nodes = map unmarked_node (out-Graph g).nodes; edges = map untaken (out-Graph g).edges })

pub unmarked-node-at : (n : Node) → out-Node (unmarked_node n) ≡ record { label = (out-Node n).label; op = (out-Node n).op; subs = map unmarked (out-Node n).subs; assoc = (out-Node n).assoc; before = []; name = (out-Node n).name }
unmarked-node-at n =
    ap out-Node (ap unmarked_node (sym (roll-out-Node n)) ∙ fold-roll-Node Graph Node with_edges without_list (out-Node n))
    ∙ out-roll-Node (record { label = (out-Node n).label; op = (out-Node n).op; subs = map unmarked (out-Node n).subs; assoc = (out-Node n).assoc; before = []; name = (out-Node n).name })

-- ---- the recursion

pub any-untaken : (p : Edge → Bool) → ((e : Edge) → p (untaken e) ≡ p e) → (es : List Edge) → list_any p (map untaken es) ≡ list_any p es
any-untaken p same [] = refl
any-untaken p same (e ∷ es) = ap (λ b. b || list_any p (map untaken es)) (same e) ∙ ap (λ b. p e || b) (any-untaken p same es)

module _ (ts : List TypeEntry) where
  abbrev Same : Graph → Type 0
  Same g = inside ts (unmarked g) ≡ inside ts g

  abbrev NodeSame : Node → Type 0
  NodeSame n = operands ts (unmarked_node n) ≡ operands ts n

  nodes-same : (ns : List ((n : Node) × NodeSame n)) → map (operands ts) (map unmarked_node (map (λ n. n.0) ns)) ≡ map (operands ts) (map (λ n. n.0) ns)
  nodes-same [] = refl
  nodes-same (n ∷ ns) = ap (λ o. o ∷ map (operands ts) (map unmarked_node (map (λ n. n.0) ns))) n.1 ∙ ap (λ os. operands ts n.0 ∷ os) (nodes-same ns)

  graphs-same : (gs : List ((g : Graph) × Same g)) → map (inside ts) (map unmarked (map (λ g. g.0) gs)) ≡ map (inside ts) (map (λ g. g.0) gs)
  graphs-same [] = refl
  graphs-same (g ∷ gs) = ap (λ o. o ∷ map (inside ts) (map unmarked (map (λ g. g.0) gs))) g.1 ∙ ap (λ os. inside ts g.0 ∷ os) (graphs-same gs)

  -- a level of edges with the nodes known
  abbrev level : List Operands → List Edge → Inside
  level os es = record { is_used = λ port. list_any (λ e. leaves 0 port e.from) es; is_given = λ port. list_any (λ e. leaves 0 port e.from && is_consuming_in ts os e) es }

  level-same : (os : List Operands) (es : List Edge) → level os (map untaken es) ≡ level os es
  level-same os es = λ j. record {
    is_used = λ port. any-untaken (λ e. leaves 0 port e.from) (λ e. refl) es j;
    is_given = λ port. any-untaken (λ e. leaves 0 port e.from && is_consuming_in ts os e) (λ e. refl) es j;
  }

  graph-same : (g : Graph) → map (operands ts) (map unmarked_node (out-Graph g).nodes) ≡ map (operands ts) (out-Graph g).nodes → Same g
  graph-same g h =
      inside-at ts (unmarked g)
      ∙ (ap (λ (x : Graph-F Graph Node). level (map (operands ts) x.nodes) x.edges) (unmarked-at g)
      ∙ (ap (λ os. level os (map untaken (out-Graph g).edges)) h
      ∙ (level-same (map (operands ts) (out-Graph g).nodes) (out-Graph g).edges
      ∙ sym (inside-at ts g))))

  node-same : (n : Node) → map (inside ts) (map unmarked (out-Node n).subs) ≡ map (inside ts) (out-Node n).subs → NodeSame n
  node-same n h =
      operands-at ts (unmarked_node n)
      ∙ (ap (λ (x : Node-F Graph Node). node_step (record { label = x.label; op = x.op; subs = map (inside ts) x.subs; assoc = x.assoc; before = x.before; name = x.name })) (unmarked-node-at n)
      ∙ (ap (λ gs. node_step (record { label = (out-Node n).label; op = (out-Node n).op; subs = gs; assoc = (out-Node n).assoc; before = []; name = (out-Node n).name })) h
      ∙ sym (operands-at ts n)))

  graph-layer : (y : Graph-F ((g : Graph) × Same g) ((n : Node) × NodeSame n)) → Same (roll-Graph (map-Graph ((g : Graph) × Same g) ((n : Node) × NodeSame n) Graph Node (λ g. g.0) (λ n. n.0) y))
  graph-layer y =
      let x : Graph-F Graph Node = map-Graph ((g : Graph) × Same g) ((n : Node) × NodeSame n) Graph Node (λ g. g.0) (λ n. n.0) y in
      graph-same (roll-Graph x) (subst (λ (z : Graph-F Graph Node). map (operands ts) (map unmarked_node z.nodes) ≡ map (operands ts) z.nodes) (sym (out-roll-Graph x)) (nodes-same y.nodes))

  node-layer : (y : Node-F ((g : Graph) × Same g) ((n : Node) × NodeSame n)) → NodeSame (roll-Node (map-Node ((g : Graph) × Same g) ((n : Node) × NodeSame n) Graph Node (λ g. g.0) (λ n. n.0) y))
  node-layer y =
      let x : Node-F Graph Node = map-Node ((g : Graph) × Same g) ((n : Node) × NodeSame n) Graph Node (λ g. g.0) (λ n. n.0) y in
      node-same (roll-Node x) (subst (λ (z : Node-F Graph Node). map (inside ts) (map unmarked z.subs) ≡ map (inside ts) z.subs) (sym (out-roll-Node x)) (graphs-same y.subs))

  pub inside-same : (g : Graph) → inside ts (unmarked g) ≡ inside ts g
  inside-same = ind-Graph Same NodeSame (λ x y is. subst (λ z. Same (roll-Graph z)) is (graph-layer y)) (λ x y is. subst (λ z. NodeSame (roll-Node z)) is (node-layer y))

  pub operands-same : (n : Node) → operands ts (unmarked_node n) ≡ operands ts n
  operands-same = ind-Node Same NodeSame (λ x y is. subst (λ z. Same (roll-Graph z)) is (graph-layer y)) (λ x y is. subst (λ z. NodeSame (roll-Node z)) is (node-layer y))

-- ---- parts of a graph without its marks

pub label-same : (n : Node) → label_of (unmarked_node n) ≡ label_of n
label-same n = ap (λ (x : Node-F Graph Node). x.label) (unmarked-node-at n)

pub name-same : (g : Graph) → (out-Graph (unmarked g)).name ≡ (out-Graph g).name
name-same g = ap (λ (x : Graph-F Graph Node). x.name) (unmarked-at g)

pub found-mapped : {A B : Type 0} (f : A → B) (p : B → Bool) (q : A → Bool) → ((x : A) → p (f x) ≡ q x) → (xs : List A) → find p (map f xs) ≡ option_map f (find q xs)
found-mapped f p q same [] = refl
found-mapped f p q same (x ∷ xs) =
    ap (λ b. cond b (Some (f x)) (find p (map f xs))) (same x)
    ∙ (ap (λ o. cond (q x) (Some (f x)) o) (found-mapped f p q same xs)
    ∙ chosen (q x))
  where
    chosen : (b : Bool) → cond b (Some (f x)) (option_map f (find q xs)) ≡ option_map f (cond b (Some x) (find q xs))
    chosen true = refl
    chosen false = refl

pub filter-mapped : {A : Type 0} (f : A → A) (p : A → Bool) → ((x : A) → p (f x) ≡ p x) → (xs : List A) → filter p (map f xs) ≡ map f (filter p xs)
filter-mapped f p same [] = refl
filter-mapped f p same (x ∷ xs) =
    ap (λ b. cond b (f x ∷ filter p (map f xs)) (filter p (map f xs))) (same x)
    ∙ (ap (λ ys. cond (p x) (f x ∷ ys) ys) (filter-mapped f p same xs)
    ∙ chosen (p x))
  where
    chosen : (b : Bool) → cond b (f x ∷ map f (filter p xs)) (map f (filter p xs)) ≡ map f (cond b (x ∷ filter p xs) (filter p xs))
    chosen true = refl
    chosen false = refl

pub node-at-same : (g : Graph) (l : ℕ) → node_at (out-Graph (unmarked g)).nodes l ≡ option_map unmarked_node (node_at (out-Graph g).nodes l)
node-at-same g l =
    ap (λ (x : Graph-F Graph Node). node_at x.nodes l) (unmarked-at g)
    ∙ found-mapped unmarked_node (λ n. label_of n == l) (λ n. label_of n == l) (λ n. ap (λ k. k == l) (label-same n)) (out-Graph g).nodes

pub edge-into-same : (g : Graph) (l port : ℕ) → edge_into (unmarked g) l port ≡ option_map untaken (edge_into g l port)
edge-into-same g l port =
    ap (λ (x : Graph-F Graph Node). find (λ e. (e.node == l) && (e.port == port)) x.edges) (unmarked-at g)
    ∙ found-mapped untaken (λ e. (e.node == l) && (e.port == port)) (λ e. (e.node == l) && (e.port == port)) (λ e. refl) (out-Graph g).edges

pub edges-from-same : (g : Graph) (l port : ℕ) → edges_from (unmarked g) l port ≡ map untaken (edges_from g l port)
edges-from-same g l port =
    ap (λ (x : Graph-F Graph Node). filter (λ e. leaves l port e.from) x.edges) (unmarked-at g)
    ∙ filter-mapped untaken (λ e. leaves l port e.from) (λ e. refl) (out-Graph g).edges

pub over-untaken : {A : Type 0} (f : Edge → A) → ((e : Edge) → f (untaken e) ≡ f e) → (es : List Edge) → map f (map untaken es) ≡ map f es
over-untaken f same [] = refl
over-untaken f same (e ∷ es) = ap (λ x. x ∷ map f (map untaken es)) (same e) ∙ ap (λ xs. f e ∷ xs) (over-untaken f same es)

pub as-long : (es : List Edge) → length (map untaken es) ≡ length es
as-long [] = refl
as-long (e ∷ es) = ap suc (as-long es)

pub width-same : (g : Graph) (l : ℕ) → width (unmarked g) l ≡ width g l
width-same g l =
    ap (λ (x : Graph-F Graph Node). greatest (map (λ e. e.port) (filter (λ e. e.node == l) x.edges))) (unmarked-at g)
    ∙ (ap (λ es. greatest (map (λ e. e.port) es)) (filter-mapped untaken (λ e. e.node == l) (λ e. refl) (out-Graph g).edges)
    ∙ ap greatest (over-untaken (λ e. e.port) (λ e. refl) (filter (λ e. e.node == l) (out-Graph g).edges)))

used-same : (g : Graph) (port : ℕ) → is_used_inside (unmarked g) port ≡ is_used_inside g port
used-same g port =
    ap (λ (x : Graph-F Graph Node). list_any (λ e. leaves 0 port e.from) x.edges) (unmarked-at g)
    ∙ any-untaken (λ e. leaves 0 port e.from) (λ e. refl) (out-Graph g).edges

pub subs-same : (n : Node) → (out-Node (unmarked_node n)).subs ≡ map unmarked (out-Node n).subs
subs-same n = ap (λ (x : Node-F Graph Node). x.subs) (unmarked-node-at n)

-- ---- what is consumed

module _ (u : Unit1) where
  abbrev bare : Unit1
  bare = unmarked_unit u

  pub given-same : (g : Graph) (port : ℕ) → is_given_inside bare (unmarked g) port ≡ is_given_inside u g port
  given-same g port = ap (λ (i : Inside). i.is_given port) (inside-same u.types g)

  consumed-same : (n : Node) (port : ℕ) → is_consumed_by bare (unmarked_node n) port ≡ is_consumed_by u n port
  consumed-same n port = ap (λ (o : Operands). o.is_consumed port) (operands-same u.types n)

  text-same : (o : Option Edge) → (option_map untaken o >>= λ e. text_of e.from) ≡ (o >>= λ e. text_of e.from)
  text-same None = refl
  text-same (Some e) = refl

  called-by : (o : Option (List ℕ)) → (o >>= λ name. function_named (map unmarked u.graphs) name) ≡ option_map unmarked (o >>= λ name. function_named u.graphs name)
  called-by None = refl
  called-by (Some name) = found-mapped unmarked (λ g. bytes_eq (out-Graph g).name name) (λ g. bytes_eq (out-Graph g).name name) (λ g. ap (λ s. bytes_eq s name) (name-same g)) u.graphs

  called-same : (g : Graph) (l : ℕ) → called bare (unmarked g) l ≡ option_map unmarked (called u g l)
  called-same g l =
      ap (λ o. o >>= λ name. function_named (map unmarked u.graphs) name) (ap (λ o. o >>= λ e. text_of e.from) (edge-into-same g l 1) ∙ text-same (edge_into g l 1))
      ∙ called-by (literal_at g l 1)

  given-to-same : (o : Option Graph) (port : ℕ) → is_given_to_called bare (option_map unmarked o) port ≡ is_given_to_called u o port
  given-to-same None port = refl
  given-to-same (Some f) port = given-same f (port - 1)

  is-call-same : (n : Node) → is_call (unmarked_node n) ≡ is_call n
  is-call-same n = ap (λ (x : Node-F Graph Node). is_call_as (compound_at x.op) (simple_at x.op)) (unmarked-node-at n)

  module _ (g : Graph) where
    by-node : (o : Option Node) (port : ℕ) → consumes_node bare (unmarked g) (option_map unmarked_node o) port ≡ consumes_node u g o port
    by-node None port = refl
    by-node (Some n) port =
        ap (λ b. if b then is_given_to_called bare (called bare (unmarked g) (label_of (unmarked_node n))) port else is_consumed_by bare (unmarked_node n) port) (is-call-same n)
        ∙ (ap (λ b. if is_call n then b else is_consumed_by bare (unmarked_node n) port)
        (ap (λ l. is_given_to_called bare (called bare (unmarked g) l) port) (label-same n)
        ∙ (ap (λ o. is_given_to_called bare o port) (called-same g (label_of n)) ∙ given-to-same (called u g (label_of n)) port))
        ∙ ap (λ b. if is_call n then is_given_to_called u (called u g (label_of n)) port else b) (consumed-same n port))

    consumes-same : (l port : ℕ) → consumes bare (unmarked g) l port ≡ consumes u g l port
    consumes-same zero port = refl
    consumes-same (suc l) port = ap (λ o. consumes_node bare (unmarked g) o port) (node-at-same g (suc l)) ∙ by-node (node_at (out-Graph g).nodes (suc l)) port

    -- ---- what is owned in returns

    one-edge-same : (port : ℕ) → has_one_edge (unmarked g) port ≡ has_one_edge g port
    one-edge-same port = ap (λ es. length es == 1) (edges-from-same g 0 port) ∙ ap (λ k. k == 1) (as-long (edges_from g 0 port))

    final-same : (o : Option Node) → is_final_value (option_map unmarked_node o >>= λ n. simple_at (out-Node n).op) ≡ is_final_value (o >>= λ n. simple_at (out-Node n).op)
    final-same None = refl
    final-same (Some n) = ap (λ (x : Node-F Graph Node). is_final_value (simple_at x.op)) (unmarked-node-at n)

    none-same : (o : Option Edge) → is_none (option_map untaken o) ≡ is_none o
    none-same None = refl
    none-same (Some e) = refl

    last-same : (l : ℕ) → is_last_value (unmarked g) l ≡ is_last_value g l
    last-same l =
        ap (λ o. is_final_value (o >>= λ n. simple_at (out-Node n).op) && is_none (edge_into (unmarked g) l 2)) (node-at-same g l)
        ∙ (ap (λ b. b && is_none (edge_into (unmarked g) l 2)) (final-same (node_at (out-Graph g).nodes l))
        ∙ ap (λ b. is_final_value (node_at (out-Graph g).nodes l >>= λ n. simple_at (out-Node n).op) && b) (ap is_none (edge-into-same g l 2) ∙ none-same (edge_into g l 2)))

    all-last : (ls : List ℕ) → list_all (λ l. is_last_value (unmarked g) l) ls ≡ list_all (λ l. is_last_value g l) ls
    all-last [] = refl
    all-last (l ∷ ls) = ap (λ b. b && list_all (λ l. is_last_value (unmarked g) l) ls) (last-same l) ∙ ap (λ b. is_last_value g l && b) (all-last ls)

    wanted-same : (port : ℕ) → is_last_wanted (unmarked g) port ≡ is_last_wanted g port
    wanted-same port =
        ap (λ es. list_all (λ l. is_last_value (unmarked g) l) (map (λ e. e.node) es)) (edges-from-same g 0 port)
        ∙ (ap (λ ls. list_all (λ l. is_last_value (unmarked g) l) ls) (over-untaken (λ e. e.node) (λ e. refl) (edges_from g 0 port))
        ∙ all-last (users g (Port 0 port)))

read-same : (gs : List Graph) (port : ℕ) → is_read_in_turns (map unmarked gs) port ≡ is_read_in_turns gs port
read-same [] port = refl
read-same (a ∷ []) port = refl
read-same (a ∷ b ∷ []) port = refl
read-same (a ∷ b ∷ c ∷ gs) port = ap (λ x. x || is_used_inside (unmarked c) port) (used-same b port) ∙ ap (λ x. is_used_inside b port || x) (used-same c port)

results-same : (gs : List Graph) → results_at (map unmarked gs) 0 ≡ results_at gs 0
results-same [] = refl
results-same (g ∷ gs) = width-same g 0

-- ---- what is owned

module _ (u : Unit1) (outer : Graph) (n : Node) (g : Graph) (port : ℕ) where
  pub width-of-node : width (unmarked outer) (label_of (unmarked_node n)) ≡ width outer (label_of n)
  width-of-node = ap (width (unmarked outer)) (label-same n) ∙ width-same outer (label_of n)

  own-same : is_own (unmarked_unit u) (unmarked outer) (unmarked_node n) (unmarked g) port ≡ is_own u outer n g port
  own-same = ap (λ k. nat_lt k port) width-of-node

  made-same : is_made (unmarked_unit u) (unmarked outer) (unmarked_node n) (unmarked g) port ≡ is_made u outer n g port
  made-same =
      ap (λ k. nat_lt (k + results_at (out-Node (unmarked_node n)).subs 0) port) width-of-node
      ∙ ap (λ r. nat_lt (width outer (label_of n) + r) port) (ap (λ gs. results_at gs 0) (subs-same n) ∙ results-same (out-Node n).subs)

  turns-same : is_read_in_turns (out-Node (unmarked_node n)).subs port ≡ is_read_in_turns (out-Node n).subs port
  turns-same = ap (λ gs. is_read_in_turns gs port) (subs-same n) ∙ read-same (out-Node n).subs port

  loop-same : is_own (unmarked_unit u) (unmarked outer) (unmarked_node n) (unmarked g) port && (has_one_edge (unmarked g) port && (is_last_wanted (unmarked g) port || not (is_read_in_turns (out-Node (unmarked_node n)).subs port)))
      ≡ is_own u outer n g port && (has_one_edge g port && (is_last_wanted g port || not (is_read_in_turns (out-Node n).subs port)))
  loop-same =
      ap (λ b. b && (has_one_edge (unmarked g) port && (is_last_wanted (unmarked g) port || not (is_read_in_turns (out-Node (unmarked_node n)).subs port)))) own-same
      ∙ (ap (λ b. is_own u outer n g port && (b && (is_last_wanted (unmarked g) port || not (is_read_in_turns (out-Node (unmarked_node n)).subs port)))) (one-edge-same u g port)
      ∙ (ap (λ b. is_own u outer n g port && (has_one_edge g port && (b || not (is_read_in_turns (out-Node (unmarked_node n)).subs port)))) (wanted-same u g port)
      ∙ ap (λ b. is_own u outer n g port && (has_one_edge g port && (is_last_wanted g port || not b))) turns-same))

  body-same : (c : Compound) → is_owned_in_body (unmarked_unit u) (unmarked outer) (unmarked_node n) (unmarked g) c port ≡ is_owned_in_body u outer n g c port
  body-same compound.ForAll = refl
  body-same compound.Select = own-same
  body-same compound.TagCase = own-same
  body-same compound.LoopA = own-same
  body-same compound.LoopB = own-same

  returns-same : (c : Compound) → is_owned_in_returns (unmarked_unit u) (unmarked outer) (unmarked_node n) (unmarked g) c port ≡ is_owned_in_returns u outer n g c port
  returns-same compound.ForAll = ap (λ b. b && has_one_edge (unmarked g) port) made-same ∙ ap (λ b. is_made u outer n g port && b) (one-edge-same u g port)
  returns-same compound.Select = loop-same
  returns-same compound.TagCase = loop-same
  returns-same compound.LoopA = loop-same
  returns-same compound.LoopB = loop-same

  in-same : (c : Compound) (x : Part) → is_owned_in (unmarked_unit u) (unmarked outer) (unmarked_node n) (unmarked g) c x port ≡ is_owned_in u outer n g c x port
  in-same c part.Selector = refl
  in-same c part.Alternative = consumed-same u n port
  in-same c part.Arm = consumed-same u n port
  in-same c part.Generator = refl
  in-same c part.Initialization = consumed-same u n port
  in-same c part.Test = refl
  in-same c part.Body = body-same c
  in-same c part.Returns = returns-same c

  as-same : (o : Option (Compound × Part)) → is_owned_as (unmarked_unit u) (unmarked outer) (unmarked_node n) (unmarked g) o port ≡ is_owned_as u outer n g o port
  as-same None = refl
  as-same (Some cp) = in-same cp.0 cp.1

pub part-same : (n : Node) (k : ℕ) → part_of (unmarked_node n) k ≡ part_of n k
part-same n k = ap (λ (x : Node-F Graph Node). compound_at x.op >>= λ c. part_at c k >>= λ part. Some (c, part)) (unmarked-node-at n)

input-same : (u : Unit1) (g : Graph) (home : Home) (port : ℕ) → is_input_owned (unmarked_unit u) (unmarked g) (unmarked_home home) port ≡ is_input_owned u g home port
input-same u g (Function k) port = given-same u g port
input-same u g (In outer n k) port =
    ap (λ o. is_owned_as (unmarked_unit u) (unmarked outer) (unmarked_node n) (unmarked g) o port) (part-same n k)
    ∙ as-same u outer n g port (part_of n k)

owned-same : (u : Unit1) (p : Place) (from : Origin) → is_owned (unmarked_unit u) (unmarked_place p) from ≡ is_owned u p from
owned-same u p (Lit text) = refl
owned-same u p (Port zero port) = input-same u p.graph p.home port
owned-same u p (Port (suc l) port) = refl

pub marks-not-looked-at : AreMarksNotLookedAt
marks-not-looked-at u p =
    record {
      consuming = λ e. ap (λ b. is_aggregate u.types e.ty && b) (consumes-same u p.graph e.node e.port);
      owned = owned-same u p;
    }

-- ---- places

pub map-append : {A B : Type 0} (f : A → B) (xs ys : List A) → map f (xs ++ ys) ≡ map f xs ++ map f ys
map-append f [] ys = refl
map-append f (x ∷ xs) ys = ap (λ zs. f x ∷ zs) (map-append f xs ys)

abbrev Placing : Type 0
Placing = ℕ → Graph → List Place

each-same : (after before : Placing) → ((k : ℕ) (s : Graph) → after k (unmarked s) ≡ map unmarked_place (before k s)) → (k : ℕ) (gs : List Graph) → each_from after k (map unmarked gs) ≡ map unmarked_place (each_from before k gs)
each-same after before same k [] = refl
each-same after before same k (g ∷ gs) =
    ap (λ ps. ps ++ each_from after (suc k) (map unmarked gs)) (same k g)
    ∙ (ap (λ ps. map unmarked_place (before k g) ++ ps) (each-same after before same (suc k) gs)
    ∙ sym (map-append unmarked_place (before k g) (each_from before (suc k) gs)))

flat-same : (after before : Node → List Place) → ((n : Node) → after (unmarked_node n) ≡ map unmarked_place (before n)) → (ns : List Node) → flat_map after (map unmarked_node ns) ≡ map unmarked_place (flat_map before ns)
flat-same after before same [] = refl
flat-same after before same (n ∷ ns) =
    ap (λ ps. ps ++ flat_map after (map unmarked_node ns)) (same n)
    ∙ (ap (λ ps. map unmarked_place (before n) ++ ps) (flat-same after before same ns)
    ∙ sym (map-append unmarked_place (before n) (flat_map before ns)))

places-of-same : (more : ℕ) (home : Home) (g : Graph) → places_of more (unmarked_home home) (unmarked g) ≡ map unmarked_place (places_of more home g)
places-of-same zero home g = refl
places-of-same (suc more) home g =
    ap (λ ps. record { graph = unmarked g; home = unmarked_home home } ∷ ps)
    (ap (λ (x : Graph-F Graph Node). flat_map (λ n. each_from (λ k s. places_of more (In (unmarked g) n k) s) 0 (out-Node n).subs) x.nodes) (unmarked-at g)
    ∙ flat-same (λ n. each_from (λ k s. places_of more (In (unmarked g) n k) s) 0 (out-Node n).subs) (λ n. each_from (λ k s. places_of more (In g n k) s) 0 (out-Node n).subs)
    (λ n. ap (λ gs. each_from (λ k s. places_of more (In (unmarked g) (unmarked_node n) k) s) 0 gs) (subs-same n)
    ∙ each-same (λ k s. places_of more (In (unmarked g) (unmarked_node n) k) s) (λ k s. places_of more (In g n k) s) (λ k s. places-of-same more (In g n k) s) 0 (out-Node n).subs)
    (out-Graph g).nodes)

pub places-same : (u : Unit1) → places (unmarked_unit u) ≡ map unmarked_place (places u)
places-same u = each-same (λ k g. places_of most_levels (Function k) g) (λ k g. places_of most_levels (Function k) g) (λ k g. places-of-same most_levels (Function k) g) 0 u.graphs

all-mapped : {A B : Type 0} (P : B → Type 0) (f : A → B) → ((x : A) → P (f x)) → (xs : List A) → All P (map f xs)
all-mapped P f h [] = All-nil P
all-mapped P f h (x ∷ xs) = All-cons P (f x) (map f xs) (h x) (all-mapped P f h xs)

pub unmarked-has-none : AreUnmarkedWithout
unmarked-has-none u =
    record {
      places_are = places-same u;
      takers = subst (All (λ p. All (λ e. e.takes ≡ false) (out-Graph p.graph).edges)) (sym (places-same u))
          (all-mapped (λ p. All (λ e. e.takes ≡ false) (out-Graph p.graph).edges) unmarked_place
          (λ p. subst (λ (x : Graph-F Graph Node). All (λ e. e.takes ≡ false) x.edges) (sym (unmarked-at p.graph)) (all-mapped (λ e. e.takes ≡ false) untaken (λ e. refl) (out-Graph p.graph).edges)) (places u));
      lists = subst (All (λ p. All (λ n. (out-Node n).before ≡ []) (out-Graph p.graph).nodes)) (sym (places-same u))
          (all-mapped (λ p. All (λ n. (out-Node n).before ≡ []) (out-Graph p.graph).nodes) unmarked_place
          (λ p. subst (λ (x : Graph-F Graph Node). All (λ n. (out-Node n).before ≡ []) x.nodes) (sym (unmarked-at p.graph))
          (all-mapped (λ n. (out-Node n).before ≡ []) unmarked_node (λ n. ap (λ (x : Node-F Graph Node). x.before) (unmarked-node-at n)) (out-Graph p.graph).nodes)) (places u));
    }
