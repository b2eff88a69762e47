-- The marks that are made in a unit change nothing else, whether it is ready or not.
use Rattle.std.proofs.Common.{◌≡◌, ℕ, zero, suc, Bool, List, [], ◌∷◌, map, refl, sym, ap, ◌∙◌}
use Rattle.if1_graph.specs.declared.graph.Edge.{Edge}
use Rattle.if1_graph.specs.declared.graph.Graph.{Graph}
use Rattle.if1_graph.specs.declared.graph.Graph.TheViews.{out-Graph, roll-Graph, roll-out-Graph, roll-out-Node, out-roll-Graph, out-roll-Node}
use Rattle.if1_graph.specs.declared.graph.Graph.TheOpen.{Graph-F, Node-F}
use Rattle.if1_graph.specs.declared.graph.Node.{Node, roll-Node, out-Node}
use Rattle.if1_graph.specs.declared.graph.Unit1.{Unit1}
use Rattle.if1_graph.specs.Units.{Home, Function, Inside, most_levels}
use Rattle.if1_marks.specs.Unmarked.{untaken, unmarked, unmarked_node, unmarked_unit}
use Rattle.if1_marks.proofs.Unmarked.{unmarked-at, unmarked-node-at}
use Rattle.marks_made.specs.Made.{Orders, after, answered, with_answer, made, with_list, marked}
use Rattle.marks_made.specs.Units.{each_graph, with_graphs, with_parts, is_candidate, marked_at, marks_of}

over-mapped : {A B C : Type 0} (f : A → B) (p : B → C) (q : A → C) → ((x : A) → p (f x) ≡ q x) → (xs : List A) → map p (map f xs) ≡ map q xs
over-mapped f p q same [] = refl
over-mapped f p q same (x ∷ xs) = ap (λ y. y ∷ map p (map f xs)) (same x) ∙ ap (λ ys. q x ∷ ys) (over-mapped f p q same xs)

abbrev Bare : Graph → Graph → Type 0
Bare g h = unmarked g ≡ unmarked h

as-one : (g : Graph) → unmarked g ≡ roll-Graph (record { number = (out-Graph g).number; exported = (out-Graph g).exported; name = (out-Graph g).name; fun = (out-Graph g).fun; nodes = map unmarked_node (out-Graph g).nodes; edges = map untaken (out-Graph g).edges })
as-one g = sym (roll-out-Graph (unmarked g)) ∙ ap roll-Graph (unmarked-at g)

as-one-node : (n : Node) → unmarked_node n ≡ roll-Node (record { label = (out-Node n).label; op = (out-Node n).op; subs = map unmarked (out-Node n).subs; assoc = (out-Node n).assoc; before = []; name = (out-Node n).name })
as-one-node n = sym (roll-out-Node (unmarked_node n)) ∙ ap roll-Node (unmarked-node-at n)

module _ (g : Graph) (may : Edge → Bool) where
  list-bare : (n : Node) → unmarked_node (with_list g may n) ≡ unmarked_node n
  list-bare n =
      as-one-node (with_list g may n)
      ∙ (ap (λ (x : Node-F Graph Node). roll-Node (record { label = x.label; op = x.op; subs = map unmarked x.subs; assoc = x.assoc; before = []; name = x.name })) (out-roll-Node _)
      ∙ sym (as-one-node n))

  answers-bare : (os : Orders) (es : List Edge) → map untaken (map with_answer (answered g may os es)) ≡ map untaken es
  answers-bare os [] = refl
  answers-bare os (e ∷ es) = ap (λ fs. untaken e ∷ fs) (answers-bare (after g may os e) es)

  marked-bare : Bare (marked g may) g
  marked-bare =
      as-one (marked g may)
      ∙ (ap (λ (x : Graph-F Graph Node). roll-Graph (record { number = x.number; exported = x.exported; name = x.name; fun = x.fun; nodes = map unmarked_node x.nodes; edges = map untaken x.edges })) (out-roll-Graph _)
      ∙ (ap (λ ns. roll-Graph (record { number = (out-Graph g).number; exported = (out-Graph g).exported; name = (out-Graph g).name; fun = (out-Graph g).fun; nodes = ns; edges = map untaken (map with_answer (made g may)) })) (over-mapped (with_list g may) unmarked_node unmarked_node list-bare (out-Graph g).nodes)
      ∙ (ap (λ es. roll-Graph (record { number = (out-Graph g).number; exported = (out-Graph g).exported; name = (out-Graph g).name; fun = (out-Graph g).fun; nodes = map unmarked_node (out-Graph g).nodes; edges = es })) (answers-bare [] (out-Graph g).edges)
      ∙ sym (as-one g))))

module _ (f : Node → ℕ → Graph → Graph) (same : (n : Node) (k : ℕ) (g : Graph) → Bare (f n k g) g) where
  each-bare : (n : Node) (k : ℕ) (gs : List Graph) → map unmarked (each_graph (f n) k gs) ≡ map unmarked gs
  each-bare n k [] = refl
  each-bare n k (g ∷ gs) = ap (λ h. h ∷ map unmarked (each_graph (f n) (suc k) gs)) (same n k g) ∙ ap (λ hs. unmarked g ∷ hs) (each-bare n (suc k) gs)

  graphs-bare : (n : Node) → unmarked_node (with_graphs f n) ≡ unmarked_node n
  graphs-bare n =
      as-one-node (with_graphs f n)
      ∙ (ap (λ (x : Node-F Graph Node). roll-Node (record { label = x.label; op = x.op; subs = map unmarked x.subs; assoc = x.assoc; before = []; name = x.name })) (out-roll-Node _)
      ∙ (ap (λ gs. roll-Node (record { label = (out-Node n).label; op = (out-Node n).op; subs = gs; assoc = (out-Node n).assoc; before = []; name = (out-Node n).name })) (each-bare n 0 (out-Node n).subs)
      ∙ sym (as-one-node n)))

  parts-bare : (g : Graph) → Bare (with_parts f g) g
  parts-bare g =
      as-one (with_parts f g)
      ∙ (ap (λ (x : Graph-F Graph Node). roll-Graph (record { number = x.number; exported = x.exported; name = x.name; fun = x.fun; nodes = map unmarked_node x.nodes; edges = map untaken x.edges })) (out-roll-Graph _)
      ∙ (ap (λ ns. roll-Graph (record { number = (out-Graph g).number; exported = (out-Graph g).exported; name = (out-Graph g).name; fun = (out-Graph g).fun; nodes = ns; edges = map untaken (out-Graph g).edges })) (over-mapped (with_graphs f) unmarked_node unmarked_node graphs-bare (out-Graph g).nodes)
      ∙ sym (as-one g)))

at-bare : (u : Unit1) (more : ℕ) (home : Home) (g : Graph) → Bare (marked_at u more home g) g
at-bare u zero home g = marked-bare g (is_candidate u (record { graph = g; home = home }))
at-bare u (suc more) home g =
    marked-bare (with_parts (λ n k s. marked_at u more (Inside g n k) s) g) (is_candidate u (record { graph = g; home = home }))
    ∙ parts-bare (λ n k s. marked_at u more (Inside g n k) s) (λ n k s. at-bare u more (Inside g n k) s) g

pub unit-bare : (u : Unit1) → unmarked_unit (marks_of u) ≡ unmarked_unit u
unit-bare u =
    ap (λ gs. let v : Unit1 = record { types = u.types; imports = u.imports; graphs = gs } in v)
    (each-bare (λ n k g. marked_at u most_levels (Function k) g) (λ n k g. at-bare u most_levels (Function k) g) any-node 0 u.graphs)
  where
    any-node : Node
    any-node = roll-Node (record { label = 0; op = 0; subs = []; assoc = []; before = []; name = [] })
