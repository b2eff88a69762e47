-- How deep graphs stand in graphs, and compound nodes in lines.
use Rattle.std.proofs.Common.{◌≡◌, ℕ, suc, ◌-◌, ◌≤◌, max, List, [], ◌∷◌, map, get_or, refl, ap, arith}
use Rattle.std.specs.Prelude.{All, Contains, filter}
use Rattle.std.proofs.lemmas.List.{get_or_default}
use Rattle.std.proofs.lemmas.List.Elements.{All-head, All-tail}
use Rattle.if1_graph.specs.declared.line.Line.{Line}
use Rattle.if1_graph.specs.declared.line.Line.TheVariants as line
use Rattle.if1_graph.specs.declared.graph.Graph.{Graph}
use Rattle.if1_graph.specs.declared.graph.Graph.TheViews.{out-Graph}
use Rattle.if1_graph.specs.declared.graph.Graph.TheFolds.{fold-Node, fold_out-Graph, fold_out-Node}
use Rattle.if1_graph.specs.declared.graph.Node.{Node, out-Node}
use Rattle.if1_graph.specs.declared.graph.Unit1.{Unit1}
use Rattle.if1_graph.specs.Units.{greatest, level_below, levels}
use Rattle.if1_graph.specs.Reads.{is_of_graph, deepest}
use Rattle.if1_read.specs.Fine.{IsFineWithin, AreFineWithin, graph, no_part, part}

-- ---- levels

abbrev node_levels : Node → ℕ
node_levels = fold-Node ℕ ℕ (λ g. greatest g.nodes) (λ n. level_below n.subs)

levels_out : (g : Graph) → levels g ≡ greatest (map node_levels (out-Graph g).nodes)
levels_out g = fold_out-Graph ℕ ℕ (λ g. greatest g.nodes) (λ n. level_below n.subs) g

node_levels_out : (n : Node) → node_levels n ≡ level_below (map levels (out-Node n).subs)
node_levels_out n = fold_out-Node ℕ ℕ (λ g. greatest g.nodes) (λ n. level_below n.subs) n

greatest_within : {A : Type 0} (f : A → ℕ) (m : ℕ) (xs : List A) → All (λ x. f x ≤ m) xs → greatest (map f xs) ≤ m
greatest_within f m [] h = omega arith
greatest_within f m (x ∷ xs) h =
    omega (arith, All-head (λ x. f x ≤ m) x xs h, greatest_within f m xs (All-tail (λ x. f x ≤ m) x xs h))

greatest_below : (m : ℕ) (ns : List ℕ) → level_below ns ≤ suc m → greatest ns ≤ m
greatest_below m [] h = omega arith
greatest_below m (n ∷ ns) h = omega (arith, h)

mutual
  pub graph_levels : (u : Unit1) (m : ℕ) (g : Graph) → IsFineWithin u m g → levels g ≤ m
  graph_levels u m g (graph m0 g0 fine inner) =
      let each : All (λ n. node_levels n ≤ m) (out-Graph g).nodes =
      λ k d i.
      let n = get_or (out-Graph g).nodes k d in
      let there : Contains (out-Graph g).nodes n = (k, i, get_or_default (out-Graph g).nodes k n d i) in
      omega (arith, node_levels_out n, parts_levels u m (out-Node n).subs (inner n there)) in
      omega (arith, levels_out g, greatest_within node_levels m (out-Graph g).nodes each)

  parts_levels : (u : Unit1) (m : ℕ) (gs : List Graph) → AreFineWithin u m gs → level_below (map levels gs) ≤ m
  parts_levels u m gs (no_part m0) = omega arith
  parts_levels u m gs (part m0 g gs0 header within rest) =
      omega (arith, graph_levels u m0 g within, greatest_below m0 (map levels gs0) (parts_levels u (suc m0) gs0 rest))

-- ---- lines that say nothing of graphs neither open nor close

pub deepest_of_graphs : (n : ℕ) (ls : List Line) → deepest n (filter is_of_graph ls) ≡ deepest n ls
deepest_of_graphs n [] = refl
deepest_of_graphs n (line.Blank ∷ ls) = deepest_of_graphs n ls
deepest_of_graphs n (line.Entry label code first second name ∷ ls) = deepest_of_graphs n ls
deepest_of_graphs n (line.Node label op before name ∷ ls) = deepest_of_graphs n ls
deepest_of_graphs n (line.Edge source out node port ty takes name ∷ ls) = deepest_of_graphs n ls
deepest_of_graphs n (line.Literal node port ty text name ∷ ls) = deepest_of_graphs n ls
deepest_of_graphs n (line.Function exported fun name ∷ ls) = deepest_of_graphs n ls
deepest_of_graphs n (line.Subgraph name ∷ ls) = deepest_of_graphs n ls
deepest_of_graphs n (line.Import ty name ∷ ls) = deepest_of_graphs n ls
deepest_of_graphs n (line.Open rest ∷ ls) = ap (λ k. max n k) (deepest_of_graphs (suc n) ls)
deepest_of_graphs n (line.Close label op count assoc before name ∷ ls) = ap (λ k. max n k) (deepest_of_graphs (n - 1) ls)
