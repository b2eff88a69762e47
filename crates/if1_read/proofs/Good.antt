-- The graphs of a formed unit, each with those inside it.
use Rattle.std.proofs.Common.{◌≡◌, ℕ, zero, suc, ◌≤◌, List, [], ◌∷◌, ◌++◌, map, sym, ap, subst, ◌∙◌, arith}
use Rattle.std.specs.Prelude.{All, Contains}
use Rattle.std.specs.List.{flat_map}
use Rattle.std.proofs.lemmas.List.Elements.{All-nil, All-cons, All-head, All-tail, All-contains}
use Rattle.if1_graph.specs.declared.graph.Graph.{Graph}
use Rattle.if1_graph.specs.declared.graph.Graph.TheViews.{out-Graph, roll-out-Graph, roll-out-Node}
use Rattle.if1_graph.specs.declared.graph.Graph.TheFolds.{fold-Node, fold-roll-Graph, fold-roll-Node}
use Rattle.if1_graph.specs.declared.graph.Node.{Node, out-Node}
use Rattle.if1_graph.specs.declared.graph.Unit1.{Unit1}
use Rattle.if1_graph.specs.Units.{greatest, level_below, levels, most_levels, Home, Function, Inside, each_from, places_of}
use Rattle.if1_graph.specs.Formed.{IsGraph, IsFormed, IsWholeType}

-- ---- levels

abbrev node_levels : Node → ℕ
node_levels = fold-Node ℕ ℕ (λ g. greatest g.nodes) (λ n. level_below n.subs)

levels_at : (g : Graph) → levels g ≡ greatest (map node_levels (out-Graph g).nodes)
levels_at g = ap levels (sym (roll-out-Graph g)) ∙ fold-roll-Graph ℕ ℕ (λ g. greatest g.nodes) (λ n. level_below n.subs) (out-Graph g)

node_levels_at : (n : Node) → node_levels n ≡ level_below (map levels (out-Node n).subs)
node_levels_at n = ap node_levels (sym (roll-out-Node n)) ∙ fold-roll-Node ℕ ℕ (λ g. greatest g.nodes) (λ n. level_below n.subs) (out-Node n)

each_below : {A : Type 0} (f : A → ℕ) (xs : List A) (m : ℕ) → greatest (map f xs) ≤ m → All (λ x. f x ≤ m) xs
each_below f [] m h = All-nil (λ x. f x ≤ m)
each_below f (x ∷ xs) m h = All-cons (λ x. f x ≤ m) x xs (omega (arith, h)) (each_below f xs m (omega (arith, h)))

nodes_below : (g : Graph) (m : ℕ) → levels g ≤ m → All (λ n. node_levels n ≤ m) (out-Graph g).nodes
nodes_below g m h = each_below node_levels (out-Graph g).nodes m (omega (arith, h, levels_at g))

parts_at : (gs : List Graph) (m : ℕ) → level_below (map levels gs) ≤ suc m → All (λ g. levels g ≤ m) gs
parts_at [] m h = All-nil (λ g. levels g ≤ m)
parts_at (g ∷ gs) m h = each_below levels (g ∷ gs) m (omega (arith, h))

parts_below : (n : Node) (m : ℕ) → node_levels n ≤ suc m → All (λ g. levels g ≤ m) (out-Node n).subs
parts_below n m h = parts_at (out-Node n).subs m (omega (arith, h, node_levels_at n))

none_at : (gs : List Graph) → level_below (map levels gs) ≤ 0 → [] ≡ gs
none_at [] h = λ i. []
none_at (g ∷ gs) h = absurd (omega (arith, h))

-- ---- lists that are put together

module _ {A : Type 0} (P : A → Type 0) where
  all_left : (xs ys : List A) → All P (xs ++ ys) → All P xs
  all_left [] ys h = All-nil P
  all_left (x ∷ xs) ys h = All-cons P x xs (All-head P x (xs ++ ys) h) (all_left xs ys (All-tail P x (xs ++ ys) h))

  all_right : (xs ys : List A) → All P (xs ++ ys) → All P ys
  all_right [] ys h = h
  all_right (x ∷ xs) ys h = all_right xs ys (All-tail P x (xs ++ ys) h)

  all_parts : {B : Type 0} (f : B → List A) (xs : List B) → All P (flat_map f xs) → All (λ x. All P (f x)) xs
  all_parts f [] h = All-nil (λ x. All P (f x))
  all_parts f (x ∷ xs) h =
      All-cons (λ x. All P (f x)) x xs (all_left (f x) (flat_map f xs) h) (all_parts f xs (all_right (f x) (flat_map f xs) h))

-- ---- graphs

module _ (u : Unit1) where
  mutual
    pub data IsGood : Graph → Type 0 where
      graph : (g : Graph) (home : Home) → IsGraph u (record { graph = g; home = home }) → ((n : Node) → Contains (out-Graph g).nodes n → AreGood (out-Node n).subs) → IsGood g

    pub data AreGood : List Graph → Type 0 where
      no_graph : AreGood []
      more : (g : Graph) (gs : List Graph) → IsGood g → AreGood gs → AreGood (g ∷ gs)

  here_of : (m : ℕ) (home : Home) (g : Graph) → All (IsGraph u) (places_of m home g) → IsGraph u (record { graph = g; home = home })
  here_of zero home g h = All-head (IsGraph u) (record { graph = g; home = home }) [] h
  here_of (suc m) home g h =
      All-head (IsGraph u) (record { graph = g; home = home }) (flat_map (λ n. each_from (λ k s. places_of m (Inside g n k) s) 0 (out-Node n).subs) (out-Graph g).nodes) h

  inner_of : (m : ℕ) (home : Home) (g : Graph) → All (IsGraph u) (places_of (suc m) home g) →
      All (λ n. All (IsGraph u) (each_from (λ k s. places_of m (Inside g n k) s) 0 (out-Node n).subs)) (out-Graph g).nodes
  inner_of m home g h =
      let inner = flat_map (λ n. each_from (λ k s. places_of m (Inside g n k) s) 0 (out-Node n).subs) (out-Graph g).nodes in
      all_parts (IsGraph u) (λ n. each_from (λ k s. places_of m (Inside g n k) s) 0 (out-Node n).subs) (out-Graph g).nodes
      (All-tail (IsGraph u) (record { graph = g; home = home }) inner h)

  parts_good : (m : ℕ) → ((home : Home) (s : Graph) → levels s ≤ m → All (IsGraph u) (places_of m home s) → IsGood s) →
      (g : Graph) (n : Node) (k : ℕ) (gs : List Graph) → All (λ s. levels s ≤ m) gs → All (IsGraph u) (each_from (λ k s. places_of m (Inside g n k) s) k gs) → AreGood gs
  parts_good m ih g n k [] low h = no_graph
  parts_good m ih g n k (s ∷ gs) low h =
      let rest = each_from (λ k s. places_of m (Inside g n k) s) (suc k) gs in
      more s gs (ih (Inside g n k) s (All-head (λ s. levels s ≤ m) s gs low) (all_left (IsGraph u) (places_of m (Inside g n k) s) rest h))
      (parts_good m ih g n (suc k) gs (All-tail (λ s. levels s ≤ m) s gs low) (all_right (IsGraph u) (places_of m (Inside g n k) s) rest h))

  good : (m : ℕ) (home : Home) (g : Graph) → levels g ≤ m → All (IsGraph u) (places_of m home g) → IsGood g
  good zero home g low all =
      graph g home (here_of zero home g all)
      (λ n c.
      let le = All-contains (λ n. node_levels n ≤ 0) (out-Graph g).nodes n (nodes_below g 0 low) c in
      subst AreGood (none_at (out-Node n).subs (omega (arith, le, node_levels_at n))) no_graph)
  good (suc m) home g low all =
      graph g home (here_of (suc m) home g all)
      (λ n c.
      parts_good m (λ home s l a. good m home s l a) g n 0 (out-Node n).subs
      (parts_below n m (All-contains (λ n. node_levels n ≤ suc m) (out-Graph g).nodes n (nodes_below g (suc m) low) c))
      (All-contains (λ n. All (IsGraph u) (each_from (λ k s. places_of m (Inside g n k) s) 0 (out-Node n).subs)) (out-Graph g).nodes n (inner_of m home g all) c))

  pub record IsFunctionGood (g : Graph) : Type 0 where
    pub fun : IsWholeType u.types (out-Graph g).fun
    pub good : IsGood g

  each_good : (k : ℕ) (gs : List Graph) → All (λ g. levels g ≤ most_levels) gs → All (IsGraph u) (each_from (λ k g. places_of most_levels (Function k) g) k gs) →
      All IsFunctionGood gs
  each_good k [] low h = All-nil IsFunctionGood
  each_good k (g ∷ gs) low h =
      let rest = each_from (λ k g. places_of most_levels (Function k) g) (suc k) gs in
      let here = all_left (IsGraph u) (places_of most_levels (Function k) g) rest h in
      All-cons IsFunctionGood g gs
      (record {
        fun = (here_of most_levels (Function k) g here).header.0;
        good = good most_levels (Function k) g (All-head (λ g. levels g ≤ most_levels) g gs low) here;
      })
      (each_good (suc k) gs (All-tail (λ g. levels g ≤ most_levels) g gs low) (all_right (IsGraph u) (places_of most_levels (Function k) g) rest h))

  pub functions_good : IsFormed u → All IsFunctionGood u.graphs
  functions_good f = each_good 0 u.graphs f.nesting f.graphs
