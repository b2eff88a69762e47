-- What holds at each place of a unit, along its graphs.
use Rattle.std.proofs.Common.{ℕ, zero, suc, ◌≤◌, List, [], ◌∷◌, sym, subst}
use Rattle.std.specs.Prelude.{All, Contains}
use Rattle.std.specs.List.{flat_map}
use Rattle.std.proofs.lemmas.List.Elements.{All-head, All-tail, All-contains}
use Rattle.if1_graph.specs.declared.graph.Graph.{Graph}
use Rattle.if1_graph.specs.declared.graph.Graph.TheViews.{out-Graph}
use Rattle.if1_graph.specs.declared.graph.Node.{Node, out-Node}
use Rattle.if1_graph.specs.declared.graph.Unit1.{Unit1}
use Rattle.if1_graph.specs.Units.{levels, most_levels, Home, Function, Inside, Place, each_from, places_of, places}
use Rattle.if1_write.proofs.Alls.{all_left, all_right, all_parts}
use Rattle.if1_write.proofs.Bodies.{node_levels, nodes_below, parts_below, none_below}
use Rattle.if1_write.proofs.Walk.{here_of}

module _ (P : Place → Type 0) where
  mutual
    -- at a graph and at all inside it
    pub data Holds : Home → Graph → Type 0 where
      graph : (home : Home) (g : Graph) → P (record { graph = g; home = home }) → ((n : Node) → Contains (out-Graph g).nodes n → HoldInside g n 0 (out-Node n).subs) → Holds home g

    -- at graphs of a node, of which the first stands at this place
    pub data HoldInside : Graph → Node → ℕ → List Graph → Type 0 where
      no_part : (outer : Graph) (n : Node) (k : ℕ) → HoldInside outer n k []
      part : (outer : Graph) (n : Node) (k : ℕ) (s : Graph) (gs : List Graph) → Holds (Inside outer n k) s → HoldInside outer n (suc k) gs → HoldInside outer n k (s ∷ gs)

  -- at functions
  pub data HoldFrom : ℕ → List Graph → Type 0 where
    no_function : (k : ℕ) → HoldFrom k []
    function : (k : ℕ) (g : Graph) (gs : List Graph) → Holds (Function k) g → HoldFrom (suc k) gs → HoldFrom k (g ∷ gs)

  abbrev inside : ℕ → Graph → Node → List Place
  inside more g n = each_from (λ k s. places_of more (Inside g n k) s) 0 (out-Node n).subs

  inner_of : (more : ℕ) (home : Home) (g : Graph) → All P (places_of (suc more) home g) → All (λ n. All P (inside more g n)) (out-Graph g).nodes
  inner_of more home g h =
      all_parts P (inside more g) (out-Graph g).nodes (All-tail P (record { graph = g; home = home }) (flat_map (inside more g) (out-Graph g).nodes) h)

  parts_held : (more : ℕ) → ((home : Home) (s : Graph) → levels s ≤ more → All P (places_of more home s) → Holds home s) →
      (g : Graph) (n : Node) (k : ℕ) (gs : List Graph) → All (λ s. levels s ≤ more) gs → All P (each_from (λ k s. places_of more (Inside g n k) s) k gs) → HoldInside g n k gs
  parts_held more ih g n k [] low h = no_part g n k
  parts_held more ih g n k (s ∷ gs) low h =
      let rest = each_from (λ k s. places_of more (Inside g n k) s) (suc k) gs in
      part g n k s gs
      (ih (Inside g n k) s (All-head (λ s. levels s ≤ more) s gs low) (all_left P (places_of more (Inside g n k) s) rest h))
      (parts_held more ih g n (suc k) gs (All-tail (λ s. levels s ≤ more) s gs low) (all_right P (places_of more (Inside g n k) s) rest h))

  held : (more : ℕ) (home : Home) (g : Graph) → levels g ≤ more → All P (places_of more home g) → Holds home g
  held zero home g low all =
      graph home g (here_of P zero home g all)
      (λ n c.
      subst (HoldInside g n 0) (sym (none_below n (All-contains (λ n. node_levels n ≤ 0) (out-Graph g).nodes n (nodes_below g zero low) c))) (no_part g n 0))
  held (suc more) home g low all =
      graph home g (here_of P (suc more) home g all)
      (λ n c.
      parts_held more (λ home s l a. held more home s l a) g n 0 (out-Node n).subs
      (parts_below n more (All-contains (λ n. node_levels n ≤ suc more) (out-Graph g).nodes n (nodes_below g (suc more) low) c))
      (All-contains (λ n. All P (inside more g n)) (out-Graph g).nodes n (inner_of more home g all) c))

  functions_held : (k : ℕ) (gs : List Graph) → All (λ g. levels g ≤ most_levels) gs → All P (each_from (λ k g. places_of most_levels (Function k) g) k gs) → HoldFrom k gs
  functions_held k [] low h = no_function k
  functions_held k (g ∷ gs) low h =
      let rest = each_from (λ k g. places_of most_levels (Function k) g) (suc k) gs in
      function k g gs
      (held most_levels (Function k) g (All-head (λ g. levels g ≤ most_levels) g gs low) (all_left P (places_of most_levels (Function k) g) rest h))
      (functions_held (suc k) gs (All-tail (λ g. levels g ≤ most_levels) g gs low) (all_right P (places_of most_levels (Function k) g) rest h))

  pub unit_held : (u : Unit1) → All (λ g. levels g ≤ most_levels) u.graphs → All P (places u) → HoldFrom 0 u.graphs
  unit_held u low all = functions_held 0 u.graphs low all

  pub here : (home : Home) (g : Graph) → Holds home g → P (record { graph = g; home = home })
  here home g (graph home0 g0 p inner) = p

  pub within : (home : Home) (g : Graph) → Holds home g → (n : Node) → Contains (out-Graph g).nodes n → HoldInside g n 0 (out-Node n).subs
  within home g (graph home0 g0 p inner) = inner

  pub first_part : (outer : Graph) (n : Node) (k : ℕ) (s : Graph) (gs : List Graph) → HoldInside outer n k (s ∷ gs) → Holds (Inside outer n k) s × HoldInside outer n (suc k) gs
  first_part outer n k s gs (part outer0 n0 k0 s0 gs0 h r) = (h, r)

  pub first_function : (k : ℕ) (g : Graph) (gs : List Graph) → HoldFrom k (g ∷ gs) → Holds (Function k) g × HoldFrom (suc k) gs
  first_function k g gs (function k0 g0 gs0 h r) = (h, r)
