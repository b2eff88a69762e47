-- All graphs of a valid unit, down to the levels that they have.
use Rattle.std.proofs.Common.{◌≡◌, ℕ, zero, suc, ◌≤◌, Bool, true, false, cond, List, [], ◌∷◌, ◌++◌, map, length, get_or, Option, Some, None, inl, inr, refl, sym, ap, subst, ◌∙◌, arith}
use Rattle.std.specs.Prelude.{All, ◌==◌}
use Rattle.std.specs.List.{flat_map}
use Rattle.std.specs.List.Sorted.{IsStrictlyIncreasing}
use Rattle.std.proofs.lemmas.Bool.{eq-eqb}
use Rattle.std.proofs.lemmas.List.Elements.{All-nil, All-cons, All-head, All-tail}
use Rattle.if1_graph.specs.declared.graph.Graph.{Graph}
use Rattle.if1_graph.specs.declared.graph.Graph.TheViews.{out-Graph}
use Rattle.if1_graph.specs.declared.graph.Node.{Node, out-Node}
use Rattle.if1_graph.specs.declared.graph.Edge.{Edge}
use Rattle.if1_graph.specs.declared.graph.Unit1.{Unit1}
use Rattle.if1_graph.specs.declared.op.Compound.{Compound}
use Rattle.if1_graph.specs.declared.op.Compound.TheVariants.{ForAll, Select, TagCase, LoopA, LoopB}
use Rattle.if1_graph.specs.declared.op.Simple.{Simple}
use Rattle.if1_graph.specs.Ops.{compound_at, simple_at}
use Rattle.if1_graph.specs.Parts.{HasParts}
use Rattle.if1_graph.specs.Units.{label_of, node_at, levels, ends, Home, Function, Inside, Place, each_from, places_of}
use Rattle.if1_graph.specs.Formed.{IsNode, IsOnce, IsGraph}
use Rattle.if1_graph.specs.Normal.{IsNormalGraph}
use Rattle.if1_graph.specs.Ports.{IsFilledAs, IsNodeFilled, IsEndFilled, ArePortsRight}
use Rattle.if1_write.proofs.Alls.{all_left, all_right, all_parts, all_named}
use Rattle.if1_write.proofs.Bodies.{node_levels, nodes_below, parts_below, none_below}
use Rattle.if1_write.proofs.Arranged.{differs, others, Present, are_edges}
use Rattle.if1_write.proofs.Gives.{NodeGiven, Given, PartGiven, PartsGiven, simple_given, compound_given, graph_given, parts_given}

-- what is known of each graph
pub record Sound (u : Unit1) (p : Place) : Type 0 where
  pub formed : IsGraph u p
  pub normal : IsNormalGraph u p
  pub filled : All (ArePortsRight u p) (ends p.graph)

-- ---- nodes by their labels

found : (ns : List Node) → IsOnce (map label_of ns) → All (λ n. node_at ns (label_of n) ≡ Some n) ns
found [] o = All-nil (λ n. node_at [] (label_of n) ≡ Some n)
found (n ∷ ns) o =
    All-cons (λ m. node_at (n ∷ ns) (label_of m) ≡ Some m) n ns
    (ap (λ (b : Bool). cond b (Some n) (node_at ns (label_of n))) (eq-eqb (label_of n) (label_of n) refl))
    (λ k d i. ap (λ (b : Bool). cond b (Some n) (node_at ns (label_of (get_or ns k d)))) (differs (label_of n) (label_of (get_or ns k d)) (λ e. others ns (label_of n) o.0 k d i (sym e)))
    ∙ found ns o.1 k d i)

there : (u : Unit1) (p : Place) (l : ℕ) (o : Option Node) → node_at (out-Graph p.graph).nodes l ≡ o → IsEndFilled u p l o → Present (out-Graph p.graph).nodes l
there u p l (Some n) e h = inr (n, e)
there u p zero None e h = inl refl
there u p (suc l) None e h = absurd h

-- ---- one node

record Facts (u : Unit1) (g : Graph) (n : Node) : Type 0 where
  node : IsNode n
  rising : IsStrictlyIncreasing (out-Node n).before
  filled : IsNodeFilled u g n

facts : (u : Unit1) (p : Place) → Sound u p → All (Facts u p.graph) (out-Graph p.graph).nodes
facts u p s k d i =
    let ns = (out-Graph p.graph).nodes in
    let rights = all_named (ArePortsRight u p) label_of ns (All-tail (ArePortsRight u p) 0 (map label_of ns) (all_left (ArePortsRight u p) (0 ∷ map label_of ns) (map (λ (e : Edge). e.node) (out-Graph p.graph).edges) s.filled)) in
    record {
      node = s.formed.nodes k d i;
      rising = s.normal.lists k d i;
      filled = subst (IsEndFilled u p (label_of (get_or ns k d))) (found ns s.formed.labels k d i) (rights k d i).filled;
    }

some_parts : (c : Compound) (n : ℕ) → HasParts c n → 1 ≤ n
some_parts ForAll n h = omega (arith, h)
some_parts Select n h = omega (arith, h)
some_parts TagCase n h = omega (arith, h)
some_parts LoopA n h = omega (arith, h)
some_parts LoopB n h = omega (arith, h)

-- the graphs of a compound node are one level lower
abbrev Below : Unit1 → ℕ → List Graph → Type 0
Below u m gs = (k : ℕ) × (m ≡ suc k) × PartsGiven u k gs

by_op : (u : Unit1) (g : Graph) (m : ℕ) (n : Node) → Facts u g n → (1 ≤ length (out-Node n).subs → Below u m (out-Node n).subs) →
    (c : Option Compound) (s : Option Simple) → compound_at (out-Node n).op ≡ c → IsFilledAs u g n c s → NodeGiven u m n
by_op u g m n f parts (Some c) s e h =
    let below = parts (some_parts c (length (out-Node n).subs) h.parts) in
    subst (λ (m : ℕ). NodeGiven u m n) (sym below.1) (compound_given u below.0 n c f.node f.rising e below.2)
by_op u g m n f parts None (Some s) e h = simple_given u m n f.node f.rising e h.no_graphs h.no_list
by_op u g m n f parts None None e h = absurd h

node_given : (u : Unit1) (g : Graph) (m : ℕ) (n : Node) → Facts u g n → (1 ≤ length (out-Node n).subs → Below u m (out-Node n).subs) → NodeGiven u m n
node_given u g m n f parts = by_op u g m n f parts (compound_at (out-Node n).op) (simple_at (out-Node n).op) refl f.filled

-- ---- one graph

at_place : (u : Unit1) (m : ℕ) (p : Place) → Sound u p → All (NodeGiven u m) (out-Graph p.graph).nodes → Given u m p.graph
at_place u m p s nodes =
    let ns = (out-Graph p.graph).nodes in
    let es = (out-Graph p.graph).edges in
    let rights = all_named (ArePortsRight u p) (λ (e : Edge). e.node) es (all_right (ArePortsRight u p) (0 ∷ map label_of ns) (map (λ (e : Edge). e.node) es) s.filled) in
    graph_given u m p.graph s.formed.edges
    (record {
      nodes = λ l. refl;
      edges = are_edges u p.graph s.formed.labels (λ k d i. (s.formed.nodes k d i).label.0)
          (λ k d i. there u p (get_or es k d).node (node_at ns (get_or es k d).node) refl (rights k d i).filled)
          s.normal.literals;
    })
    nodes

-- ---- all graphs

pub here_of : (P : Place → Type 0) (more : ℕ) (home : Home) (g : Graph) → All P (places_of more home g) → P (record { graph = g; home = home })
here_of P zero home g h = All-head P (record { graph = g; home = home }) [] h
here_of P (suc more) home g h =
    All-head P (record { graph = g; home = home }) (flat_map (λ n. each_from (λ k s. places_of more (Inside g n k) s) 0 (out-Node n).subs) (out-Graph g).nodes) h

inner_of : (P : Place → Type 0) (more : ℕ) (home : Home) (g : Graph) → All P (places_of (suc more) home g) →
    All (λ n. All P (each_from (λ k s. places_of more (Inside g n k) s) 0 (out-Node n).subs)) (out-Graph g).nodes
inner_of P more home g h =
    let inner = flat_map (λ n. each_from (λ k s. places_of more (Inside g n k) s) 0 (out-Node n).subs) (out-Graph g).nodes in
    all_parts P (λ n. each_from (λ k s. places_of more (Inside g n k) s) 0 (out-Node n).subs) (out-Graph g).nodes (All-tail P (record { graph = g; home = home }) inner h)

parts_walk : (u : Unit1) (more : ℕ) → ((home : Home) (s : Graph) → levels s ≤ more → All (Sound u) (places_of more home s) → Given u more s) →
    (g : Graph) (n : Node) (k : ℕ) (gs : List Graph) → All (λ s. levels s ≤ more) gs → All (Sound u) (each_from (λ k s. places_of more (Inside g n k) s) k gs) →
    All (PartGiven u more) gs
parts_walk u more ih g n k [] low h = All-nil (PartGiven u more)
parts_walk u more ih g n k (s ∷ gs) low h =
    let rest = each_from (λ k s. places_of more (Inside g n k) s) (suc k) gs in
    let here = all_left (Sound u) (places_of more (Inside g n k) s) rest h in
    All-cons (PartGiven u more) s gs
    (record {
      given = ih (Inside g n k) s (All-head (λ s. levels s ≤ more) s gs low) here;
      name = (here_of (Sound u) more (Inside g n k) s here).formed.header.2;
    })
    (parts_walk u more ih g n (suc k) gs (All-tail (λ s. levels s ≤ more) s gs low) (all_right (Sound u) (places_of more (Inside g n k) s) rest h))

no_parts : (u : Unit1) (n : Node) → node_levels n ≤ 0 → 1 ≤ length (out-Node n).subs → Below u 0 (out-Node n).subs
no_parts u n h some = absurd (omega (arith, some, ap length (none_below n h)))

pub walk : (u : Unit1) (more : ℕ) (home : Home) (g : Graph) → levels g ≤ more → All (Sound u) (places_of more home g) → Given u more g
walk u zero home g low all =
    let p : Place = record { graph = g; home = home } in
    let s = here_of (Sound u) zero home g all in
    let ns = (out-Graph g).nodes in
    at_place u zero p s (λ k d i. node_given u g zero (get_or ns k d) (facts u p s k d i) (no_parts u (get_or ns k d) (nodes_below g zero low k d i)))
walk u (suc more) home g low all =
    let p : Place = record { graph = g; home = home } in
    let s = here_of (Sound u) (suc more) home g all in
    let ns = (out-Graph g).nodes in
    at_place u (suc more) p s
    (λ k d i. node_given u g (suc more) (get_or ns k d) (facts u p s k d i)
    (λ some. (
      more,
      refl,
      parts_given u more (out-Node (get_or ns k d)).subs
          (parts_walk u more (λ home s l a. walk u more home s l a) g (get_or ns k d) 0 (out-Node (get_or ns k d)).subs
          (parts_below (get_or ns k d) more (nodes_below g (suc more) low k d i))
          (inner_of (Sound u) more home g all k d i)),
    )))
