-- What is right or wrong in a graph, from its ends and from the graphs in its nodes.
use Rattle.std.proofs.Common.{◌≡◌, ℕ, ◌+◌, ◌<◌, ◌≤◌, List, take, length, get_or, slice_get, Option, Some, None, All, AllPairs, Contains, inl, inr, ◌⊎◌, refl, sym, ap, subst, ◌∙◌, arith}
use Rattle.std.proofs.lemmas.List.Elements.{All-contains, All-more, Contains-get_or}
use Rattle.std.proofs.lemmas.List.{take_all}
use Rattle.std.proofs.lemmas.Option.{slice_get_within, slice_get-get_or}
use Rattle.if1_graph.specs.declared.graph.Graph.{Graph}
use Rattle.if1_graph.specs.declared.graph.Graph.TheViews.{out-Graph}
use Rattle.if1_graph.specs.declared.graph.Node.{Node, out-Node}
use Rattle.if1_graph.specs.Units.{results}
use Rattle.if1_graph.specs.Normal.{Precedes}
use Rattle.if1_order.specs.Within.{IsPart, whole}
use Rattle.if1_order.specs.Within as part
use Rattle.if1_ports.specs.declared.around.Around.{Around}
use Rattle.if1_ports.specs.declared.around.Bounds.{Bounds}
use Rattle.if1_ports.specs.Fed.{Types, Callees}
use Rattle.if1_ports.specs.Compound.{bounds_at}
use Rattle.if1_ports.specs.Ends.{FindsWrong}
use Rattle.if1_ports.specs.Inside.{itself, deeper, around_in, InOrderInside, AreInOrder, AllRight, SomeWrong, PartsRight, PartsWrong, NodesRight, NodesWrong}

-- ---- order

pub edges_of : (gs : List Graph) → AreInOrder gs → All (λ g. AllPairs Precedes (out-Graph g).edges) gs
edges_of gs order = λ k d h. (order (get_or gs k d) (Contains-get_or gs k d h) (get_or gs k d) whole).edges

pub parts_in_order : (g : Graph) → InOrderInside g → (n : Node) → Contains (out-Graph g).nodes n → AreInOrder (out-Node n).subs
parts_in_order g order n h s there p w = order p (part.deeper n h there w)

pub nodes_in_order : (g : Graph) → InOrderInside g → All (λ n. All (λ g. AllPairs Precedes (out-Graph g).edges) (out-Node n).subs) (out-Graph g).nodes
nodes_in_order g order = λ k d h.
    edges_of (out-Node (get_or (out-Graph g).nodes k d)).subs
    (parts_in_order g order (get_or (out-Graph g).nodes k d) (Contains-get_or (out-Graph g).nodes k d h))

-- ---- one graph

module _ (o : Types) (c : Callees) where
  pub right_graph : (b : Bounds) (g : Graph) → FindsWrong o c b g None → NodesRight o c g (out-Graph g).nodes → AllRight o c b g
  right_graph b g none nodes d h itself = none
  right_graph b g none nodes d h (deeper {s = s} n k there e i) =
      All-contains (λ n. PartsRight o c (around_in g n) (out-Node n).subs) (out-Graph g).nodes n nodes there k s e d h i

  pub wrong_here : (b : Bounds) (g : Graph) (l : ℕ) → FindsWrong o c b g (Some l) → SomeWrong o c b g ((out-Graph g).number, l)
  wrong_here b g l h = (b, g, itself, refl, h.0, h.1)

  pub wrong_inside : (b : Bounds) (g : Graph) (at : ℕ × ℕ) → NodesWrong o c g (out-Graph g).nodes at → SomeWrong o c b g at
  wrong_inside b g at (n, there, (k, s, e, (d, h, i, number, end, wrong))) = (d, h, deeper n k there e i, number, end, wrong)

  -- ---- graphs one after another

  -- the first of the graphs are right
  abbrev pub FirstRight : Option Around → List Graph → ℕ → Type 0
  FirstRight a gs n = (k : ℕ) (s : Graph) → k < n → slice_get gs k ≡ Some s → AllRight o c (bounds_at a k (results s)) s

  pub one_more : (a : Option Around) (gs : List Graph) (n : ℕ) (s : Graph) → n < length gs → s ≡ get_or gs n s → FirstRight a gs n →
      AllRight o c (bounds_at a n (results s)) s → FirstRight a gs (n + 1)
  one_more a gs n s h is first right k t low e =
      elim (split k n (omega (arith, low))) [
        | inl l ↦ first k t l e
        | inr z ↦
            let found : slice_get gs k ≡ Some s = ap (slice_get gs) z ∙ slice_get-get_or gs n s h ∙ ap Some (sym is) in
            let same : s ≡ t = cc in
            subst (λ t. AllRight o c (bounds_at a k (results t)) t) same
            (subst (λ k. AllRight o c (bounds_at a k (results s)) s) (sym z) right)
      ]
    where
      split : (a b : ℕ) → a ≤ b → (a < b) ⊎ (a ≡ b)
      split a b h = grind arith

  pub all_of : (a : Option Around) (gs : List Graph) (n : ℕ) → length gs ≤ n → FirstRight a gs n → PartsRight o c a gs
  all_of a gs n h first k s e = first k s (omega (arith, slice_get_within gs k s e)) e

  -- a wrong one among them
  pub wrong_part : (a : Option Around) (gs : List Graph) (k : ℕ) (s : Graph) (b : Bounds) (at : ℕ × ℕ) → k < length gs → s ≡ get_or gs k s →
      b ≡ bounds_at a k (results s) → SomeWrong o c b s at → PartsWrong o c a gs at
  wrong_part a gs k s b at h is e wrong =
      (k, s, slice_get-get_or gs k s h ∙ ap Some (sym is), subst (λ b. SomeWrong o c b s at) e wrong)

  pub right_part : (a : Option Around) (gs : List Graph) (k : ℕ) (s : Graph) (b : Bounds) → k < length gs → s ≡ get_or gs k s →
      b ≡ bounds_at a k (results s) → FirstRight a gs k → AllRight o c b s → FirstRight a gs (k + 1)
  right_part a gs k s b h is e first right = one_more a gs k s h is first (subst (λ b. AllRight o c b s) e right)

  -- ---- the nodes of a graph

  pub nodes_more : (g : Graph) (ns : List Node) (i : ℕ) (n : Node) → ns ≡ (out-Graph g).nodes → i < length ns → n ≡ get_or ns i n →
      NodesRight o c g (take i (out-Graph g).nodes) → PartsRight o c (around_in g n) (out-Node n).subs → NodesRight o c g (take (i + 1) (out-Graph g).nodes)
  nodes_more g ns i n same h is first right =
      subst (λ ns. NodesRight o c g (take i ns) → NodesRight o c g (take (i + 1) ns)) same
      (λ first. All-more (λ n. PartsRight o c (around_in g n) (out-Node n).subs) ns i n h first
      (subst (λ n. PartsRight o c (around_in g n) (out-Node n).subs) is right)) first

  pub nodes_all : (g : Graph) (ns : List Node) (i : ℕ) → ns ≡ (out-Graph g).nodes → length ns ≤ i → NodesRight o c g (take i (out-Graph g).nodes) →
      NodesRight o c g (out-Graph g).nodes
  nodes_all g ns i same h first =
      subst (NodesRight o c g) (take_all i (out-Graph g).nodes (subst (λ ns. length ns ≤ i) same h)) first
