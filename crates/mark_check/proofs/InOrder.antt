-- A graph of a ready unit without a wrong label on an ordering list is in order.
use Rattle.std.proofs.Common.{◌≡◌, ◌∙◌, ℕ, List, [], ◌∷◌, map, Option, Some, None, IsSome, ◌⊎◌, inl, inr, Contains, All, arith, refl, sym, ap, subst, ◌==◌}
use Rattle.std.proofs.lemmas.List.Elements.{All-contains, Contains-append_left, Contains-append_right}
use Rattle.if1_graph.specs.declared.graph.Graph.{Graph}
use Rattle.if1_graph.specs.declared.graph.Graph.TheViews.{out-Graph}
use Rattle.if1_graph.specs.declared.graph.Node.{Node, out-Node}
use Rattle.if1_graph.specs.declared.graph.Unit1.{Unit1}
use Rattle.if1_graph.specs.Cycles.{Reaches, edge}
use Rattle.if1_graph.specs.Formed.{IsNode, IsGraph}
use Rattle.if1_graph.specs.Normal.{IsNormal}
use Rattle.if1_graph.specs.Ready.{IsReady}
use Rattle.if1_graph.specs.Units.{label_of, node_at, Place, places}
use Rattle.if1_order.specs.Orders.{IsLinked}
use Rattle.if1_order.proofs.Units.{ports_linked}
use Rattle.if1_marks.specs.Orders.{Precedes, fed, listed, between}
use Rattle.if1_marks.proofs.Lists.{here-or-there, in-none, in-mapped, found-in}
use Rattle.if1_marks.proofs.Tests.{same-number}
use Rattle.if1_marks.proofs.Unlisted.{joined}
use Rattle.marks_made.proofs.Lists.{from-mapped}
use Rattle.marks_made.specs.Laws.{IsMarkable}
use Rattle.marks_made.specs.Units.{is_candidate}
use Rattle.marks_made.proofs.Units.{markable, IsLike}
use Rattle.mark_check.specs.Entries.{IsWrong, entries_of, entries}
use Rattle.mark_check.specs.Late.{IsInOrder}
use Rattle.mark_check.specs.Marks.{HasWrongEntry}

-- ---- entries of lists

pub entry-there : (ns : List Node) (n : Node) (l : ℕ) → Contains ns n → Contains (out-Node n).before l → Contains (entries ns) (label_of n, l)
entry-there [] n l h c = in-none n h
entry-there (m ∷ ns) n l h c =
    elim (here-or-there m ns n h) [
      | inl same ↦ Contains-append_left (entries_of m) (entries ns) (label_of n, l) (subst (λ z. Contains (entries_of z) (label_of n, l)) (sym same) (in-mapped (λ l. (label_of n, l)) (out-Node n).before l c))
      | inr later ↦ Contains-append_right (entries_of m) (entries ns) (label_of n, l) (entry-there ns n l later c)
    ]

-- ---- a graph whose lists are right

module _ (p : Place) (none : ¬ HasWrongEntry p) (no-reach : (l : ℕ) → ¬ Reaches p.graph l l) where
  abbrev g : Graph
  g = p.graph

  right : (n : Node) (l : ℕ) → Contains (out-Graph g).nodes n → Contains (out-Node n).before l → ¬ IsWrong g (label_of n, l)
  right n l h c w = none ((label_of n, l), entry-there (out-Graph g).nodes n l h c, w)

  pub all-named : (n : Node) (l : ℕ) → Contains (out-Graph g).nodes n → Contains (out-Node n).before l → IsSome (node_at (out-Graph g).nodes l)
  all-named n l h c = go (node_at (out-Graph g).nodes l) refl
    where
      go : (o : Option Node) → node_at (out-Graph g).nodes l ≡ o → IsSome o
      go None e = absurd (right n l h c (inl e))
      go (Some m) e = refl

  abbrev SameOrBefore : ℕ → ℕ → Type 0
  SameOrBefore l m = (l ≡ m) ⊎ Precedes g l m

  -- a way with an ordering list on it
  record ByList (l m : ℕ) : Type 0 where
    node : Node
    label : ℕ
    found : node_at (out-Graph g).nodes (label_of node) ≡ Some node
    on_list : Contains (out-Node node).before label
    start : SameOrBefore l label
    rest : SameOrBefore (label_of node) m

  then-before : {l m n : ℕ} → SameOrBefore l m → Precedes g m n → SameOrBefore l n
  then-before {n = n} (inl e) w = inr (subst (λ k. Precedes g k n) (sym e) w)
  then-before (inr v) w = inr (between v w)

  before-then : {l m n : ℕ} → Precedes g l m → SameOrBefore m n → SameOrBefore l n
  before-then {l = l} v (inl e) = inr (subst (Precedes g l) e v)
  before-then v (inr w) = inr (between v w)

  by-list : (l m : ℕ) (n : Node) → node_at (out-Graph g).nodes m ≡ Some n → Contains (out-Node n).before l → ByList l m
  by-list l m n e c =
      let same = same-number (label_of n) m (found-in (λ n. label_of n == m) (out-Graph g).nodes n e).1 in
      record { node = n; label = l; found = ap (node_at (out-Graph g).nodes) same ∙ e; on_list = c; start = inl refl; rest = inl same }

  way : {l m : ℕ} → Precedes g l m → Reaches g l m ⊎ ByList l m
  way (fed f) = inl (edge f)
  way (listed {l = l} {m = m} n e c) = inr (by-list l m n e c)
  way (between {l = l} {m = m} {n = n} a b) = go (way a) (way b)
    where
      go : Reaches g l m ⊎ ByList l m → Reaches g m n ⊎ ByList m n → Reaches g l n ⊎ ByList l n
      go (inl r) (inl s) = inl (joined r s)
      go (inr x) w = inr (record { node = x.node; label = x.label; found = x.found; on_list = x.on_list; start = x.start; rest = then-before x.rest b })
      go (inl r) (inr x) = inr (record { node = x.node; label = x.label; found = x.found; on_list = x.on_list; start = before-then a x.start; rest = x.rest })

  pub no-way-back : (l : ℕ) → ¬ Precedes g l l
  no-way-back l w = go (way w)
    where
      around : (x : ByList l l) → SameOrBefore (label_of x.node) x.label
      around x = closed x.rest x.start
        where
          closed : {a m n : ℕ} → SameOrBefore a m → SameOrBefore m n → SameOrBefore a n
          closed {n = n} (inl e) w = subst (λ k. SameOrBefore k n) (sym e) w
          closed (inr v) w = before-then v w

      wrong : (x : ByList l l) → SameOrBefore (label_of x.node) x.label → IsWrong g (label_of x.node, x.label)
      wrong x (inl e) = inr (subst (Precedes g (label_of x.node)) e (subst (λ k. Precedes g k (label_of x.node)) (sym e) (listed x.node x.found x.on_list)))
      wrong x (inr v) = inr v

      go : Reaches g l l ⊎ ByList l l → ⊥
      go (inl r) = no-reach l r
      go (inr x) = right x.node x.label (found-in (λ n. label_of n == label_of x.node) (out-Graph g).nodes x.node x.found).0 x.on_list (wrong x (around x))

pub place-in-order : (u : Unit1) → IsReady u → IsNormal u → (p : Place) → Contains (places u) p → ¬ HasWrongEntry p → IsInOrder p.graph
place-in-order u ready normal p h none =
    let like : IsLike p.graph p.graph = record { edges = refl; labels = refl } in
    let ok : IsMarkable p.graph (is_candidate u p) = markable u ready p p.graph h like in
    let formed : IsGraph u p = All-contains (IsGraph u) (places u) p ready.formed.graphs h in
    record {
      linked = All-contains (λ p. IsLinked p.graph) (places u) p (ports_linked u normal ready.ports) h;
      inner = λ c. no-zero (out-Graph p.graph).nodes formed.nodes c;
      there = ok.there;
      named = all-named p none ok.acyclic;
      acyclic = no-way-back p none ok.acyclic;
    }
  where
    no-zero : (ns : List Node) → All IsNode ns → ¬ Contains (map label_of ns) 0
    no-zero ns nodes c =
        let r = from-mapped label_of ns 0 c in
        let n = All-contains IsNode ns r.0 nodes r.1 in
        omega (arith, r.2, n.label.0)
