-- Without ordering lists what precedes is what reaches.
use Rattle.std.proofs.Common.{◌≡◌, ℕ, true, false, [], map, Contains, All, subst}
use Rattle.std.proofs.lemmas.List.Elements.{Contains-append_right, All-contains, All-contains_itself, All-weaker}
use Rattle.if1_graph.specs.declared.graph.Graph.{Graph}
use Rattle.if1_graph.specs.declared.graph.Graph.TheViews.{out-Graph}
use Rattle.if1_graph.specs.declared.graph.Node.{Node, out-Node}
use Rattle.if1_graph.specs.declared.graph.Edge.{Edge}
use Rattle.if1_graph.specs.Cycles.{Reaches, edge, path}
use Rattle.if1_graph.specs.Ready.{IsOrdered}
use Rattle.if1_graph.specs.Units.{label_of, Place, places, ends}
use Rattle.std.specs.Prelude.{◌==◌}
use Rattle.if1_marks.specs.Orders.{Precedes, fed, listed, between, IsOrderRight}
use Rattle.if1_marks.specs.Laws.{IsReadyInOrder, IsUnmarkedSound}
use Rattle.if1_marks.specs.Sound.{IsTakerRight, AreMarksRight}
use Rattle.if1_marks.proofs.Lists.{there, in-none, in-mapped, found-in}

pub joined : {g : Graph} {l m n : ℕ} → Reaches g l m → Reaches g m n → Reaches g l n
joined (edge f) r = path f r
joined (path f a) r = path f (joined a r)

last-edge : {g : Graph} {l m : ℕ} → Reaches g l m → (e : Edge) × Contains (out-Graph g).edges e × (e.node ≡ m)
last-edge (edge f) = (f.edge, f.there, f.target)
last-edge (path f r) = last-edge r

-- a node that reaches itself is the end of an edge
pub target-there : (p : Place) (l : ℕ) → Reaches p.graph l l → Contains (ends p.graph) l
target-there p l r =
    let x = last-edge r in
    there 0 _ l (Contains-append_right (map label_of (out-Graph p.graph).nodes) (map (λ e. e.node) (out-Graph p.graph).edges) l
    (subst (Contains (map (λ e. e.node) (out-Graph p.graph).edges)) x.2 (in-mapped (λ e. e.node) (out-Graph p.graph).edges x.0 x.1)))

module _ (p : Place) (ordered : All (IsOrdered p) (ends p.graph)) (unlisted : All (λ n. (out-Node n).before ≡ []) (out-Graph p.graph).nodes) where
  no-list : (n : Node) (l : ℕ) → Contains (out-Graph p.graph).nodes n → Contains (out-Node n).before l → ⊥
  no-list n l h c = in-none l (subst (λ ls. Contains ls l) (All-contains (λ n. (out-Node n).before ≡ []) (out-Graph p.graph).nodes n unlisted h) c)

  reaches : {l m : ℕ} → Precedes p.graph l m → Reaches p.graph l m
  reaches (fed f) = edge f
  reaches (listed {l = l} {m = m} n e c) = absurd (no-list n l (found-in (λ n. label_of n == m) (out-Graph p.graph).nodes n e).0 c)
  reaches (between a b) = joined (reaches a) (reaches b)

  order-right : IsOrderRight p
  order-right =
      record {
        named = λ n l h c. absurd (no-list n l h c);
        acyclic = λ l w. All-contains (IsOrdered p) (ends p.graph) l ordered (target-there p l (reaches w)) (reaches w);
      }

pub right-without-lists : IsReadyInOrder
right-without-lists u ready none =
    All-weaker (Contains (places u)) IsOrderRight
    (λ p h. order-right p (All-contains (λ p. All (IsOrdered p) (ends p.graph)) (places u) p ready.acyclic h) (All-contains (λ p. All (λ n. (out-Node n).before ≡ []) (out-Graph p.graph).nodes) (places u) p none h))
    (places u) (All-contains_itself (places u))

pub unmarked-sound : IsUnmarkedSound
unmarked-sound u ready takers lists =
    All-weaker (Contains (places u)) (AreMarksRight u)
    (λ p h. record {
      takers = All-weaker (λ e. e.takes ≡ false) (λ e. e.takes ≡ true → IsTakerRight u p e) (λ e no yes. cc) (out-Graph p.graph).edges
          (All-contains (λ p. All (λ e. e.takes ≡ false) (out-Graph p.graph).edges) (places u) p takers h);
      order = All-contains IsOrderRight (places u) p (right-without-lists u ready lists) h;
    })
    (places u) (All-contains_itself (places u))
