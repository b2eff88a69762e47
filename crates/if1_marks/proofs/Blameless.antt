-- Sound marks have no fault.
use Rattle.std.proofs.Common.{◌≡◌, ℕ, true, false, not, List, [], ◌∷◌, map, Option, Some, None, IsSome, Contains, inl, inr, refl, sym, ap, subst, ◌∙◌, cond, ◌==◌}
use Rattle.std.proofs.lemmas.Bool.{eq-eqb}
use Rattle.std.proofs.lemmas.List.Elements.{All-contains, All-contains_itself, All-weaker}
use Rattle.if1_graph.specs.declared.graph.Edge.{Edge}
use Rattle.if1_graph.specs.declared.graph.Graph.TheViews.{out-Graph}
use Rattle.if1_graph.specs.declared.graph.Node.{Node}
use Rattle.if1_graph.specs.declared.graph.Unit1.{Unit1}
use Rattle.if1_graph.specs.Formed.{IsOnce, IsGraph}
use Rattle.if1_graph.specs.Units.{label_of, node_at, Place, places}
use Rattle.if1_marks.specs.Owned.{leaving}
use Rattle.if1_marks.specs.Orders.{listed, between, ComesBefore, IsOrderRight}
use Rattle.if1_marks.specs.Faults.{IsWrongOnList, absent, itself, behind, IsToBlame, may_not, twice, takes_too, not_before}
use Rattle.if1_marks.specs.Sound.{IsTakerRight, AreMarksRight}
use Rattle.if1_marks.specs.Laws.{IsFaultless, AreSoundFaultless}
use Rattle.if1_marks.proofs.Lists.{here-or-there, in-none, in-mapped, found-in, in-filter}
use Rattle.if1_marks.proofs.Tests.{one-only, not-true}
use Rattle.if1_marks.proofs.Taken.{another, in-leaving}

-- a node is the first one of its label where labels stand once
pub found-node : (ns : List Node) (n : Node) → IsOnce (map label_of ns) → Contains ns n → node_at ns (label_of n) ≡ Some n
found-node [] n once h = in-none n h
found-node (m ∷ ns) n once h =
    elim (here-or-there m ns n h) [
      | inl same ↦ ap (λ b. cond b (Some m) (node_at ns (label_of n))) (eq-eqb (label_of m) (label_of n) (ap label_of same)) ∙ ap Some same
      | inr later ↦ ap (λ b. cond b (Some m) (node_at ns (label_of n))) (another-label m ns n once later) ∙ found-node ns n once.1 later
    ]
  where
    another-label : (m : Node) (ns : List Node) (n : Node) → IsOnce (map label_of (m ∷ ns)) → Contains ns n → (label_of m == label_of n) ≡ false
    another-label m ns n once later = not-true (label_of m == label_of n) (another (label_of m) (label_of n) (λ e. once.0 (subst (Contains (map label_of ns)) (sym e) (in-mapped label_of ns n later))))

nowhere : {A : Type 0} (o : Option A) → IsSome o → o ≡ None → ⊥
nowhere None s e = absurd cc
nowhere (Some a) s e = absurd cc

module _ (p : Place) (order : IsOrderRight p) (n : Node) (at : node_at (out-Graph p.graph).nodes (label_of n) ≡ Some n) where
  not-wrong : {l : ℕ} → IsWrongOnList p.graph n l → ⊥
  not-wrong (absent {l = l} h e) = nowhere (node_at (out-Graph p.graph).nodes l) (order.named n l (found-in (λ m. label_of m == label_of n) (out-Graph p.graph).nodes n at).0 h) e
  not-wrong (itself h) = order.acyclic (label_of n) (listed n at h)
  not-wrong (behind {l = l} h w) = order.acyclic l (between (listed n at h) w)

module _ (u : Unit1) (p : Place) (e : Edge) (right : IsTakerRight u p e) (there : Contains (leaving p.graph e.from) e) (takes : e.takes ≡ true) where
  not-to-blame : {reader : ℕ} → IsToBlame u p e reader → ⊥
  not-to-blame (may_not x) = x right.may
  not-to-blame (twice x) = x right.once
  not-to-blame (takes_too f h other also) =
      other (one-only _ f e right.alone (in-filter (λ f. f.takes) (leaving p.graph e.from) f h also) (in-filter (λ f. f.takes) (leaving p.graph e.from) e there takes))
  not-to-blame (not_before f h other x) =
      x (All-contains (λ f. ComesBefore p.graph f.node e.node) _ f right.last
      (in-filter (λ f. not (f.node == e.node)) (leaving p.graph e.from) f h (another f.node e.node other)))

pub sound-faultless : AreSoundFaultless
sound-faultless u ready sound =
    All-weaker (Contains (places u)) (IsFaultless u)
    (λ p h.
    let marks = All-contains (AreMarksRight u) (places u) p sound h in
    let graph = All-contains (IsGraph u) (places u) p ready.formed.graphs h in
    record {
      lists = λ n l there w. not-wrong p marks.order n (found-node (out-Graph p.graph).nodes n graph.labels there) w;
      takers = λ e reader there takes w.
          let right = All-contains (λ e. e.takes ≡ true → IsTakerRight u p e) (out-Graph p.graph).edges e marks.takers there takes in
          not-to-blame u p e right (in-leaving u p e.from e right.may.1 there refl) takes w;
    })
    (places u) (All-contains_itself (places u))
