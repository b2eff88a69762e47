-- The ordered meaning and the definition of record give the same.
use Rattle.std.proofs.Common.{◌≡◌, ◌≢◌, ℕ, ◌+◌, List, [], ◌∷◌, map, find, Option, Some, None, Contains, refl, sym, ap, ◌∙◌, subst, arith, ◌==◌}
use Rattle.std.proofs.lemmas.List.Elements.{All-contains}
use Rattle.graph_meaning.specs.Graph.{Graph}
use Rattle.graph_meaning.specs.Graph.TheViews.{out-Graph}
use Rattle.graph_meaning.specs.Node.{Node}
use Rattle.graph_meaning.specs.Unit1.{Unit1}
use Rattle.graph_meaning.specs.Formed.{IsGraph, IsNode}
use Rattle.graph_meaning.specs.Ready.{IsReady}
use Rattle.graph_meaning.specs.Units.{label_of, Place, places, number_of}
use Rattle.graph_meaning.proofs.Taken.{sound-in-order}
use Rattle.graph_meaning.specs.Carried.{Carried}
use Rattle.graph_meaning.specs.Demand.{Vertex, Network, EachNode}
use Rattle.graph_meaning.specs.Networks.{vertex_of, net_at, network}
use Rattle.graph_meaning.specs.StorageUnits.{storage_of}
use Rattle.graph_meaning.specs.Plain.{Means, Costs}
use Rattle.graph_meaning.specs.Storage.{Weights, Storage, GraphAdds, copying, writing, capped, Copies, Writes}
use Rattle.graph_meaning.proofs.Lists.{found-in, here, there}
use Rattle.graph_meaning.proofs.PlainValues.{one-meaning}
use Rattle.graph_meaning.proofs.Units.{units-orderly}
use Rattle.ordered_meaning.specs.Ordered.{Total, GraphYields, Yields, MeansInOrder}
use Rattle.ordered_meaning.specs.Laws.{counting, AreSumsOfRecord, moved, GivesInOrder, IsOfRecord, AreTheSame, IsOrderedMeaningOfRecord, AreOrdersAlike, HaveUnitsOrders, AreUnitsInOrder}
use Rattle.ordered_meaning.proofs.Shuffled.{IsListed, all-listed}
use Rattle.ordered_meaning.proofs.Sorting.{sorted}
use Rattle.ordered_meaning.proofs.Recorded.{Reading, graph-from, recorded, one}
use Rattle.ordered_meaning.proofs.Complete.{yields-where-costed}

-- ---- sums by weights

abbrev pub itself : (w : Weights) → Reading (counting w) w
itself w = record { reads = λ x. x; none_is = refl; plus_is = λ a b. refl; node_is = λ g v ks rs. refl; results_is = λ g rs. refl }

pub sums-of-record : AreSumsOfRecord
sums-of-record w u order orderly inorder g ins rs t = (there, from)
  where
    ok : (g : ℕ) → IsListed (u g) (order g)
    ok = all-listed u order orderly inorder

    there : MeansInOrder (counting w) u order g ins rs t → (d : ℕ) × Means u d g ins rs × Costs u d g ins t.fires × GraphAdds u w d g ins t.sum
    there h = recorded (counting w) u order ok h.0 g ins rs t h.1 w (itself w)

    total-is : (a b : Total (counting w)) → a.fires ≡ b.fires → a.sum ≡ b.sum → a ≡ b
    total-is a b e f = ap (λ x. record { fires = x; sum = a.sum }) e ∙ ap (λ x. record { fires = b.fires; sum = x }) f

    from : (d : ℕ) × Means u d g ins rs × Costs u d g ins t.fires × GraphAdds u w d g ins t.sum → MeansInOrder (counting w) u order g ins rs t
    from h =
        let y = yields-where-costed (counting w) u order ok h.0 g ins t.fires h.2 in
        let x = recorded (counting w) u order ok y.0 g ins y.1 y.2 y.3 w (itself w) in
        let same = one-meaning u g ins y.1 rs x.0 h.0 x.1 h.1 in
        let sum = one (counting w) u order ok y.0 g ins y.1 y.2 y.3 w (itself w) h.0 t.sum h.3 in (
          y.0,
          subst (GraphYields (counting w) u order (Yields (counting w) u order y.0) g ins rs) (total-is y.2 t y.4 sum)
              (subst (λ z. GraphYields (counting w) u order (Yields (counting w) u order y.0) g ins z y.2) same y.3),
        )

-- ---- copies and writes

copies-read : (s : Storage) → Reading (moved s) (copying s)
copies-read s = record { reads = λ x. x.copies; none_is = refl; plus_is = λ a b. refl; node_is = λ g v ks rs. refl; results_is = λ g rs. refl }

writes-read : (s : Storage) → Reading (moved s) (writing s)
writes-read s = record { reads = λ x. x.writes; none_is = refl; plus_is = λ a b. refl; node_is = λ g v ks rs. refl; results_is = λ g rs. refl }

module _ (s : Storage) (u : Network) (order : ℕ → List Vertex) (ok : (g : ℕ) → IsListed (u g) (order g)) where
  moved-recorded : (n g : ℕ) (ins rs : List Carried) (c : Total (moved s)) → GraphYields (moved s) u order (Yields (moved s) u order n) g ins rs c
      → IsOfRecord s u g ins rs c.fires (capped c.sum.copies) (capped c.sum.writes)
  unfolding copies-read writes-read
  moved-recorded n g ins rs c h =
      let x = graph-from (moved s) (copying s) (copies-read s) u order ok n g ins rs c h in
      let y = graph-from (moved s) (writing s) (writes-read s) u order ok n g ins rs c h in
      let d = x.0 + y.0 in
      let p = x.1 d (omega arith) in
      let q = y.1 d (omega arith) in
      (d, p.0, p.1, (c.sum.copies, p.2, refl), (c.sum.writes, q.2, refl))

  copies-one : (n g : ℕ) (ins rs : List Carried) (t : Total (moved s)) → GraphYields (moved s) u order (Yields (moved s) u order n) g ins rs t → (d total : ℕ) → Copies s u d g ins total → total ≡ capped t.sum.copies
  unfolding copies-read
  copies-one n g ins rs t h d total a = a.2 ∙ ap capped (sym (one (moved s) u order ok n g ins rs t h (copying s) (copies-read s) d a.0 a.1))

  writes-one : (n g : ℕ) (ins rs : List Carried) (t : Total (moved s)) → GraphYields (moved s) u order (Yields (moved s) u order n) g ins rs t → (d total : ℕ) → Writes s u d g ins total → total ≡ capped t.sum.writes
  unfolding writes-read
  writes-one n g ins rs t h d total a = a.2 ∙ ap capped (sym (one (moved s) u order ok n g ins rs t h (writing s) (writes-read s) d a.0 a.1))

  to-record : (g : ℕ) (ins rs : List Carried) (c copied written : ℕ) → GivesInOrder s u order g ins rs c copied written → IsOfRecord s u g ins rs c copied written
  to-record g ins rs c copied written h =
      let x = moved-recorded h.1.0 g ins rs h.0 h.1.1 in
      subst (λ z. IsOfRecord s u g ins rs z copied written) h.2
      (subst (λ z. IsOfRecord s u g ins rs h.0.fires z written) (sym h.3) (subst (IsOfRecord s u g ins rs h.0.fires (capped h.0.sum.copies)) (sym h.4) x))

  from-record : (g : ℕ) (ins rs : List Carried) (c copied written : ℕ) → IsOfRecord s u g ins rs c copied written → GivesInOrder s u order g ins rs c copied written
  from-record g ins rs c copied written h =
      let y = yields-where-costed (moved s) u order ok h.0 g ins c h.2 in
      let x = moved-recorded y.0 g ins y.1 y.2 y.3 in
      let same = one-meaning u g ins y.1 rs x.0 h.0 x.1 h.1 in (
        y.2,
        (y.0, subst (λ z. GraphYields (moved s) u order (Yields (moved s) u order y.0) g ins z y.2) same y.3),
        y.4,
        copies-one y.0 g ins y.1 y.2 y.3 h.0 copied h.3,
        writes-one y.0 g ins y.1 y.2 y.3 h.0 written h.4,
      )

  pub the-same : AreTheSame s u order
  the-same =
      record {
        same = λ g ins rs c copied written. (to-record g ins rs c copied written, from-record g ins rs c copied written);
        defined = λ d g ins c costs.
            let y = yields-where-costed (moved s) u order ok d g ins c costs in
            (y.1, capped y.2.sum.copies, capped y.2.sum.writes, (y.2, (y.0, y.3), y.4, refl, refl));
      }

pub of-record : IsOrderedMeaningOfRecord
of-record s u order orderly inorder = the-same s u order (all-listed u order orderly inorder)

pub alike : AreOrdersAlike
alike s u order other orderly one two g ins rs c copied written h =
    from-record s u other (all-listed u other orderly two) g ins rs c copied written (to-record s u order (all-listed u order orderly one) g ins rs c copied written h)

-- ---- units

labels-positive : (u : Unit1) (g : Graph) (ns : List Node) → ((n : Node) → Contains ns n → label_of n ≢ 0) → EachNode (λ v. v.label ≢ 0) (map (vertex_of u g) ns)
labels-positive u g [] h = tt
labels-positive u g (n ∷ ns) h = (h n (here n ns), labels-positive u g ns (λ m i. h m (there n ns m i)))

net-positive : (u : Unit1) → IsReady u → (k : ℕ) → EachNode (λ v. v.label ≢ 0) (network u k).nodes
net-positive u ready k = go (find (λ p. number_of p == k) (places u)) refl
  where
    go : (o : Option Place) → find (λ p. number_of p == k) (places u) ≡ o → EachNode (λ v. v.label ≢ 0) (net_at u o).nodes
    go None e = tt
    go (Some p) e =
        let h = (found-in (λ p. number_of p == k) (places u) p e).0 in
        let graph = All-contains (IsGraph u) (places u) p ready.formed.graphs h in
        labels-positive u p.graph (out-Graph p.graph).nodes (λ n i z. let least = (All-contains IsNode (out-Graph p.graph).nodes n graph.nodes i).label.0 in omega (arith, least, z))

pub units-sorted : HaveUnitsOrders
units-sorted u ready sound =
    let orderly = units-orderly u ready (sound-in-order u sound) in
    ((λ g. (sorted (network u g) (orderly g) (net-positive u ready g)).0), λ g. (sorted (network u g) (orderly g) (net-positive u ready g)).1)

pub units-in-order : AreUnitsInOrder
units-in-order u order ready sound inorder = of-record (storage_of u) (network u) order (units-orderly u ready (sound-in-order u sound)) inorder
