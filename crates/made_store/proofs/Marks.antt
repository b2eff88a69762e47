-- Takers by the marks of a unit are last, for each number of a graph.
use Rattle.std.proofs.Common.{◌≡◌, T, ◌==◌, List, [], ◌∷◌, find, Option, Some, None, refl, sym, ap, subst}
use Rattle.std.proofs.Math.Facts.{eqb_yes}
use Rattle.graph_meaning.specs.Units.{Place, edge_into, number_of, places}
use Rattle.graph_meaning.proofs.Lists.{found-in}
use Rattle.graph_meaning.specs.Demand.{Vertex}
use Rattle.graph_meaning.specs.Networks.{net_at, network, nothing}
use Rattle.graph_meaning.specs.StorageUnits.{storage_of, takes, test_in}
use Rattle.run_code.proofs.UnitTaking.{unit-takers}
use Rattle.run_code.specs.Orders.{IsInOrder}
use Rattle.run_code.specs.Taking.{AreTakersLast, Marks, marks_of}
use Rattle.made_store.specs.Marks.{AreMarkedTakersLast}

-- a number of no graph has no nodes
no-nodes : (marks : Marks) (vs : List Vertex) → IsInOrder nothing vs → AreTakersLast marks [] vs nothing.results
no-nodes marks [] h = (tt, λ i j l p f t k. absurd f)
no-nodes marks (v ∷ vs) h = absurd (clash h.nodes.0.1)
  where
    clash : None ≡ Some v → ⊥
    clash e = cc

pub marked-last : AreMarkedTakersLast
marked-last u order ready sound along g = go (find (λ p. number_of p == g) (places u)) refl
  where
    marks : Option Place → Marks
    marks o = λ l port. test_in o (λ h. takes (edge_into h l port))

    go : (o : Option Place) → find (λ p. number_of p == g) (places u) ≡ o → AreTakersLast ((storage_of u).is_taken g) [] (order g) (network u g).results
    go None e =
        subst (λ m. AreTakersLast m [] (order g) (network u g).results) (sym (ap marks e))
        (subst (λ n. AreTakersLast (marks None) [] (order g) n.results) (sym (ap (net_at u) e)) (no-nodes (marks None) (order g) (subst (λ n. IsInOrder n (order g)) (ap (net_at u) e) (along g))))
    go (Some q) e =
        let x = found-in (λ p. number_of p == g) (places u) q e in
        let s : number_of q ≡ g = eqb_yes (subst T (sym x.1) tt) in
        subst (λ m. AreTakersLast m [] (order g) (network u g).results) (sym (ap marks e))
        (subst (λ k. AreTakersLast (marks_of q.graph) [] (order g) (network u k).results) s (unit-takers u q (order g) ready sound x.0 (subst (λ k. IsInOrder (network u k) (order g)) (sym s) (along g))))
