-- What is taken by the marks of a unit is owned.
use Rattle.std.proofs.Common.{◌≡◌, ◌==◌, ℕ, eqb, if◌then◌else◌, Bool, true, false, List, [], ◌∷◌, map, find, Contains, Option, Some, None, refl, sym, ap, ◌∙◌, subst}
use Rattle.std.proofs.lemmas.List.Elements.{All-contains}
use Rattle.graph_meaning.specs.Graph.TheViews.{out-Graph}
use Rattle.graph_meaning.specs.Node.{Node}
use Rattle.graph_meaning.specs.Unit1.{Unit1}
use Rattle.graph_meaning.specs.Units.{Place, edge_into, label_of, number_of, places, results}
use Rattle.graph_meaning.specs.Owned.{is_input_owned, is_owned}
use Rattle.graph_meaning.specs.Sound.{AreMarksRight, IsSound, IsTakerRight}
use Rattle.graph_meaning.proofs.Lists.{found-in}
use Rattle.graph_meaning.specs.Demand.{EachNode, Port, Vertex, at_label}
use Rattle.graph_meaning.specs.Networks.{kind_of, net_at, net_of, network, source_at, vertex_of}
use Rattle.graph_meaning.specs.StorageUnits.{storage_of, takes, test_in}
use Rattle.run_code.proofs.UnitTaking.{at-ins, at-sources, edged, taken-edge}
use Rattle.run_code.specs.Taking.{Fills, first_port, marks_of}
use Rattle.made_store.specs.Marks.{AreTakersOwned, owned_in, owned_inputs}

module _ (u : Unit1) (sound : IsSound u) (q : Place) (there : Contains (places u) q) where
  taken-owned : (l j p : ℕ) → source_at u q.graph l j ≡ Port 0 p → marks_of q.graph l j ≡ true → is_input_owned u q.graph q.home p ≡ true
  taken-owned l j p e t =
      let x = edged u q.graph l j 0 p e in
      let right = All-contains (λ e. e.takes ≡ true → IsTakerRight u q e) (out-Graph q.graph).edges x.edge (All-contains (AreMarksRight u) (places u) q sound there).takers x.there in
      subst (λ o. is_owned u q o ≡ true) x.from (right (taken-edge u q.graph l j 0 p x t)).may.1

  nodes-owned : (ns : List Node) → EachNode (λ v. (j p : ℕ) → Fills j v.ins (first_port v.kind) 0 p → marks_of q.graph v.label j ≡ true → is_input_owned u q.graph q.home p ≡ true) (map (vertex_of u q.graph) ns)
  nodes-owned [] = tt
  nodes-owned (n ∷ ns) = ((λ j p f t. taken-owned (label_of n) j p (at-ins u q.graph (label_of n) (kind_of u q.graph n) j 0 p f) t), nodes-owned ns)

  results-owned : (j p : ℕ) → Fills j (net_of u q.graph).results 1 0 p → marks_of q.graph 0 j ≡ true → is_input_owned u q.graph q.home p ≡ true
  results-owned j p f t = taken-owned 0 j p (at-sources u q.graph 0 1 (results q.graph) j 0 p f) t

-- what holds of each node of a graph holds of each that is found by its label
found-node : (Q : Vertex → Type 0) (ws : List Vertex) (l : ℕ) (v : Vertex) → EachNode Q ws → at_label ws l ≡ Some v → Q v
found-node Q [] l v h e = absurd (clash e)
  where
    clash : None ≡ Some v → ⊥
    clash e = cc
found-node Q (w ∷ ws) l v h e = go (eqb w.label l) e (λ later. found-node Q ws l v h.1 later)
  where
    same : Some w ≡ Some v → w ≡ v
    same e = cc

    go : (b : Bool) → (if b then Some w else at_label ws l) ≡ Some v → (at_label ws l ≡ Some v → Q v) → Q v
    go true e rest = subst Q (same e) h.0
    go false e rest = rest e

all-found : (Q : Vertex → Type 0) (ws vs : List Vertex) → EachNode Q ws → EachNode (λ v. (v.label ≡ 0 → ⊥) × (at_label ws v.label ≡ Some v)) vs → EachNode Q vs
all-found Q ws [] h f = tt
all-found Q ws (v ∷ vs) h f = (found-node Q ws v.label v h f.0.1, all-found Q ws vs h f.1)

pub takers-owned : AreTakersOwned
takers-owned u order sound along g = go (find (λ q. number_of q == g) (places u)) refl
  where
    Owned : Vertex → Type 0
    Owned v = (j p : ℕ) → Fills j v.ins (first_port v.kind) 0 p → (storage_of u).is_taken g v.label j ≡ true → owned_inputs u g p ≡ true

    as-place : (q : Place) → find (λ q. number_of q == g) (places u) ≡ Some q → (ws : List Vertex)
        → EachNode (λ v. (j p : ℕ) → Fills j v.ins (first_port v.kind) 0 p → marks_of q.graph v.label j ≡ true → is_input_owned u q.graph q.home p ≡ true) ws → EachNode Owned ws
    as-place q e [] h = tt
    as-place q e (w ∷ ws) h = ((λ j p f t. ap (λ o. owned_in u o p) e ∙ h.0 j p f (sym (ap (λ o. test_in o (λ h. takes (edge_into h w.label j))) e) ∙ t)), as-place q e ws h.1)

    go : (o : Option Place) → find (λ q. number_of q == g) (places u) ≡ o → EachNode Owned (order g) × ((j p : ℕ) → Fills j (network u g).results 1 0 p → (storage_of u).is_taken g 0 j ≡ true → owned_inputs u g p ≡ true)
    go None e = (
      all-found Owned (network u g).nodes (order g) (subst (λ n. EachNode Owned n.nodes) (sym (ap (net_at u) e)) tt) (along g).nodes,
      λ j p f t. absurd (subst (λ n. Fills j n.results 1 0 p) (ap (net_at u) e) f),
    )
    go (Some q) e =
        let x = found-in (λ q. number_of q == g) (places u) q e in (
          all-found Owned (network u g).nodes (order g) (subst (λ n. EachNode Owned n.nodes) (sym (ap (net_at u) e)) (as-place q e (map (vertex_of u q.graph) (out-Graph q.graph).nodes) (nodes-owned u sound q x.0 (out-Graph q.graph).nodes))) (along g).nodes,
          λ j p f t. ap (λ o. owned_in u o p) e
              ∙ results-owned u sound q x.0 j p (subst (λ n. Fills j n.results 1 0 p) (ap (net_at u) e) f) (sym (ap (λ o. test_in o (λ h. takes (edge_into h 0 j))) e) ∙ t),
        )
