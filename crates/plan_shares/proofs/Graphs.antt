-- What holds of each node of a graph of a unit holds along its order, and of a returns on what is collected.
use Rattle.std.proofs.Common.{◌≡◌, ◌≢◌, ℕ, zero, suc, ◌+◌, ◌-◌, ◌≤◌, ◌&&◌, not, if◌then◌else◌, eqb, Bool, true, false, List, [], ◌∷◌, map, get_or, length, option_map, Option, Some, None, Contains, inl, inr, refl, sym, ap, ◌∙◌, subst, arith, ◌==◌}
use Rattle.std.specs.Prelude.{is_some, slice_get}
use Rattle.if1_graph.specs.declared.graph.Graph.{Graph}
use Rattle.if1_graph.specs.declared.graph.Graph.TheViews.{out-Graph}
use Rattle.if1_graph.specs.declared.graph.Node.{Node}
use Rattle.if1_graph.specs.declared.graph.Unit1.{Unit1}
use Rattle.if1_graph.specs.Ready.{IsReady}
use Rattle.if1_graph.specs.Units.{Place, label_of, number_of, places}
use Rattle.if1_marks.proofs.Lists.{found-in, here, there}
use Rattle.if1_marks.proofs.Tests.{same-number}
use Rattle.graph_meaning.proofs.Units.{at-node}
use Rattle.graph_meaning.specs.Carried.{Unfilled}
use Rattle.graph_meaning.specs.Demand.{EachNode, Fixed, Kind, Net, Plain, Port, Source, Vertex, Whole, at_label}
use Rattle.graph_meaning.specs.Forms as form
use Rattle.graph_meaning.specs.Networks.{net_at, net_of, network, vertex_of}
use Rattle.graph_meaning.specs.Storage.{is_left}
use Rattle.graph_meaning.specs.StorageUnits.{storage_of}
use Rattle.ordered_meaning.specs.Orders.{IsInOrder}
use Rattle.ordered_meaning.specs.Taking.{Fills, first_port}
use Rattle.run_code.specs.Collections.{Final, Sifts}
use Rattle.unit_laws.proofs.TypedEdges.{node-formed}
use Rattle.unit_laws.proofs.TypedNodes.{node-found}
use Rattle.unit_plan.specs.Plans.{place_of, plain_of}
use Rattle.unit_plan.specs.Returns.{Keeping, Lasts, Way, Wholly, collects_by, multiple, node_collects, refolded_node, refolded_nodes, way_of, whole_of, wholes}
use Rattle.unit_plan.specs.Shares.{is_last, kind_or, kind_there, reads_by, reads_multiple, takes_collected, takes_more}

-- ---- along an order

found-node : (Q : Vertex → Type 0) (ws : List Vertex) (l : ℕ) (v : Vertex) → EachNode Q ws → at_label ws l ≡ Some v → Q v
found-node Q [] l v h e = absurd (clash e)
  where
    clash : None ≡ Some v → ⊥
    clash e = cc
found-node Q (w ∷ ws) l v h e = go (eqb w.label l) e (λ later. found-node Q ws l v h.1 later)
  where
    same : Some w ≡ Some v → w ≡ v
    same e = cc

    go : (b : Bool) → (if b then Some w else at_label ws l) ≡ Some v → (at_label ws l ≡ Some v → Q v) → Q v
    go true e rest = subst Q (same e) h.0
    go false e rest = rest e

-- in a graph of the unit
pub record IsAt (net : Net) (v : Vertex) : Type 0 where
  pub labelled : v.label ≢ 0
  pub found : at_label net.nodes v.label ≡ Some v

all-found : (net : Net) (Q : Vertex → Type 0) → EachNode Q net.nodes → (vs : List Vertex) → EachNode (λ v. (v.label ≢ 0) × (at_label net.nodes v.label ≡ Some v)) vs → EachNode (λ v. Q v × IsAt net v) vs
all-found net Q h [] f = tt
all-found net Q h (v ∷ vs) f = ((found-node Q net.nodes v.label v h f.0.1, record { labelled = f.0.0; found = f.0.1 }), all-found net Q h vs f.1)

pub in-order : (net : Net) (Q : Vertex → Type 0) → EachNode Q net.nodes → (vs : List Vertex) → IsInOrder net vs → EachNode (λ v. Q v × IsAt net v) vs
in-order net Q h vs along = all-found net Q h vs along.nodes

pub each-of : (Q R : Vertex → Type 0) → ((v : Vertex) → Q v → R v) → (vs : List Vertex) → EachNode Q vs → EachNode R vs
each-of Q R f [] h = tt
each-of Q R f (v ∷ vs) h = (f v h.0, each-of Q R f vs h.1)

pub each-all : (Q : Vertex → Type 0) → ((v : Vertex) → Q v) → (vs : List Vertex) → EachNode Q vs
each-all Q f [] = tt
each-all Q f (v ∷ vs) = (f v, each-all Q f vs)

pub each-both : (Q R : Vertex → Type 0) (vs : List Vertex) → EachNode Q vs → EachNode R vs → EachNode (λ v. Q v × R v) vs
each-both Q R [] a b = tt
each-both Q R (v ∷ vs) a b = ((a.0, b.0), each-both Q R vs a.1 b.1)

-- of the nodes on what is collected, where it does not matter how many collections there are before
pub each-refolded : (plain : ℕ) (left : (node port : ℕ) → Bool) (Q R : Vertex → Type 0) → ((k : ℕ) (v : Vertex) → Q v → R (refolded_node plain left k v v.kind)) → (k : ℕ) (vs : List Vertex) → EachNode Q vs → EachNode R (refolded_nodes plain left k vs)
each-refolded plain left Q R f k [] h = tt
each-refolded plain left Q R f k (v ∷ vs) h = (f k v h.0, each-refolded plain left Q R f (k + length (node_collects plain left v v.kind)) vs h.1)

-- ---- along the nodes of a graph

mapped : (u : Unit1) (g : Graph) (Q : Vertex → Type 0) (ns : List Node) → ((n : Node) → Contains ns n → Q (vertex_of u g n)) → EachNode Q (map (vertex_of u g) ns)
mapped u g Q [] h = tt
mapped u g Q (n ∷ ns) h = (h n (here n ns), mapped u g Q ns (λ m c. h m (there n ns m c)))

-- a graph of this number stands there, or the unit has none
pub record IsPlaced (u : Unit1) (g : ℕ) (q : Place) : Type 0 where
  pub found : place_of u g ≡ Some q
  pub there : Contains (places u) q
  pub number : number_of q ≡ g
  pub net : network u g ≡ net_of u q.graph

pub placed-at : (u : Unit1) (g : ℕ) (q : Place) → place_of u g ≡ Some q → IsPlaced u g q
placed-at u g q e =
    let x = found-in (λ q. number_of q == g) (places u) q e in
    record { found = e; there = x.0; number = same-number (number_of q) g x.1; net = ap (net_at u) e }

pub network-each : (u : Unit1) (g : ℕ) (Q : Vertex → Type 0) → ((q : Place) → IsPlaced u g q → (n : Node) → Contains (out-Graph q.graph).nodes n → Q (vertex_of u q.graph n)) → EachNode Q (network u g).nodes
network-each u g Q h = go (place_of u g) refl
  where
    go : (o : Option Place) → place_of u g ≡ o → EachNode Q (network u g).nodes
    go None e = subst (λ n. EachNode Q n.nodes) (sym (ap (net_at u) e)) tt
    go (Some q) e = let x = placed-at u g q e in subst (λ n. EachNode Q n.nodes) (sym x.net) (mapped u q.graph Q (out-Graph q.graph).nodes (h q x))

-- its own label leads to the vertex of a node
module _ (u : Unit1) (ready : IsReady u) (g : ℕ) (q : Place) (x : IsPlaced u g q) (n : Node) (inside : Contains (out-Graph q.graph).nodes n) where
  pub own-vertex : at_label (network u g).nodes (label_of n) ≡ Some (vertex_of u q.graph n)
  own-vertex =
      ap (λ (z : Net). at_label z.nodes (label_of n)) x.net
      ∙ (at-node u q.graph (out-Graph q.graph).nodes (label_of n) ∙ ap (option_map (vertex_of u q.graph)) (node-found u ready q x.there n inside))

  pub own-label : label_of n ≢ 0
  own-label e = let le = (node-formed u ready q x.there n inside).label.0 in omega (arith, e, le)

pub kind-at : (net : Net) (v : Vertex) → at_label net.nodes v.label ≡ Some v → kind_there net v ≡ v.kind
kind-at net v e = ap (kind_or v.kind) e

-- ---- what is taken more

fills-late : (os : List Source) (first i l p : ℕ) → Fills i os first l p → first ≤ i
fills-late [] first i l p h = absurd h
fills-late (o ∷ os) first i l p (inl h) = let s = h.0 in omega (arith, s)
fills-late (o ∷ os) first i l p (inr h) = let s = fills-late os (suc first) i l p h in omega (arith, s)

fills-get : (os : List Source) (first i l p d : ℕ) → Fills i os first l p → first + d ≡ i → get_or os d (Fixed Unfilled) ≡ Port l p
fills-get [] first i l p d h e = absurd h
fills-get (o ∷ os) first i l p zero (inl h) e = h.1
fills-get (o ∷ os) first i l p (suc d) (inl h) e = let s = h.0 in absurd (omega (arith, s, e))
fills-get (o ∷ os) first i l p zero (inr h) e = let s = fills-late os (suc first) i l p h in absurd (omega (arith, s, e))
fills-get (o ∷ os) first i l p (suc d) (inr h) e = fills-get os (suc first) i l p d h (omega (arith, e))

-- ---- last values

module _ (plain : ℕ) where
  pub no-final : (ds : List Source) (a m : ℕ) → slice_get (wholes plain ds) a ≡ Some (Final m) → ⊥
  no-final [] a m e = cc
  no-final (o ∷ os) a m e = go (multiple plain o) a e (λ a e. no-final os a m e)
    where
      clash : (j : ℕ) (mask : Option ℕ) → Some (Sifts j mask) ≡ Some (Final m) → ⊥
      clash j mask e = cc

      go : (x : Option ℕ) (a : ℕ) → slice_get (whole_of x (wholes plain os)) a ≡ Some (Final m) → ((a : ℕ) → slice_get (wholes plain os) a ≡ Some (Final m) → ⊥) → ⊥
      go None a e rest = rest a e
      go (Some j) zero e rest = clash j None e
      go (Some j) (suc a) e rest = rest a e

  last-way : (way : Way) (os : List Source) (a m : ℕ) → slice_get (collects_by way plain os) a ≡ Some (Final m) → is_last way ≡ true
  last-way (Lasts j) os a m e = refl
  last-way (Keeping before j q) os zero m e = absurd (clash e)
    where
      clash : Some (Sifts j (Some q)) ≡ Some (Final m) → ⊥
      clash e = cc
  last-way (Keeping before j q) os (suc a) m e = absurd (clash e)
    where
      clash : None ≡ Some (Final m) → ⊥
      clash e = cc
  last-way Wholly os a m e = absurd (no-final os a m e)

module _ (u : Unit1) (order : (graph : ℕ) → List Vertex) (g : ℕ) where
  abbrev left : (node port : ℕ) → Bool
  left = is_left (storage_of u) g

  -- a graph that is no returns takes by its marks alone
  pub none-more : plain_of u g ≡ None → (l i : ℕ) → takes_more u order g l i ≡ false
  none-more e zero i = refl
  none-more e (suc l) i = ap (λ o. takes_collected u order o g (suc l) i) e

  module _ (plain : ℕ) (returns : plain_of u g ≡ Some plain) (v : Vertex) (at : IsAt (network u g) v) where
    labelled : (l : ℕ) → l ≢ 0 → (n : ℕ) × (l ≡ suc n)
    labelled zero h = absurd (h refl)
    labelled (suc n) h = (n, refl)

    more-by : (i : ℕ) → reads_multiple plain left v v.kind i ≡ false → takes_more u order g v.label i ≡ false
    more-by i none =
        let n = labelled v.label at.labelled in
        ap (λ l. takes_more u order g l i) n.1
        ∙ (ap (λ o. takes_collected u order o g (suc n.0) i) returns
        ∙ ap (λ b. b && not ((storage_of u).is_aggregate g (suc n.0) i)) (ap (λ o. reads_by plain left o i) (sym (ap (at_label (network u g).nodes) n.1) ∙ at.found) ∙ none))

    and-none : (a b : Bool) → b ≡ false → a && b ≡ false
    and-none true b e = e
    and-none false b e = refl

    old-reads : (kind : Kind) → v.kind ≡ kind → (i l p : ℕ) → Fills i v.ins (first_port kind) l p → multiple plain (Port l p) ≡ None → reads_multiple plain left v kind i ≡ false
    old-reads (Plain row shape) k i l p h n =
        let late = fills-late v.ins 1 i l p h in
        let at = fills-get v.ins 1 i l p (i - 1) h (omega (arith, late)) in
        and-none (not (is_last (way_of plain (left v.label) row v.ins))) (is_some (multiple plain (get_or v.ins (i - 1) (Fixed Unfilled)))) (ap (λ o. is_some (multiple plain o)) at ∙ ap is_some n)
    old-reads (Whole form) k i l p h n = refl

    -- what is no multiple is not
    pub old-more : (i l p : ℕ) → Fills i v.ins (first_port v.kind) l p → multiple plain (Port l p) ≡ None → takes_more u order g v.label i ≡ false
    old-more i l p h n = more-by i (old-reads v.kind refl i l p h n)

    -- nor is a last value
    final-reads : (kind : Kind) (a m i : ℕ) → slice_get (node_collects plain left v kind) a ≡ Some (Final m) → reads_multiple plain left v kind i ≡ false
    final-reads (Plain row shape) a m i e =
        ap (λ b. not b && is_some (multiple plain (get_or v.ins (i - 1) (Fixed Unfilled)))) (last-way plain (way_of plain (left v.label) row v.ins) v.ins a m e)
    final-reads (Whole form) a m i e = refl

    pub final-more : (a m i : ℕ) → slice_get (node_collects plain left v v.kind) a ≡ Some (Final m) → takes_more u order g v.label i ≡ false
    final-more a m i e = more-by i (final-reads v.kind a m i e)

  -- nodes that are no simple ones take by their marks
  pub whole-more : (v : Vertex) (f : form.Form) → IsAt (network u g) v → v.kind ≡ Whole f → (i : ℕ) → takes_more u order g v.label i ≡ false
  whole-more v f at k i = go (plain_of u g) refl
    where
      go : (o : Option ℕ) → plain_of u g ≡ o → takes_more u order g v.label i ≡ false
      go None e = none-more e v.label i
      go (Some plain) e = more-by plain e v at i (ap (λ k. reads_multiple plain left v k i) k)
