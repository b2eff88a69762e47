-- What is asked of shares, clause by clause, for the graphs of a unit.
use Rattle.std.proofs.Common.{◌≡◌, ℕ, zero, suc, ◌+◌, ◌||◌, Bool, true, false, List, [], ◌∷◌, length, Option, Some, None, Contains, inl, inr, refl, sym, ap, ◌∙◌, subst, arith}
use Rattle.std.specs.Prelude.{slice_get}
use Rattle.if1_graph.specs.declared.graph.Graph.TheViews.{out-Graph}
use Rattle.if1_graph.specs.declared.graph.Node.{Node, out-Node}
use Rattle.if1_graph.specs.declared.graph.Unit1.{Unit1}
use Rattle.if1_graph.specs.declared.op.Compound.{Compound}
use Rattle.if1_graph.specs.Ops.{compound_at, simple_at}
use Rattle.if1_graph.specs.Ready.{IsReady}
use Rattle.if1_graph.specs.Units.{Place, label_of, results}
use Rattle.if1_marks.specs.Sound.{IsSound}
use Rattle.graph_meaning.specs.Demand.{EachNode, Fixed, Kind, Net, Plain, Port, Source, Vertex, Whole}
use Rattle.graph_meaning.specs.Networks.{form_of, kind_as, kind_of, net_at, network, vertex_of}
use Rattle.graph_meaning.specs.Storage.{is_left}
use Rattle.graph_meaning.specs.StorageUnits.{storage_of}
use Rattle.ordered_meaning.proofs.UnitTaking.{at-ins, at-sources}
use Rattle.ordered_meaning.specs.Orders.{AreInOrder}
use Rattle.ordered_meaning.specs.Taking.{AreTakersLast, Fills, Marks, first_port}
use Rattle.run_code.specs.Collections.{Collect, Final, Sifts}
use Rattle.run_code.specs.Made.{Plan}
use Rattle.run_made.specs.Plans.{Weighing}
use Rattle.made_store.proofs.Marks.{marked-last}
use Rattle.made_store.proofs.Owners.{takers-owned}
use Rattle.made_store.specs.Marks.{owned_inputs}
use Rattle.made_store.specs.Settings.{Shares}
use Rattle.made_store.specs.Shared.{AreThere, IsKindShared, TakesOwned}
use Rattle.unit_plan.specs.Plans.{Tables, nodes_by, place_of, plain_at, plain_in, plain_of, plan_of}
use Rattle.unit_plan.specs.Returns.{multiple, node_collects, nodes_collects, refolded_node, refolded_nodes}
use Rattle.unit_plan.specs.Shares.{has_of, kind_there, owns_collected, owns_of, shares_of, takes_more, weighing}
use Rattle.plan_shares.proofs.Graphs.{IsAt, IsPlaced, each-both, each-of, each-refolded, final-more, in-order, kind-at, network-each, none-more, old-more, own-label, own-vertex, placed-at, whole-more}
use Rattle.plan_shares.proofs.KindsShared.{IsLastOnce, node-shared}
use Rattle.plan_shares.proofs.Lasting.{IsFit, refolded-last}
use Rattle.plan_shares.proofs.Multiples.{node-plain, results-plain}
use Rattle.plan_shares.proofs.Once.{in-first, in-second, last-once}
use Rattle.plan_shares.proofs.Owning.{marked-owns, not-plain, owns-there}
use Rattle.plan_shares.proofs.Replacing.{IsFrom, IsWholePlain, NoMultiples, comes-from, new, node-first, node-label, node-replaced, old}
use Rattle.plan_shares.proofs.There.{past-has, read-has}
use Rattle.plan_shares.specs.Laws.{AreKindsShared, AreReadThere, AreSharesLast, AreSharesOwned}

module _ (u : Unit1) (order : (graph : ℕ) → List Vertex) (t : Tables) (ready : IsReady u) (along : AreInOrder (network u) order) (g : ℕ) where
  abbrev P : Plan
  P = plan_of u order t

  abbrev S : Shares
  S = shares_of u order

  abbrev W : Weighing
  W = weighing u order t

  abbrev net : Net
  net = network u g

  abbrev left : (node port : ℕ) → Bool
  left = is_left (storage_of u) g

  -- ---- what is read is there

  abbrev pub Reads : Vertex → Type 0
  Reads v = (i p : ℕ) → Fills i v.ins (first_port v.kind) 0 p → has_of u g p ≡ true

  net-reads : EachNode Reads net.nodes
  net-reads =
      network-each u g Reads
      (λ q x n c i p h. subst (λ k. has_of u k p ≡ true) x.number (read-has u ready q x.there (label_of n) i p (at-ins u q.graph (label_of n) (kind_of u q.graph n) i 0 p h)))

  result-reads : (i p : ℕ) → Fills i net.results 1 0 p → has_of u g p ≡ true
  result-reads i p h = go (place_of u g) refl
    where
      go : (o : Option Place) → place_of u g ≡ o → has_of u g p ≡ true
      go None e = absurd (subst (λ n. Fills i n.results 1 0 p) (ap (net_at u) e) h)
      go (Some q) e =
          let x = placed-at u g q e in
          subst (λ k. has_of u k p ≡ true) x.number (read-has u ready q x.there 0 i p (at-sources u q.graph 0 1 (results q.graph) i 0 p (subst (λ n. Fills i n.results 1 0 p) x.net h)))

  there-by : (os : List Source) (first : ℕ) → ((i p : ℕ) → Fills i os first 0 p → has_of u g p ≡ true) → AreThere P S W g os
  there-by [] first h = tt
  there-by (Fixed c ∷ os) first h = there-by os (suc first) (λ i p f. h i p (inr f))
  there-by (Port zero zero ∷ os) first h = clash (h first 0 (inl (refl, refl)))
    where
      clash : false ≡ true → ⊥
      clash e = cc
  there-by (Port zero (suc p) ∷ os) first h = (h first (suc p) (inl (refl, refl)), there-by os (suc first) (λ i p f. h i p (inr f)))
  there-by (Port (suc l) p ∷ os) first h = there-by os (suc first) (λ i p f. h i p (inr f))

  -- ---- a returns

  module _ (plain : ℕ) (returns : plain_of u g ≡ Some plain) where
    at-home : (q : Place) → IsPlaced u g q → plain_at q.home ≡ Some plain
    at-home q x = sym (ap plain_in x.found) ∙ returns

    net-plain : EachNode (λ v. IsWholePlain plain v v.kind) net.nodes
    net-plain = network-each u g (λ v. IsWholePlain plain v v.kind) (λ q x n c. node-plain u ready q x.there plain (at-home q x) n c)

    pub order-plain : EachNode (λ v. IsWholePlain plain v v.kind) (order g)
    order-plain = each-of _ (λ v. IsWholePlain plain v v.kind) (λ v h. h.0) (order g) (in-order net (λ v. IsWholePlain plain v v.kind) net-plain (order g) (along g))

    result-plain : NoMultiples plain net.results
    result-plain = go (place_of u g) refl
      where
        go : (o : Option Place) → place_of u g ≡ o → NoMultiples plain net.results
        go None e = subst (λ n. NoMultiples plain n.results) (sym (ap (net_at u) e)) tt
        go (Some q) e = let x = placed-at u g q e in subst (λ n. NoMultiples plain n.results) (sym x.net) (results-plain u ready q x.there plain (at-home q x))

    past : (a : ℕ) → has_of u g (suc (plain + a)) ≡ true
    past a = past-has u g (suc (plain + a)) plain returns (omega arith)

    refolded-there : (k : ℕ) (v : Vertex) → Reads v × IsWholePlain plain v v.kind → AreThere P S W g (refolded_node plain left k v v.kind).ins
    refolded-there k v h =
        there-by (refolded_node plain left k v v.kind).ins (first_port v.kind)
        (λ i p f. go i p (comes-from plain k v.ins (refolded_node plain left k v v.kind).ins (node_collects plain left v v.kind) (node-replaced plain left k v h.1) (first_port v.kind) i 0 p f))
      where
        go : (i p : ℕ) → IsFrom plain k v.ins (node_collects plain left v v.kind) (first_port v.kind) i 0 p → has_of u g p ≡ true
        go i p (old f n) = h.0 i p f
        go i p (new a c at z e fin) = ap (has_of u g) e ∙ past (k + a)

  nodes-there : (o : Option ℕ) → plain_of u g ≡ o → EachNode (λ v. AreThere P S W g v.ins) (nodes_by u g o (order g))
  nodes-there None e = each-of _ (λ v. AreThere P S W g v.ins) (λ v h. there-by v.ins (first_port v.kind) h.0) (order g) (in-order net Reads net-reads (order g) (along g))
  nodes-there (Some plain) e =
      each-refolded plain left (λ v. Reads v × IsWholePlain plain v v.kind) (λ v. AreThere P S W g v.ins) (refolded-there plain e) 0 (order g)
      (each-both Reads (λ v. IsWholePlain plain v v.kind) (order g) (each-of _ Reads (λ v h. h.0) (order g) (in-order net Reads net-reads (order g) (along g))) (order-plain plain e))

  pub all-there : EachNode (λ v. AreThere P S W g v.ins) (P.nodes g) × AreThere P S W g (P.results g)
  all-there = (nodes-there (plain_of u g) refl, there-by net.results 1 result-reads)

  -- ---- takers

  module _ (sound : IsSound u) where
    abbrev marks : Marks
    marks = (storage_of u).is_taken g

    unmarked : plain_of u g ≡ None → marks ≡ S.takes g
    unmarked e = λ j l p. (sym (ap (λ b. b || marks l p) (none-more u order g e l p))) j

    -- what each node takes by its mark is owned, and what it reads is there
    abbrev Owned : Vertex → Type 0
    Owned v = (j p : ℕ) → Fills j v.ins (first_port v.kind) 0 p → marks v.label j ≡ true → owned_inputs u g p ≡ true

    owned-marks : EachNode Owned (order g) × ((j p : ℕ) → Fills j net.results 1 0 p → marks 0 j ≡ true → owned_inputs u g p ≡ true)
    owned-marks = takers-owned u order sound along g

    module _ (plain : ℕ) (returns : plain_of u g ≡ Some plain) where
      old-takes : (v : Vertex) → IsAt net v → (i l p : ℕ) → Fills i v.ins (first_port v.kind) l p → multiple plain (Port l p) ≡ None → S.takes g v.label i ≡ true → marks v.label i ≡ true
      old-takes v at i l p h n e = sym (ap (λ b. b || marks v.label i) (old-more u order g plain returns v at i l p h n)) ∙ e

      fit : EachNode (IsFit plain left marks (S.takes g)) (order g)
      fit =
          each-of _ (IsFit plain left marks (S.takes g)) (λ v h. (h.0, λ i l p f n e. old-takes v h.1 i l p f n e)) (order g)
          (in-order net (λ v. IsWholePlain plain v v.kind) (net-plain plain returns) (order g) (along g))

      returns-last : AreTakersLast (S.takes g) [] (refolded_nodes plain left 0 (order g)) net.results
      returns-last =
          refolded-last plain left marks (S.takes g) net.results (result-plain plain returns) (λ i l p f n e. e) (order g) 0 [] [] (λ l p h. absurd h) fit (marked-last u order ready sound along g)

      -- ---- what takes is owned

      abbrev all-collects : List Collect
      all-collects = nodes_collects plain left (order g)

      abbrev IsKnown : Vertex → Type 0
      IsKnown v = (IsWholePlain plain v v.kind × IsAt net v) × Owned v

      known : EachNode IsKnown (order g)
      known =
          each-both (λ v. IsWholePlain plain v v.kind × IsAt net v) Owned (order g)
          (in-order net (λ v. IsWholePlain plain v v.kind) (net-plain plain returns) (order g) (along g)) owned-marks.0

      collected-owned : (v : Vertex) → IsKnown v → (k a : ℕ) (c : Collect) (j p : ℕ) → slice_get (node_collects plain left v v.kind) a ≡ Some c → slice_get all-collects (k + a) ≡ Some c → p ≡ suc (plain + (k + a))
          → ((m : ℕ) → c ≡ Final m → Fills j v.ins (first_port v.kind) 0 (suc (plain + m))) → S.takes g v.label j ≡ true → owns_of u order g p ≡ true
      collected-owned v h k a c j p at all e fin takes =
          ap (owns_of u order g) e ∙ (owns-there u order g plain returns (k + a) ∙ (ap (owns_collected u order plain g) all ∙ go c refl))
        where
          go : (d : Collect) → c ≡ d → owns_collected u order plain g (Some d) ≡ true
          go (Sifts i mask) f = refl
          go (Final m) f =
              h.1 j (suc (plain + m)) (fin m f)
              (sym (ap (λ b. b || marks v.label j) (final-more u order g plain returns v h.0.1 a m j (at ∙ ap Some f))) ∙ takes)

      node-owned : (v : Vertex) → IsKnown v → (k : ℕ) → ((a : ℕ) (c : Collect) → slice_get (node_collects plain left v v.kind) a ≡ Some c → slice_get all-collects (k + a) ≡ Some c)
          → (j p : ℕ) → Fills j (refolded_node plain left k v v.kind).ins (first_port v.kind) 0 p → S.takes g v.label j ≡ true → owns_of u order g p ≡ true
      node-owned v h k all j p f takes =
          go (comes-from plain k v.ins (refolded_node plain left k v v.kind).ins (node_collects plain left v v.kind) (node-replaced plain left k v h.0.0) (first_port v.kind) j 0 p f)
        where
          go : IsFrom plain k v.ins (node_collects plain left v v.kind) (first_port v.kind) j 0 p → owns_of u order g p ≡ true
          go (old f n) = absurd (not-plain u g plain p returns (h.1 j p f (old-takes v h.0.1 j 0 p f n takes)) n)
          go (new a c at z e fin) = collected-owned v h k a c j p at (all a c at) e fin takes

      refolded-owned : (vs : List Vertex) (k : ℕ) → ((a : ℕ) (c : Collect) → slice_get (nodes_collects plain left vs) a ≡ Some c → slice_get all-collects (k + a) ≡ Some c) → EachNode IsKnown vs
          → EachNode (λ v. TakesOwned P S W g v.label (first_port v.kind) v.ins) (refolded_nodes plain left k vs)
      refolded-owned [] k all h = tt
      refolded-owned (v ∷ vs) k all h =
          let own = node_collects plain left v v.kind in
          let v' = refolded_node plain left k v v.kind in
          let here = node-owned v h.0 k (λ a c e. all a c (in-first own (nodes_collects plain left vs) a c e)) in (
            subst (λ n. TakesOwned P S W g n (first_port v'.kind) v'.ins) (sym (node-label plain left k v))
                (subst (λ f. TakesOwned P S W g v.label f v'.ins) (sym (node-first plain left k v)) (λ j p f e. here j p f e)),
            refolded-owned vs (k + length own)
                (λ a c e. let at : k + length own + a ≡ k + (length own + a) = omega arith in ap (slice_get all-collects) at ∙ all (length own + a) c (in-second own (nodes_collects plain left vs) a c e)) h.1,
          )

      returns-owned : EachNode (λ v. TakesOwned P S W g v.label (first_port v.kind) v.ins) (refolded_nodes plain left 0 (order g))
      returns-owned = refolded-owned (order g) 0 (λ a c e. let at : 0 + a ≡ a = omega arith in ap (slice_get all-collects) at ∙ e) known

      plain-result : (os : List Source) (i j l p : ℕ) → NoMultiples plain os → Fills j os i l p → multiple plain (Port l p) ≡ None
      plain-result [] i j l p n h = absurd h
      plain-result (o ∷ os) i j l p n (inl h) = sym (ap (multiple plain) h.1) ∙ n.0
      plain-result (o ∷ os) i j l p n (inr h) = plain-result os (suc i) j l p n.1 h

      returns-results-owned : TakesOwned P S W g 0 1 net.results
      returns-results-owned j p f e = absurd (not-plain u g plain p returns (owned-marks.1 j p f e) (plain-result net.results 1 j 0 p (result-plain plain returns) f))

    owns-there-or : plain_of u g ≡ None → (p : ℕ) → has_of u g p ≡ true → owned_inputs u g p ≡ true → owns_of u order g p ≡ true
    owns-there-or e zero h o = absurd (clash h)
      where
        clash : false ≡ true → ⊥
        clash e = cc
    owns-there-or e (suc p) h o = marked-owns u order g p e o

    by-marks : plain_of u g ≡ None → (l j : ℕ) → S.takes g l j ≡ true → marks l j ≡ true
    by-marks e l j t = sym (ap (λ b. b || marks l j) (none-more u order g e l j)) ∙ t

    nodes-last : (o : Option ℕ) → plain_of u g ≡ o → AreTakersLast (S.takes g) [] (nodes_by u g o (order g)) net.results
    nodes-last None e = subst (λ m. AreTakersLast m [] (order g) net.results) (unmarked e) (marked-last u order ready sound along g)
    nodes-last (Some plain) e = returns-last plain e

    nodes-owned : (o : Option ℕ) → plain_of u g ≡ o → EachNode (λ v. TakesOwned P S W g v.label (first_port v.kind) v.ins) (nodes_by u g o (order g))
    nodes-owned None e =
        each-of (λ v. Owned v × Reads v) (λ v. TakesOwned P S W g v.label (first_port v.kind) v.ins) (λ v h j p f m. owns-there-or e p (h.1 j p f) (h.0 j p f (by-marks e v.label j m))) (order g)
        (each-both Owned Reads (order g) owned-marks.0 (each-of _ Reads (λ v h. h.0) (order g) (in-order net Reads net-reads (order g) (along g))))
    nodes-owned (Some plain) e = returns-owned plain e

    results-owned : (o : Option ℕ) → plain_of u g ≡ o → TakesOwned P S W g 0 1 net.results
    results-owned None e = λ j p f m. owns-there-or e p (result-reads j p f) (owned-marks.1 j p f (by-marks e 0 j m))
    results-owned (Some plain) e = returns-results-owned plain e

    pub all-last : AreTakersLast (S.takes g) [] (P.nodes g) (P.results g)
    all-last = nodes-last (plain_of u g) refl

    pub all-owned : EachNode (λ v. TakesOwned P S W g v.label (first_port v.kind) v.ins) (P.nodes g) × TakesOwned P S W g 0 1 (P.results g)
    all-owned = (nodes-owned (plain_of u g) refl, results-owned (plain_of u g) refl)

-- ---- kinds

module _ (u : Unit1) (order : (graph : ℕ) → List Vertex) (t : Tables) (ready : IsReady u) (sound : IsSound u) (along : AreInOrder (network u) order) where
  once : (r plain : ℕ) → plain_of u r ≡ Some plain → IsLastOnce u order t ready sound plain r
  once r plain e = last-once u order t ready sound along r plain e (order-plain u order t ready along r plain e)

  module _ (g : ℕ) where
    abbrev Shared : Vertex → Type 0
    Shared v = IsKindShared (plan_of u order t) (shares_of u order) (weighing u order t) g v v.kind

    module _ (q : Place) (x : IsPlaced u g q) (n : Node) (inside : Contains (out-Graph q.graph).nodes n) where
      abbrev v : Vertex
      v = vertex_of u q.graph n

      less : (c : Compound) → compound_at (out-Node n).op ≡ Some c → (i : ℕ) → takes_more u order g (label_of n) i ≡ false
      less c is i = whole-more u order g v (form_of c (out-Node n).subs (out-Node n).assoc) (record { labelled = own-label u ready g q x n inside; found = own-vertex u ready g q x n inside }) (ap (λ o. kind_as u q.graph n o (simple_at (out-Node n).op)) is) i

      place-shared : Shared v
      place-shared =
          subst (λ k. IsKindShared (plan_of u order t) (shares_of u order) (weighing u order t) k v v.kind) x.number
          (node-shared u order t ready sound q x.there n inside (λ c is i. subst (λ k. takes_more u order k (label_of n) i ≡ false) (sym x.number) (less c is i)) once
          (subst (λ k. kind_there (network u k) v ≡ v.kind) (sym x.number) (kind-at (network u g) v (own-vertex u ready g q x n inside))))

    net-shared : EachNode Shared (network u g).nodes
    net-shared = network-each u g Shared place-shared

    order-shared : EachNode Shared (order g)
    order-shared = each-of _ Shared (λ v h. h.0) (order g) (in-order (network u g) Shared net-shared (order g) (along g))

    refolded-shared : (plain : ℕ) (left : (node port : ℕ) → Bool) (k : ℕ) (v : Vertex) → Shared v → Shared (refolded_node plain left k v v.kind)
    refolded-shared plain left k v h = go v.kind refl
      where
        go : (kind : Kind) → v.kind ≡ kind → Shared (refolded_node plain left k v kind)
        go (Plain row shape) e = tt
        go (Whole form) e = h

    nodes-shared : (o : Option ℕ) → EachNode Shared (nodes_by u g o (order g))
    nodes-shared None = order-shared
    nodes-shared (Some plain) = each-refolded plain (is_left (storage_of u) g) Shared Shared (refolded-shared plain (is_left (storage_of u) g)) 0 (order g) order-shared

    pub all-shared : EachNode Shared ((plan_of u order t).nodes g)
    all-shared = nodes-shared (plain_of u g)

-- ---- the laws

pub read-there : AreReadThere
read-there u order t ready along g = all-there u order t ready along g

pub shares-last : AreSharesLast
shares-last u order t ready sound along g = all-last u order t ready along g sound

pub shares-owned : AreSharesOwned
shares-owned u order t ready sound along g = all-owned u order t ready along g sound

pub kinds-shared : AreKindsShared
kinds-shared u order t ready sound along g = all-shared u order t ready sound along g
