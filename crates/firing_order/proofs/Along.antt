-- The nodes at the places of a firing order are in order.
use Rattle.std.proofs.Common.{◌≡◌, ◌==◌, ◌≢◌, ℕ, zero, suc, ◌<◌, eqb, if◌then◌else◌, Bool, true, false, List, [], ◌∷◌, ◌++◌, map, length, take, find, slice_get, Option, Some, None, ◌⊎◌, inl, inr, Contains, refl, sym, ap, ◌∙◌, subst, arith}
use Rattle.std.specs.Prelude.{slice_index}
use Rattle.std.specs.List.Sorted.{IsStrictlyIncreasing}
use Rattle.std.proofs.lemmas.List.Elements.{All-contains, Contains-append_cases, Contains-append_left, Contains-append_right}
use Rattle.if1_graph.specs.declared.graph.Edge.{Edge}
use Rattle.if1_graph.specs.declared.graph.Graph.{Graph}
use Rattle.if1_graph.specs.declared.graph.Graph.TheViews.{out-Graph}
use Rattle.if1_graph.specs.declared.graph.Node.{Node, out-Node}
use Rattle.if1_graph.specs.declared.graph.Origin.TheVariants as origin
use Rattle.if1_graph.specs.declared.graph.Unit1.{Unit1}
use Rattle.if1_graph.specs.Cycles.{IsFrom}
use Rattle.if1_graph.specs.Formed.{IsOnce}
use Rattle.if1_graph.specs.Normal.{IsNormalGraph}
use Rattle.if1_graph.specs.Ready.{IsReady}
use Rattle.if1_graph.specs.Units.{Place, edge_into, label_of, number_of, places}
use Rattle.if1_marks.proofs.Taken.{sound-in-order}
use Rattle.if1_marks.proofs.Tests.{same-number}
use Rattle.if1_marks.specs.Orders.{AreOrdersRight}
use Rattle.if1_order.specs.Orders.{node_labels}
use Rattle.if1_reach.proofs.Labelled.{fed-link, listed-link}
use Rattle.if1_reach.specs.Nets.{links_in}
use Rattle.graph_meaning.proofs.Lists.{found-in, here, here-or-there, in-mapped, in-none, there}
use Rattle.graph_meaning.proofs.Units.{units-orderly}
use Rattle.graph_meaning.specs.Demand.{EachNode, Fixed, IsLabel, Port, Source, Vertex, at_label, data_labels, waits}
use Rattle.graph_meaning.specs.Entered.{IsIn}
use Rattle.graph_meaning.specs.Networks.{kind_of, net_at, network, nothing, vertex_of}
use Rattle.unit_plan.specs.OrderedMeaningOrders.{IsAlong, IsInOrder}
use Rattle.unit_plan.proofs.TypedChoices.{got-below}
use Rattle.unit_plan.proofs.TypedEdges.{found-edge, graph-formed, node-formed}
use Rattle.unit_plan.proofs.TypedNodes.{node-found}
use Rattle.unit_plan.proofs.Found.{at-own, net-is}
use Rattle.unit_plan.proofs.Sources.{by-edge, in-ins}
use Rattle.firing_order.specs.Laws.{AreFiringOrdersInOrder, HaveUnitsFiringOrders}
use Rattle.firing_order.specs.Orders.{IsFiringOrder, vertex_before, vertices_at, vertices_in}

-- ---- places

got-in : {A : Type 0} (xs : List A) (k : ℕ) (x : A) → slice_get xs k ≡ Some x → Contains xs x
got-in [] k x e = absurd (let y : None ≡ Some x = e in cc)
got-in (y ∷ xs) zero x e = let same : y ≡ x = cc in subst (Contains (y ∷ xs)) same (here y xs)
got-in (y ∷ xs) (suc k) x e = there y xs x (got-in xs k x e)

got-under : {A : Type 0} (xs : List A) (k : ℕ) (x : A) → slice_get xs k ≡ Some x → k < length xs
got-under [] k x e = absurd (let y : None ≡ Some x = e in cc)
got-under (y ∷ xs) zero x e = omega arith
got-under (y ∷ xs) (suc k) x e = let lt = got-under xs k x e in omega (arith, lt)

label-at : (ns : List Node) (k : ℕ) (n : Node) → slice_get ns k ≡ Some n → slice_index (map label_of ns) k ≡ label_of n
label-at [] k n e = absurd (let y : None ≡ Some n = e in cc)
label-at (m ∷ ns) zero n e = let same : m ≡ n = cc in ap label_of same
label-at (m ∷ ns) (suc k) n e = label-at ns k n e

-- of one label there is one place
one-place : (ns : List Node) → IsOnce (map label_of ns) → (i k : ℕ) (a b : Node) → slice_get ns i ≡ Some a → slice_get ns k ≡ Some b → label_of a ≡ label_of b → i ≡ k
one-place [] once i k a b e f same = absurd (let y : None ≡ Some a = e in cc)
one-place (n ∷ ns) once zero zero a b e f same = refl
one-place (n ∷ ns) once zero (suc k) a b e f same =
    let x : n ≡ a = cc in absurd (once.0 (subst (Contains (map label_of ns)) (sym same ∙ sym (ap label_of x)) (in-mapped label_of ns b (got-in ns k b f))))
one-place (n ∷ ns) once (suc i) zero a b e f same =
    let x : n ≡ b = cc in absurd (once.0 (subst (Contains (map label_of ns)) (same ∙ sym (ap label_of x)) (in-mapped label_of ns a (got-in ns i a e))))
one-place (n ∷ ns) once (suc i) (suc k) a b e f same = ap suc (one-place ns once.1 i k a b e f same)

-- ---- what stands before and behind

behind-once : (xs : List ℕ) (k : ℕ) (ys : List ℕ) → IsOnce (xs ++ k ∷ ys) → Contains xs k → ⊥
behind-once [] k ys once h = in-none k h
behind-once (x ∷ xs) k ys once h =
    elim (here-or-there x xs k h) [
      | inl e ↦ once.0 (subst (Contains (xs ++ k ∷ ys)) (sym e) (Contains-append_right xs (k ∷ ys) k (here k ys)))
      | inr later ↦ behind-once xs k ys once.1 later
    ]

at-middle : (xs : List ℕ) (k : ℕ) (ys : List ℕ) → slice_index (xs ++ k ∷ ys) (length xs) ≡ k
at-middle [] k ys = refl
at-middle (x ∷ xs) k ys = at-middle xs k ys

take-middle : (xs : List ℕ) (k : ℕ) (ys : List ℕ) → take (length xs) (xs ++ k ∷ ys) ≡ xs
take-middle [] k ys = refl
take-middle (x ∷ xs) k ys = ap (λ z. x ∷ z) (take-middle xs k ys)

long-middle : (xs : List ℕ) (k : ℕ) (ys : List ℕ) → length xs < length (xs ++ k ∷ ys)
long-middle [] k ys = omega arith
long-middle (x ∷ xs) k ys = let e = long-middle xs k ys in omega (arith, e)

one-more : (xs : List ℕ) (k : ℕ) (ys : List ℕ) → (xs ++ k ∷ []) ++ ys ≡ xs ++ k ∷ ys
one-more [] k ys = refl
one-more (x ∷ xs) k ys = ap (λ z. x ∷ z) (one-more xs k ys)

split-in : (n : ℕ) (a b : List ℕ) → IsIn n (a ++ b) → IsIn n a ⊎ IsIn n b
split-in n [] b h = inr h
split-in n (x ∷ a) b (inl e) = inl (inl e)
split-in n (x ∷ a) b (inr h) = elim (split-in n a b h) [ inl i ↦ inl (inr i) | inr i ↦ inr i ]

contained : (n : ℕ) (ms : List ℕ) → IsIn n ms → Contains ms n
contained n [] h = absurd h
contained n (m ∷ ms) (inl e) = subst (Contains (m ∷ ms)) (sym e) (here m ms)
contained n (m ∷ ms) (inr h) = there m ms n (contained n ms h)

found-node : (Q : Vertex → Type 0) (ws : List Vertex) (l : ℕ) (v : Vertex) → EachNode Q ws → at_label ws l ≡ Some v → Q v
found-node Q [] l v h e = absurd (let x : None ≡ Some v = e in cc)
found-node Q (w ∷ ws) l v h e = go (eqb w.label l) e (λ later. found-node Q ws l v h.1 later)
  where
    same : Some w ≡ Some v → w ≡ v
    same e = cc

    go : (b : Bool) → (if b then Some w else at_label ws l) ≡ Some v → (at_label ws l ≡ Some v → Q v) → Q v
    go true e rest = subst Q (same e) h.0
    go false e rest = rest e

module _ (u : Unit1) (ready : IsReady u) (lists : AreOrdersRight u) (p : Place) (place : Contains (places u) p) (up : IsStrictlyIncreasing (node_labels p.graph)) where
  abbrev g : Graph
  g = p.graph

  abbrev nodes : List Node
  nodes = (out-Graph p.graph).nodes

  -- a label stands at a place
  labelled : (ns : List Node) (m : ℕ) → IsLabel (map (vertex_of u p.graph) ns) m → (k : ℕ) × (n : Node) × (slice_get ns k ≡ Some n) × (m ≡ label_of n)
  labelled [] m h = absurd h
  labelled (n ∷ ns) m (inl e) = (0, n, refl, e)
  labelled (n ∷ ns) m (inr h) = let x = labelled ns m h in (suc x.0, x.1, x.2, x.3)

  label-there : (m : ℕ) → IsLabel (network u (number_of p)).nodes m → (k : ℕ) × (n : Node) × (slice_get nodes k ≡ Some n) × (m ≡ label_of n)
  label-there m h = labelled nodes m (subst (λ n. IsLabel n.nodes m) (net-is u ready p place) h)

  -- ---- what a node waits for leads to it

  abbrev Led : ℕ → List Source → Type 0
  Led l os = (m : ℕ) → IsIn m (data_labels os) → links_in p.graph m l ≡ true

  led-more : (l : ℕ) (o : Source) (os : List Source) → Led l (o ∷ []) → Led l os → Led l (o ∷ os)
  led-more l (Fixed c) os a b m h = b m h
  led-more l (Port zero q) os a b m h = b m h
  led-more l (Port (suc k) q) os a b m (inl e) = a m (inl e)
  led-more l (Port (suc k) q) os a b m (inr h) = b m h

  edge-led : (l port : ℕ) → l ≢ 0 → (e : Edge) → edge_into p.graph l port ≡ Some e → (k q : ℕ) → e.from ≡ origin.Port k q → Led l (Port k q ∷ [])
  edge-led l port some e at zero q from m h = absurd h
  edge-led l port some e at (suc k) q from m (inr h) = absurd h
  edge-led l port some e at (suc k) q from m (inl is) =
      let x = found-edge u ready p place l port e at in
      subst (λ z. links_in p.graph z l ≡ true) (sym is)
      (fed-link p.graph up (suc k) l (record { edge = e; there = x.0; source = subst (IsFrom (suc k)) (sym from) refl; target = x.1; no_boundary = some }))

  module _ (n : Node) (inside : Contains (out-Graph p.graph).nodes n) where
    some-label : label_of n ≢ 0
    some-label e = let le = (node-formed u ready p place n inside).label.0 in absurd (omega (arith, le, e))

    ins-led : Led (label_of n) (vertex_of u p.graph n).ins
    ins-led = in-ins (Led (label_of n)) (λ m h. absurd h) (led-more (label_of n)) u p.graph (label_of n) (kind_of u p.graph n)
        (λ port le. by-edge (Led (label_of n)) (λ m h. absurd h) (led-more (label_of n)) u p.graph (label_of n) port (λ c m h. absurd h) (edge-led (label_of n) port some-label))

    waits-led : (m : ℕ) → IsIn m (waits (vertex_of u p.graph n)) → links_in p.graph m (label_of n) ≡ true
    waits-led m h =
        elim (split-in m (data_labels (vertex_of u p.graph n).ins) (out-Node n).before h) [
          | inl d ↦ ins-led m d
          | inr b ↦ listed-link p.graph up m (label_of n) n (node-found u ready p place n inside) (contained m (out-Node n).before b)
        ]

    waits-there : (m : ℕ) → IsIn m (waits (vertex_of u p.graph n)) → (k : ℕ) × (x : Node) × (slice_get nodes k ≡ Some x) × (m ≡ label_of x)
    waits-there m h =
        let named = (units-orderly u ready lists (number_of p)).named in
        label-there m (found-node (λ v. (i : ℕ) → IsIn i (waits v) → IsLabel (network u (number_of p)).nodes i) (network u (number_of p)).nodes (label_of n) (vertex_of u p.graph n) named (at-own u ready p place n inside) m h)

  -- ---- the order

  module _ (os : List ℕ) (order : IsFiringOrder p.graph os) where
    -- what was met of the places before
    record Met (done before : List ℕ) : Type 0 where
      pub told : (k : ℕ) (n : Node) → Contains done k → slice_get nodes k ≡ Some n → IsIn (label_of n) before
      pub only : (l : ℕ) → IsIn l before → (k : ℕ) × (n : Node) × Contains done k × (slice_get nodes k ≡ Some n) × (l ≡ label_of n)

    met-more : (done before : List ℕ) (k : ℕ) (n : Node) → slice_get nodes k ≡ Some n → Met done before → Met (done ++ k ∷ []) (label_of n ∷ before)
    met-more done before k n e m =
        record {
          told = λ i x c f. told i x f (Contains-append_cases done (k ∷ []) i c);
          only = λ l. elim [
            | inl same ↦ (k, n, Contains-append_right done (k ∷ []) k (here k []), e, same)
            | inr h ↦ let y = m.only l h in (y.0, y.1, Contains-append_left done (k ∷ []) y.0 y.2, y.3, y.4)
          ];
        }
      where
        some-same : (a b : Node) → Some a ≡ Some b → a ≡ b
        some-same a b e = cc

        told : (i : ℕ) (x : Node) → slice_get nodes i ≡ Some x → Contains done i ⊎ Contains (k ∷ []) i → IsIn (label_of x) (label_of n ∷ before)
        told i x f (inl c) = inr (m.told i x c f)
        told i x f (inr c) =
            elim (here-or-there k [] i c) [
              | inl same ↦ inl (ap label_of (some-same x n (sym f ∙ (ap (slice_get nodes) (sym same) ∙ e))))
              | inr none ↦ in-none i none
            ]

    waits-met : (done rest before : List ℕ) (k : ℕ) (n : Node) → os ≡ done ++ k ∷ rest → slice_get nodes k ≡ Some n → Met done before → (m : ℕ) → IsIn m (waits (vertex_of u p.graph n)) → IsIn m before
    waits-met done rest before k n is e met m h =
        let inside = got-in nodes k n e in
        let x = waits-there n inside m h in
        let under = got-under nodes x.0 x.1 x.2 in
        let middle : slice_index os (length done) ≡ k = ap (λ z. slice_index z (length done)) is ∙ at-middle done k rest in
        let lt : length done < length os = subst (λ z. length done < length z) (sym is) (long-middle done k rest) in
        let from : slice_index (node_labels p.graph) x.0 ≡ m = label-at nodes x.0 x.1 x.2 ∙ sym x.3 in
        let to : slice_index (node_labels p.graph) (slice_index os (length done)) ≡ label_of n = ap (slice_index (node_labels p.graph)) middle ∙ label-at nodes k n e in
        let link = subst (λ a. links_in p.graph a (slice_index (node_labels p.graph) (slice_index os (length done))) ≡ true) (sym from) (subst (λ b. links_in p.graph m b ≡ true) (sym to) (waits-led n inside m h)) in
        let c = order.after (length done) x.0 lt under link in
        let before_it : Contains done x.0 = subst (λ z. Contains z x.0) (ap (take (length done)) is ∙ take-middle done k rest) c in
        subst (λ l. IsIn l before) (sym x.3) (met.told x.0 x.1 before_it x.2)

    not-met : (done rest before : List ℕ) (k : ℕ) (n : Node) → os ≡ done ++ k ∷ rest → slice_get nodes k ≡ Some n → Met done before → IsIn (label_of n) before → ⊥
    not-met done rest before k n is e met h =
        let x = met.only (label_of n) h in
        let same = one-place nodes (graph-formed u ready p place).labels x.0 k x.1 n x.3 e (sym x.4) in
        behind-once done k rest (subst IsOnce is order.once) (subst (Contains done) same x.2)

    along : (rest done before : List ℕ) → os ≡ done ++ rest → Met done before → IsAlong before (vertices_at u p.graph rest)
    along [] done before is met = tt
    along (k ∷ rest) done before is met = go (slice_get nodes k) refl (λ n e. along rest (done ++ k ∷ []) (label_of n ∷ before) (is ∙ sym (one-more done k rest)) (met-more done before k n e met))
      where
        under : k < length nodes
        under = (order.these k).0 (subst (λ z. Contains z k) (sym is) (Contains-append_right done (k ∷ rest) k (here k rest)))

        clash : (n : Node) → slice_get nodes k ≡ None → slice_get nodes k ≡ Some n → ⊥
        clash n a b = absurd (let x : None ≡ Some n = sym a ∙ b in cc)

        go : (o : Option Node) → slice_get nodes k ≡ o → ((n : Node) → slice_get nodes k ≡ Some n → IsAlong (label_of n ∷ before) (vertices_at u p.graph rest)) → IsAlong before (vertex_before u p.graph o (vertices_at u p.graph rest))
        go None e later = let x = got-below nodes k under in absurd (clash x.0 e x.1)
        go (Some n) e later = (waits-met done rest before k n is e met, not-met done rest before k n is e met, later n e)

    these-nodes : (ks : List ℕ) → EachNode (λ v. (v.label ≢ 0) × (at_label (network u (number_of p)).nodes v.label ≡ Some v)) (vertices_at u p.graph ks)
    these-nodes [] = tt
    these-nodes (k ∷ ks) = go (slice_get nodes k) refl (these-nodes ks)
      where
        go : (o : Option Node) → slice_get nodes k ≡ o → EachNode (λ v. (v.label ≢ 0) × (at_label (network u (number_of p)).nodes v.label ≡ Some v)) (vertices_at u p.graph ks)
            → EachNode (λ v. (v.label ≢ 0) × (at_label (network u (number_of p)).nodes v.label ≡ Some v)) (vertex_before u p.graph o (vertices_at u p.graph ks))
        go None e rest = rest
        go (Some n) e rest = let c = got-in nodes k n e in ((some-label n c, at-own u ready p place n c), rest)

    in-vertices : (ks : List ℕ) (k : ℕ) (n : Node) → slice_get nodes k ≡ Some n → Contains ks k → IsLabel (vertices_at u p.graph ks) (label_of n)
    in-vertices [] k n e h = in-none k h
    in-vertices (i ∷ ks) k n e h = go (slice_get nodes i) refl (here-or-there i ks k h) (λ later. in-vertices ks k n e later)
      where
        some-same : (a b : Node) → Some a ≡ Some b → a ≡ b
        some-same a b e = cc

        go : (o : Option Node) → slice_get nodes i ≡ o → (i ≡ k) ⊎ Contains ks k → (Contains ks k → IsLabel (vertices_at u p.graph ks) (label_of n)) → IsLabel (vertex_before u p.graph o (vertices_at u p.graph ks)) (label_of n)
        go None f (inl same) rest = absurd (let x : None ≡ Some n = sym f ∙ (ap (slice_get nodes) same ∙ e) in cc)
        go None f (inr later) rest = rest later
        go (Some m) f (inl same) rest = inl (ap label_of (some-same n m (sym e ∙ (ap (slice_get nodes) (sym same) ∙ f))))
        go (Some m) f (inr later) rest = inr (rest later)

    pub in-order : IsInOrder (network u (number_of p)) (vertices_at u p.graph os)
    in-order =
        record {
          nodes = these-nodes os;
          all = λ m h. let x = label-there m h in subst (IsLabel (vertices_at u p.graph os)) (sym x.3) (in-vertices os x.0 x.1 x.2 ((order.these x.0).1 (got-under nodes x.0 x.1 x.2)));
          along = along os [] [] refl (record { told = λ k n c e. in-none k c; only = λ l h. absurd h });
        }

pub orders-in-order : AreFiringOrdersInOrder
orders-in-order u p os ready sound place up order = in-order u ready (sound-in-order u sound) p place up os order

none-in-order : IsInOrder nothing []
none-in-order = record { nodes = tt; all = λ n h. h; along = tt }

pub units-ordered : HaveUnitsFiringOrders
units-ordered u os ready normal sound orders g = go (find (λ p. number_of p == g) (places u)) refl
  where
    go : (o : Option Place) → find (λ p. number_of p == g) (places u) ≡ o → IsInOrder (network u g) (vertices_in u o (os g))
    go None e = subst (λ n. IsInOrder n []) (sym (ap (net_at u) e)) none-in-order
    go (Some p) e =
        let x = found-in (λ p. number_of p == g) (places u) p e in
        let same = same-number (number_of p) g x.1 in
        let rising = (All-contains (IsNormalGraph u) (places u) p normal x.0).nodes in
        subst (λ h. IsInOrder (network u h) (vertices_at u p.graph (os h))) same (in-order u ready (sound-in-order u sound) p x.0 rising (os (number_of p)) (orders p x.0))
