-- Of the last values of one loop value a returns owns one at most, since one edge leaves the multiple.
use Rattle.std.proofs.Common.{◌≡◌, ◌⊎◌, ℕ, zero, suc, ◌+◌, Bool, true, List, [], ◌∷◌, ◌++◌, length, Some, None, Contains, inl, inr, refl, sym, ap, ◌∙◌, subst, arith, ◌==◌}
use Rattle.std.specs.Prelude.{slice_get}
use Rattle.std.proofs.lemmas.Bool.{eq-eqb}
use Rattle.if1_graph.specs.declared.graph.Edge.{Edge}
use Rattle.if1_graph.specs.declared.graph.Graph.TheViews.{out-Graph}
use Rattle.if1_graph.specs.declared.graph.Node.{Node}
use Rattle.if1_graph.specs.declared.graph.Unit1.{Unit1}
use Rattle.if1_graph.specs.Ports.{edges_from, leaves}
use Rattle.if1_graph.specs.Ready.{IsReady}
use Rattle.if1_graph.specs.Units.{Place, label_of}
use Rattle.if1_marks.proofs.Lists.{here, in-filter, in-none}
use Rattle.if1_marks.proofs.Tests.{both, one-only, same-number}
use Rattle.if1_marks.specs.Owned.{has_one_edge}
use Rattle.if1_marks.specs.Sound.{IsSound}
use Rattle.graph_meaning.specs.Demand.{EachNode, IsLabel, Kind, LabelsOnce, Plain, Source, Vertex, Whole}
use Rattle.graph_meaning.specs.Entered.{IsIn}
use Rattle.graph_meaning.specs.Networks.{kind_of, network, vertex_of}
use Rattle.graph_meaning.specs.Storage.{is_left}
use Rattle.graph_meaning.specs.StorageUnits.{storage_of}
use Rattle.ordered_meaning.proofs.UnitTaking.{at-ins, edged}
use Rattle.ordered_meaning.specs.Orders.{AreInOrder, IsAlong}
use Rattle.ordered_meaning.specs.Taking.{Fills, first_port}
use Rattle.run_code.specs.Collections.{Collect, Final, Sifts}
use Rattle.unit_plan.specs.Plans.{Tables, place_of, plain_of}
use Rattle.unit_plan.specs.Returns.{Keeping, Lasts, Way, Wholly, collects_by, node_collects, nodes_collects, way_of}
use Rattle.plan_shares.proofs.Graphs.{IsAt, each-of, in-order, network-each, no-final}
use Rattle.plan_shares.proofs.KindsShared.{IsLastOnce}
use Rattle.plan_shares.proofs.Owning.{owned-once}
use Rattle.plan_shares.proofs.Replacing.{IsWholePlain, Replaced, collected, cut, kept, node-replaced, stands-final}

-- ---- places of joined lists

pub in-first : {A : Type 0} (xs ys : List A) (a : ℕ) (x : A) → slice_get xs a ≡ Some x → slice_get (xs ++ ys) a ≡ Some x
in-first [] ys a x e = absurd cc
in-first (z ∷ xs) ys zero x e = e
in-first (z ∷ xs) ys (suc a) x e = in-first xs ys a x e

pub in-second : {A : Type 0} (xs ys : List A) (a : ℕ) (x : A) → slice_get ys a ≡ Some x → slice_get (xs ++ ys) (length xs + a) ≡ Some x
in-second [] ys a x e = let at : 0 + a ≡ a = omega arith in ap (slice_get ys) at ∙ e
in-second (z ∷ xs) ys a x e = let at : suc (length xs) + a ≡ suc (length xs + a) = omega arith in ap (slice_get (z ∷ (xs ++ ys))) at ∙ in-second xs ys a x e

in-either : {A : Type 0} (xs ys : List A) (a : ℕ) (x : A) → slice_get (xs ++ ys) a ≡ Some x → (slice_get xs a ≡ Some x) ⊎ ((b : ℕ) × (a ≡ length xs + b) × (slice_get ys b ≡ Some x))
in-either [] ys a x e = inr (a, omega arith, e)
in-either (z ∷ xs) ys zero x e = inl e
in-either (z ∷ xs) ys (suc a) x e =
    elim (in-either xs ys a x e) [
      | inl f ↦ inl f
      | inr f ↦ let at = f.1 in inr (f.0, omega (arith, at), f.2)
    ]

-- ---- labels along an order

not-before : (vs : List Vertex) (before : List ℕ) (n : ℕ) → IsAlong before vs → IsLabel vs n → IsIn n before → ⊥
not-before [] before n h i b = i
not-before (v ∷ vs) before n h (inl e) b = h.1 (subst (λ m. IsIn m before) e b)
not-before (v ∷ vs) before n h (inr i) b = not-before vs (v.label ∷ before) n h.2 i (inr b)

labels-once : (vs : List Vertex) (before : List ℕ) → IsAlong before vs → LabelsOnce vs
labels-once [] before h = tt
labels-once (v ∷ vs) before h = ((λ i. not-before vs (v.label ∷ before) v.label h.2 i (inl refl)), labels-once vs (v.label ∷ before) h.2)

-- ---- last values

module _ (plain : ℕ) (left : (node port : ℕ) → Bool) (m : ℕ) where
  -- a last value comes from its multiple
  final-from : (k : ℕ) (os os' : List Source) (cs : List Collect) → Replaced plain k os os' cs → (first a : ℕ) → slice_get cs a ≡ Some (Final m) → (i : ℕ) × Fills i os first 0 (suc (plain + m))
  final-from _ _ _ _ (cut k os) first a e = absurd cc
  final-from _ _ _ _ (kept k o os os' cs n r) first a e = let x = final-from k os os' cs r (suc first) a e in (x.0, inr x.1)
  final-from _ _ _ _ (collected k o os os' c cs j n s r) first zero e = (first, inl (refl, stands-final plain o c m s (same c e)))
    where
      same : (c : Collect) → Some c ≡ Some (Final m) → c ≡ Final m
      same c e = cc
  final-from _ _ _ _ (collected k o os os' c cs j n s r) first (suc a) e = let x = final-from (suc k) os os' cs r (suc first) a e in (x.0, inr x.1)

  -- a node has one last value at most
  way-once : (way : Way) (os : List Source) (a b : ℕ) → slice_get (collects_by way plain os) a ≡ Some (Final m) → slice_get (collects_by way plain os) b ≡ Some (Final m) → a ≡ b
  way-once (Lasts j) os zero zero e f = refl
  way-once (Lasts j) os zero (suc b) e f = absurd (none f)
    where
      none : None ≡ Some (Final m) → ⊥
      none e = cc
  way-once (Lasts j) os (suc a) b e f = absurd (none e)
    where
      none : None ≡ Some (Final m) → ⊥
      none e = cc
  way-once (Keeping before j q) os zero b e f = absurd (none e)
    where
      none : Some (Sifts j (Some q)) ≡ Some (Final m) → ⊥
      none e = cc
  way-once (Keeping before j q) os (suc a) b e f = absurd (none e)
    where
      none : None ≡ Some (Final m) → ⊥
      none e = cc
  way-once Wholly os a b e f = absurd (no-final plain os a m e)

  kind-once : (v : Vertex) (kind : Kind) (a b : ℕ) → slice_get (node_collects plain left v kind) a ≡ Some (Final m) → slice_get (node_collects plain left v kind) b ≡ Some (Final m) → a ≡ b
  kind-once v (Plain row shape) a b e f = way-once (way_of plain (left v.label) row v.ins) v.ins a b e f
  kind-once v (Whole form) a b e f = absurd (none e)
    where
      none : None ≡ Some (Final m) → ⊥
      none e = cc

  abbrev Reads : Vertex → Type 0
  Reads v = (i : ℕ) × Fills i v.ins (first_port v.kind) 0 (suc (plain + m))

  -- all nodes that read the multiple have this label
  abbrev pub AreOfLabel : ℕ → List Vertex → Type 0
  AreOfLabel l vs = EachNode (λ v. Reads v → v.label ≡ l) vs

  reads-final : (v : Vertex) → IsWholePlain plain v v.kind → (a : ℕ) → slice_get (node_collects plain left v v.kind) a ≡ Some (Final m) → Reads v
  reads-final v h a e = final-from 0 v.ins _ (node_collects plain left v v.kind) (node-replaced plain left 0 v h) (first_port v.kind) a e

  -- a node that has the last value stands among these
  has-label : (vs : List Vertex) → EachNode (λ v. IsWholePlain plain v v.kind) vs → (l : ℕ) → AreOfLabel l vs → (a : ℕ) → slice_get (nodes_collects plain left vs) a ≡ Some (Final m) → IsLabel vs l
  has-label [] h l of a e = absurd (none e)
    where
      none : None ≡ Some (Final m) → ⊥
      none e = cc
  has-label (v ∷ vs) h l of a e = go (in-either (node_collects plain left v v.kind) (nodes_collects plain left vs) a (Final m) e) (λ b f. has-label vs h.1 l of.1 b f)
    where
      go : (slice_get (node_collects plain left v v.kind) a ≡ Some (Final m)) ⊎ ((b : ℕ) × (a ≡ length (node_collects plain left v v.kind) + b) × (slice_get (nodes_collects plain left vs) b ≡ Some (Final m)))
          → ((b : ℕ) → slice_get (nodes_collects plain left vs) b ≡ Some (Final m) → IsLabel vs l) → IsLabel (v ∷ vs) l
      go (inl f) rest = inl (sym (of.0 (reads-final v h.0 a f)))
      go (inr f) rest = inr (rest f.0 f.2)

  pub finals-once : (vs : List Vertex) → LabelsOnce vs → EachNode (λ v. IsWholePlain plain v v.kind) vs → (l : ℕ) → AreOfLabel l vs → (a b : ℕ)
      → slice_get (nodes_collects plain left vs) a ≡ Some (Final m) → slice_get (nodes_collects plain left vs) b ≡ Some (Final m) → a ≡ b
  finals-once [] once h l of a b e f = absurd (none e)
    where
      none : None ≡ Some (Final m) → ⊥
      none e = cc
  finals-once (v ∷ vs) once h l of a b e f =
      go (in-either (node_collects plain left v v.kind) (nodes_collects plain left vs) a (Final m) e) (in-either (node_collects plain left v v.kind) (nodes_collects plain left vs) b (Final m) f) (λ x y p q. finals-once vs once.1 h.1 l of.1 x y p q)
    where
      other : (x y : ℕ) → slice_get (node_collects plain left v v.kind) x ≡ Some (Final m) → slice_get (nodes_collects plain left vs) y ≡ Some (Final m) → ⊥
      other x y p q = once.0 (subst (IsLabel vs) (sym (of.0 (reads-final v h.0 x p))) (has-label vs h.1 l of.1 y q))

      go : (slice_get (node_collects plain left v v.kind) a ≡ Some (Final m)) ⊎ ((c : ℕ) × (a ≡ length (node_collects plain left v v.kind) + c) × (slice_get (nodes_collects plain left vs) c ≡ Some (Final m)))
          → (slice_get (node_collects plain left v v.kind) b ≡ Some (Final m)) ⊎ ((c : ℕ) × (b ≡ length (node_collects plain left v v.kind) + c) × (slice_get (nodes_collects plain left vs) c ≡ Some (Final m)))
          → ((x y : ℕ) → slice_get (nodes_collects plain left vs) x ≡ Some (Final m) → slice_get (nodes_collects plain left vs) y ≡ Some (Final m) → x ≡ y) → a ≡ b
      go (inl p) (inl q) rest = kind-once v v.kind a b p q
      go (inl p) (inr q) rest = absurd (other a q.0 p q.2)
      go (inr p) (inl q) rest = absurd (other b p.0 q p.2)
      go (inr p) (inr q) rest = let same = rest p.0 q.0 p.2 q.2 in let x = p.1 in let y = q.1 in omega (arith, same, x, y)

-- ---- one edge

module _ (u : Unit1) (q : Place) (p : ℕ) (once : has_one_edge q.graph p ≡ true) where
  -- a node that reads the input has an edge from it
  edge-from : (n : Node) (i : ℕ) → Fills i (vertex_of u q.graph n).ins (first_port (vertex_of u q.graph n).kind) 0 p → (e : Edge) × Contains (edges_from q.graph 0 p) e × (e.node ≡ label_of n)
  edge-from n i h =
      let x = edged u q.graph (label_of n) i 0 p (at-ins u q.graph (label_of n) (kind_of u q.graph n) i 0 p h) in
      (x.edge, in-filter (λ e. leaves 0 p e.from) (out-Graph q.graph).edges x.edge x.there (ap (leaves 0 p) x.from ∙ both (0 == 0) (p == p) (eq-eqb 0 0 refl) (eq-eqb p p refl)), x.node)

  only-node : List Edge → ℕ
  only-node [] = 0
  only-node (e ∷ es) = e.node

  of-only : (es : List Edge) (e : Edge) → length es ≡ 1 → Contains es e → e.node ≡ only-node es
  unfolding only-node
  of-only [] e one h = in-none e h
  of-only (x ∷ es) e one h = ap (λ (e : Edge). e.node) (one-only (x ∷ es) e x one h (here x es))

  pub reader : ℕ
  reader = only-node (edges_from q.graph 0 p)

  -- so all are one
  pub reads-alone : (n : Node) (i : ℕ) → Fills i (vertex_of u q.graph n).ins (first_port (vertex_of u q.graph n).kind) 0 p → label_of n ≡ reader
  unfolding reader
  reads-alone n i h =
      let x = edge-from n i h in
      sym x.2 ∙ of-only (edges_from q.graph 0 p) x.0 (same-number (length (edges_from q.graph 0 p)) 1 once) x.1

module _ (u : Unit1) (order : (graph : ℕ) → List Vertex) (t : Tables) (ready : IsReady u) (sound : IsSound u) (along : AreInOrder (network u) order) (r plain : ℕ) (returns : plain_of u r ≡ Some plain)
    (whole : EachNode (λ v. IsWholePlain plain v v.kind) (order r)) where
  abbrev left : (node port : ℕ) → Bool
  left = is_left (storage_of u) r

  same-place : (a b : Place) → Some a ≡ Some b → a ≡ b
  same-place a b e = cc

  all-alone : (m : ℕ) (q : Place) → place_of u r ≡ Some q → (once : has_one_edge q.graph (suc (plain + m)) ≡ true) → EachNode (λ v. Reads plain left m v → v.label ≡ reader u q (suc (plain + m)) once) (network u r).nodes
  all-alone m q found once =
      network-each u r (λ v. Reads plain left m v → v.label ≡ reader u q (suc (plain + m)) once)
      (λ x at n c h.
      let same = same-place x q (sym at.found ∙ found) in
      reads-alone u q (suc (plain + m)) once n h.0
      (subst (λ (y : Place). Fills h.0 (vertex_of u y.graph n).ins (first_port (vertex_of u y.graph n).kind) 0 (suc (plain + m))) same h.1))

  pub last-once : IsLastOnce u order t ready sound plain r
  last-once a b j o e f =
      let w = owned-once u r plain (suc (plain + j)) returns o in
      let l = reader u w.place (suc (plain + j)) w.owned.once in
      let net = network u r in
      let of = each-of (λ v. (Reads plain left j v → v.label ≡ l) × IsAt net v) (λ v. Reads plain left j v → v.label ≡ l) (λ v h. h.0) (order r)
      (in-order net (λ v. Reads plain left j v → v.label ≡ l) (all-alone j w.place w.found w.owned.once) (order r) (along r)) in
      finals-once plain left j (order r) (labels-once (order r) [] (along r).along) whole l of b a f e
