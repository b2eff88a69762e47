-- Marks without a fault are sound.
use Rattle.std.proofs.Common.{◌≡◌, ◌≢◌, ◌≤◌, ℕ, zero, suc, Bool, true, false, not, List, [], ◌∷◌, length, Option, Some, None, IsSome, Contains, All, ◌⊎◌, inl, inr, refl, sym, ap, subst, ◌∙◌, cond, arith, ◌==◌}
use Rattle.std.specs.List.{filter}
use Rattle.std.proofs.lemmas.Bool.{eq-eqb}
use Rattle.std.proofs.lemmas.List.Elements.{All-contains, All-contains_itself, All-weaker}
use Rattle.if1_graph.specs.declared.graph.Edge.{Edge}
use Rattle.if1_graph.specs.declared.graph.Graph.{Graph}
use Rattle.if1_graph.specs.declared.graph.Graph.TheViews.{out-Graph}
use Rattle.if1_graph.specs.declared.graph.Node.{Node, out-Node}
use Rattle.if1_graph.specs.declared.graph.Unit1.{Unit1}
use Rattle.if1_graph.specs.Cycles.{Reaches, edge}
use Rattle.if1_graph.specs.Ready.{IsOrdered}
use Rattle.if1_graph.specs.Units.{label_of, node_at, Place, places, ends}
use Rattle.if1_marks.specs.Given.{is_consuming}
use Rattle.if1_marks.specs.Owned.{leaving, is_owned}
use Rattle.if1_marks.specs.Orders.{Precedes, fed, listed, between, ComesBefore, IsOrderRight}
use Rattle.if1_marks.specs.Faults.{IsWrongOnList, absent, itself, behind, IsToBlame, may_not, twice, takes_too, not_before}
use Rattle.if1_marks.specs.Sound.{MayTake, edges_to_its_node, takers_of_its_port, IsTakerRight, AreMarksRight}
use Rattle.if1_marks.specs.Laws.{IsFaultless, AreFaultlessSound}
use Rattle.if1_marks.proofs.Lists.{here, there, here-or-there, in-none, found-in, in-filter}
use Rattle.if1_marks.proofs.Tests.{same-number, no-both, not-true}
use Rattle.if1_marks.proofs.Taken.{in-leaving}
use Rattle.if1_marks.proofs.Known.{order-known}
use Rattle.if1_marks.proofs.Unlisted.{joined, target-there}

-- ---- lists

-- what passes a test passes it, and was there
pub passed : {A : Type 0} (p : A → Bool) (xs : List A) (x : A) → Contains (filter p xs) x → Contains xs x × (p x ≡ true)
passed p [] x h = in-none x h
passed p (y ∷ xs) x h = go (p y) refl h (passed p xs x)
  where
    go : (b : Bool) → p y ≡ b → Contains (cond b (y ∷ filter p xs) (filter p xs)) x → (Contains (filter p xs) x → Contains xs x × (p x ≡ true)) → Contains (y ∷ xs) x × (p x ≡ true)
    go true e h rest =
        elim (here-or-there y (filter p xs) x h) [
          | inl same ↦ (subst (Contains (y ∷ xs)) same (here y xs), ap p (sym same) ∙ e)
          | inr later ↦ let r = rest later in (there y xs x r.0, r.1)
        ]
    go false e h rest = let r = rest h in (there y xs x r.0, r.1)

-- no more pass a test that implies another than pass that
pub no-more : {A : Type 0} (p q : A → Bool) (xs : List A) → ((x : A) → Contains xs x → p x ≡ true → q x ≡ true) → length (filter p xs) ≤ length (filter q xs)
no-more p q [] h = omega arith
no-more p q (x ∷ xs) h = go (p x) (q x) (h x (here x xs)) (no-more p q xs (λ y there-y. h y (there x xs y there-y)))
  where
    go : (b c : Bool) → (b ≡ true → c ≡ true) → length (filter p xs) ≤ length (filter q xs) → length (cond b (x ∷ filter p xs) (filter p xs)) ≤ length (cond c (x ∷ filter q xs) (filter q xs))
    go true true i le = omega (arith, le)
    go true false i le = absurd (no-both false (i refl) refl)
    go false true i le = omega (arith, le)
    go false false i le = le

pub some-there : {A : Type 0} (xs : List A) (x : A) → Contains xs x → 1 ≤ length xs
some-there [] x h = in-none x h
some-there (y ∷ xs) x h = omega arith

-- ---- a taking edge

module _ (u : Unit1) (p : Place) (e : Edge) (there-e : Contains (out-Graph p.graph).edges e) (takes : e.takes ≡ true) (none : (reader : ℕ) → ¬ IsToBlame u p e reader) where
  abbrev fellows : List Edge
  fellows = leaving p.graph e.from

  by-test : (b : Bool) → (b ≡ false → ⊥) → b ≡ true
  by-test true h = refl
  by-test false h = absurd (h refl)

  may : MayTake u p e
  may = (
    by-test (is_consuming u p.graph e) (λ no. none e.node (may_not (λ m. no-both (is_consuming u p.graph e) m.0 no))),
    by-test (is_owned u p e.from) (λ no. none e.node (may_not (λ m. no-both (is_owned u p e.from) m.1 no))),
  )

  by-number : (k : ℕ) → (k ≢ 1 → ⊥) → k ≡ 1
  by-number zero h = absurd (h (λ z. absurd (omega (arith, z))))
  by-number (suc zero) h = refl
  by-number (suc (suc k)) h = absurd (h (λ z. absurd (omega (arith, z))))

  once : edges_to_its_node p.graph e ≡ 1
  once = by-number (edges_to_its_node p.graph e) (λ ne. none e.node (twice ne))

  abbrev to-it : Edge → Bool
  to-it f = f.node == e.node

  itself-there : Contains fellows e
  itself-there = in-leaving u p e.from e may.1 there-e refl

  -- whatever takes leads to the same node
  takes-there : (f : Edge) → Contains fellows f → f.takes ≡ true → to-it f ≡ true
  takes-there f h also = by-test (to-it f) (λ no. none f.node (takes_too f h (λ same. no-both (to-it f) (eq-eqb f.node e.node (ap (λ (x : Edge). x.node) same)) no) also))

  alone : takers_of_its_port p.graph e ≡ 1
  alone =
      let most = no-more (λ f. f.takes) to-it fellows takes-there in
      let least = some-there (filter (λ f. f.takes) fellows) e (in-filter (λ f. f.takes) fellows e itself-there takes) in
      omega (arith, most, least, once)

  comes : (f : Edge) → Contains (filter (λ f. not (f.node == e.node)) fellows) f → ComesBefore p.graph f.node e.node
  comes f h =
      let r = passed (λ f. not (f.node == e.node)) fellows f h in
      elim (order-known p.graph f.node e.node) [
        | inl c ↦ c
        | inr never ↦ absurd (none f.node (not_before f r.0 (λ same. no-both (f.node == e.node) (eq-eqb f.node e.node same) (not-true (f.node == e.node) r.1)) never))
      ]

  right : IsTakerRight u p e
  right =
      record {
        may = may;
        once = once;
        alone = alone;
        last = All-weaker (Contains (filter (λ f. not (f.node == e.node)) fellows)) (λ f. ComesBefore p.graph f.node e.node) comes _ (All-contains_itself _);
      }

-- ---- ordering lists

module _ (p : Place) (ordered : All (IsOrdered p) (ends p.graph)) (none : (n : Node) (l : ℕ) → Contains (out-Graph p.graph).nodes n → ¬ IsWrongOnList p.graph n l) where
  abbrev g : Graph
  g = p.graph

  named : (n : Node) (l : ℕ) → Contains (out-Graph g).nodes n → Contains (out-Node n).before l → IsSome (node_at (out-Graph g).nodes l)
  named n l h c = go (node_at (out-Graph g).nodes l) refl
    where
      go : (o : Option Node) → node_at (out-Graph g).nodes l ≡ o → IsSome o
      go None e = absurd (none n l h (absent c e))
      go (Some m) e = refl

  abbrev SameOrBefore : ℕ → ℕ → Type 0
  SameOrBefore l m = (l ≡ m) ⊎ Precedes g l m

  -- an ordering list on the way
  pub record ByList (l m : ℕ) : Type 0 where
    pub node : Node
    pub label : ℕ
    pub found : node_at (out-Graph g).nodes (label_of node) ≡ Some node
    pub on_list : Contains (out-Node node).before label
    pub start : SameOrBefore l label
    pub rest : SameOrBefore (label_of node) m

  then-before : (l m n : ℕ) → SameOrBefore l m → Precedes g m n → SameOrBefore l n
  then-before l m n (inl e) w = inr (subst (λ k. Precedes g k n) (sym e) w)
  then-before l m n (inr v) w = inr (between v w)

  before-then : (l m n : ℕ) → Precedes g l m → SameOrBefore m n → SameOrBefore l n
  before-then l m n v (inl e) = inr (subst (Precedes g l) e v)
  before-then l m n v (inr w) = inr (between v w)

  all-same : (l m n : ℕ) → SameOrBefore l m → SameOrBefore m n → SameOrBefore l n
  all-same l m n (inl e) w = subst (λ k. SameOrBefore k n) (sym e) w
  all-same l m n (inr v) w = before-then l m n v w

  by-list : (l m : ℕ) (n : Node) → node_at (out-Graph g).nodes m ≡ Some n → Contains (out-Node n).before l → ByList l m
  by-list l m n e c =
      let same = same-number (label_of n) m (found-in (λ n. label_of n == m) (out-Graph g).nodes n e).1 in
      record { node = n; label = l; found = ap (node_at (out-Graph g).nodes) same ∙ e; on_list = c; start = inl refl; rest = inl same }

  way : {l m : ℕ} → Precedes g l m → Reaches g l m ⊎ ByList l m
  way (fed f) = inl (edge f)
  way (listed {l = l} {m = m} n e c) = inr (by-list l m n e c)
  way (between {l = l} {m = m} {n = n} a b) = go (way a) (way b)
    where
      go : Reaches g l m ⊎ ByList l m → Reaches g m n ⊎ ByList m n → Reaches g l n ⊎ ByList l n
      go (inl r) (inl s) = inl (joined r s)
      go (inr x) w = inr (record { node = x.node; label = x.label; found = x.found; on_list = x.on_list; start = x.start; rest = then-before (label_of x.node) m n x.rest b })
      go (inl r) (inr x) = inr (record { node = x.node; label = x.label; found = x.found; on_list = x.on_list; start = before-then l m x.label a x.start; rest = x.rest })

  acyclic : (l : ℕ) → ¬ Precedes g l l
  acyclic l w = go (way w)
    where
      wrong : (x : ByList l l) → SameOrBefore (label_of x.node) x.label → ⊥
      wrong x (inl e) =
          none x.node (label_of x.node) (found-in (λ n. label_of n == label_of x.node) (out-Graph g).nodes x.node x.found).0
          (itself (subst (Contains (out-Node x.node).before) (sym e) x.on_list))
      wrong x (inr v) = none x.node x.label (found-in (λ n. label_of n == label_of x.node) (out-Graph g).nodes x.node x.found).0 (behind x.on_list v)

      go : Reaches g l l ⊎ ByList l l → ⊥
      go (inl r) = All-contains (IsOrdered p) (ends g) l ordered (target-there p l r) r
      go (inr x) = wrong x (all-same (label_of x.node) l x.label x.rest x.start)

  right-order : IsOrderRight p
  right-order = record { named = named; acyclic = acyclic }

pub faultless-sound : AreFaultlessSound
faultless-sound u ready faultless =
    All-weaker (Contains (places u)) (AreMarksRight u)
    (λ p h.
    let none = All-contains (IsFaultless u) (places u) p faultless h in
    record {
      takers = All-weaker (Contains (out-Graph p.graph).edges) (λ e. e.takes ≡ true → IsTakerRight u p e)
          (λ e there-e takes. right u p e there-e takes (λ reader w. none.takers e reader there-e takes w))
          (out-Graph p.graph).edges (All-contains_itself (out-Graph p.graph).edges);
      order = right-order p (All-contains (λ p. All (IsOrdered p) (ends p.graph)) (places u) p ready.acyclic h) none.lists;
    })
    (places u) (All-contains_itself (places u))
