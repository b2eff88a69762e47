-- Types by label, nodes by label and edges by port are found again from those of each label and port.
use Rattle.std.proofs.Common.{◌≡◌, ℕ, ◌<◌, ◌≤◌, Bool, true, ◌&&◌, List, map, inl, inr, ◌⊎◌, refl, arith}
use Rattle.std.specs.Prelude.{AllPairs, filter, ◌==◌}
use Rattle.std.specs.List.Sorted.{IsStrictlyIncreasing}
use Rattle.std.proofs.lemmas.Bool.{eq-eqb, eqb-true, and_parts, and_from}
use Rattle.std.proofs.lemmas.List.{get_or-map, length-map}
use Rattle.std.proofs.lemmas.List.Kept.{AllPairs-from_increasing}
use Rattle.if1_graph.specs.declared.graph.Edge.{Edge}
use Rattle.if1_graph.specs.Normal.{Precedes}
use Rattle.if1_graph.specs.Reads.{into_port}
use Rattle.if1_read.specs.Made.{Each}
use Rattle.if1_unique.proofs.Ordered.{up_of, agreeing, equal_each, each_equal}

-- ---- by a rising label

module _ {A : Type 0} (label : A → ℕ) where
  abbrev has : ℕ → A → Bool
  has l x = label x == l

  rising_pairs : (xs : List A) → IsStrictlyIncreasing (map label xs) → AllPairs (λ x y. label x ≤ label y) xs
  rising_pairs xs up i j d lt at =
      let pairs = AllPairs-from_increasing (map label xs) up i j 0 lt (omega (arith, at, length-map xs label)) in
      omega (arith, pairs, get_or-map label xs i d 0 (omega (arith, lt, at)), get_or-map label xs j d 0 at)

  ordered : (a b : ℕ) → a ≤ b → b ≤ a → a ≡ b
  ordered a b h k = omega (arith, h, k)

  pub rising_each : (R : A → A → Type 0) (xs ys : List A) → IsStrictlyIncreasing (map label xs) → IsStrictlyIncreasing (map label ys) →
      ((l : ℕ) → Each R (filter (λ x. label x == l) xs) (filter (λ x. label x == l) ys)) → Each R xs ys
  rising_each R xs ys up vp h =
      agreeing label has (λ (a b : ℕ). a ≤ b) (λ x. eq-eqb (label x) (label x) refl) (λ l x e. eqb-true (label x) l e) ordered R xs ys
      (up_of label has (λ (a b : ℕ). a ≤ b) (λ x. eq-eqb (label x) (label x) refl) (λ l x e. eqb-true (label x) l e) ordered xs (rising_pairs xs up))
      (up_of label has (λ (a b : ℕ). a ≤ b) (λ x. eq-eqb (label x) (label x) refl) (λ l x e. eqb-true (label x) l e) ordered ys (rising_pairs ys vp))
      h

  pub rising_same : (xs ys : List A) → IsStrictlyIncreasing (map label xs) → IsStrictlyIncreasing (map label ys) →
      ((l : ℕ) → filter (λ x. label x == l) xs ≡ filter (λ x. label x == l) ys) → xs ≡ ys
  rising_same xs ys up vp h =
      each_equal xs ys (rising_each (λ (x y : A). x ≡ y) xs ys up vp (λ l. equal_each (filter (λ x. label x == l) xs) (filter (λ x. label x == l) ys) (h l)))

-- ---- by node and port

abbrev Port : Type 0
Port = ℕ × ℕ

abbrev port_of : Edge → Port
port_of e = (e.node, e.port)

abbrev fills : Port → Edge → Bool
fills p e = (e.node == p.0) && (e.port == p.1)

-- the boundary last
abbrev Below : Port → Port → Type 0
Below p q = ((p.0 ≡ q.0) × (p.1 ≤ q.1)) ⊎ ((1 ≤ p.0) × ((p.0 < q.0) ⊎ (q.0 ≡ 0)))

fills_own : (e : Edge) → fills (port_of e) e ≡ true
fills_own e = and_from (e.node == e.node) (e.port == e.port) (eq-eqb e.node e.node refl) (eq-eqb e.port e.port refl)

fills_tells : (p : Port) (e : Edge) → fills p e ≡ true → port_of e ≡ p
fills_tells p e h =
    let t = and_parts (e.node == p.0) (e.port == p.1) h in
    let a = eqb-true e.node p.0 t.0 in
    let b = eqb-true e.port p.1 t.1 in
    λ i. (a i, b i)

one_port : (p q : Port) → Below p q → Below q p → p ≡ q
one_port p q (inl s) (inl t) = let e : p.1 ≡ q.1 = omega (arith, s.1, t.1) in λ i. (s.0 i, e i)
one_port p q (inl s) (inr (l, inl t)) = absurd (omega (arith, s.0, t))
one_port p q (inl s) (inr (l, inr t)) = absurd (omega (arith, s.0, l, t))
one_port p q (inr (l, inl s)) (inl t) = absurd (omega (arith, t.0, s))
one_port p q (inr (l, inr s)) (inl t) = absurd (omega (arith, t.0, s, l))
one_port p q (inr (l, inl s)) (inr (m, inl t)) = absurd (omega (arith, s, t))
one_port p q (inr (l, inl s)) (inr (m, inr t)) = absurd (omega (arith, l, t))
one_port p q (inr (l, inr s)) (inr (m, t)) = absurd (omega (arith, s, m))

pub edges_same : (es fs : List Edge) → AllPairs Precedes es → AllPairs Precedes fs → ((l port : ℕ) → into_port l port es ≡ into_port l port fs) → es ≡ fs
edges_same es fs up vp h =
    each_equal es fs
    (agreeing port_of fills Below fills_own fills_tells one_port (λ (e f : Edge). e ≡ f) es fs
    (up_of port_of fills Below fills_own fills_tells one_port es up)
    (up_of port_of fills Below fills_own fills_tells one_port fs vp)
    (λ p. equal_each (into_port p.0 p.1 es) (into_port p.0 p.1 fs) (h p.0 p.1)))
