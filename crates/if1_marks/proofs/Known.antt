-- Of each two numbers it is known whether the one comes before the other in a graph.
use Rattle.std.proofs.Common.{◌≡◌, ◌≢◌, ◌∙◌, ℕ, zero, suc, Bool, true, false, ◌&&◌, ◌||◌, not, map, Contains, ◌⊎◌, inl, inr, refl, sym, ap, subst, Some, Option, None, ◌==◌}
use Rattle.std.specs.List.{list_any}
use Rattle.std.proofs.lemmas.Bool.{or_cases, or_left, or_right, and_parts, and_from, eq-eqb, not-true}
use Rattle.std.proofs.lemmas.List.Elements.{Contains-append_left, Contains-append_right}
use Rattle.if1_graph.specs.declared.graph.Edge.{Edge}
use Rattle.if1_graph.specs.declared.graph.Graph.{Graph}
use Rattle.if1_graph.specs.declared.graph.Graph.TheViews.{out-Graph}
use Rattle.if1_graph.specs.declared.graph.Node.{Node, out-Node}
use Rattle.if1_graph.specs.Units.{label_of, node_at, ends}
use Rattle.if1_graph.specs.Cycles.{IsFrom}
use Rattle.if1_graph.specs.declared.graph.Origin.{Origin}
use Rattle.if1_graph.specs.declared.graph.Origin.TheVariants.{Port, Lit}
use Rattle.if1_marks.specs.Orders.{Precedes, fed, listed, between, ComesBefore, led, at_the_end}
use Rattle.if1_marks.proofs.Lists.{there, in-mapped, found-in}
use Rattle.if1_marks.proofs.Tests.{same-number, any-found, any-there, no-both}
use Rattle.if1_marks.proofs.Taken.{another}
use Rattle.if1_marks.specs.Ways.{Links, Leads, link, on, leads_by}
use Rattle.if1_marks.specs.Laws.{IsOrderKnown}
use Rattle.if1_marks.proofs.Ways.{by-sound, by-complete}

-- ---- edges as links

abbrev comes_from : ℕ → Origin → Bool
comes_from l (Port zero port) = false
comes_from l (Port (suc k) port) = l == suc k
comes_from l (Lit text) = false

abbrev is_edge : ℕ → ℕ → Edge → Bool
is_edge l m e = comes_from l e.from && ((e.node == m) && not (m == 0))

from-label : (l : ℕ) (from : Origin) → IsFrom l from → comes_from l from ≡ true
from-label l (Port zero port) h = absurd h
from-label l (Port (suc k) port) h = eq-eqb l (suc k) h
from-label l (Lit text) h = absurd h

label-from : (l : ℕ) (from : Origin) → comes_from l from ≡ true → IsFrom l from
label-from l (Port zero port) h = absurd cc
label-from l (Port (suc k) port) h = same-number l (suc k) h
label-from l (Lit text) h = absurd cc

abbrev is_on : ℕ → Option Node → Bool
is_on l None = false
is_on l (Some n) = list_any (λ k. k == l) (out-Node n).before

no-end : {g : Graph} {l m : ℕ} → ¬ Precedes g l m → l ≡ 0 → ¬ ComesBefore g l m
no-end never z (led w) = never w
no-end never z (at_the_end ne) = ne z

no-node : {g : Graph} {l m : ℕ} → ¬ Precedes g l m → m ≢ 0 → ¬ ComesBefore g l m
no-node never ne (led w) = never w
no-node never ne (at_the_end l) = ne refl

module _ (g : Graph) where
  -- an edge or the ordering list of the second leads from the first to the second
  abbrev own : Links
  own l m = list_any (is_edge l m) (out-Graph g).edges || is_on l (node_at (out-Graph g).nodes m)

  on-list : (l m : ℕ) (o : Option Node) → node_at (out-Graph g).nodes m ≡ o → is_on l o ≡ true → Precedes g l m
  on-list l m None e h = absurd cc
  on-list l m (Some n) e h =
      let r = any-found (λ k. k == l) (out-Node n).before h in
      listed n e (subst (Contains (out-Node n).before) (same-number r.0 l r.2) r.1)

  node-end : (l m : ℕ) (o : Option Node) → node_at (out-Graph g).nodes m ≡ o → is_on l o ≡ true → Contains (ends g) m
  node-end l m None e h = absurd cc
  node-end l m (Some n) e h =
      let r = found-in (λ n. label_of n == m) (out-Graph g).nodes n e in
      there 0 _ m (Contains-append_left (map label_of (out-Graph g).nodes) (map (λ e. e.node) (out-Graph g).edges) m
      (subst (Contains (map label_of (out-Graph g).nodes)) (same-number (label_of n) m r.1) (in-mapped label_of (out-Graph g).nodes n r.0)))

  edge-end : (l m : ℕ) → list_any (is_edge l m) (out-Graph g).edges ≡ true → Contains (ends g) m
  edge-end l m h =
      let r = any-found (is_edge l m) (out-Graph g).edges h in
      let q = and_parts (comes_from l r.0.from) ((r.0.node == m) && not (m == 0)) r.2 in
      let s = and_parts (r.0.node == m) (not (m == 0)) q.1 in
      there 0 _ m (Contains-append_right (map label_of (out-Graph g).nodes) (map (λ e. e.node) (out-Graph g).edges) m
      (subst (Contains (map (λ e. e.node) (out-Graph g).edges)) (same-number r.0.node m s.0) (in-mapped (λ e. e.node) (out-Graph g).edges r.0 r.1)))

  by-edge : (l m : ℕ) → list_any (is_edge l m) (out-Graph g).edges ≡ true → Precedes g l m
  by-edge l m h =
      let r = any-found (is_edge l m) (out-Graph g).edges h in
      let q = and_parts (comes_from l r.0.from) ((r.0.node == m) && not (m == 0)) r.2 in
      let s = and_parts (r.0.node == m) (not (m == 0)) q.1 in
      fed (record {
        edge = r.0;
        there = r.1;
        source = label-from l r.0.from q.0;
        target = same-number r.0.node m s.0;
        no_boundary = λ z. no-both (m == 0) (eq-eqb m 0 z) (not-true (m == 0) s.1);
      })

  all-ends : (l m : ℕ) → own l m ≡ true → Contains (ends g) m
  all-ends l m h =
      elim (or_cases (list_any (is_edge l m) (out-Graph g).edges) (is_on l (node_at (out-Graph g).nodes m)) h) [
        | inl e ↦ edge-end l m e
        | inr o ↦ node-end l m (node_at (out-Graph g).nodes m) refl o
      ]

  to-own : {l m : ℕ} → Precedes g l m → Leads own l m
  to-own (fed {l = l} {m = m} f) =
      link (or_left (list_any (is_edge l m) (out-Graph g).edges) (is_on l (node_at (out-Graph g).nodes m))
      (any-there (is_edge l m) (out-Graph g).edges f.edge f.there
      (and_from (comes_from l f.edge.from) ((f.edge.node == m) && not (m == 0)) (from-label l f.edge.from f.source)
      (and_from (f.edge.node == m) (not (m == 0)) (eq-eqb f.edge.node m f.target) (another m 0 f.no_boundary)))))
  to-own (listed {l = l} {m = m} n e c) =
      link (or_right (list_any (is_edge l m) (out-Graph g).edges) (is_on l (node_at (out-Graph g).nodes m))
      (ap (is_on l) e ∙ any-there (λ k. k == l) (out-Node n).before l c (eq-eqb l l refl)))
  to-own (between a b) = on (to-own a) (to-own b)

  from-own : {l m : ℕ} → Leads own l m → Precedes g l m
  from-own (link {l = l} {m = m} h) =
      elim (or_cases (list_any (is_edge l m) (out-Graph g).edges) (is_on l (node_at (out-Graph g).nodes m)) h) [
        | inl e ↦ by-edge l m e
        | inr o ↦ on-list l m (node_at (out-Graph g).nodes m) refl o
      ]
  from-own (on a b) = between (from-own a) (from-own b)

  precedes-known : (l m : ℕ) → Precedes g l m ⊎ (¬ Precedes g l m)
  precedes-known l m = go (leads_by own (ends g) l m) refl
    where
      go : (b : Bool) → leads_by own (ends g) l m ≡ b → Precedes g l m ⊎ (¬ Precedes g l m)
      go true e = inl (from-own (by-sound own (ends g) l m e))
      go false e = inr (λ w. no-both (leads_by own (ends g) l m) (by-complete own (ends g) all-ends (to-own w)) e)

  before-known : (l m : ℕ) → ComesBefore g l m ⊎ (¬ ComesBefore g l m)
  before-known l m = go (precedes-known l m) (m == 0) refl (l == 0) refl
    where
      go : Precedes g l m ⊎ (¬ Precedes g l m) → (z : Bool) → (m == 0) ≡ z → (y : Bool) → (l == 0) ≡ y → ComesBefore g l m ⊎ (¬ ComesBefore g l m)
      go (inl w) z e y f = inl (led w)
      go (inr never) true e false f = inl (subst (ComesBefore g l) (sym (same-number m 0 e)) (at_the_end (λ s. no-both (l == 0) (eq-eqb l 0 s) f)))
      go (inr never) true e true f = inr (λ w. no-end never (same-number l 0 f) w)
      go (inr never) false e y f = inr (λ w. no-node never (λ s. no-both (m == 0) (eq-eqb m 0 s) e) w)

pub order-known : IsOrderKnown
order-known g l m = before-known g l m
