-- Edges by the ports that they fill, and the graph of nodes and edges in order.
use Rattle.std.proofs.Common.{◌≡◌, ℕ, zero, suc, ◌+◌, ◌-◌, ◌*◌, ◌<◌, Bool, cond, ◌&&◌, List, [], ◌∷◌, ◌++◌, map, length, get_or, refl, sym, ap, subst, ◌∙◌, arith, inl, inr}
use Rattle.std.specs.Prelude.{◌==◌, filter, All, if◌then◌else◌}
use Rattle.std.specs.List.Sorted.{IsStrictlyIncreasing, IsNonDecreasingBy, IsPermutation}
use Rattle.std.proofs.lemmas.Bool.{eq-eqb, ne_eqb}
use Rattle.std.proofs.lemmas.Bool.Decides.{eqb_tells}
use Rattle.std.proofs.lemmas.List.{length-map}
use Rattle.std.proofs.lemmas.List.Elements.{All-head, All-tail}
use Rattle.std.proofs.lemmas.List.Sorted.{All-permutation}
use Rattle.if1_graph.specs.declared.graph.Graph.{Graph}
use Rattle.if1_graph.specs.declared.graph.Graph.TheOpen.{Graph-F}
use Rattle.if1_graph.specs.declared.graph.Graph.TheViews.{out-Graph, roll-Graph, out-roll-Graph}
use Rattle.if1_graph.specs.declared.graph.Node.{Node}
use Rattle.if1_graph.specs.declared.graph.Edge.{Edge}
use Rattle.if1_graph.specs.Units.{label_of}
use Rattle.if1_graph.specs.Reads.{into_port}
use Rattle.if1_read.specs.declared.judge.Known.{Known}
use Rattle.if1_read.specs.declared.part.Part.{Part}
use Rattle.if1_read.specs.Arranged.{IsArranged}
use Rattle.if1_read.specs.Known.{IsCanonical}
use Rattle.if1_read.specs.Made.{Each, none, more, IsBounded, place_of, edge_place, nodes_of, edges_of, Ends}

-- ---- lists that correspond

pub each_none : {A B : Type 0} (R : A → B → Type 0) (ys : List B) → ys ≡ [] → Each R [] ys
each_none R ys e = subst (Each R []) (sym e) none

pub each_push : {A B : Type 0} (R : A → B → Type 0) (xs : List A) (ys : List B) (x : A) (y : B) → Each R xs ys → R x y → Each R (xs ++ x ∷ []) (ys ++ y ∷ [])
each_push R xs ys x y none r = more x y [] [] r none
each_push R xs ys x y (more a b as0 bs0 h rest) r = more a b (as0 ++ x ∷ []) (bs0 ++ y ∷ []) h (each_push R as0 bs0 x y rest r)

-- ---- order by a part of the elements

module _ {X Y : Type 0} (g : X → Y) (key : Y → ℕ) where
  got_mapped : (xs : List X) (i : ℕ) (d : Y) (e : X) → i < length xs → get_or (map g xs) i d ≡ g (get_or xs i e)
  got_mapped [] i d e h = absurd (omega (arith, h))
  got_mapped (x ∷ xs) zero d e h = refl
  got_mapped (x ∷ xs) (suc i) d e h = got_mapped xs i d e (omega (arith, h))

  pub rises_mapped : (xs : List X) → IsNonDecreasingBy (λ x. key (g x)) xs → IsNonDecreasingBy key (map g xs)
  rises_mapped [] up i j d le short = absurd (omega (arith, short))
  rises_mapped (x ∷ xs) up i j d le short =
      let inside : j < length (x ∷ xs) = omega (arith, short, length-map (x ∷ xs) g) in
      omega (arith, up i j x le inside, ap key (got_mapped (x ∷ xs) i d x (omega (arith, le, inside))), ap key (got_mapped (x ∷ xs) j d x inside))

-- ---- ports by their places

place_0 : (n p : ℕ) → n ≡ 0 → place_of n p ≡ 4294967295 * 4294967296 + p
place_0 n p e = ap (λ (x : ℕ). place_of x p) e

place_1 : (n p : ℕ) → (n ≡ 0 → ⊥) → place_of n p ≡ (n - 1) * 4294967296 + p
place_1 n p ne = ap (λ (b : Bool). (if b then 4294967295 else n - 1) * 4294967296 + p) (ne_eqb n 0 ne)

-- the rows of a table of this width are apart
row : (r s p q : ℕ) → p < 4294967296 → q < 4294967296 → r * 4294967296 + p ≡ s * 4294967296 + q → r ≡ s
row r s p q a b e = omega arith

apart : (m p n q : ℕ) → m < 4294967296 → p < 4294967296 → n < 4294967296 → q < 4294967296 → place_of m p ≡ place_of n q → m ≡ n
apart m p n q a b c d e =
    elim (eqb_tells m 0) [
      | inl ms ↦
          elim (eqb_tells n 0) [
            | inl ns ↦ ms.1 ∙ sym ns.1
            | inr ns ↦
                let same : 4294967295 ≡ n - 1 = row 4294967295 (n - 1) p q b d (sym (place_0 m p ms.1) ∙ e ∙ place_1 n q ns.1) in
                absurd (omega (arith, same, c, ns.1))
          ]
      | inr ms ↦
          elim (eqb_tells n 0) [
            | inl ns ↦
                let same : m - 1 ≡ 4294967295 = row (m - 1) 4294967295 p q b d (sym (place_1 m p ms.1) ∙ e ∙ place_0 n q ns.1) in
                absurd (omega (arith, same, a, ms.1))
            | inr ns ↦
                let same : m - 1 ≡ n - 1 = row (m - 1) (n - 1) p q b d (sym (place_1 m p ms.1) ∙ e ∙ place_1 n q ns.1) in
                omega (arith, same, ms.1, ns.1)
          ]
    ]

same_port : (m p n q : ℕ) → m ≡ n → place_of m p ≡ place_of n q → p ≡ q
same_port m p n q same e = let f : place_of m p ≡ place_of m q = e ∙ ap (λ (x : ℕ). place_of x q) (sym same) in port_of (if m == 0 then 4294967295 else m - 1) f
  where
    port_of : (r : ℕ) → r * 4294967296 + p ≡ r * 4294967296 + q → p ≡ q
    port_of r e = omega arith

by_place : (m p n q : ℕ) → m < 4294967296 → p < 4294967296 → n < 4294967296 → q < 4294967296 → ((m == n) && (p == q)) ≡ (place_of m p == place_of n q)
by_place m p n q a b c d =
    elim (eqb_tells m n) [
      | inl s ↦
          elim (eqb_tells p q) [
            | inl t ↦ ap (λ (x : Bool). x && (p == q)) s.0 ∙ t.0 ∙ sym (eq-eqb (place_of m p) (place_of n q) (ap (λ (x : ℕ). place_of x p) s.1 ∙ ap (place_of n) t.1))
            | inr t ↦ ap (λ (x : Bool). x && (p == q)) s.0 ∙ t.0 ∙ sym (ne_eqb (place_of m p) (place_of n q) (λ e. t.1 (same_port m p n q s.1 e)))
          ]
      | inr s ↦ ap (λ (x : Bool). x && (p == q)) s.0 ∙ sym (ne_eqb (place_of m p) (place_of n q) (λ e. s.1 (apart m p n q a b c d e)))
    ]

filter_alike : {X : Type 0} (p q : X → Bool) (xs : List X) → All (λ x. p x ≡ q x) xs → filter p xs ≡ filter q xs
filter_alike p q [] h = refl
filter_alike p q (x ∷ xs) h =
    ap (λ (b : Bool). cond b (x ∷ filter p xs) (filter p xs)) (All-head (λ x. p x ≡ q x) x xs h)
    ∙ ap (λ ys. cond (q x) (x ∷ ys) ys) (filter_alike p q xs (All-tail (λ x. p x ≡ q x) x xs h))

into_place : (es : List Edge) (l port : ℕ) → All IsBounded es → l < 4294967296 → port < 4294967296 → into_port l port es ≡ filter (λ e. edge_place e == place_of l port) es
into_place es l port b x y =
    filter_alike (λ e. (e.node == l) && (e.port == port)) (λ e. edge_place e == place_of l port) es
    (λ i d lt. let h : IsBounded (get_or es i d) = b i d lt in by_place (get_or es i d).node (get_or es i d).port l port h.node h.port x y)

pub ports_kept : (es fs : List Edge) → IsArranged edge_place es fs → All IsBounded es → (l port : ℕ) → l < 4294967296 → port < 4294967296 → into_port l port fs ≡ into_port l port es
ports_kept es fs arranged b l port x y =
    into_place fs l port (All-permutation IsBounded es fs arranged.these b) x y
    ∙ arranged.same (place_of l port)
    ∙ sym (into_place es l port b x y)

-- ---- the graph

-- what was made of a part
pub record IsMade (k : Known) (p : Part) (g : Graph-F Graph Node) (ms : List Node) (fs : List Edge) : Type 0 where
  pub exported_is : g.exported ≡ p.exported
  pub fun_is : g.fun ≡ p.fun
  pub name_is : g.name ≡ p.name
  pub rising : IsStrictlyIncreasing (map label_of g.nodes)
  pub nodes_are : g.nodes ≡ ms
  pub nodes : IsArranged label_of (nodes_of p) ms
  pub order : IsNonDecreasingBy edge_place fs
  pub edges : IsArranged edge_place (edges_of p) fs
  pub literals : Each (IsCanonical k g.nodes) fs g.edges

ends_open : (k : Known) (p : Part) (g : Graph) (h : Graph-F Graph Node) (ms : List Node) (fs : List Edge) → h ≡ out-Graph g → IsMade k p h ms fs → Ends k p g
ends_open k p g h ms fs is at_h =
    let made : IsMade k p (out-Graph g) ms fs = subst (λ (x : Graph-F Graph Node). IsMade k p x ms fs) is at_h in
    record {
      exported_is = made.exported_is;
      fun_is = made.fun_is;
      name_is = made.name_is;
      rising = made.rising;
      these = subst (IsPermutation (nodes_of p)) (sym made.nodes_are) made.nodes.these;
      nodes = λ l. ap (filter (λ n. label_of n == l)) made.nodes_are ∙ made.nodes.same l;
      sorted = fs;
      order = made.order;
      all = made.edges.these;
      ports = λ b l port x y. ports_kept (edges_of p) fs made.edges b l port x y;
      literals = made.literals;
    }

pub graph_ends : (k : Known) (p : Part) (g : Graph-F Graph Node) (ms : List Node) (fs : List Edge) → IsMade k p g ms fs → Ends k p (roll-Graph g)
graph_ends k p g ms fs made = ends_open k p (roll-Graph g) g ms fs (sym (out-roll-Graph g)) made
