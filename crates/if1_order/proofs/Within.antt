-- The places of a unit are those within its functions, since no graph nests deeper than the levels that are counted.
use Rattle.std.proofs.Common.{◌≡◌, ℕ, zero, suc, ◌+◌, ◌≤◌, List, [], ◌∷◌, map, slice_get, Some, inl, inr, Contains, All, arith, refl, ap, subst}
use Rattle.std.specs.List.{flat_map}
use Rattle.std.proofs.lemmas.List.Elements.{Contains-append_left, Contains-append_right, Contains-append_cases, All-contains}
use Rattle.if1_graph.specs.declared.graph.Graph.{Graph}
use Rattle.if1_graph.specs.declared.graph.Graph.TheViews.{out-Graph}
use Rattle.if1_graph.specs.declared.graph.Graph.TheFolds.{fold-Node, fold_out-Graph, fold_out-Node}
use Rattle.if1_graph.specs.declared.graph.Node.{Node, out-Node}
use Rattle.if1_graph.specs.declared.graph.Unit1.{Unit1}
use Rattle.if1_graph.specs.Units.{Home, Function, Inside, Place, greatest, level_below, levels, most_levels, each_from, places_of, places}
use Rattle.if1_order.specs.Within.{IsWithin, itself, inside, IsPart, whole, deeper}
use Rattle.if1_order.proofs.Members.{contains_here, contains_there, contains_cases, contains_none, contains_got, got_contained, contains_flat, flat_contains}

-- ---- levels

abbrev pub node_levels : Node → ℕ
node_levels = fold-Node ℕ ℕ (λ g. greatest g.nodes) (λ n. level_below n.subs)

greatest_of : {A : Type 0} (f : A → ℕ) (xs : List A) (x : A) → Contains xs x → f x ≤ greatest (map f xs)
greatest_of f [] x h = contains_none x h
greatest_of f (y ∷ xs) x h =
    elim (contains_cases y xs x h) [
      | inl same ↦ omega (arith, ap f same)
      | inr there ↦ omega (arith, greatest_of f xs x there)
    ]

levels_of_node : (g : Graph) (n : Node) → Contains (out-Graph g).nodes n → node_levels n ≤ levels g
levels_of_node g n h =
    omega (arith, fold_out-Graph ℕ ℕ (λ g. greatest g.nodes) (λ n. level_below n.subs) g, greatest_of node_levels (out-Graph g).nodes n h)

pub below : (gs : List Graph) (s : Graph) → Contains gs s → suc (levels s) ≤ level_below (map levels gs)
below [] s h = contains_none s h
below (g ∷ gs) s h = omega (arith, greatest_of levels (g ∷ gs) s h)

levels_of_part : (n : Node) (s : Graph) → Contains (out-Node n).subs s → suc (levels s) ≤ node_levels n
levels_of_part n s h =
    omega (arith, fold_out-Node ℕ ℕ (λ g. greatest g.nodes) (λ n. level_below n.subs) n, below (out-Node n).subs s h)

pub levels_out : (g : Graph) → levels g ≡ greatest (map node_levels (out-Graph g).nodes)
levels_out g = fold_out-Graph ℕ ℕ (λ g. greatest g.nodes) (λ n. level_below n.subs) g

pub parts_below : (ns : List Node) (n : Node) → Contains ns n → level_below (map levels (out-Node n).subs) ≤ greatest (map node_levels ns)
parts_below ns n h = omega (arith, fold_out-Node ℕ ℕ (λ g. greatest g.nodes) (λ n. level_below n.subs) n, greatest_of node_levels ns n h)

pub levels_inside : (g : Graph) (n : Node) (s : Graph) → Contains (out-Graph g).nodes n → Contains (out-Node n).subs s → suc (levels s) ≤ levels g
levels_inside g n s h i = omega (arith, levels_of_node g n h, levels_of_part n s i)

-- ---- graphs one after another

module _ (f : ℕ → Graph → List Place) where
  pub contains_each : (i : ℕ) (gs : List Graph) (p : Place) → Contains (each_from f i gs) p →
      (k : ℕ) × (s : Graph) × (slice_get gs k ≡ Some s) × Contains (f (i + k) s) p
  contains_each i [] p h = contains_none p h
  contains_each i (g ∷ gs) p h =
      elim (Contains-append_cases (f i g) (each_from f (suc i) gs) p h) [
        | inl here ↦ let e : i ≡ i + 0 = omega arith in (0, g, refl, subst (λ j. Contains (f j g) p) e here)
        | inr there ↦
            let r = contains_each (suc i) gs p there in
            let e : suc i + r.0 ≡ i + suc r.0 = omega arith in (suc r.0, r.1, r.2, subst (λ j. Contains (f j r.1) p) e r.3)
      ]

  pub each_contains : (i : ℕ) (gs : List Graph) (k : ℕ) (s : Graph) (p : Place) → slice_get gs k ≡ Some s → Contains (f (i + k) s) p →
      Contains (each_from f i gs) p
  each_contains i [] k s p e h = cc
  each_contains i (g ∷ gs) zero s p e h =
      let same : s ≡ g = cc in
      let at : i + 0 ≡ i = omega arith in
      Contains-append_left (f i g) (each_from f (suc i) gs) p (subst (λ j. Contains (f j g) p) at (subst (λ z. Contains (f (i + 0) z) p) same h))
  each_contains i (g ∷ gs) (suc k) s p e h =
      let at : i + suc k ≡ suc i + k = omega arith in
      Contains-append_right (f i g) (each_from f (suc i) gs) p (each_contains (suc i) gs k s p e (subst (λ j. Contains (f j s) p) at h))

-- ---- places

abbrev own : Home → Graph → Place
own home g = record { graph = g; home = home }

abbrev inner : ℕ → Graph → Node → List Place
inner more g n = each_from (λ k s. places_of more (Inside g n k) s) 0 (out-Node n).subs

pub within_from_place : (more : ℕ) (home : Home) (g : Graph) (p : Place) → Contains (places_of more home g) p → IsWithin home g p
within_from_place zero home g p h =
    elim (contains_cases (own home g) [] p h) [ inl same ↦ subst (λ q. IsWithin home g q) same itself | inr none ↦ contains_none p none ]
within_from_place (suc more) home g p h =
    elim (contains_cases (own home g) (flat_map (inner more g) (out-Graph g).nodes) p h) [
      | inl same ↦ subst (λ q. IsWithin home g q) same itself
      | inr deep ↦
          let r = contains_flat (inner more g) (out-Graph g).nodes p deep in
          let e = contains_each (λ k s. places_of more (Inside g r.0 k) s) 0 (out-Node r.0).subs p r.2 in
          let at : 0 + e.0 ≡ e.0 = omega arith in
          inside r.0 e.0 r.1 e.2
          (within_from_place more (Inside g r.0 e.0) e.1 p (subst (λ j. Contains (places_of more (Inside g r.0 j) e.1) p) at e.3))
    ]

pub place_from_within : (more : ℕ) (home : Home) (g : Graph) (p : Place) → IsWithin home g p → levels g ≤ more → Contains (places_of more home g) p
place_from_within zero home g p itself h = contains_here (own home g) []
place_from_within (suc more) home g p itself h = contains_here (own home g) (flat_map (inner more g) (out-Graph g).nodes)
place_from_within zero home g p (inside {s = s} n k c e w) h =
    absurd (omega (arith, levels_inside g n s c (contains_got (out-Node n).subs k s e)))
place_from_within (suc more) home g p (inside {s = s} n k c e w) h =
    let small : levels s ≤ more = omega (arith, levels_inside g n s c (contains_got (out-Node n).subs k s e)) in
    let at : k ≡ 0 + k = omega arith in
    contains_there (own home g) (flat_map (inner more g) (out-Graph g).nodes) p
    (flat_contains (inner more g) (out-Graph g).nodes n p c
    (each_contains (λ k s. places_of more (Inside g n k) s) 0 (out-Node n).subs k s p e
    (subst (λ j. Contains (places_of more (Inside g n j) s) p) at (place_from_within more (Inside g n k) s p w small))))

-- ---- a whole unit

pub within_from_unit : (u : Unit1) (p : Place) → Contains (places u) p → (k : ℕ) × (g : Graph) × (slice_get u.graphs k ≡ Some g) × IsWithin (Function k) g p
within_from_unit u p h =
    let e = contains_each (λ k g. places_of most_levels (Function k) g) 0 u.graphs p h in
    let at : 0 + e.0 ≡ e.0 = omega arith in
    (e.0, e.1, e.2, within_from_place most_levels (Function e.0) e.1 p (subst (λ j. Contains (places_of most_levels (Function j) e.1) p) at e.3))

pub unit_from_within : (u : Unit1) (k : ℕ) (g : Graph) (p : Place) → All (λ g. levels g ≤ most_levels) u.graphs → slice_get u.graphs k ≡ Some g →
    IsWithin (Function k) g p → Contains (places u) p
unit_from_within u k g p flat e w =
    let at : k ≡ 0 + k = omega arith in
    each_contains (λ k g. places_of most_levels (Function k) g) 0 u.graphs k g p e
    (subst (λ j. Contains (places_of most_levels (Function j) g) p) at
    (place_from_within most_levels (Function k) g p w (All-contains (λ g. levels g ≤ most_levels) u.graphs g flat (contains_got u.graphs k g e))))

-- ---- graphs without their homes

pub part_from_within : {home : Home} {g : Graph} {p : Place} → IsWithin home g p → IsPart g p.graph
part_from_within itself = whole
part_from_within (inside {s = s} n k c e w) = deeper n c (contains_got (out-Node n).subs k s e) (part_from_within w)

pub within_from_part : {g h : Graph} → IsPart g h → (home : Home) → (p : Place) × IsWithin home g p × (p.graph ≡ h)
within_from_part {g} whole home = (own home g, itself, refl)
within_from_part {g} (deeper {s = s} n c i w) home =
    let at = got_contained (out-Node n).subs s i in
    let r = within_from_part w (Inside g n at.0) in
    (r.0, inside n at.0 c at.1 r.1, r.2)
