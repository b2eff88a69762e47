-- The graphs of a formed unit have numbers of their own, so each is found by its number.
use Rattle.std.proofs.Common.{◌≡◌, ℕ, zero, suc, ◌+◌, ◌<◌, ◌≤◌, Bool, true, false, List, [], ◌∷◌, ◌++◌, map, take, sum, find, slice_get, Some, None, Option, ◌⊎◌, inl, inr, Contains, arith, refl, sym, ap, subst, ◌∙◌, cond, nat_lt, T, ◌==◌}
use Rattle.std.specs.List.{flat_map, filter}
use Rattle.std.proofs.lemmas.Bool.{eq-eqb}
use Rattle.std.proofs.lemmas.List.Elements.{Contains-append_cases, Contains-append_left, Contains-append_right, All-contains}
use Rattle.std.proofs.lemmas.List.Sums.{sum_by_from}
use Rattle.std.proofs.Math.Facts.{eqb_yes}
use Rattle.if1_graph.specs.declared.graph.Graph.{Graph}
use Rattle.if1_graph.specs.declared.graph.Graph.TheViews.{out-Graph}
use Rattle.if1_graph.specs.declared.graph.Graph.TheFolds.{fold-Node, fold_out-Graph, fold_out-Node}
use Rattle.if1_graph.specs.declared.graph.Node.{Node, out-Node}
use Rattle.if1_graph.specs.declared.graph.Unit1.{Unit1}
use Rattle.if1_graph.specs.Formed.{IsOnce, IsGraph, IsFormed}
use Rattle.if1_graph.specs.Units.{size, sizes, label_of, size_before, IsNumbered, Home, Function, Inside, Place, number_of, each_from, places_of, places, most_levels}
use Rattle.graph_meaning.specs.Networks.{net_of, net_at}
use Rattle.graph_meaning.specs.Laws.{AreFoundByNumber}
use Rattle.graph_meaning.proofs.Lists.{here, there, here-or-there, in-none, in-mapped, found-in}

-- ---- sums

sum-first : (x : ℕ) (xs : List ℕ) → sum (x ∷ xs) ≡ x + sum xs
sum-first x xs = omega (arith, sum_by_from (λ y. y) (0 + x) xs)

sizes-first : (g : Graph) (gs : List Graph) → sizes (g ∷ gs) ≡ size g + sizes gs
sizes-first g gs = sum-first (size g) (map size gs)

sizes-append : (gs hs : List Graph) → sizes (gs ++ hs) ≡ sizes gs + sizes hs
sizes-append [] hs = omega arith
sizes-append (g ∷ gs) hs = omega (arith, sizes-first g (gs ++ hs), sizes-first g gs, sizes-append gs hs)

-- a graph of a list and those before it
sizes-all : (gs : List Graph) (k : ℕ) (s : Graph) → slice_get gs k ≡ Some s → sizes (take k gs) + size s ≤ sizes gs
sizes-all [] k s e = cc
sizes-all (g ∷ gs) zero s e = let same : g ≡ s = cc in omega (arith, ap size same, sizes-first g gs)
sizes-all (g ∷ gs) (suc k) s e = omega (arith, sizes-first g gs, sizes-first g (take k gs), sizes-all gs k s e)

sizes-later : (gs : List Graph) (k j : ℕ) (s : Graph) → slice_get gs k ≡ Some s → k < j → sizes (take k gs) + size s ≤ sizes (take j gs)
sizes-later [] k j s e lt = cc
sizes-later (g ∷ gs) k zero s e lt = absurd (omega (arith, lt))
sizes-later (g ∷ gs) zero (suc j) s e lt = let same : g ≡ s = cc in omega (arith, ap size same, sizes-first g (take j gs))
sizes-later (g ∷ gs) (suc k) (suc j) s e lt = omega (arith, sizes-first g (take j gs), sizes-first g (take k gs), sizes-later gs k j s e (omega (arith, lt)))

-- ---- the graphs in the nodes of a graph

abbrev inside : Node → ℕ
inside n = sizes (out-Node n).subs

abbrev counted : Bool → ℕ → ℕ
counted true c = c
counted false c = 0

abbrev lower : List Node → ℕ → ℕ
lower [] l = 0
lower (n ∷ ns) l = counted (nat_lt (label_of n) l) (inside n) + lower ns l

abbrev total : List Node → ℕ
total [] = 0
total (n ∷ ns) = inside n + total ns

lower-is : (ns : List Node) (l : ℕ) → size_before ns l ≡ lower ns l
lower-is [] l = refl
lower-is (n ∷ ns) l = go (nat_lt (label_of n) l) (lower-is ns l)
  where
    go : (b : Bool) → size_before ns l ≡ lower ns l → sizes (flat_map (λ n. (out-Node n).subs) (cond b (n ∷ filter (λ n. nat_lt (label_of n) l) ns) (filter (λ n. nat_lt (label_of n) l) ns))) ≡ counted b (inside n) + lower ns l
    go true e = omega (arith, sizes-append (out-Node n).subs (flat_map (λ n. (out-Node n).subs) (filter (λ n. nat_lt (label_of n) l) ns)), e)
    go false e = omega (arith, e)

size-is : (g : Graph) → size g ≡ suc (total (out-Graph g).nodes)
size-is g = fold_out-Graph ℕ ℕ (λ g. suc (sum g.nodes)) (λ n. sum n.subs) g ∙ ap suc (go (out-Graph g).nodes)
  where
    go : (ns : List Node) → sum (map (fold-Node ℕ ℕ (λ g. suc (sum g.nodes)) (λ n. sum n.subs)) ns) ≡ total ns
    go [] = refl
    go (n ∷ ns) =
        omega (
          arith,
          sum-first (fold-Node ℕ ℕ (λ g. suc (sum g.nodes)) (λ n. sum n.subs) n) (map (fold-Node ℕ ℕ (λ g. suc (sum g.nodes)) (λ n. sum n.subs)) ns),
          fold_out-Node ℕ ℕ (λ g. suc (sum g.nodes)) (λ n. sum n.subs) n,
          go ns,
        )

counted-more : (m l k c : ℕ) → l ≤ k → counted (nat_lt m l) c ≤ counted (nat_lt m k) c
counted-more m l k c le = grind (arith, le)

lower-more : (ns : List Node) (l k : ℕ) → l ≤ k → lower ns l ≤ lower ns k
lower-more [] l k le = omega arith
lower-more (n ∷ ns) l k le = omega (arith, counted-more (label_of n) l k (inside n) le, lower-more ns l k le)

counted-most : (b : Bool) (c : ℕ) → counted b c ≤ c
counted-most true c = omega arith
counted-most false c = omega arith

lower-most : (ns : List Node) (l : ℕ) → lower ns l ≤ total ns
lower-most [] l = omega arith
lower-most (n ∷ ns) l = omega (arith, counted-most (nat_lt (label_of n) l) (inside n), lower-most ns l)

counted-self : (m c : ℕ) → counted (nat_lt m m) c ≡ 0
counted-self m c = grind arith

counted-lower : (m l c : ℕ) → m < l → counted (nat_lt m l) c ≡ c
counted-lower m l c lt = grind (arith, lt)

-- the graphs in a node come before those in a node of a higher label, and are among all
lower-later : (ns : List Node) (n : Node) (l : ℕ) → Contains ns n → label_of n < l → lower ns (label_of n) + inside n ≤ lower ns l
lower-later [] n l h lt = in-none n h
lower-later (m ∷ ns) n l h lt =
    elim (here-or-there m ns n h) [
      | inl e ↦
          let x = ap (λ z. counted (nat_lt (label_of z) (label_of n)) (inside z)) e in
          let y = ap (λ z. counted (nat_lt (label_of z) l) (inside z)) e in
          omega (arith, x, y, counted-self (label_of n) (inside n), counted-lower (label_of n) l (inside n) lt, lower-more ns (label_of n) l (omega (arith, lt)))
      | inr later ↦ omega (arith, counted-more (label_of m) (label_of n) l (inside m) (omega (arith, lt)), lower-later ns n l later lt)
    ]

lower-all : (ns : List Node) (n : Node) → Contains ns n → lower ns (label_of n) + inside n ≤ total ns
lower-all [] n h = in-none n h
lower-all (m ∷ ns) n h =
    elim (here-or-there m ns n h) [
      | inl e ↦
          let x = ap (λ z. counted (nat_lt (label_of z) (label_of n)) (inside z)) e in
          omega (arith, x, ap inside e, counted-self (label_of n) (inside n), lower-most ns (label_of n))
      | inr later ↦ omega (arith, counted-most (nat_lt (label_of m) (label_of n)) (inside m), lower-all ns n later)
    ]

-- nodes of one label are one node
one-node : (ns : List Node) → IsOnce (map label_of ns) → (m n : Node) → Contains ns m → Contains ns n → label_of m ≡ label_of n → m ≡ n
one-node [] once m n h k e = in-none m h
one-node (x ∷ ns) once m n h k e = go (here-or-there x ns m h) (here-or-there x ns n k) (one-node ns once.1 m n)
  where
    go : (x ≡ m) ⊎ Contains ns m → (x ≡ n) ⊎ Contains ns n → (Contains ns m → Contains ns n → label_of m ≡ label_of n → m ≡ n) → m ≡ n
    go (inl a) (inl b) f = sym a ∙ b
    go (inl a) (inr b) f = absurd (once.0 (subst (Contains (map label_of ns)) (sym e ∙ sym (ap label_of a)) (in-mapped label_of ns n b)))
    go (inr a) (inl b) f = absurd (once.0 (subst (Contains (map label_of ns)) (e ∙ sym (ap label_of b)) (in-mapped label_of ns m a)))
    go (inr a) (inr b) f = f a b e

-- ---- places

in-siblings : (f : ℕ → Graph → List Place) (i : ℕ) (gs : List Graph) (p : Place) → Contains (each_from f i gs) p → (k : ℕ) × (s : Graph) × (slice_get gs k ≡ Some s) × Contains (f (i + k) s) p
in-siblings f i [] p h = in-none p h
in-siblings f i (g ∷ gs) p h =
    elim (Contains-append_cases (f i g) (each_from f (suc i) gs) p h) [
      | inl a ↦ let at : i ≡ i + 0 = omega arith in (0, g, refl, subst (λ j. Contains (f j g) p) at a)
      | inr b ↦
          let r = in-siblings f (suc i) gs p b in
          let at : suc i + r.0 ≡ i + suc r.0 = omega arith in
          (suc r.0, r.1, r.2, subst (λ j. Contains (f j r.1) p) at r.3)
    ]

all-siblings : (P : Place → Type 0) (f : ℕ → Graph → List Place) (i : ℕ) (gs : List Graph) (k : ℕ) (s : Graph) → ((p : Place) → Contains (each_from f i gs) p → P p) → slice_get gs k ≡ Some s → (p : Place) → Contains (f (i + k) s) p → P p
all-siblings P f i [] k s h e p c = cc
all-siblings P f i (g ∷ gs) zero s h e p c =
    let same : g ≡ s = cc in
    let at : i + 0 ≡ i = omega arith in
    h p (left (f i g) (each_from f (suc i) gs) p (subst (λ j. Contains (f j g) p) at (subst (λ z. Contains (f (i + 0) z) p) (sym same) c)))
  where
    left : (xs ys : List Place) (p : Place) → Contains xs p → Contains (xs ++ ys) p
    left xs ys p h = Contains-append_left xs ys p h
all-siblings P f i (g ∷ gs) (suc k) s h e p c =
    let at : i + suc k ≡ suc i + k = omega arith in
    all-siblings P f (suc i) gs k s (λ q d. h q (Contains-append_right (f i g) (each_from f (suc i) gs) q d)) e p (subst (λ j. Contains (f j s) p) at c)

in-flat : (f : Node → List Place) (ns : List Node) (p : Place) → Contains (flat_map f ns) p → (n : Node) × Contains ns n × Contains (f n) p
in-flat f [] p h = in-none p h
in-flat f (n ∷ ns) p h =
    elim (Contains-append_cases (f n) (flat_map f ns) p h) [
      | inl a ↦ (n, here n ns, a)
      | inr b ↦ let r = in-flat f ns p b in (r.0, there n ns r.0 r.1, r.2)
    ]

flat-in : (f : Node → List Place) (ns : List Node) (n : Node) (p : Place) → Contains ns n → Contains (f n) p → Contains (flat_map f ns) p
flat-in f [] n p h c = in-none n h
flat-in f (m ∷ ns) n p h c =
    elim (here-or-there m ns n h) [
      | inl e ↦ Contains-append_left (f m) (flat_map f ns) p (subst (λ z. Contains (f z) p) (sym e) c)
      | inr later ↦ Contains-append_right (f m) (flat_map f ns) p (flat-in f ns n p later c)
    ]

from-zero : (f : ℕ → Graph → List Place) (k : ℕ) (s : Graph) (p : Place) → Contains (f (0 + k) s) p → Contains (f k s) p
from-zero f k s p c = let at : 0 + k ≡ k = omega arith in subst (λ j. Contains (f j s) p) at c

to-zero : (f : ℕ → Graph → List Place) (k : ℕ) (s : Graph) (p : Place) → Contains (f k s) p → Contains (f (0 + k) s) p
to-zero f k s p c = let at : k ≡ 0 + k = omega arith in subst (λ j. Contains (f j s) p) at c

by-order : (a b : ℕ) → (a < b) ⊎ ((a ≡ b) ⊎ (b < a))
by-order a b = grind arith

module _ (u : Unit1) where
  -- each place has its number, and labels once
  abbrev Right : Place → Type 0
  Right p = IsNumbered u p × IsOnce (map label_of (out-Graph p.graph).nodes)

  -- the numbers of a graph and of those inside it are its own
  pub record Own (ps : List Place) (low count : ℕ) : Type 0 where
    pub above : (p : Place) → Contains ps p → low ≤ number_of p
    pub below : (p : Place) → Contains ps p → number_of p < low + count
    pub one : (p q : Place) → Contains ps p → Contains ps q → number_of p ≡ number_of q → p ≡ q

  abbrev parts : ℕ → Graph → Node → List Place
  parts more g n = each_from (λ k s. places_of more (Inside g n k) s) 0 (out-Node n).subs

  first-right : (more : ℕ) (home : Home) (g : Graph) → ((p : Place) → Contains (places_of more home g) p → Right p) → Right (record { graph = g; home = home })
  first-right zero home g h = h _ (here _ [])
  first-right (suc more) home g h = h _ (here _ _)

  abbrev OwnAt : ℕ → Type 0
  OwnAt more = (home : Home) (g : Graph) → ((p : Place) → Contains (places_of more home g) p → Right p) → Own (places_of more home g) (out-Graph g).number (size g)

  -- siblings from a number on
  module _ (more : ℕ) (own : OwnAt more) (home : ℕ → Home) (gs : List Graph) (start : ℕ)
      (right : (p : Place) → Contains (each_from (λ k s. places_of more (home k) s) 0 gs) p → Right p)
      (numbered : (k : ℕ) (s : Graph) → slice_get gs k ≡ Some s → IsNumbered u (record { graph = s; home = home k }) → (out-Graph s).number ≡ start + sizes (take k gs)) where
    abbrev f : ℕ → Graph → List Place
    f k s = places_of more (home k) s

    own-of : (k : ℕ) (s : Graph) → slice_get gs k ≡ Some s → Own (f k s) (out-Graph s).number (size s)
    own-of k s e = own (home k) s (λ p c. all-siblings Right f 0 gs k s right e p (to-zero f k s p c))

    number-of : (k : ℕ) (s : Graph) → slice_get gs k ≡ Some s → (out-Graph s).number ≡ start + sizes (take k gs)
    number-of k s e = numbered k s e (first-right more (home k) s (λ p c. all-siblings Right f 0 gs k s right e p (to-zero f k s p c))).0

    same-place : (k j : ℕ) (s t : Graph) → slice_get gs k ≡ Some s → slice_get gs j ≡ Some t → (p q : Place) → Contains (f k s) p → Contains (f j t) q → number_of p ≡ number_of q → p ≡ q
    same-place k j s t e d p q c b same = go (by-order k j)
      where
        go : (k < j) ⊎ ((k ≡ j) ⊎ (j < k)) → p ≡ q
        go (inl lt) =
            absurd (omega (arith, (own-of k s e).below p c, (own-of j t d).above q b, number-of k s e, number-of j t d, sizes-later gs k j s e lt, same))
        go (inr (inr lt)) =
            absurd (omega (arith, (own-of j t d).below q b, (own-of k s e).above p c, number-of k s e, number-of j t d, sizes-later gs j k t d lt, same))
        go (inr (inl eq)) =
            let d' : slice_get gs k ≡ Some t = ap (slice_get gs) eq ∙ d in
            let st : s ≡ t = some-same s t (sym e ∙ d') in
            (own-of k s e).one p q c (subst (λ z. Contains (f k z) q) (sym st) (subst (λ i. Contains (f i t) q) (sym eq) b)) same
          where
            some-same : (a b : Graph) → Some a ≡ Some b → a ≡ b
            some-same a b e = cc

    own-siblings : Own (each_from f 0 gs) start (sizes gs)
    own-siblings =
        record {
          above = λ p c. let r = in-siblings f 0 gs p c in omega (arith, (own-of r.0 r.1 r.2).above p (from-zero f r.0 r.1 p r.3), number-of r.0 r.1 r.2);
          below = λ p c. let r = in-siblings f 0 gs p c in omega (arith, (own-of r.0 r.1 r.2).below p (from-zero f r.0 r.1 p r.3), number-of r.0 r.1 r.2, sizes-all gs r.0 r.1 r.2);
          one = λ p q c d e. let r = in-siblings f 0 gs p c in let t = in-siblings f 0 gs q d in same-place r.0 t.0 r.1 t.1 r.2 t.2 p q (from-zero f r.0 r.1 p r.3) (from-zero f t.0 t.1 q t.3) e;
        }

  module _ (more : ℕ) (own : OwnAt more) (home : Home) (g : Graph) (right : (p : Place) → Contains (places_of (suc more) home g) p → Right p) where
    abbrev nodes : List Node
    nodes = (out-Graph g).nodes

    own-parts : (n : Node) → Contains nodes n → Own (parts more g n) (suc ((out-Graph g).number + size_before nodes (label_of n))) (inside n)
    own-parts n h =
        own-siblings more own (Inside g n) (out-Node n).subs (suc ((out-Graph g).number + size_before nodes (label_of n)))
        (λ p c. right p (there _ _ p (flat-in (parts more g) nodes n p h c)))
        (λ k s e is. omega (arith, is))

    same-inside : (m n : Node) → Contains nodes m → Contains nodes n → (p q : Place) → Contains (parts more g m) p → Contains (parts more g n) q → number_of p ≡ number_of q → p ≡ q
    same-inside m n h k p q c d same = go (by-order (label_of m) (label_of n))
      where
        go : (label_of m < label_of n) ⊎ ((label_of m ≡ label_of n) ⊎ (label_of n < label_of m)) → p ≡ q
        go (inl lt) =
            absurd (omega (arith, (own-parts m h).below p c, (own-parts n k).above q d, lower-later nodes m (label_of n) h lt, lower-is nodes (label_of m), lower-is nodes (label_of n), same))
        go (inr (inr lt)) =
            absurd (omega (arith, (own-parts n k).below q d, (own-parts m h).above p c, lower-later nodes n (label_of m) k lt, lower-is nodes (label_of m), lower-is nodes (label_of n), same))
        go (inr (inl e)) =
            let one = one-node nodes (first-right (suc more) home g right).1 m n h k e in
            (own-parts m h).one p q c (subst (λ z. Contains (parts more g z) q) (sym one) d) same

    own-next : Own (places_of (suc more) home g) (out-Graph g).number (size g)
    own-next = record { above = above; below = below; one = one }
      where
        above : (p : Place) → Contains (places_of (suc more) home g) p → (out-Graph g).number ≤ number_of p
        above p c =
            elim (here-or-there _ _ p c) [
              | inl e ↦ omega (arith, ap number_of e)
              | inr later ↦ let r = in-flat (parts more g) nodes p later in omega (arith, (own-parts r.0 r.1).above p r.2)
            ]

        below : (p : Place) → Contains (places_of (suc more) home g) p → number_of p < (out-Graph g).number + size g
        below p c =
            elim (here-or-there _ _ p c) [
              | inl e ↦ omega (arith, ap number_of e, size-is g)
              | inr later ↦
                  let r = in-flat (parts more g) nodes p later in
                  omega (arith, (own-parts r.0 r.1).below p r.2, lower-all nodes r.0 r.1, lower-is nodes (label_of r.0), size-is g)
            ]

        one : (p q : Place) → Contains (places_of (suc more) home g) p → Contains (places_of (suc more) home g) q → number_of p ≡ number_of q → p ≡ q
        one p q c d same = go (here-or-there _ _ p c) (here-or-there _ _ q d)
          where
            go : (record { graph = g; home = home } ≡ p) ⊎ Contains (flat_map (parts more g) nodes) p → (record { graph = g; home = home } ≡ q) ⊎ Contains (flat_map (parts more g) nodes) q → p ≡ q
            go (inl a) (inl b) = sym a ∙ b
            go (inl a) (inr b) = let r = in-flat (parts more g) nodes q b in absurd (omega (arith, ap number_of a, same, (own-parts r.0 r.1).above q r.2))
            go (inr a) (inl b) = let r = in-flat (parts more g) nodes p a in absurd (omega (arith, ap number_of b, same, (own-parts r.0 r.1).above p r.2))
            go (inr a) (inr b) =
                let r = in-flat (parts more g) nodes p a in
                let t = in-flat (parts more g) nodes q b in
                same-inside r.0 t.0 r.1 t.1 p q r.2 t.2 same

  own-all : (more : ℕ) → OwnAt more
  own-all zero home g right =
      record {
        above = λ p c. elim (here-or-there _ [] p c) [ inl e ↦ omega (arith, ap number_of e) | inr later ↦ in-none p later ];
        below = λ p c. elim (here-or-there _ [] p c) [ inl e ↦ omega (arith, ap number_of e, size-is g) | inr later ↦ in-none p later ];
        one = λ p q c d same. go p q (here-or-there _ [] p c) (here-or-there _ [] q d);
      }
    where
      go : (p q : Place) → (record { graph = g; home = home } ≡ p) ⊎ Contains [] p → (record { graph = g; home = home } ≡ q) ⊎ Contains [] q → p ≡ q
      go p q (inl a) (inl b) = sym a ∙ b
      go p q (inl a) (inr b) = in-none q b
      go p q (inr a) b = in-none p a
  own-all (suc more) home g right = own-next more (own-all more) home g right

  -- numbers are those from 1 to the count of graphs, and places of one number are one place
  pub numbers-own : IsFormed u → Own (places u) 1 (sizes u.graphs)
  numbers-own formed =
      own-siblings most_levels (own-all most_levels) Function u.graphs 1
      (λ p c. let x = All-contains (IsGraph u) (places u) p formed.graphs c in (x.number, x.labels))
      (λ k s e is. omega (arith, is))

  pub one-place : IsFormed u → (p q : Place) → Contains (places u) p → Contains (places u) q → number_of p ≡ number_of q → p ≡ q
  one-place formed = (numbers-own formed).one

  found-place : IsFormed u → (p : Place) → Contains (places u) p → (o : Option Place) → find (λ q. number_of q == number_of p) (places u) ≡ o → net_at u o ≡ net_of u p.graph
  found-place formed p h None e = absurd (never (places u) h e)
    where
      never : (ps : List Place) → Contains ps p → find (λ q. number_of q == number_of p) ps ≡ None → ⊥
      never [] c e = in-none p c
      never (x ∷ ps) c e = go (number_of x == number_of p) refl e (never ps)
        where
          go : (b : Bool) → (number_of x == number_of p) ≡ b → cond b (Some x) (find (λ q. number_of q == number_of p) ps) ≡ None → (Contains ps p → find (λ q. number_of q == number_of p) ps ≡ None → ⊥) → ⊥
          go true f e k = cc
          go false f e k =
              elim (here-or-there x ps p c) [
                | inl s ↦ let y : (number_of x == number_of p) ≡ true = eq-eqb (number_of x) (number_of p) (ap number_of s) in cc
                | inr later ↦ k later e
              ]
  found-place formed p h (Some q) e =
      let x = found-in (λ q. number_of q == number_of p) (places u) q e in
      ap (λ z. net_of u z.graph) (one-place formed q p x.0 h (eqb_yes (subst T (sym x.1) tt)))

pub found-by-number : AreFoundByNumber
found-by-number u formed p h = found-place u formed p h (find (λ q. number_of q == number_of p) (places u)) refl
