-- Where no node waits for itself, nodes have ranks that fall along what they wait for: the rank of a node is how many nodes
-- it waits for, itself or by others.
use Rattle.std.proofs.Common.{◌≡◌, ℕ, suc, ◌+◌, ◌<◌, ◌≤◌, Bool, true, false, ◌&&◌, ◌||◌, List, [], ◌∷◌, map, length, Some, ◌⊎◌, inl, inr, refl, sym, ap, ◌∙◌, subst, arith, eqb, T}
use Rattle.std.proofs.lemmas.Bool.{eq-eqb}
use Rattle.std.proofs.Math.Facts.{eqb_yes}
use Rattle.graph_meaning.specs.Entered.{IsIn}
use Rattle.graph_meaning.specs.Demand.{Vertex, Net, Network, at_label, data_labels, waits, waits_of, WaitsFor, straight, through, IsLabel, LabelsOnce, EachNode, IsOrderly, AreOrderly}
use Rattle.graph_meaning.proofs.Finding.{all-found}

-- labels stand once, edges and ordering lists name nodes of the graph, and each node waits for nodes of a lower rank
pub record IsRanked (g : Net) : Type 0 where
  pub once : LabelsOnce g.nodes
  pub named : EachNode (λ v. (n : ℕ) → IsIn n (waits v) → IsLabel g.nodes n) g.nodes
  pub results_named : (n : ℕ) → IsIn n (data_labels g.results) → IsLabel g.nodes n
  pub rank : ℕ → ℕ
  pub falls : EachNode (λ v. (n : ℕ) → IsIn n (waits v) → rank n < rank v.label) g.nodes
  pub short : (n : ℕ) → IsLabel g.nodes n → rank n < length g.nodes

abbrev pub AreRanked : Network → Type 0
AreRanked u = (g : ℕ) → IsRanked (u g)

abbrev is_in : ℕ → List ℕ → Bool
is_in n [] = false
is_in n (m ∷ ms) = eqb n m || is_in n ms

eqb-same : (a b : ℕ) → eqb a b ≡ true → a ≡ b
eqb-same a b e = eqb_yes (subst T (sym e) tt)

in-sound : (n : ℕ) (ms : List ℕ) → is_in n ms ≡ true → IsIn n ms
in-sound n [] e = absurd cc
in-sound n (m ∷ ms) e = go (eqb n m) refl e (in-sound n ms)
  where
    go : (b : Bool) → eqb n m ≡ b → b || is_in n ms ≡ true → (is_in n ms ≡ true → IsIn n ms) → IsIn n (m ∷ ms)
    go true f h k = inl (eqb-same n m f)
    go false f h k = inr (k h)

in-complete : (n : ℕ) (ms : List ℕ) → IsIn n ms → is_in n ms ≡ true
in-complete n [] h = absurd h
in-complete n (m ∷ ms) (inl e) = ap (λ b. b || is_in n ms) (eq-eqb n m e)
in-complete n (m ∷ ms) (inr h) = or-right (eqb n m) (is_in n ms) (in-complete n ms h)
  where
    or-right : (a b : Bool) → b ≡ true → a || b ≡ true
    or-right true b e = refl
    or-right false b e = e

-- whether a node leads to another by nodes of a list alone
module _ (edge : ℕ → ℕ → Bool) where
  abbrev leads : List ℕ → ℕ → ℕ → Bool
  leads [] l m = edge l m
  leads (x ∷ xs) l m = leads xs l m || (leads xs l x && leads xs x m)

  or-cases : (a b c : Bool) → a || (b && c) ≡ true → (a ≡ true) ⊎ ((b ≡ true) × (c ≡ true))
  or-cases true b c e = inl refl
  or-cases false true c e = inr (refl, e)
  or-cases false false c e = absurd cc

  by-left : (a b c : Bool) → a ≡ true → a || (b && c) ≡ true
  by-left true b c e = refl
  by-left false b c e = absurd cc

  by-right : (a b c : Bool) → b ≡ true → c ≡ true → a || (b && c) ≡ true
  by-right true b c e f = refl
  by-right false true c e f = f
  by-right false false c e f = absurd cc

  edge-leads : (xs : List ℕ) (l m : ℕ) → edge l m ≡ true → leads xs l m ≡ true
  edge-leads [] l m e = e
  edge-leads (x ∷ xs) l m e = by-left (leads xs l m) (leads xs l x) (leads xs x m) (edge-leads xs l m e)

  -- a way by a node of the list is a way by nodes of the list
  joins : (xs : List ℕ) (x l m : ℕ) → IsIn x xs → leads xs l x ≡ true → leads xs x m ≡ true → leads xs l m ≡ true
  joins [] x l m i a b = absurd i
  joins (y ∷ xs) x l m (inl e) a b =
      go (or-cases (leads xs l x) (leads xs l y) (leads xs y x) a) (or-cases (leads xs x m) (leads xs x y) (leads xs y m) b)
    where
      to : leads xs l x ≡ true → leads xs l y ≡ true
      to h = subst (λ z. leads xs l z ≡ true) e h

      from : leads xs x m ≡ true → leads xs y m ≡ true
      from h = subst (λ z. leads xs z m ≡ true) e h

      go : (leads xs l x ≡ true) ⊎ ((leads xs l y ≡ true) × (leads xs y x ≡ true)) → (leads xs x m ≡ true) ⊎ ((leads xs x y ≡ true) × (leads xs y m ≡ true)) → leads (y ∷ xs) l m ≡ true
      go (inl h) (inl k) = by-right (leads xs l m) (leads xs l y) (leads xs y m) (to h) (from k)
      go (inl h) (inr k) = by-right (leads xs l m) (leads xs l y) (leads xs y m) (to h) k.1
      go (inr h) (inl k) = by-right (leads xs l m) (leads xs l y) (leads xs y m) h.0 (from k)
      go (inr h) (inr k) = by-right (leads xs l m) (leads xs l y) (leads xs y m) h.0 k.1
  joins (y ∷ xs) x l m (inr i) a b =
      go (λ p q. joins xs x p q i) (or-cases (leads xs l x) (leads xs l y) (leads xs y x) a) (or-cases (leads xs x m) (leads xs x y) (leads xs y m) b)
    where
      go : ((p q : ℕ) → leads xs p x ≡ true → leads xs x q ≡ true → leads xs p q ≡ true) → (leads xs l x ≡ true) ⊎ ((leads xs l y ≡ true) × (leads xs y x ≡ true)) → (leads xs x m ≡ true) ⊎ ((leads xs x y ≡ true) × (leads xs y m ≡ true)) → leads (y ∷ xs) l m ≡ true
      go f (inl h) (inl k) = by-left (leads xs l m) (leads xs l y) (leads xs y m) (f l m h k)
      go f (inl h) (inr k) = by-right (leads xs l m) (leads xs l y) (leads xs y m) (f l y h k.0) k.1
      go f (inr h) (inl k) = by-right (leads xs l m) (leads xs l y) (leads xs y m) h.0 (f y m h.1 k)
      go f (inr h) (inr k) = by-right (leads xs l m) (leads xs l y) (leads xs y m) h.0 k.1

  -- how many of a list a node leads to by the nodes of another
  abbrev one_if : Bool → ℕ
  one_if true = 1
  one_if false = 0

  abbrev reached : List ℕ → ℕ → List ℕ → ℕ
  reached xs l [] = 0
  reached xs l (m ∷ ms) = one_if (leads xs l m) + reached xs l ms

  one-mono : (a b : Bool) → (a ≡ true → b ≡ true) → one_if a ≤ one_if b
  one-mono true b h = let e = ap one_if (h refl) in omega (arith, e)
  one-mono false b h = omega arith

  one-most : (a : Bool) → one_if a ≤ 1
  one-most true = omega arith
  one-most false = omega arith

  reached-mono : (xs : List ℕ) (l k : ℕ) → ((m : ℕ) → leads xs l m ≡ true → leads xs k m ≡ true) → (ms : List ℕ) → reached xs l ms ≤ reached xs k ms
  reached-mono xs l k h [] = omega arith
  reached-mono xs l k h (m ∷ ms) = omega (arith, one-mono (leads xs l m) (leads xs k m) (h m), reached-mono xs l k h ms)

  -- one more is reached
  reached-more : (xs : List ℕ) (l k y : ℕ) → ((m : ℕ) → leads xs l m ≡ true → leads xs k m ≡ true) → leads xs k y ≡ true → leads xs l y ≡ false → (ms : List ℕ) → IsIn y ms → reached xs l ms < reached xs k ms
  reached-more xs l k y h a b [] i = absurd i
  reached-more xs l k y h a b (m ∷ ms) (inl e) =
      let p = ap one_if (subst (λ z. leads xs k z ≡ true) e a) in
      let q = ap one_if (subst (λ z. leads xs l z ≡ false) e b) in
      omega (arith, p, q, reached-mono xs l k h ms)
  reached-more xs l k y h a b (m ∷ ms) (inr i) =
      omega (arith, one-mono (leads xs l m) (leads xs k m) (h m), reached-more xs l k y h a b ms i)

  reached-few : (xs : List ℕ) (l : ℕ) (ms : List ℕ) → reached xs l ms ≤ length ms
  reached-few xs l [] = omega arith
  reached-few xs l (m ∷ ms) = omega (arith, one-most (leads xs l m), reached-few xs l ms)

  reached-fewer : (xs : List ℕ) (l y : ℕ) → leads xs l y ≡ false → (ms : List ℕ) → IsIn y ms → reached xs l ms < length ms
  reached-fewer xs l y b [] i = absurd i
  reached-fewer xs l y b (m ∷ ms) (inl e) = let q = ap one_if (subst (λ z. leads xs l z ≡ false) e b) in omega (arith, q, reached-few xs l ms)
  reached-fewer xs l y b (m ∷ ms) (inr i) = omega (arith, one-most (leads xs l m), reached-fewer xs l y b ms i)

abbrev labels : List Vertex → List ℕ
labels vs = map (λ v. v.label) vs

label-in : (vs : List Vertex) (n : ℕ) → IsLabel vs n → IsIn n (labels vs)
label-in [] n i = absurd i
label-in (v ∷ vs) n (inl e) = inl e
label-in (v ∷ vs) n (inr i) = inr (label-in vs n i)

same-length : (vs : List Vertex) → length (labels vs) ≡ length vs
same-length [] = refl
same-length (v ∷ vs) = ap suc (same-length vs)

module _ (g : Net) (orderly : IsOrderly g) where
  abbrev edge_of : ℕ → ℕ → Bool
  edge_of l m = is_in m (waits_of (at_label g.nodes l))

  abbrev way : ℕ → ℕ → Bool
  way = leads edge_of (labels g.nodes)

  leads-sound : (xs : List ℕ) (l m : ℕ) → leads edge_of xs l m ≡ true → WaitsFor g.nodes l m
  leads-sound [] l m e = straight (in-sound m (waits_of (at_label g.nodes l)) e)
  leads-sound (x ∷ xs) l m e = go (or-cases edge_of (leads edge_of xs l m) (leads edge_of xs l x) (leads edge_of xs x m) e) (leads-sound xs)
    where
      go : (leads edge_of xs l m ≡ true) ⊎ ((leads edge_of xs l x ≡ true) × (leads edge_of xs x m ≡ true)) → ((p q : ℕ) → leads edge_of xs p q ≡ true → WaitsFor g.nodes p q) → WaitsFor g.nodes l m
      go (inl h) f = f l m h
      go (inr h) f = through (f l x h.0) (f x m h.1)

  no-way : (l : ℕ) → way l l ≡ false
  no-way l = go (way l l) (λ e. orderly.acyclic l (leads-sound (labels g.nodes) l l e))
    where
      go : (b : Bool) → (b ≡ true → ⊥) → b ≡ false
      go true h = absurd (h refl)
      go false h = refl

  abbrev rank_of : ℕ → ℕ
  rank_of l = reached edge_of (labels g.nodes) l (labels g.nodes)

  falls-at : (v : Vertex) → at_label g.nodes v.label ≡ Some v → ((n : ℕ) → IsIn n (waits v) → IsLabel g.nodes n) → (n : ℕ) → IsIn n (waits v) → rank_of n < rank_of v.label
  falls-at v found named n i =
      let there = label-in g.nodes n (named n i) in
      let e : edge_of v.label n ≡ true = ap (λ o. is_in n (waits_of o)) found ∙ in-complete n (waits v) i in
      let w = edge-leads edge_of (labels g.nodes) v.label n e in
      reached-more edge_of (labels g.nodes) n v.label n (λ m h. joins edge_of (labels g.nodes) n v.label m there w h) w (no-way n) (labels g.nodes) there

  falls-each : (vs : List Vertex) → EachNode (λ v. at_label g.nodes v.label ≡ Some v) vs → EachNode (λ v. (n : ℕ) → IsIn n (waits v) → IsLabel g.nodes n) vs → EachNode (λ v. (n : ℕ) → IsIn n (waits v) → rank_of n < rank_of v.label) vs
  falls-each [] f k = tt
  falls-each (v ∷ vs) f k = (falls-at v f.0 k.0, falls-each vs f.1 k.1)

  pub net-ranked : IsRanked g
  net-ranked =
      record {
        once = orderly.once;
        named = orderly.named;
        results_named = orderly.results_named;
        rank = rank_of;
        falls = falls-each g.nodes (all-found g.nodes orderly.once) orderly.named;
        short = λ n i. let x = reached-fewer edge_of (labels g.nodes) n n (no-way n) (labels g.nodes) (label-in g.nodes n i) in omega (arith, x, same-length g.nodes);
      }

pub ranked : (u : Network) → AreOrderly u → AreRanked u
ranked u h g = net-ranked (u g) (h g)
