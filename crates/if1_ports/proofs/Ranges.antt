-- The edges into a node, where edges stand in order, lie between two places.
use Rattle.std.proofs.Common.{◌≡◌, ℕ, zero, suc, ◌<◌, ◌≤◌, Bool, true, false, not, ◌&&◌, ◌||◌, ◌==◌, nat_lt, List, [], ◌∷◌, take, drop, length, get_or, filter, All, AllPairs, inl, inr, ◌⊎◌, refl, sym, ap, subst, ◌∙◌, arith, eq-eqb}
use Rattle.std.specs.List.{AllWithin}
use Rattle.std.specs.List.Sorted.{IsPartitionedBy}
use Rattle.std.proofs.lemmas.Bool.{both_ways}
use Rattle.std.proofs.lemmas.Bool.Decides.{eqb_tells, leb_tells}
use Rattle.if1_graph.specs.declared.graph.Edge.{Edge}
use Rattle.if1_graph.specs.Normal.{Precedes}
use Rattle.if1_ports.specs.Into.{stands_before}

module _ {A : Type 0} (p : A → Bool) where
  -- what stands before a place and fails a test may go
  pub dropped : (xs : List A) (k : ℕ) → AllWithin (λ y. p y ≡ false) xs 0 k → filter p (drop k xs) ≡ filter p xs
  dropped [] zero h = refl
  dropped [] (suc k) h = refl
  dropped (x ∷ xs) zero h = refl
  dropped (x ∷ xs) (suc k) h =
      let fails : p x ≡ false = h 0 x (omega arith) (omega arith) in
      dropped xs k (λ j d a b. h (suc j) d (omega arith) (omega (arith, b))) ∙ rw fails refl

  -- what passes up to a place, and fails from there on
  pub taken : (xs : List A) (k : ℕ) → AllWithin (λ y. p y ≡ true) xs 0 k → AllWithin (λ y. p y ≡ false) xs k (length xs) → take k xs ≡ filter p xs
  taken [] zero h i = refl
  taken [] (suc k) h i = refl
  taken (x ∷ xs) zero h i =
      let fails : p x ≡ false = i 0 x (omega arith) (omega arith) in
      rw fails (taken xs zero (λ j d a b. absurd (omega (arith, b))) (λ j d a b. i (suc j) d (omega arith) (omega (arith, b))))
  taken (x ∷ xs) (suc k) h i =
      let passes : p x ≡ true = h 0 x (omega arith) (omega arith) in
      let rest =
      taken xs k (λ j d a b. h (suc j) d (omega arith) (omega (arith, b))) (λ j d a b. i (suc j) d (omega (arith, a)) (omega (arith, b))) in
      rw passes (ap (λ ys. x ∷ ys) rest)

-- ---- the order of nodes

-- by numbers: the one label is no boundary, and the other is one, or above it
abbrev Before : ℕ → ℕ → Type 0
Before a b = (1 ≤ a) × ((b ≡ 0) ⊎ (a < b))

before : (a b : ℕ) → ((stands_before a b ≡ true) × Before a b) ⊎ ((stands_before a b ≡ false) × ((a ≡ 0) ⊎ ((1 ≤ b) × (b ≤ a))))
before a b =
    elim (eqb_tells a 0) [
      | inl e ↦ inr (ap (λ t. not t && ((b == 0) || nat_lt a b)) e.0, inl e.1)
      | inr e ↦
          elim (eqb_tells b 0) [
            | inl f ↦ inl (ap (λ t. not t && ((b == 0) || nat_lt a b)) e.0 ∙ ap (λ t. t || nat_lt a b) f.0, (some a e.1, inl f.1))
            | inr f ↦
                elim (leb_tells (suc a) b) [
                  | inl l ↦ inl (ap (λ t. not t && ((b == 0) || nat_lt a b)) e.0 ∙ ap (λ t. t || nat_lt a b) f.0 ∙ l.0, (some a e.1, inr l.1))
                  | inr l ↦ inr (ap (λ t. not t && ((b == 0) || nat_lt a b)) e.0 ∙ ap (λ t. t || nat_lt a b) f.0 ∙ l.0, inr (some b f.1, omega (arith, l.1)))
                ]
          ]
    ]
  where
    some : (n : ℕ) → (n ≡ 0 → ⊥) → 1 ≤ n
    some n h = omega (arith, h)

told : (a b : ℕ) → stands_before a b ≡ true → Before a b
told a b h = elim (before a b) [ inl e ↦ e.1 | inr e ↦ absurd (both_ways (stands_before a b) e.0 h) ]

denied : (a b : ℕ) → stands_before a b ≡ false → (a ≡ 0) ⊎ ((1 ≤ b) × (b ≤ a))
denied a b h = elim (before a b) [ inl e ↦ absurd (both_ways (stands_before a b) h e.0) | inr e ↦ e.1 ]

tells : (a b : ℕ) → Before a b → stands_before a b ≡ true
tells a b (one, h) =
    elim (before a b) [
      | inl e ↦ e.0
      | inr (e, inl z) ↦ absurd (omega (arith, one, z))
      | inr (e, inr r) ↦ elim h [ inl z ↦ absurd (omega (arith, r.0, z)) | inr l ↦ absurd (omega (arith, r.1, l)) ]
    ]

denies : (a b : ℕ) → (a ≡ 0) ⊎ ((1 ≤ b) × (b ≤ a)) → stands_before a b ≡ false
denies a b h =
    elim (before a b) [
      | inr e ↦ e.0
      | inl (e, (one, r)) ↦
          elim h [
            | inl z ↦ absurd (omega (arith, one, z))
            | inr l ↦ elim r [ inl z ↦ absurd (omega (arith, l.0, z)) | inr m ↦ absurd (omega (arith, l.1, m)) ]
          ]
    ]

-- a node that stands before another is not the other
pub no_same : (a b : ℕ) → stands_before a b ≡ true → (a == b) ≡ false
no_same a b h =
    elim (eqb_tells a b) [
      | inr e ↦ e.0
      | inl e ↦
          let t = told a b h in
          elim t.1 [ inl z ↦ absurd (omega (arith, t.0, z, e.1)) | inr l ↦ absurd (omega (arith, l, e.1)) ]
    ]

-- neither stands before the other
pub same : (a b : ℕ) → stands_before a b ≡ false → stands_before b a ≡ false → (a == b) ≡ true
same a b h i =
    elim (eqb_tells a b) [
      | inl e ↦ e.0
      | inr e ↦ absurd (e.1 (level (denied a b h) (denied b a i)))
    ]
  where
    level : (a ≡ 0) ⊎ ((1 ≤ b) × (b ≤ a)) → (b ≡ 0) ⊎ ((1 ≤ a) × (a ≤ b)) → a ≡ b
    level (inl x) (inl y) = omega (arith, x, y)
    level (inl x) (inr y) = absurd (omega (arith, x, y.0))
    level (inr x) (inl y) = absurd (omega (arith, x.0, y))
    level (inr x) (inr y) = omega (arith, x.1, y.1)

-- ---- lists in order

-- what stands before a node stays before it further to the front
front : (a b node : ℕ) → (a ≡ b) ⊎ Before a b → stands_before b node ≡ true → stands_before a node ≡ true
front a b node (inl e) h = subst (λ x. stands_before x node ≡ true) (sym e) h
front a b node (inr r) h = let t = told b node h in tells a node (r.0, over r.1 t.0 t.1)
  where
    over : (b ≡ 0) ⊎ (a < b) → 1 ≤ b → (node ≡ 0) ⊎ (b < node) → (node ≡ 0) ⊎ (a < node)
    over x one (inl z) = inl z
    over (inl z) one (inr y) = absurd (omega (arith, one, z))
    over (inr l) one (inr y) = inr (omega (arith, l, y))

-- and what stands after one, after it
back : (a b node : ℕ) → (a ≡ b) ⊎ Before a b → stands_before node b ≡ false → stands_before node a ≡ false
back a b node (inl e) h = subst (λ x. stands_before node x ≡ false) (sym e) h
back a b node (inr r) h = denies node a (over r.1 (denied node b h))
  where
    over : (b ≡ 0) ⊎ (a < b) → (node ≡ 0) ⊎ ((1 ≤ b) × (b ≤ node)) → (node ≡ 0) ⊎ ((1 ≤ a) × (a ≤ node))
    over x (inl z) = inl z
    over (inl z) (inr y) = absurd (omega (arith, y.0, z))
    over (inr l) (inr y) = inr (r.0, omega (arith, l, y.1))

nodes_of : (e f : Edge) → Precedes e f → (e.node ≡ f.node) ⊎ Before e.node f.node
nodes_of e f (inl h) = inl h.0
nodes_of e f (inr (one, inl l)) = inr (one, inr l)
nodes_of e f (inr (one, inr z)) = inr (one, inl z)

pair_at : (es : List Edge) (i j : ℕ) (d : Edge) → AllPairs Precedes es → i ≤ j → j < length es → ((get_or es i d).node ≡ (get_or es j d).node) ⊎ Before (get_or es i d).node (get_or es j d).node
pair_at es i j d h a b =
    elim (split i j a) [ inl e ↦ inl (ap (λ k. (get_or es k d).node) e) | inr l ↦ nodes_of (get_or es i d) (get_or es j d) (h i j d l b) ]
  where
    split : (i j : ℕ) → i ≤ j → (i ≡ j) ⊎ (i < j)
    split i j h = grind arith

pub before_parted : (es : List Edge) (node : ℕ) → AllPairs Precedes es → IsPartitionedBy (λ (e : Edge). stands_before e.node node) es
before_parted es node h = λ i j d a b t. front (get_or es i d).node (get_or es j d).node node (pair_at es i j d h a b) t

pub upto_parted : (es : List Edge) (node : ℕ) → AllPairs Precedes es → IsPartitionedBy (λ (e : Edge). not (stands_before node e.node)) es
upto_parted es node h = λ i j d a b t.
    ap not (back (get_or es i d).node (get_or es j d).node node (pair_at es i j d h a b) (not_true (stands_before node (get_or es j d).node) t))
  where
    not_true : (b : Bool) → not b ≡ true → b ≡ false
    not_true true e = absurd cc
    not_true false e = refl

-- ---- parts of lists

pub pairs_drop : (es : List Edge) (k : ℕ) → AllPairs Precedes es → AllPairs Precedes (drop k es)
pairs_drop es zero h = h
pairs_drop [] (suc k) h = h
pairs_drop (e ∷ es) (suc k) h = pairs_drop es k (λ i j d a b. h (suc i) (suc j) d (omega (arith, a)) (omega (arith, b)))

pub drop_all : (P : Edge → Type 0) (es : List Edge) (k : ℕ) → AllWithin P es k (length es) → All P (drop k es)
drop_all P es zero h = λ j d b. h j d (omega arith) b
drop_all P [] (suc k) h = λ j d b. absurd (omega (arith, b))
drop_all P (e ∷ es) (suc k) h = drop_all P es k (λ j d a b. h (suc j) d (omega (arith, a)) (omega (arith, b)))

pub swapped : (a b : ℕ) → (b == a) ≡ false → (a == b) ≡ false
swapped a b h = elim (eqb_tells a b) [ inr e ↦ e.0 | inl e ↦ absurd (both_ways (b == a) h (eq-eqb b a (sym e.1))) ]
