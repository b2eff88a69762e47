-- Where outputs stand that are put behind one another in an order of nodes.
use Rattle.std.proofs.Common.{◌≡◌, ℕ, zero, suc, ◌+◌, ◌-◌, ◌<◌, ◌≤◌, drop, if◌then◌else◌, ◌⊎◌, inl, inr, List, [], ◌∷◌, length, get_or, slice_index, refl, sym, ap, ◌∙◌, subst, arith, get_or-set_other, get_or-set_same, set, eqb, ltb, Bool, true, false, All, Contains, slice_index_or}
use Rattle.std.proofs.lemmas.Bool.{eq-eqb, lt-ltb}
use Rattle.std.proofs.lemmas.List.{drop_more}
use Rattle.graph_meaning.specs.Carried.{Unfilled}
use Rattle.graph_meaning.specs.Demand.{Vertex}
use Rattle.run_code.specs.Cells.{At, Lit}
use Rattle.run_code.specs.Made.{Plan, put}
use Rattle.run_made.proofs.Lying.{eqb-sound}
use Rattle.if1_order.specs.Feeders.{IsPlace}
use Rattle.if1_order.proofs.Members.{contains_cases, contains_here, contains_none, contains_there}
use Rattle.if1_order.proofs.Orders.{same_place}
use Rattle.firing_order.proofs.Labelled.{same-default}
use Rattle.plan_builder.specs.declared.outlets.Outlets.{Outlets}
use Rattle.plan_builder.specs.Outlets.{AreNodesAt, AreOutlets, cells_of, start_of}

-- ---- sums

module _ (ws : List ℕ) where
  fits-by : (o : ℕ) (os : List ℕ) (k : ℕ) → (Contains os k → start_of ws os k + slice_index ws k ≤ cells_of ws os) → (o ≡ k) ⊎ Contains os k
      → (c : Bool) → (c ≡ true → o ≡ k) → (o ≡ k → c ≡ true) → (if c then 0 else slice_index ws o + start_of ws os k) + slice_index ws k ≤ slice_index ws o + cells_of ws os
  fits-by o os k rest there true sound total = let e = ap (slice_index ws) (sound refl) in omega (arith, e)
  fits-by o os k rest (inl e) false sound total = absurd (let x : false ≡ true = total e in cc)
  fits-by o os k rest (inr there) false sound total = let a = rest there in omega (arith, a)

  -- the outputs of a node stand among all
  pub start-fits : (os : List ℕ) (k : ℕ) → Contains os k → start_of ws os k + slice_index ws k ≤ cells_of ws os
  start-fits [] k h = contains_none k h
  start-fits (o ∷ os) k h = fits-by o os k (start-fits os k) (contains_cases o os k h) (eqb o k) (eqb-sound o k) (λ e. eq-eqb o k e)

  rest-cells : (os : List ℕ) (i : ℕ) → cells_of ws (drop i os) ≤ cells_of ws os
  rest-cells [] zero = omega arith
  rest-cells [] (suc i) = omega arith
  rest-cells (o ∷ os) zero = omega arith
  rest-cells (o ∷ os) (suc i) = let a = rest-cells os i in omega (arith, a)

  -- the node at a place of the order, and those behind it
  pub at-index : (os : List ℕ) (i : ℕ) → i < length os → drop i os ≡ get_or os i 0 ∷ drop (suc i) os
  at-index os i lt = let e : i + 1 ≡ suc i = omega arith in drop_more os i 0 lt ∙ ap (λ x. get_or os i 0 ∷ drop x os) e

  index-fits : (os : List ℕ) (i begin : ℕ) → i < length os → begin + cells_of ws (drop (suc i) os) ≡ cells_of ws os → slice_index ws (get_or os i 0) ≤ begin
  index-fits os i begin lt far =
      let a = rest-cells os i in
      let b = ap (cells_of ws) (at-index os i lt) in
      omega (arith, a, b, far)

  -- those of the node before a place of the order that is reached
  pub begin-fits : (os : List ℕ) (index begin : ℕ) → 0 < index → index ≤ length os → begin + cells_of ws (drop index os) ≡ cells_of ws os → slice_index ws (get_or os (index - 1) 0) ≤ begin
  begin-fits os index begin some inside far =
      let e : index ≡ suc (index - 1) = omega (arith, some) in
      index-fits os (index - 1) begin (omega (arith, some, inside)) (subst (λ x. begin + cells_of ws (drop x os) ≡ cells_of ws os) e far)

  -- a table from a place of the order on, one place more
  pub starts-more : (starts : List ℕ) (o : ℕ) (os : List ℕ) (begin next : ℕ) → o < length starts → next ≡ begin + slice_index ws o
      → ((k : ℕ) → Contains os k → slice_index starts k ≡ next + start_of ws os k)
      → (k : ℕ) → Contains (o ∷ os) k → slice_index (set starts o begin) k ≡ begin + start_of ws (o ∷ os) k
  starts-more starts o os begin next lt e right k h = go (contains_cases o os k h) (eqb o k) (eqb-sound o k) (λ e. eq-eqb o k e)
    where
      go : (o ≡ k) ⊎ Contains os k → (c : Bool) → (c ≡ true → o ≡ k) → (o ≡ k → c ≡ true) → slice_index (set starts o begin) k ≡ begin + (if c then 0 else slice_index ws o + start_of ws os k)
      go there true sound total = let s = subst (λ x. slice_index (set starts o begin) x ≡ begin) (sound refl) (get_or-set_same starts o begin 0 lt) in omega (arith, s)
      go (inl same) false sound total = absurd (let x : false ≡ true = total same in cc)
      go (inr there) false sound total =
          let other = get_or-set_other starts o k begin 0 (λ e. absurd (let x : false ≡ true = total (sym e) in cc)) in
          let here = right k there in
          omega (arith, other, here, e)

-- ---- cells

module _ (P : Plan) (x : Outlets) (are : AreOutlets x) (l p k : ℕ) (place : IsPlace x.labels k l) (first : 1 ≤ p) (there : p ≤ slice_index x.widths k) where
  put-by : (o : ℕ) (os : List ℕ) (v : Vertex) (vs : List Vertex) (lo : ℕ) → o < length x.labels → v.label ≡ slice_index x.labels o → P.width v ≡ slice_index x.widths o
      → (Contains os k → put P vs (lo + P.width v) l p ≡ At ((lo + P.width v) + (start_of x.widths os k + (p - 1)))) → (o ≡ k) ⊎ Contains os k
      → (c : Bool) → (c ≡ true → v.label ≡ l) → (v.label ≡ l → c ≡ true) → (d : Bool) → (d ≡ true → o ≡ k) → (o ≡ k → d ≡ true)
      → (if c then (if ltb (p - 1) (P.width v) then At (lo + (p - 1)) else Lit Unfilled) else put P vs (lo + P.width v) l p) ≡ At (lo + ((if d then 0 else slice_index x.widths o + start_of x.widths os k) + (p - 1)))
  put-by o os v vs lo inside labelled wide rest where_ true sound total true same full =
      let e : o ≡ k = same refl in
      let w = ap (slice_index x.widths) e in
      let lt : p - 1 < P.width v = omega (arith, w, wide, first, there) in
      let n : lo + (p - 1) ≡ lo + (0 + (p - 1)) = omega arith in
      ap (λ b. if b then At (lo + (p - 1)) else Lit Unfilled) (lt-ltb (p - 1) (P.width v) lt) ∙ ap At n
  put-by o os v vs lo inside labelled wide rest where_ true sound total false same full =
      let e : o ≡ k = same_place x.labels o k are.rising inside place.0 (sym labelled ∙ (sound refl ∙ sym place.1)) in
      absurd (let y : false ≡ true = full e in cc)
  put-by o os v vs lo inside labelled wide rest where_ false sound total true same full =
      let e : v.label ≡ l = labelled ∙ (ap (slice_index x.labels) (same refl) ∙ place.1) in
      absurd (let y : false ≡ true = total e in cc)
  put-by o os v vs lo inside labelled wide rest (inl e) false sound total false same full = absurd (let y : false ≡ true = full e in cc)
  put-by o os v vs lo inside labelled wide rest (inr t) false sound total false same full =
      let n : (lo + P.width v) + (start_of x.widths os k + (p - 1)) ≡ lo + ((slice_index x.widths o + start_of x.widths os k) + (p - 1)) = omega (arith, wide) in
      rest t ∙ ap At n

  -- an output stands behind those of the nodes before its own
  pub put-at : (os : List ℕ) (vs : List Vertex) → ((j : ℕ) → Contains os j → j < length x.labels) → AreNodesAt P x os vs → Contains os k
      → (lo : ℕ) → put P vs lo l p ≡ At (lo + (start_of x.widths os k + (p - 1)))
  put-at [] vs inside h c lo = contains_none k c
  put-at (o ∷ os) [] inside h c lo = absurd h
  put-at (o ∷ os) (v ∷ vs) inside h c lo =
      put-by o os v vs lo (inside o (contains_here o os)) h.0 h.1 (λ t. put-at os vs (λ j t. inside j (contains_there o os j t)) h.2 t (lo + P.width v)) (contains_cases o os k c)
      (eqb v.label l) (eqb-sound v.label l) (λ e. eq-eqb v.label l e) (eqb o k) (eqb-sound o k) (λ e. eq-eqb o k e)

pub all-inside : (os : List ℕ) (n m : ℕ) → m ≡ n → ((k : ℕ) → Contains os k → k < n) → All (λ k. k < m) os
all-inside os n m e inside k d lt = let a = inside (slice_index_or os k d) (k, lt, same-default os k (slice_index_or os k d) d lt) in omega (arith, a, e)

-- the label stands at one place
pub one-place : (x : Outlets) → AreOutlets x → (l k j : ℕ) → IsPlace x.labels k l → IsPlace x.labels j l → k ≡ j
one-place x are l k j a b = same_place x.labels k j are.rising a.0 b.0 (a.1 ∙ sym b.1)
