-- An order of places has ranks.
use Rattle.std.proofs.Common.{◌≡◌, ◌≢◌, ◌∙◌, ℕ, ◌+◌, ◌<◌, ◌≤◌, zero, suc, List, [], ◌∷◌, length, take, set, get_or, replicate, slice_index, slice_index_or, All, Contains, inl, inr, arith, sym, ap, subst}
use Rattle.std.proofs.lemmas.Bool.{cases_lt}
use Rattle.std.proofs.lemmas.List.{length-set, length-replicate, length-take-le, get_or-set_same, get_or-set_other, get_or_default, get_or-take}
use Rattle.std.proofs.lemmas.List.Elements.{Contains-get_or}
use Rattle.if1_graph.specs.Formed.{IsOnce}
use Rattle.if1_order.specs.Walks.{Lists, feeders_of, IsSorted, Leads, step, onward}
use Rattle.if1_reach.specs.declared.ranks.Ranks.{Ranks}
use Rattle.if1_reach.specs.Ranks.{AreRanks, IsRanked}
use Rattle.if1_reach.proofs.Labelled.{same-default}

-- in a list without repeats two places hold two numbers
pub once-apart : (xs : List ℕ) → IsOnce xs → (i j : ℕ) → i < j → j < length xs → get_or xs i 0 ≢ get_or xs j 0
once-apart [] once i j lt h e = omega (arith, h)
once-apart (x ∷ xs) once zero zero lt h e = omega (arith, lt)
once-apart (x ∷ xs) once zero (suc j) lt h e = once.0 (subst (Contains xs) (sym e) (Contains-get_or xs j 0 (omega (arith, h))))
once-apart (x ∷ xs) once (suc i) zero lt h e = omega (arith, lt)
once-apart (x ∷ xs) once (suc i) (suc j) lt h e = once-apart xs once.1 i j (omega (arith, lt)) (omega (arith, h)) e

-- the first of an order have their ranks
pub record AreSet (order ranks : List ℕ) (places n : ℕ) : Type 0 where
  pub fit : length ranks ≡ places
  pub set_so_far : (k : ℕ) → k < n → slice_index ranks (slice_index order k) ≡ k

pub none-set : (order ranks : List ℕ) (places : ℕ) → ranks ≡ replicate places 0 → AreSet order ranks places 0
none-set order ranks places e = record { fit = ap length e ∙ length-replicate places 0; set_so_far = λ k h. absurd (omega (arith, h)) }

pub next-set : (order ranks new : List ℕ) (places n place : ℕ) → IsOnce order → All (λ t. t < places) order → AreSet order ranks places n → n < length order → place ≡ slice_index order n → new ≡ set ranks place n →
    AreSet order new places (n + 1)
next-set order ranks new places n place once inside was lt is e =
    record {
      fit = ap length e ∙ (length-set ranks place n ∙ was.fit);
      set_so_far = λ k h. ap (λ (rs : List ℕ). slice_index rs (slice_index order k)) (e ∙ ap (λ x. set ranks x n) is)
          ∙ (elim (cases_lt k n) [
            | inl less ↦ get_or-set_other ranks (slice_index order n) (slice_index order k) n 0 (once-apart order once k n less lt) ∙ was.set_so_far k less
            | inr ge ↦
                let same : n ≡ k = omega (arith, h, ge) in
                ap (λ j. slice_index (set ranks (slice_index order n) n) (slice_index order j)) (sym same)
                ∙ (get_or-set_same ranks (slice_index order n) n 0 (subst (λ z. slice_index order n < z) (sym was.fit) (inside n 0 lt)) ∙ same)
          ]);
    }

pub all-set : (order ranks : List ℕ) (places n : ℕ) → AreSet order ranks places n → length order ≤ n → (length ranks ≡ places) × AreRanks order ranks
all-set order ranks places n was h = (was.fit, λ k lt. was.set_so_far k (omega (arith, lt, h)))

sorted-inside : (lists : Lists) (order : List ℕ) → IsSorted lists order → (k : ℕ) → k < length order → slice_index order k < length lists
sorted-inside lists order sorted k h = (sorted.these (slice_index order k)).0 (Contains-get_or order k 0 h)

pub sorted-all : (lists : Lists) (order items : List ℕ) (n : ℕ) → IsSorted lists order → items ≡ order → length lists ≡ n → (k d : ℕ) → k < length items → slice_index_or items k d < n
sorted-all lists order items n sorted e fit k d h =
    let lt : k < length order = omega (arith, h, ap length e) in
    subst (λ z. z < n) (same-default order k 0 d lt ∙ ap (λ xs. get_or xs k d) (sym e)) (subst (λ z. slice_index order k < z) fit (sorted-inside lists order sorted k lt))

pub sorted-once : (lists : Lists) (order items : List ℕ) → IsSorted lists order → items ≡ order → IsOnce items
sorted-once lists order items sorted e = subst IsOnce (sym e) sorted.once

module _ (lists : Lists) (order items ranks : List ℕ) (n : ℕ) (sorted : IsSorted lists order) (e : items ≡ order) (fit : length lists ≡ n) (fits : length ranks ≡ n) (are-items : AreRanks items ranks) where
  are : AreRanks order ranks
  are = subst (λ xs. AreRanks xs ranks) e are-items

  record At (t : ℕ) : Type 0 where
    place : ℕ
    within : place < length order
    is : slice_index order place ≡ t
    rank : slice_index ranks t ≡ place

  at : (t : ℕ) → t < length lists → At t
  at t h =
      let (k, lt, x) = (sorted.these t).1 h in
      let y : slice_index order k ≡ t = get_or_default order k 0 t lt ∙ x in
      record { place = k; within = lt; is = y; rank = ap (slice_index ranks) (sym y) ∙ are k lt }

  pub sorted-ranked : IsRanked lists (record { order = order; ranks = ranks })
  sorted-ranked =
      record {
        fit = fits ∙ sym fit;
        placed = λ t h. let a = at t h in subst (λ k. k < length order) (sym a.rank) a.within;
        stands = λ t h. let a = at t h in ap (slice_index order) a.rank ∙ a.is;
        inside = sorted-inside lists order sorted;
        ranked = are;
        along = λ s t c. forth s t c;
      }
    where
      fed : (lists : Lists) (t s : ℕ) → Contains (feeders_of lists t) s → t < length lists
      fed [] t s c = absurd (omega (arith, c.1))
      fed (fs ∷ lists) zero s c = omega arith
      fed (fs ∷ lists) (suc t) s c = let r = fed lists t s c in omega (arith, r)

      forth : (s t : ℕ) → Contains (feeders_of lists t) s → slice_index ranks s < slice_index ranks t
      forth s t c =
          let a = at t (fed lists t s c) in
          let (k, lt, x) = sorted.after a.place s a.within (subst (λ z. Contains (feeders_of lists z) s) (sym a.is) c) in
          let less : k < a.place = omega (arith, lt, length-take-le a.place order (omega (arith, a.within))) in
          let short : k < length order = omega (arith, less, a.within) in
          let y : slice_index order k ≡ s = sym (get_or-take a.place order k 0 less) ∙ (get_or_default (take a.place order) k 0 s lt ∙ x) in
          let r : slice_index ranks s ≡ k = ap (slice_index ranks) (sym y) ∙ are k short in
          omega (arith, r, a.rank, less)

-- ---- what ranks say of ways

pub leads-up : (lists : Lists) (r : Ranks) → IsRanked lists r → {s t : ℕ} → Leads lists s t → slice_index r.ranks s < slice_index r.ranks t
leads-up lists r w (step {s = s} {t = t} c) = w.along s t c
leads-up lists r w (onward {s = s} {t = t} {u = u} c v) = let a = w.along s t c in let b = leads-up lists r w v in omega (arith, a, b)
