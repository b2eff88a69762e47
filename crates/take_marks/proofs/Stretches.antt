-- The stretch of ranks from the first user to the taker.
use Rattle.std.proofs.Common.{◌≡◌, ◌≢◌, ◌∙◌, ℕ, ◌+◌, ◌<◌, ◌≤◌, Bool, List, length, drop, set, slice_index, ◌⊎◌, inl, inr, arith, sym, ap, subst}
use Rattle.std.proofs.Math.Seq.{drop-length}
use Rattle.std.proofs.lemmas.Bool.{cases_eq}
use Rattle.std.proofs.lemmas.List.{length-set, get_or-set_same, get_or-set_other}
use Rattle.std.proofs.lemmas.List.Elements.{Contains-get_or}
use Rattle.if1_order.specs.Orders.{node_labels}
use Rattle.if1_order.specs.Walks.{Lists, AreInside, Leads}
use Rattle.if1_reach.proofs.Ranking.{leads-up}
use Rattle.marks_made.specs.Made.{Orders}
use Rattle.if1_reach.specs.declared.ranks.Ranks.{Ranks}
use Rattle.if1_reach.specs.Ranks.{IsRanked}
use Rattle.if1_reach.specs.Least.{IsInStretch, AreLeast}
use Rattle.take_marks.specs.Told.{told, is_light}
use Rattle.take_marks.specs.Standing.{Stands, AreWeights, AreCleared, AreWeighed, HasEntered, past, top}
use Rattle.take_marks.specs.Ordered.{AreOrdered}
use Rattle.take_marks.proofs.Wanted.{ordered-told}
use Rattle.take_marks.proofs.Weighed.{all-told, rising-sorted}

-- ---- weights

pub are-weights : (r : Ranks) (first end t : ℕ) (ls places old clear weighed new : List ℕ) (order : List ℕ) → order ≡ r.order → AreCleared order first end old clear → AreWeighed ls places clear weighed → new ≡ set weighed t 0 → t < length old →
    ((k : ℕ) → k < length ls → slice_index places k ≢ t) → (lists : Lists) → IsRanked lists r → length old ≡ length lists → AreWeights lists r.ranks first end t ls places new
are-weights r first end t ls places old clear weighed new order is-order c w e inside other lists ranked fit =
    let long : length weighed ≡ length old = w.fit ∙ c.fit in
    subst (AreWeights lists r.ranks first end t ls places) (sym e)
    (record {
      fit = length-set weighed t 0 ∙ (long ∙ fit);
      taker = get_or-set_same weighed t 0 0 (omega (arith, inside, long));
      users = λ k h. get_or-set_other weighed t (slice_index places k) 0 0 (other k h) ∙ w.users_are k h;
      others = λ x i. by x i (cases_eq x t) (w.others_are x);
    })
  where
    by : (x : ℕ) → IsInStretch lists r.ranks first end x → (x ≡ t) ⊎ (x ≢ t) → (slice_index weighed x ≡ slice_index clear x) ⊎ ((k : ℕ) × (k < length ls) × (x ≡ slice_index places k)) →
        (x ≡ t) ⊎ (((k : ℕ) × (k < length ls) × (x ≡ slice_index places k)) ⊎ (slice_index (set weighed t 0) x ≡ top))
    by x i (inl same) o = inl same
    by x i (inr ne) (inr k) = inr (inl k)
    by x i (inr ne) (inl same) =
        let stands : slice_index order (slice_index r.ranks x) ≡ x = ap (λ xs. slice_index xs (slice_index r.ranks x)) is-order ∙ ranked.stands x i.there in
        inr (inr (get_or-set_other weighed t x 0 0 ne ∙ (same ∙ (ap (slice_index clear) (sym stands) ∙ c.clear (slice_index r.ranks x) i.from i.to))))

-- ---- the ordering edges

module _ (ls places : List ℕ) (t : ℕ) (r : Ranks) (first end : ℕ) (weights least : List ℕ) (old new : Lists) (oldest newest : List (List ℕ)) (ranked : IsRanked old r) (is-end : end ≡ slice_index r.ranks t + 1) (inside : t < length old)
    (own : first ≤ slice_index r.ranks t) (low : (k : ℕ) → k < length ls → first ≤ slice_index r.ranks (slice_index places k)) (before : (k : ℕ) → k < length ls → slice_index r.ranks (slice_index places k) < slice_index r.ranks t)
    (there : (k : ℕ) → k < length ls → slice_index places k < length old)
    (weighed : AreWeights old r.ranks first end t ls places weights) (right : AreLeast old r.ranks first end weights least) (entered : HasEntered ls places t least (length ls) old oldest new newest) where
  pub are-ordered : AreOrdered ls places t old oldest new newest
  are-ordered g may os taker ok users stands =
      let x = entered.told_so g os taker users.rising users.are users.at users.up stands in
      let exact = all-told g os old r.ranks users.rising stands.net users.linked t taker users.at ls places users.are users.up users.few
      (λ k h. (users.ready.free (slice_index ls k) (Contains-get_or ls k 0 h)).1) first end weights least weighed right
      (record { there = inside; from = own; to = omega (arith, is-end) })
      (λ k h. record { there = there k h; from = low k h; to = let b = before k h in omega (arith, is-end, b) }) in
      subst (λ z. Stands g z new newest)
      (none (is_light (node_labels g) least) taker ls x.0 ∙ (x.2 ∙ sym (ordered-told g may ok os taker ls users.ready (is_light (node_labels g) least) exact (rising-sorted ls users.up)))) x.1
    where
      none : (skips : ℕ → Bool) (taker : ℕ) (ls : List ℕ) (now : Orders) → now ≡ told skips taker (past ls (length ls)) (drop (length ls) ls) now
      none skips taker ls now = ap (λ xs. told skips taker (past ls (length ls)) xs now) (sym (drop-length ls))

  -- links lead to higher ranks still
  pub still-ranked : IsRanked new r
  still-ranked =
      record {
        fit = ranked.fit ∙ sym entered.fit;
        placed = λ u h. ranked.placed u (omega (arith, h, entered.fit));
        stands = λ u h. ranked.stands u (omega (arith, h, entered.fit));
        inside = λ k h. let a = ranked.inside k h in omega (arith, a, entered.fit);
        ranked = ranked.ranked;
        along = λ s u c. elim (entered.fed s u c) [
          | inl i ↦ ranked.along s u i
          | inr i ↦ let b = before i.1.0 i.1.1 in
              subst (λ z. slice_index r.ranks s < slice_index r.ranks z) (sym i.0) (subst (λ z. slice_index r.ranks z < slice_index r.ranks t) (sym i.1.2) b)
        ];
      }

pub still-inside : (ls places : List ℕ) (t : ℕ) (weights : List ℕ) (old new : Lists) (oldest newest : List (List ℕ)) → HasEntered ls places t weights (length ls) old oldest new newest → ((k : ℕ) → k < length ls → slice_index places k < length old) →
    AreInside old → AreInside new
still-inside ls places t weights old new oldest newest entered there inside s u c =
    subst (λ n. s < n) (sym entered.fit)
    (elim (entered.fed s u c) [
      | inl i ↦ inside s u i
      | inr i ↦ subst (λ z. z < length old) (sym i.1.2) (there i.1.0 i.1.1)
    ])

pub ranked-acyclic : (lists : Lists) (r : Ranks) → IsRanked lists r → (s : ℕ) → ¬ Leads lists s s
ranked-acyclic lists r w s l = let a = leads-up lists r w l in omega (arith, a)
