-- What a search finds.
use Rattle.std.proofs.Common.{◌≡◌, ◌≢◌, ℕ, suc, ◌+◌, ◌-◌, ◌<◌, ◌≤◌, List, [], ◌∷◌, ◌++◌, length, slice_index_or, Contains, inl, inr, arith, refl, sym, ap, subst, ◌∙◌}
use Rattle.std.proofs.lemmas.Bool.{cases_lt}
use Rattle.std.proofs.lemmas.List.{length_push, get_or_append_left, get_or_push}
use Rattle.if1_order.specs.Walks.{Lists, feeders_of, Leads, step, onward}
use Rattle.if1_reach.specs.declared.search.Met.{Met}
use Rattle.if1_reach.specs.declared.search.Search.{Search}
use Rattle.if1_reach.specs.Searches.{IsWay, met_at, at_of, Follows, HasMet, IsSearch, Adds, HaveMet, IsWayOn, AreDone}
use Rattle.if1_reach.proofs.Searches.{still-met}

pub way-begun : (lists : Lists) (from : ℕ) → IsWayOn lists from from (from ∷ [])
way-begun lists from = record { some = omega arith; first = refl; last = refl; linked = λ k h. absurd (omega (arith, h)) }

module _ (lists : Lists) (from at next : ℕ) (ls : List ℕ) (w : IsWayOn lists from at ls) (c : Contains (feeders_of lists next) at) where
  long : length (ls ++ next ∷ []) ≡ length ls + 1
  long = length_push ls next

  old : (k : ℕ) → k < length ls → slice_index_or (ls ++ next ∷ []) k 0 ≡ slice_index_or ls k 0
  old k h = get_or_append_left ls (next ∷ []) 0 k h

  new : (k : ℕ) → length ls ≡ k → slice_index_or (ls ++ next ∷ []) k 0 ≡ next
  new k e = get_or_push ls next 0 k e

  linked-on : (k : ℕ) → k + 1 < length (ls ++ next ∷ []) → Contains (feeders_of lists (slice_index_or (ls ++ next ∷ []) (k + 1) 0)) (slice_index_or (ls ++ next ∷ []) k 0)
  linked-on k h =
      elim (cases_lt (k + 1) (length ls)) [
        | inl lt ↦
            subst (λ x. Contains (feeders_of lists (slice_index_or (ls ++ next ∷ []) (k + 1) 0)) x) (sym (old k (omega (arith, lt))))
            (subst (λ x. Contains (feeders_of lists x) (slice_index_or ls k 0)) (sym (old (k + 1) lt)) (w.linked k lt))
        | inr ge ↦
            let e : length ls ≡ k + 1 = omega (arith, long, h, ge) in
            let f : length ls - 1 ≡ k = omega (arith, e) in
            subst (λ x. Contains (feeders_of lists (slice_index_or (ls ++ next ∷ []) (k + 1) 0)) x) (sym (old k (omega (arith, e)) ∙ (ap (λ j. slice_index_or ls j 0) (sym f) ∙ w.last)))
            (subst (λ x. Contains (feeders_of lists x) at) (sym (new (k + 1) e)) c)
      ]

  pub way-pushed : IsWayOn lists from next (ls ++ next ∷ [])
  way-pushed =
      record {
        some = omega (arith, long);
        first = old 0 w.some ∙ w.first;
        last = new (length (ls ++ next ∷ []) - 1) (omega (arith, long));
        linked = linked-on;
      }

  pub way-ended : IsWay lists from next (ls ++ next ∷ [])
  way-ended =
      record {
        long = omega (arith, long, w.some);
        first = way-pushed.first;
        last = way-pushed.last;
        linked = linked-on;
      }

-- one more of the places that were met
pub more-done : (lists : Lists) (to from : ℕ) (old new : Search) (at : ℕ) → AreDone lists to from old at → at < length old.met → Adds old new → (met_at old.met at).place ≢ from → HaveMet lists new (met_at old.met at).place → AreDone lists to from new (at + 1)
more-done lists to from old new at d lt add ne have =
    record {
      within = omega (arith, lt, add.more);
      end = λ p c. still-met old new add p (d.end p c);
      each = λ k h. elim (cases_lt k at) [
        | inl before ↦
            let same : met_at new.met k ≡ met_at old.met k = add.same k (omega (arith, before, lt)) in
            let r = d.each k before in
            subst (λ (m : Met). HaveMet lists new m.place × (m.place ≢ from)) (sym same) ((λ p c. still-met old new add p (r.0 p c)), r.1)
        | inr ge ↦
            let e : at ≡ k = omega (arith, h, ge) in
            let same : met_at new.met k ≡ met_at old.met at = add.same k (omega (arith, e, lt)) ∙ ap (met_at old.met) (sym e) in
            subst (λ (m : Met). HaveMet lists new m.place × (m.place ≢ from)) (sym same) (have, ne)
      ];
    }

-- whatever leads to the end was met
all-lead : (lists : Lists) (to from : ℕ) (s : Search) → AreDone lists to from s (length s.met) → (l m : ℕ) → Leads lists l m → m ≡ to → HasMet s l
all-lead lists to from s d l m (step {s = a} {t = b} c) e = d.end a (subst (λ t. Contains (feeders_of lists t) a) e c)
all-lead lists to from s d l m (onward {s = a} {t = b} {u = z} c w) e =
    let r = all-lead lists to from s d b z w e in
    (d.each r.0 r.1).0 a (subst (λ t. Contains (feeders_of lists t) a) (sym r.2) c)

pub none-leads : (lists : Lists) (to from : ℕ) (s : Search) (at : ℕ) → AreDone lists to from s at → length s.met ≤ at → ¬ Leads lists from to
none-leads lists to from s at d h w =
    let e : at ≡ length s.met = omega (arith, h, d.within) in
    let all = subst (AreDone lists to from s) e d in
    let r = all-lead lists to from s all from to w refl in
    (all.each r.0 r.1).1 r.2

-- ---- the way on

abbrev pub last_of : List ℕ → ℕ
last_of ls = slice_index_or ls (length ls - 1) 0

step-by : (lists : Lists) (from to : ℕ) (s : Search) → IsSearch lists to s → (ls : List ℕ) (k : ℕ) → IsWayOn lists from (last_of ls) ls → Follows lists to s.met (last_of ls) (suc k) →
    IsWayOn lists from (met_at s.met k).place (ls ++ (met_at s.met k).place ∷ []) × Follows lists to s.met (met_at s.met k).place (met_at s.met k).on
step-by lists from to s w ls k way f =
    let r = w.follows k f.0 in
    (way-pushed lists from (last_of ls) (met_at s.met k).place ls way f.1, (omega (arith, r.0, f.0), r.1))

pub step-on : (lists : Lists) (from to : ℕ) (s : Search) → IsSearch lists to s → (ls : List ℕ) (on : ℕ) → 0 < on → IsWayOn lists from (last_of ls) ls → Follows lists to s.met (last_of ls) on →
    (items : List Met) → items ≡ s.met → (more : List ℕ) → more ≡ ls ++ (met_at items (on - 1)).place ∷ [] →
    IsWayOn lists from (last_of more) more × Follows lists to s.met (last_of more) (met_at items (on - 1)).on
step-on lists from to s w ls on pos way f items e more d =
    let k = on - 1 in
    let r = step-by lists from to s w ls (on - 1) way (subst (Follows lists to s.met (last_of ls)) (omega (arith, pos)) f) in
    let same : (met_at s.met (on - 1)).place ≡ last_of more = sym (r.0).last ∙ ap last_of (ap (λ (x : List Met). ls ++ (met_at x (on - 1)).place ∷ []) (sym e) ∙ sym d) in (
      subst (λ at. IsWayOn lists from at more) same (subst (IsWayOn lists from (met_at s.met (on - 1)).place) (ap (λ (x : List Met). ls ++ (met_at x (on - 1)).place ∷ []) (sym e) ∙ sym d) r.0),
      subst (λ (x : List Met). Follows lists to s.met (last_of more) (met_at x (on - 1)).on) (sym e) (subst (λ p. Follows lists to s.met p (met_at s.met (on - 1)).on) same r.1),
    )

pub ends-on : (lists : Lists) (from to : ℕ) (met : List Met) (ls : List ℕ) (on : ℕ) → on ≡ 0 → IsWayOn lists from (last_of ls) ls → Follows lists to met (last_of ls) on → (more : List ℕ) → more ≡ ls ++ to ∷ [] → IsWay lists from to more
ends-on lists from to met ls on z way f more d =
    subst (IsWay lists from to) (sym d) (way-ended lists from (last_of ls) to ls way (subst (λ on. Contains (feeders_of lists (at_of to met on)) (last_of ls)) z f.1))
