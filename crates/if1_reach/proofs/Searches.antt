-- What a search keeps.
use Rattle.std.proofs.Common.{◌≡◌, ℕ, zero, suc, ◌+◌, ◌<◌, ◌≤◌, Bool, true, false, List, [], ◌∷◌, ◌++◌, length, set, replicate, slice_index_or, Contains, inl, inr, arith, refl, sym, ap, subst, ◌∙◌}
use Rattle.std.specs.List.{sum_by}
use Rattle.std.proofs.lemmas.Bool.{cases_lt, cases_eq}
use Rattle.std.proofs.lemmas.List.{length-set, length_push, length-replicate, get_or-set_other, get_or_append_left, get_or_push, get_or-replicate, get_or_default}
use Rattle.std.proofs.lemmas.List.Elements.{Contains-get_or}
use Rattle.std.proofs.lemmas.List.Sums.{sum_by-set, sum_by-cons}
use Rattle.if1_order.specs.Walks.{Lists, feeders_of}
use Rattle.if1_reach.specs.declared.search.Met.{Met}
use Rattle.if1_reach.specs.declared.search.Search.{Search}
use Rattle.if1_reach.specs.Searches.{none_met, met_at, at_of, Follows, HasMet, fresh, IsSearch, Adds}

pub at-kept : (to : ℕ) (met more : List Met) (on : ℕ) → on ≤ length met → at_of to (met ++ more) on ≡ at_of to met on
at-kept to met more zero h = refl
at-kept to met more (suc k) h = ap (λ (m : Met). m.place) (get_or_append_left met more none_met k h)

pub adds-itself : (s : Search) → Adds s s
adds-itself s = record { more = omega arith; same = λ k h. refl }

pub adds-on : (a b c : Search) → Adds a b → Adds b c → Adds a c
adds-on a b c x y =
    record {
      more = omega (arith, x.more, y.more);
      same = λ k h. y.same k (omega (arith, h, x.more)) ∙ x.same k h;
    }

pub still-met : (a b : Search) → Adds a b → (place : ℕ) → HasMet a place → HasMet b place
still-met a b x place h = (h.0, omega (arith, h.1, x.more), ap (λ (m : Met). m.place) (x.same h.0 h.1) ∙ h.2)

module _ (lists : Lists) (to : ℕ) (s : Search) (w : IsSearch lists to s) (place on : ℕ) (inside : place < length lists) (f : Follows lists to s.met place on) (new : slice_index_or s.seen place false ≡ false) where
  abbrev now : Met
  now = record { place = place; on = on }

  abbrev after : Search
  after = record { met = s.met ++ now ∷ []; seen = set s.seen place true }

  grown : length after.met ≡ length s.met + 1
  grown = length_push s.met now

  old-at : (k : ℕ) → k < length s.met → met_at after.met k ≡ met_at s.met k
  old-at k h = get_or_append_left s.met (now ∷ []) none_met k h

  new-at : (k : ℕ) → length s.met ≡ k → met_at after.met k ≡ now
  new-at k e = get_or_push s.met now none_met k e

  each : (P : ℕ → Met → Type 0) → ((k : ℕ) → k < length s.met → P k (met_at s.met k)) → P (length s.met) now → (k : ℕ) → k < length after.met → P k (met_at after.met k)
  each P old is k h =
      elim (cases_lt k (length s.met)) [
        | inl lt ↦ subst (P k) (sym (old-at k lt)) (old k lt)
        | inr ge ↦ let e : length s.met ≡ k = omega (arith, grown, h, ge) in subst (P k) (sym (new-at k e)) (subst (λ j. P j now) e is)
      ]

  added : Adds s after
  added = record { more = omega (arith, grown); same = old-at }

  now-met : HasMet after place
  now-met = (length s.met, omega (arith, grown), ap (λ (m : Met). m.place) (new-at (length s.met) refl))

  pub met-more : IsSearch lists to after × Adds s after × HasMet after place
  met-more = (
    record {
      fit = length-set s.seen place true ∙ w.fit;
      inside = each (λ k m. m.place < length lists) w.inside inside;
      follows = each (λ k m. (m.on ≤ k) × Contains (feeders_of lists (at_of to after.met m.on)) m.place)
          (λ k h. let r = w.follows k h in (r.0, subst (λ at. Contains (feeders_of lists at) (met_at s.met k).place) (sym (at-kept to s.met (now ∷ []) (met_at s.met k).on (omega (arith, r.0, h)))) r.1))
          (f.0, subst (λ at. Contains (feeders_of lists at) place) (sym (at-kept to s.met (now ∷ []) on f.0)) f.1);
      known = λ p h e. elim (cases_eq p place) [
        | inl same ↦ subst (HasMet after) (sym same) now-met
        | inr ne ↦ still-met s after added p (w.known p h (sym (get_or-set_other s.seen place p true false ne) ∙ e))
      ];
      count =
          let n = sum_by-set fresh s.seen place true false (omega (arith, w.fit, inside)) in
          let one : fresh (slice_index_or s.seen place false) ≡ 1 = ap fresh new in
          omega (arith, n, one, grown, w.count);
    },
    added,
    now-met,
  )

-- ---- the start

all-fresh : (n : ℕ) → sum_by fresh (replicate n false) ≡ n
all-fresh zero = refl
all-fresh (suc n) = sum_by-cons fresh false (replicate n false) ∙ (ap (λ k. 1 + k) (all-fresh n) ∙ omega arith)

pub at-start : (lists : Lists) (to : ℕ) → IsSearch lists to (record { met = []; seen = replicate (length lists) false })
at-start lists to =
    record {
      fit = length-replicate (length lists) false;
      inside = λ k h. absurd (omega (arith, h));
      follows = λ k h. absurd (omega (arith, h));
      known = λ p h e. let never : false ≡ true = sym (get_or-replicate (length lists) p false false h) ∙ e in absurd cc;
      count = let n = all-fresh (length lists) in omega (arith, n);
    }

pub start-from : (lists : Lists) (to : ℕ) (met : List Met) (seen : List Bool) → met ≡ [] → seen ≡ replicate (length lists) false → IsSearch lists to (record { met = met; seen = seen }) × (met ≡ [])
start-from lists to met seen e f = (
  subst (λ met. IsSearch lists to (record { met = met; seen = seen })) (sym e)
      (subst (λ seen. IsSearch lists to (record { met = []; seen = seen })) (sym f) (at-start lists to)),
  e,
)

-- one more of the places that lead straight to a place
pub met-next : (s : Search) (fs : List ℕ) (n : ℕ) (old : Search) (place : ℕ) → Adds old s → ((k : ℕ) → k < n → HasMet old (slice_index_or fs k 0)) → HasMet s place → slice_index_or fs n 0 ≡ place →
    (k : ℕ) → k < n + 1 → HasMet s (slice_index_or fs k 0)
met-next s fs n old place add before now e k h =
    elim (cases_lt k n) [
      | inl lt ↦ still-met old s add (slice_index_or fs k 0) (before k lt)
      | inr ge ↦ let same : n ≡ k = omega arith in subst (λ j. HasMet s (slice_index_or fs j 0)) same (subst (HasMet s) (sym e) now)
    ]

pub all-met : (s : Search) (fs : List ℕ) → ((k : ℕ) → k < length fs → HasMet s (slice_index_or fs k 0)) → (place : ℕ) → Contains fs place → HasMet s place
all-met s fs h place c = subst (HasMet s) (get_or_default fs c.0 0 place c.1 ∙ c.2) (h c.0 c.1)

pub met-as : (lists : Lists) (to : ℕ) (s : Search) → IsSearch lists to s → (place on : ℕ) → place < length lists → Follows lists to s.met place on → slice_index_or s.seen place false ≡ false →
    (met : List Met) (seen : List Bool) → met ≡ s.met ++ record { place = place; on = on } ∷ [] → seen ≡ set s.seen place true →
    IsSearch lists to (record { met = met; seen = seen }) × Adds s (record { met = met; seen = seen }) × HasMet (record { met = met; seen = seen }) place
met-as lists to s w place on h f new met seen e d =
    subst (λ (met : List Met). IsSearch lists to (record { met = met; seen = seen }) × Adds s (record { met = met; seen = seen }) × HasMet (record { met = met; seen = seen }) place) (sym e)
    (subst (λ (seen : List Bool). let met : List Met = s.met ++ record { place = place; on = on } ∷ [] in IsSearch lists to (record { met = met; seen = seen }) × Adds s (record { met = met; seen = seen }) × HasMet (record { met = met; seen = seen }) place) (sym d)
    (met-more lists to s w place on h f new))

pub items-of : (lists : Lists) (at : ℕ) (got items : List ℕ) → at < length lists → got ≡ slice_index_or lists at got → items ≡ got → items ≡ feeders_of lists at
items-of lists at got items h e f = f ∙ (e ∙ get_or_default lists at got [] h)

pub fed-by : (fs : List ℕ) (k : ℕ) → k < length fs → Contains fs (slice_index_or fs k 0)
fed-by fs k h = Contains-get_or fs k 0 h

pub at-same : (to : ℕ) (old new : Search) (at on : ℕ) → on ≤ length old.met → at ≡ at_of to old.met on → Adds old new → at ≡ at_of to new.met on
at-same to old new at zero h e add = e
at-same to old new at (suc k) h e add = e ∙ ap (λ (m : Met). m.place) (sym (add.same k h))
