-- A color spreads.
use Rattle.std.proofs.Common.{◌≡◌, ◌≢◌, ◌∙◌, ℕ, ◌+◌, ◌<◌, ◌≤◌, Bool, true, false, ◌==◌, cond, List, [], ◌∷◌, ◌++◌, length, take, set, slice_index, Contains, inl, inr, arith, refl, sym, ap, subst}
use Rattle.std.proofs.lemmas.Bool.{cases_lt, cases_eq, eq-eqb, eqb-true}
use Rattle.std.proofs.lemmas.List.{length-set, length_push, take_more, take_all, get_or_default, get_or-set_same, get_or-set_other, get_or_append_left, get_or_push}
use Rattle.std.proofs.lemmas.List.Elements.{Contains-push, Contains-push_cases, Contains-append_left, Contains-append_right, Contains-append_cases}
use Rattle.std.proofs.lemmas.List.Sums.{sum_by-set}
use Rattle.if1_order.specs.Walks.{Lists, feeders_of, step, onward}
use Rattle.if1_components.specs.Components.{IsOrLeads}
use Rattle.if1_components.specs.Colors.{one_at, count_of, IsSpreading, Grows, Paints, AreDone, IsSpread, IsCleared}

pub empty : (xs : List ℕ) (x : ℕ) → ¬ Contains (take 0 xs) x
empty [] x c = omega (arith, c.1)
empty (y ∷ ys) x c = omega (arith, c.1)

-- ---- one place

set-at : (colors : List ℕ) (place to x : ℕ) → place < length colors → x ≡ place → slice_index (set colors place to) x ≡ to
set-at colors place to x h e = ap (slice_index (set colors place to)) e ∙ get_or-set_same colors place to 0 h

pub painted-one : (lists : Lists) (root from to total : ℕ) (old colors met : List ℕ) (place : ℕ) → place < length colors → from ≢ to → slice_index colors place ≡ from → IsOrLeads lists place root →
    IsSpreading lists root from to total old colors met → IsSpreading lists root from to total old (set colors place to) (met ++ place ∷ [])
painted-one lists root from to total old colors met place h apart is leads s =
    record {
      fit = length-set colors place to ∙ s.fit;
      painted = λ x. elim (cases_eq x place) [
        | inl e ↦ inr (ap (slice_index old) e ∙ was, set-at colors place to x h e, subst (λ z. IsOrLeads lists z root) (sym e) leads)
        | inr ne ↦ let same : slice_index (set colors place to) x ≡ slice_index colors x = get_or-set_other colors place x to 0 ne in elim (s.painted x) [ inl k ↦ inl (same ∙ k) | inr p ↦ inr (p.0, same ∙ p.1, p.2) ]
      ];
      all = λ x e k. elim (cases_eq x place) [
        | inl q ↦ subst (Contains (met ++ place ∷ [])) (sym q) (Contains-push met place)
        | inr ne ↦ Contains-append_left met (place ∷ []) x (s.all x e (sym (get_or-set_other colors place x to 0 ne) ∙ k))
      ];
      inside = λ k lt. each (λ z. z < length old) s.inside (subst (λ n. place < n) s.fit h) k lt;
      turned = λ k lt. each (λ z. IsOrLeads lists z root) s.turned leads k lt;
      count =
          let n = sum_by-set (one_at from) colors place to 0 h in
          let one : one_at from (slice_index colors place) ≡ 1 = ap (λ (b : Bool). cond b 1 0) (eq-eqb (slice_index colors place) from is) in
          let no : one_at from to ≡ 0 = none-at in
          omega (arith, n, one, no, grown, s.count);
    }
  where
    grown : length (met ++ place ∷ []) ≡ length met + 1
    grown = length_push met place

    was : slice_index old place ≡ from
    was = elim (s.painted place) [ inl k ↦ sym k ∙ is | inr p ↦ p.0 ]

    each : (P : ℕ → Type 0) → ((k : ℕ) → k < length met → P (slice_index met k)) → P place → (k : ℕ) → k < length (met ++ place ∷ []) → P (slice_index (met ++ place ∷ []) k)
    each P before now k lt =
        elim (cases_lt k (length met)) [
          | inl less ↦ subst P (sym (get_or_append_left met (place ∷ []) 0 k less)) (before k less)
          | inr ge ↦ subst P (sym (get_or_push met place 0 k (omega (arith, grown, lt, ge)))) now
        ]

    none-at : one_at from to ≡ 0
    none-at = go (to == from) refl
      where
        go : (b : Bool) → (to == from) ≡ b → ◌≡◌ {A = ℕ} (cond b 1 0) 0
        go true e = absurd (apart (sym (eqb-true to from e)))
        go false e = refl

pub grows-one : (from to : ℕ) (colors met : List ℕ) (place : ℕ) → place < length colors → from ≢ to → Grows from colors met (set colors place to) (met ++ place ∷ [])
grows-one from to colors met place h apart =
    record {
      fit = length-set colors place to;
      longer = let n = length_push met place in omega (arith, n);
      same = λ k lt. get_or_append_left met (place ∷ []) 0 k lt;
      never = λ x ne e. elim (cases_eq x place) [
        | inl q ↦ apart (sym e ∙ set-at colors place to x h q)
        | inr other ↦ ne (sym (get_or-set_other colors place x to 0 other) ∙ e)
      ];
    }

pub grows-none : (from : ℕ) (colors met : List ℕ) → Grows from colors met colors met
grows-none from colors met = record { fit = refl; longer = omega arith; same = λ k h. refl; never = λ x ne. ne }

pub grows-on : (from : ℕ) (a ma b mb c mc : List ℕ) → Grows from a ma b mb → Grows from b mb c mc → Grows from a ma c mc
grows-on from a ma b mb c mc x y =
    record {
      fit = y.fit ∙ x.fit;
      longer = omega (arith, x.longer, y.longer);
      same = λ k h. y.same k (omega (arith, h, x.longer)) ∙ x.same k h;
      never = λ z ne. y.never z (x.never z ne);
    }

only-one : (place x : ℕ) → Contains (place ∷ []) x → x ≡ place
only-one place x c = elim (Contains-push_cases [] place x c) [ inl none ↦ absurd (omega (arith, none.1)) | inr e ↦ sym e ]

pub paints-one : (from to : ℕ) (colors met new more : List ℕ) (place : ℕ) → place < length colors → from ≢ to → slice_index colors place ≡ from → new ≡ set colors place to → more ≡ met ++ place ∷ [] → Paints (place ∷ []) from to colors met new more
paints-one from to colors met new more place h apart is e f =
    subst (λ new. Paints (place ∷ []) from to colors met new more) (sym e)
    (subst (λ more. Paints (place ∷ []) from to colors met (set colors place to) more) (sym f)
    (record {
      spreads = λ lists root total old leads s. painted-one lists root from to total old colors met place h apart is (leads place (0, omega arith, refl)) s;
      grows = grows-one from to colors met place h apart;
      painted = λ x c k. apart (sym k ∙ set-at colors place to x h (only-one place x c));
    }))

pub paints-same : (from to : ℕ) (colors met : List ℕ) (place : ℕ) → slice_index colors place ≢ from → Paints (place ∷ []) from to colors met colors met
paints-same from to colors met place ne =
    record {
      spreads = λ lists root total old leads s. s;
      grows = grows-none from colors met;
      painted = λ x c k. ne (sym (ap (slice_index colors) (only-one place x c)) ∙ k);
    }

pub paints-none : (places : List ℕ) (from to : ℕ) (colors met : List ℕ) → Paints (take 0 places) from to colors met colors met
paints-none places from to colors met = record { spreads = λ lists root total old leads s. s; grows = grows-none from colors met; painted = λ x c. absurd (empty places x c) }

pub paints-on : (places : List ℕ) (n from to : ℕ) (a ma b mb c mc : List ℕ) → n < length places → Paints (take n places) from to a ma b mb → Paints (slice_index places n ∷ []) from to b mb c mc → Paints (take (n + 1) places) from to a ma c mc
paints-on places n from to a ma b mb c mc lt p q =
    record {
      spreads = λ lists root total old leads s.
          q.spreads lists root total old (λ x k. leads x (more x (Contains-append_right (take n places) (slice_index places n ∷ []) x k)))
          (p.spreads lists root total old (λ x k. leads x (more x (Contains-append_left (take n places) (slice_index places n ∷ []) x k))) s);
      grows = grows-on from a ma b mb c mc p.grows q.grows;
      painted = λ x k. elim (Contains-append_cases (take n places) (slice_index places n ∷ []) x (subst (λ xs. Contains xs x) (take_more places n 0 lt) k)) [
        | inl before ↦ q.grows.never x (p.painted x before)
        | inr now ↦ q.painted x now
      ];
    }
  where
    more : (x : ℕ) → Contains (take n places ++ slice_index places n ∷ []) x → Contains (take (n + 1) places) x
    more x k = subst (λ xs. Contains xs x) (sym (take_more places n 0 lt)) k

pub paints-all : (places : List ℕ) (n from to : ℕ) (a ma b mb : List ℕ) → length places ≤ n → Paints (take n places) from to a ma b mb → Paints places from to a ma b mb
paints-all places n from to a ma b mb h p = subst (λ xs. Paints xs from to a ma b mb) (take_all n places h) p

-- ---- from the root

pub begun : (lists : Lists) (root from to : ℕ) (old : List ℕ) → from ≢ to → IsSpreading lists root from to (count_of from old) old old []
begun lists root from to old apart =
    record {
      fit = refl;
      painted = λ x. inl refl;
      all = λ x e k. absurd (apart (sym e ∙ k));
      inside = λ k h. absurd (omega (arith, h));
      turned = λ k h. absurd (omega (arith, h));
      count = omega arith;
    }

pub done-more : (lists : Lists) (from : ℕ) (colors met new more : List ℕ) (at : ℕ) → Grows from colors met new more → at < length met → AreDone lists from colors met at →
    ((y : ℕ) → Contains (feeders_of lists (slice_index met at)) y → slice_index new y ≢ from) → AreDone lists from new more (at + 1)
done-more lists from colors met new more at g lt done now k y h c =
    elim (cases_lt k at) [
      | inl before ↦ g.never y (done k y before (subst (λ z. Contains (feeders_of lists z) y) (g.same k (omega (arith, before, lt))) c))
      | inr ge ↦
          let e : k ≡ at = omega (arith, h, ge) in
          now y (subst (λ z. Contains (feeders_of lists z) y) (ap (slice_index more) e ∙ g.same at lt) c)
    ]

pub all-done : (lists : Lists) (root from to total : ℕ) (old colors met : List ℕ) (at : ℕ) → from ≢ to → slice_index old root ≡ from → slice_index colors root ≢ from → IsSpreading lists root from to total old colors met → AreDone lists from colors met at → length met ≤ at →
    IsSpread lists root from to old colors met
all-done lists root from to total old colors met at apart was now s done end =
    record {
      fit = s.fit;
      painted = s.painted;
      rooted = elim (s.painted root) [ inl same ↦ absurd (now (same ∙ was)) | inr p ↦ p.1 ];
      closed = λ x y e k c. let (n, lt, is) = s.all x e k in
          done n y (omega (arith, lt, end)) (subst (λ z. Contains (feeders_of lists z) y) (sym is ∙ get_or_default met n x 0 lt) c);
      all = s.all;
      inside = λ k d h. subst (λ z. z < length old) (get_or_default met k 0 d h) (s.inside k h);
    }

pub feeds-root : (lists : Lists) (root place x : ℕ) → IsOrLeads lists place root → Contains (feeders_of lists place) x → IsOrLeads lists x root
feeds-root lists root place x (inl e) c = inr (step (subst (λ z. Contains (feeders_of lists z) x) e c))
feeds-root lists root place x (inr v) c = inr (onward c v)

pub root-painted : (lists : Lists) (root from to : ℕ) (old met new more : List ℕ) → met ≡ [] → from ≢ to → Paints (root ∷ []) from to old met new more →
    IsSpreading lists root from to (count_of from old) old new more × AreDone lists from new more 0 × (slice_index new root ≢ from)
root-painted lists root from to old met new more e apart p = (
  p.spreads lists root (count_of from old) old (λ x c. inl (only-one root x c)) (subst (IsSpreading lists root from to (count_of from old) old old) (sym e) (begun lists root from to old apart)),
  (λ k y h c. absurd (omega (arith, h))),
  p.painted root (0, omega arith, refl),
)

pub turn-painted : (lists : Lists) (root from to total : ℕ) (old colors met new more : List ℕ) (at place : ℕ) (items : List ℕ) → at < length met → place ≡ slice_index met at → items ≡ feeders_of lists place → IsSpreading lists root from to total old colors met → AreDone lists from colors met at → slice_index colors root ≢ from → Paints items from to colors met new more →
    IsSpreading lists root from to total old new more × AreDone lists from new more (at + 1) × (slice_index new root ≢ from)
turn-painted lists root from to total old colors met new more at place items lt is are s done ne p = (
  p.spreads lists root total old
      (λ x c. feeds-root lists root place x (subst (λ z. IsOrLeads lists z root) (sym is) (s.turned at lt)) (subst (λ xs. Contains xs x) are c)) s,
  done-more lists from colors met new more at p.grows lt done (λ y c. p.painted y (subst (λ xs. Contains xs y) (sym (are ∙ ap (feeders_of lists) is)) c)),
  p.grows.never root ne,
)

-- ---- a color goes

pub cleared-start : (places : List ℕ) (from to : ℕ) (colors : List ℕ) → IsCleared (take 0 places) from to colors colors
cleared-start places from to colors = record { fit = refl; kept = λ x. inl refl; gone = λ x c. absurd (empty places x c) }

pub cleared-all : (places : List ℕ) (n from to : ℕ) (old new : List ℕ) → length places ≤ n → IsCleared (take n places) from to old new → IsCleared places from to old new
cleared-all places n from to old new h w = subst (λ xs. IsCleared xs from to old new) (take_all n places h) w

pub cleared-one : (places : List ℕ) (n from to place : ℕ) (old colors : List ℕ) → n < length places → slice_index places n ≡ place → place < length colors → from ≢ to → IsCleared (take n places) from to old colors → slice_index colors place ≡ from → IsCleared (take (n + 1) places) from to old (set colors place to)
cleared-one places n from to place old colors lt at h apart s is =
    record {
      fit = length-set colors place to ∙ s.fit;
      kept = λ x. elim (cases_eq x place) [
        | inl e ↦ inr (elim (s.kept x) [ inl same ↦ sym same ∙ (ap (slice_index colors) e ∙ is) | inr p ↦ p.0 ], set-at colors place to x h e)
        | inr ne ↦ let same : slice_index (set colors place to) x ≡ slice_index colors x = get_or-set_other colors place x to 0 ne in elim (s.kept x) [ inl k ↦ inl (same ∙ k) | inr p ↦ inr (p.0, same ∙ p.1) ]
      ];
      gone = λ x c e. elim (cases_eq x place) [
        | inl q ↦ apart (sym e ∙ set-at colors place to x h q)
        | inr ne ↦ elim (Contains-push_cases (take n places) place x (subst (λ xs. Contains xs x) (take_more places n 0 lt ∙ ap (λ z. take n places ++ z ∷ []) at) c)) [
          | inl before ↦ s.gone x before (sym (get_or-set_other colors place x to 0 ne) ∙ e)
          | inr now ↦ ne (sym now)
        ]
      ];
    }

pub cleared-none : (places : List ℕ) (n from to place : ℕ) (old colors : List ℕ) → n < length places → slice_index places n ≡ place → IsCleared (take n places) from to old colors → slice_index colors place ≢ from → IsCleared (take (n + 1) places) from to old colors
cleared-none places n from to place old colors lt at s ne =
    record {
      fit = s.fit;
      kept = s.kept;
      gone = λ x c e. elim (Contains-push_cases (take n places) place x (subst (λ xs. Contains xs x) (take_more places n 0 lt ∙ ap (λ z. take n places ++ z ∷ []) at) c)) [
        | inl before ↦ s.gone x before e
        | inr now ↦ ne (ap (slice_index colors) now ∙ e)
      ];
    }
