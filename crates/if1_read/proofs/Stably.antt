-- Labels that stand a second time are the same in the order of the lines and in a stably sorted list.
use Rattle.std.proofs.Common.{◌≡◌, ℕ, zero, suc, ◌+◌, ◌<◌, ◌≤◌, Bool, true, false, cond, List, [], ◌∷◌, ◌++◌, map, length, get_or, Option, Some, None, ◌⊎◌, inl, inr, if◌then◌else◌, refl, sym, ap, subst, ◌∙◌, arith, true≢false}
use Rattle.std.specs.Prelude.{◌==◌, All, Contains, filter, find}
use Rattle.std.specs.List.Sorted.{IsNonDecreasingBy}
use Rattle.std.proofs.lemmas.Bool.{eqb-true, eq-eqb}
use Rattle.std.proofs.lemmas.Bool.Decides.{eqb_tells}
use Rattle.if1_graph.specs.declared.graph.TypeEntry.{TypeEntry}
use Rattle.if1_read.specs.declared.fault.Fault.{Fault}
use Rattle.if1_read.specs.Least.{least}
use Rattle.if1_read.specs.Pages.{is_among, again}
use Rattle.if1_read.specs.Rows.{wrong_entry, wrong_entries, once, over, kept}
use Rattle.if1_read.proofs.Same.{contains_here, contains_later, contains_cases, contains_none, same_find}
use Rattle.if1_read.proofs.Repeats.{bad_at, labels, among_has, among_contains, repeats, repeated}
use Rattle.if1_read.proofs.Firsts.{AreIn, same_least}
use Rattle.if1_read.proofs.Tablewise.{wrong_entry_is, wrong_entry_has}
use Rattle.if1_read.proofs.Lining.{contains_parts}
use Rattle.if1_read.proofs.Sortedly.{key, Rises, sorted_over, sorted_kept, OfLabel, cut, some_of, none_of, among_or_not, of_middle}

module _ {A : Type 0} (f : A → ℕ) where
  -- ---- the first of each label

  record IsFirst (seen : List ℕ) (xs : List (ℕ × A)) (z : ℕ × A) : Type 0 where
    front : List (ℕ × A)
    back : List (ℕ × A)
    is : xs ≡ front ++ z ∷ back
    fresh : Contains seen (key f z) → ⊥
    first : Contains (labels f front) (key f z) → ⊥

  later_first : (seen more : List ℕ) (x : ℕ × A) (xs : List (ℕ × A)) (z : ℕ × A) → ((l : ℕ) → Contains seen l → Contains more l) → Contains more (key f x) →
      IsFirst more xs z → IsFirst seen (x ∷ xs) z
  later_first seen more x xs z sub here r = record {
    front = x ∷ r.front;
    back = r.back;
    is = ap (λ zs. x ∷ zs) r.is;
    fresh = λ c. r.fresh (sub (key f z) c);
    first = λ c. elim (contains_cases (key f x) (labels f r.front) (key f z) c) [
      | inl e ↦ r.fresh (subst (λ (l : ℕ). Contains more l) e here)
      | inr d ↦ r.first d
    ];
  }

  first_if : (b : Bool) (seen : List ℕ) (x : ℕ × A) (xs : List (ℕ × A)) (z : ℕ × A) → is_among (key f x) seen ≡ b → ((ls : List ℕ) → Contains (once f ls xs) z → IsFirst ls xs z) →
      Contains (if b then once f seen xs else x ∷ once f (key f x ∷ seen) xs) z → IsFirst seen (x ∷ xs) z
  first_if true seen x xs z e ih c = later_first seen seen x xs z (λ l d. d) (among_contains (key f x) seen e) (ih seen c)
  first_if false seen x xs z e ih c = elim (contains_cases x (once f (key f x ∷ seen) xs) z c) [
    | inl s ↦ record {
      front = [];
      back = xs;
      is = ap (λ y. y ∷ xs) s;
      fresh = λ d. true≢false (sym (among_has (key f x) seen (subst (λ (y : ℕ × A). Contains seen (key f y)) (sym s) d)) ∙ e);
      first = λ d. contains_none (key f z) d;
    }
    | inr d ↦ later_first seen (key f x ∷ seen) x xs z (λ l k. contains_later (key f x) seen l k) (contains_here (key f x) seen) (ih (key f x ∷ seen) d)
  ]

  firsts : (seen : List ℕ) (xs : List (ℕ × A)) (z : ℕ × A) → Contains (once f seen xs) z → IsFirst seen xs z
  firsts seen [] z c = absurd (contains_none z c)
  firsts seen (x ∷ xs) z c = first_if (is_among (key f x) seen) seen x xs z refl (λ ls d. firsts ls xs z d) c

  not_among : (l : ℕ) (ls : List ℕ) → (Contains ls l → ⊥) → is_among l ls ≡ false
  not_among l ls h = by (is_among l ls) refl
    where
      by : (b : Bool) → is_among l ls ≡ b → b ≡ false
      by true e = absurd (h (among_contains l ls e))
      by false e = refl

  has_if : (b : Bool) (seen : List ℕ) (x : ℕ × A) (xs : List (ℕ × A)) (z : ℕ × A) → Contains (once f seen xs) z → Contains (once f (key f x ∷ seen) xs) z →
      Contains (if b then once f seen xs else x ∷ once f (key f x ∷ seen) xs) z
  has_if true seen x xs z c d = c
  has_if false seen x xs z c d = contains_later x (once f (key f x ∷ seen) xs) z d

  first_has : (front : List (ℕ × A)) (z : ℕ × A) (back : List (ℕ × A)) (seen : List ℕ) → (Contains seen (key f z) → ⊥) → (Contains (labels f front) (key f z) → ⊥) →
      Contains (once f seen (front ++ z ∷ back)) z
  first_has [] z back seen fresh first =
      subst (λ (b : Bool). Contains (if b then once f seen back else z ∷ once f (key f z ∷ seen) back) z) (sym (not_among (key f z) seen fresh))
      (contains_here z (once f (key f z ∷ seen) back))
  first_has (x ∷ front) z back seen fresh first =
      let other : Contains (key f x ∷ seen) (key f z) → ⊥ = λ c. elim (contains_cases (key f x) seen (key f z) c) [
        | inl e ↦ first (subst (λ (l : ℕ). Contains (labels f (x ∷ front)) l) e (contains_here (key f x) (labels f front)))
        | inr d ↦ fresh d
      ] in
      let rest = λ (c : Contains (labels f front) (key f z)). first (contains_later (key f x) (labels f front) (key f z) c) in
      has_if (is_among (key f x) seen) seen x (front ++ z ∷ back) z (first_has front z back seen fresh rest) (first_has front z back (key f x ∷ seen) other rest)

  -- ---- the same of each label

  module _ (xs ys : List (ℕ × A)) (same : (l : ℕ) → OfLabel f l xs ≡ OfLabel f l ys) where
    again_in : AreIn (again f [] xs) (again f [] ys)
    again_in e c =
        let r = repeats f [] xs e c in
        let z = r.item in
        let k = cut f (λ x. key f x == key f z) ys (OfLabel f (key f z) r.front) z (OfLabel f (key f z) r.back)
        (sym (same (key f z)) ∙ (ap (OfLabel f (key f z)) r.is ∙ of_middle f r.front z r.back)) in
        let label : Contains (labels f r.front) (key f z) = elim r.label [ inl d ↦ absurd (contains_none (key f z) d) | inr d ↦ d ] in
        let there : Contains (labels f k.front) (key f z) = elim (among_or_not f (key f z) (labels f k.front)) [
          | inl d ↦ d
          | inr none ↦ absurd (some_of f (key f z) r.front label (sym k.kept_front ∙ none_of f (key f z) k.front none))
        ] in
        subst (Contains (again f [] ys)) (sym r.fault) (subst (λ (zs : List (ℕ × A)). Contains (again f [] zs) (bad_at z.0)) (sym k.is) (repeated f k.front z k.back [] (inr there)))

    once_in : (z : ℕ × A) → Contains (once f [] xs) z → Contains (once f [] ys) z
    once_in z c =
        let r = firsts [] xs z c in
        let k = cut f (λ x. key f x == key f z) ys (OfLabel f (key f z) r.front) z (OfLabel f (key f z) r.back)
        (sym (same (key f z)) ∙ (ap (OfLabel f (key f z)) r.is ∙ of_middle f r.front z r.back)) in
        let none : Contains (labels f k.front) (key f z) → ⊥ = λ d. some_of f (key f z) k.front d (k.kept_front ∙ none_of f (key f z) r.front r.first) in
        subst (λ (zs : List (ℕ × A)). Contains (once f [] zs) z) (sym k.is) (first_has k.front z k.back [] (λ d. contains_none (key f z) d) none)

  -- ---- the first of a label

  find_if : (b c : Bool) (l : ℕ) (seen : List ℕ) (x : ℕ × A) (xs : List (ℕ × A)) → (Contains seen l → ⊥) → is_among (key f x) seen ≡ b → (key f x == l) ≡ c →
      ((ls : List ℕ) → (Contains ls l → ⊥) → find (λ x. key f x == l) (once f ls xs) ≡ find (λ x. key f x == l) xs) →
      find (λ x. key f x == l) (if b then once f seen xs else x ∷ once f (key f x ∷ seen) xs) ≡ find (λ x. key f x == l) (x ∷ xs)
  find_if true true l seen x xs fresh e h ih = absurd (fresh (subst (λ (m : ℕ). Contains seen m) (eqb-true (key f x) l h) (among_contains (key f x) seen e)))
  find_if true false l seen x xs fresh e h ih = ih seen fresh ∙ sym (ap (λ (b : Bool). cond b (Some x) (find (λ x. key f x == l) xs)) h)
  find_if false true l seen x xs fresh e h ih =
      ap (λ (b : Bool). cond b (Some x) (find (λ x. key f x == l) (once f (key f x ∷ seen) xs))) h ∙ sym (ap (λ (b : Bool). cond b (Some x) (find (λ x. key f x == l) xs)) h)
  find_if false false l seen x xs fresh e h ih =
      let other : Contains (key f x ∷ seen) l → ⊥ = λ c. elim (contains_cases (key f x) seen l c) [
        | inl s ↦ true≢false (sym (eq-eqb (key f x) l s) ∙ h)
        | inr d ↦ fresh d
      ] in
      ap (λ (b : Bool). cond b (Some x) (find (λ x. key f x == l) (once f (key f x ∷ seen) xs))) h
      ∙ (ih (key f x ∷ seen) other ∙ sym (ap (λ (b : Bool). cond b (Some x) (find (λ x. key f x == l) xs)) h))

  find_once : (l : ℕ) (seen : List ℕ) (xs : List (ℕ × A)) → (Contains seen l → ⊥) → find (λ x. key f x == l) (once f seen xs) ≡ find (λ x. key f x == l) xs
  find_once l seen [] fresh = refl
  find_once l seen (x ∷ xs) fresh = find_if (is_among (key f x) seen) (key f x == l) l seen x xs fresh refl refl (λ ls h. find_once l ls xs h)

  -- ---- a sorted list

  rises_from : (last : ℕ) (xs : List (ℕ × A)) → ((d : ℕ × A) → 0 < length xs → last ≤ key f (get_or xs 0 d)) → IsNonDecreasingBy (key f) xs → Rises f (Some last) xs
  rises_from last [] low up = tt
  rises_from last (x ∷ xs) low up = (
    low x (omega arith),
    rises_from (key f x) xs (λ d h. up 0 1 d (omega arith) (omega (arith, h))) (λ i j d le lt. up (suc i) (suc j) d (omega (arith, le)) (omega (arith, lt))),
  )

  pub rises_up : (xs : List (ℕ × A)) → IsNonDecreasingBy (key f) xs → Rises f None xs
  rises_up [] up = tt
  rises_up (x ∷ xs) up = (
    tt,
    rises_from (key f x) xs (λ d h. up 0 1 d (omega arith) (omega (arith, h))) (λ i j d le lt. up (suc i) (suc j) d (omega (arith, le)) (omega (arith, lt))),
  )

  module _ (xs ys : List (ℕ × A)) (same : (l : ℕ) → OfLabel f l ys ≡ OfLabel f l xs) (up : IsNonDecreasingBy (key f) ys) where
    same_back : (l : ℕ) → OfLabel f l xs ≡ OfLabel f l ys
    same_back l = sym (same l)

    -- the labels that stand a second time, as they are found in the sorted list
    pub sorted_again : least (over f None ys) ≡ least (again f [] xs)
    sorted_again = ap least (sorted_over f ys None [] (rises_up ys up) refl) ∙ same_least (again f [] ys) (again f [] xs) (again_in ys xs same) (again_in xs ys same_back)

    kept_once : kept f None ys ≡ once f [] ys
    kept_once = sorted_kept f ys None [] (rises_up ys up) refl

    pub kept_in : (z : ℕ × A) → Contains (kept f None ys) z → Contains (once f [] xs) z
    kept_in z c = once_in ys xs same z (subst (λ zs. Contains zs z) kept_once c)

    pub in_kept : (z : ℕ × A) → Contains (once f [] xs) z → Contains (kept f None ys) z
    in_kept z c = subst (λ zs. Contains zs z) (sym kept_once) (once_in xs ys same_back z c)

    -- the one of a label
    pub sorted_find : (l : ℕ) → find (λ x. key f x == l) (kept f None ys) ≡ find (λ x. key f x == l) xs
    sorted_find l = ap (find (λ x. key f x == l)) kept_once ∙ (find_once l [] ys (λ c. contains_none l c) ∙ same_find (key f) ys xs same l)

-- ---- types

wrong_in : (ts : List TypeEntry) (es fs : List (ℕ × TypeEntry)) → ((z : ℕ × TypeEntry) → Contains es z → Contains fs z) → AreIn (wrong_entries ts es) (wrong_entries ts fs)
wrong_in ts es fs sub e c =
    let w = wrong_entry_is ts es e c in
    subst (Contains (wrong_entries ts fs)) (λ i. record { line = sym w.at i; kind = e.kind }) (wrong_entry_has ts fs w.item e.kind (sub w.item w.among) w.wrong)

pub sorted_wrong : (ts : List TypeEntry) (es fs : List (ℕ × TypeEntry)) → ((l : ℕ) → OfLabel (λ e. e.label) l fs ≡ OfLabel (λ e. e.label) l es) →
    IsNonDecreasingBy (key (λ (e : TypeEntry). e.label)) fs →
    least (wrong_entries ts (kept (λ e. e.label) None fs)) ≡ least (wrong_entries ts (once (λ e. e.label) [] es))
sorted_wrong ts es fs same up =
    same_least (wrong_entries ts (kept (λ e. e.label) None fs)) (wrong_entries ts (once (λ e. e.label) [] es))
    (wrong_in ts (kept (λ e. e.label) None fs) (once (λ e. e.label) [] es) (kept_in (λ (e : TypeEntry). e.label) es fs same up))
    (wrong_in ts (once (λ e. e.label) [] es) (kept (λ e. e.label) None fs) (in_kept (λ (e : TypeEntry). e.label) es fs same up))
