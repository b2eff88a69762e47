-- What stands by rising labels.
use Rattle.std.proofs.Common.{◌≡◌, ℕ, zero, suc, ◌+◌, ◌-◌, ◌<◌, ◌≤◌, Bool, cond, List, [], ◌∷◌, ◌++◌, map, length, get_or, slice_get, slice_index, Some, None, Err, refl, sym, ap, subst, ◌∙◌, arith, inl, inr}
use Rattle.std.specs.Prelude.{◌==◌, find}
use Rattle.std.specs.List.Sorted.{IsStrictlyIncreasing, IsBinarySearchResult}
use Rattle.std.specs.Ordering.{nat_cmp}
use Rattle.std.proofs.lemmas.Bool.{cases_lt, cases_eq, ne_eqb, eq-eqb}
use Rattle.std.proofs.lemmas.List.{length_push, get_or_push, get_or_append_left}
use Rattle.std.proofs.lemmas.List.Sorted.{searched}
use Rattle.if1_read.proofs.Closing.{above, rising_rest}

rising : (ns : List ℕ) (i d : ℕ) → IsStrictlyIncreasing ns → i + suc d < length ns → slice_index ns i < slice_index ns (i + suc d)
rising ns i zero up h = grind (arith, up i)
rising ns i (suc d) up h = grind (arith, rising ns i d up, up (i + suc d))

not_falling : (ns : List ℕ) → IsStrictlyIncreasing ns → (i j : ℕ) → i ≤ j → j < length ns → get_or ns i 0 ≤ get_or ns j 0
not_falling ns up i j le short = elim (cases_eq i j) [
  | inl same ↦ omega (arith, ap (slice_index ns) same)
  | inr ne ↦ let at : i + suc (j - suc i) ≡ j = omega arith in omega (arith, ap (slice_index ns) at, rising ns i (j - suc i) up (omega arith))
]

pub not_found : (ns : List ℕ) (x i : ℕ) → IsStrictlyIncreasing ns → IsBinarySearchResult (λ y. nat_cmp y x) ns (Err i) → (k : ℕ) → k < length ns → slice_index ns k ≡ x → ⊥
not_found ns x i up found k h is =
    let r = searched ns x (Err i) found (not_falling ns up) in
    elim (cases_lt k i) [ inl lt ↦ omega (arith, r.1 k lt, is) | inr ge ↦ omega (arith, r.2 k ge h, is) ]

-- ---- what has a label

module _ {X : Type 0} (key : X → ℕ) where
  found : (xs : List X) (k l : ℕ) → IsStrictlyIncreasing (map key xs) → k < length (map key xs) → slice_index (map key xs) k ≡ l →
      find (λ x. key x == l) xs ≡ slice_get xs k
  found [] k l up h is = absurd (omega (arith, h))
  found (x ∷ xs) zero l up h is = ap (λ (b : Bool). cond b (Some x) (find (λ x. key x == l) xs)) (eq-eqb (key x) l is)
  found (x ∷ xs) (suc k) l up h is =
      ap (λ (b : Bool). cond b (Some x) (find (λ x. key x == l) xs)) (ne_eqb (key x) l (λ e. omega (arith, above (key x) (map key xs) k up (omega (arith, h)), is, e)))
      ∙ found xs k l (rising_rest (key x) (map key xs) up) (omega (arith, h)) is

  none_found : (xs : List X) (l : ℕ) → ((k : ℕ) → k < length (map key xs) → slice_index (map key xs) k ≡ l → ⊥) → find (λ x. key x == l) xs ≡ None
  none_found [] l none = refl
  none_found (x ∷ xs) l none =
      ap (λ (b : Bool). cond b (Some x) (find (λ x. key x == l) xs)) (ne_eqb (key x) l (none 0 (omega arith)))
      ∙ none_found xs l (λ k h is. none (suc k) (omega (arith, h)) is)

  pub found_by : (ls : List ℕ) (xs : List X) (k l : ℕ) → ls ≡ map key xs → IsStrictlyIncreasing ls → k < length ls → slice_index ls k ≡ l →
      find (λ x. key x == l) xs ≡ slice_get xs k
  found_by ls xs k l is up lt at =
      found xs k l (subst IsStrictlyIncreasing is up) (subst (λ (ns : List ℕ). k < length ns) is lt) (sym (ap (λ (ns : List ℕ). slice_index ns k) is) ∙ at)

  pub away_by : (ls : List ℕ) (xs : List X) (l i : ℕ) → ls ≡ map key xs → IsStrictlyIncreasing ls → IsBinarySearchResult (λ y. nat_cmp y l) ls (Err i) →
      find (λ x. key x == l) xs ≡ None
  away_by ls xs l i is up away =
      none_found xs l
      (λ k lt at. not_found ls l i up away k (subst (λ (ns : List ℕ). k < length ns) (sym is) lt) (ap (λ (ns : List ℕ). slice_index ns k) is ∙ at))

-- ---- labels that were kept so far

-- rising, and none above a number
pub record RiseTo (last : ℕ) (ns : List ℕ) : Type 0 where
  pub up : IsStrictlyIncreasing ns
  pub top : (k : ℕ) → k < length ns → slice_index ns k ≤ last

pub rise_none : RiseTo 0 []
rise_none = record { up = λ k h. absurd (omega (arith, h)); top = λ k h. absurd (omega (arith, h)) }

pub rise_more : (last n : ℕ) (ns : List ℕ) → RiseTo last ns → last < n → RiseTo n (ns ++ n ∷ [])
rise_more last n ns r more = record {
  up = λ k h. elim (cases_lt (k + 1) (length ns)) [
    | inl lt ↦ omega (arith, r.up k lt, get_or_append_left ns (n ∷ []) 0 k (omega (arith, lt)), get_or_append_left ns (n ∷ []) 0 (k + 1) lt)
    | inr ge ↦
        let end : length ns ≡ k + 1 = omega (arith, h, ge, length_push ns n) in
        omega (arith, more, r.top k (omega (arith, end)), get_or_append_left ns (n ∷ []) 0 k (omega (arith, end)), get_or_push ns n 0 (k + 1) end)
  ];
  top = λ k h. elim (cases_lt k (length ns)) [
    | inl lt ↦ omega (arith, more, r.top k lt, get_or_append_left ns (n ∷ []) 0 k lt)
    | inr ge ↦ let end : length ns ≡ k = omega (arith, h, ge, length_push ns n) in omega (arith, get_or_push ns n 0 k end)
  ];
}
