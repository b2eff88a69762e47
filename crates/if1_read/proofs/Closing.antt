-- Marks that are closed.
use Rattle.std.proofs.Common.{◌≡◌, ℕ, zero, suc, ◌<◌, Bool, true, false, ◌||◌, List, [], ◌∷◌, length, get_or, set, slice_get, slice_index, Some, None, refl, ap, subst, ◌∙◌, arith}
use Rattle.std.specs.List.Sorted.{IsStrictlyIncreasing}
use Rattle.if1_graph.specs.declared.graph.TypeEntry.{TypeEntry}
use Rattle.if1_read.specs.Marks.{mark_at, labels_in, is_set, is_marked, is_real_type, AreClosed, AreMarks}

-- how many are not marked
abbrev pub unset : List Bool → ℕ
unset [] = 0
unset (true ∷ ms) = unset ms
unset (false ∷ ms) = suc (unset ms)

pub unset_falls : (ms : List Bool) (k : ℕ) → k < length ms → get_or ms k true ≡ false → unset (set ms k true) < unset ms
unset_falls [] k h e = absurd (omega (arith, h))
unset_falls (true ∷ ms) zero h e = absurd cc
unset_falls (false ∷ ms) zero h e = omega arith
unset_falls (true ∷ ms) (suc k) h e = unset_falls ms k (omega (arith, h)) e
unset_falls (false ∷ ms) (suc k) h e = omega (arith, unset_falls ms k (omega (arith, h)) e)

pub rising_rest : (n : ℕ) (ns : List ℕ) → IsStrictlyIncreasing (n ∷ ns) → IsStrictlyIncreasing ns
rising_rest n ns up k h = grind (arith, up (suc k))

pub above : (n : ℕ) (ns : List ℕ) (k : ℕ) → IsStrictlyIncreasing (n ∷ ns) → k < length ns → n < slice_index ns k
above n ns zero up h = grind (arith, up 0)
above n ns (suc k) up h = grind (arith, above n ns k up, up (suc k))

pub mark_found : (xs : List ℕ) (ms : List Bool) (k l : ℕ) → IsStrictlyIncreasing xs → k < length xs → slice_index xs k ≡ l → mark_at xs ms l ≡ slice_get ms k
mark_found [] ms k l up h is = absurd (omega (arith, h))
mark_found (x ∷ xs) [] k l up h is = refl
mark_found (x ∷ xs) (m ∷ ms) zero l up h is = grind (arith, is)
mark_found (x ∷ xs) (m ∷ ms) (suc k) l up h is = grind (arith, above x xs k up, mark_found xs ms k l (rising_rest x xs up))

pub mark_none : (xs : List ℕ) (ms : List Bool) (l : ℕ) → ((k : ℕ) → k < length xs → slice_index xs k ≡ l → ⊥) → mark_at xs ms l ≡ None
mark_none [] ms l none = refl
mark_none (x ∷ xs) [] l none = refl
mark_none (x ∷ xs) (m ∷ ms) l none = grind (arith, none 0, mark_none xs ms l (λ k h is. none (suc k) (omega (arith, h)) is))

label_at : (ts : List TypeEntry) (k : ℕ) (d : TypeEntry) → k < length ts → slice_index (labels_in ts) k ≡ (get_or ts k d).label
label_at [] k d h = absurd (omega (arith, h))
label_at (t ∷ ts) zero d h = refl
label_at (t ∷ ts) (suc k) d h = label_at ts k d (omega (arith, h))

length_labels : (ts : List TypeEntry) → length (labels_in ts) ≡ length ts
length_labels [] = refl
length_labels (t ∷ ts) = ap suc (length_labels ts)

got : (ms : List Bool) (k : ℕ) → k < length ms → slice_get ms k ≡ Some (get_or ms k true)
got [] k h = absurd (omega (arith, h))
got (m ∷ ms) zero h = refl
got (m ∷ ms) (suc k) h = got ms k (omega (arith, h))

or_left : (a b : Bool) → a ≡ true → (a || b) ≡ true
or_left true b e = refl
or_left false b e = absurd cc

or_right : (a b : Bool) → b ≡ true → (a || b) ≡ true
or_right true b e = refl
or_right false b e = e

-- a mark by place is one by label
pub marked_at : (ts : List TypeEntry) (ms : List Bool) → IsStrictlyIncreasing (labels_in ts) → length ms ≡ length ts → (k : ℕ) (d : TypeEntry) → k < length ts →
    get_or ms k true ≡ true → is_marked ts ms (get_or ts k d).label ≡ true
marked_at ts ms up fit k d h e =
    let short : k < length (labels_in ts) = omega (arith, h, length_labels ts) in
    ap is_set (mark_found (labels_in ts) ms k (get_or ts k d).label up short (label_at ts k d h) ∙ got ms k (omega (arith, h, fit)) ∙ ap Some e)

pub closed_marks : (ls : List ℕ) (ts : List TypeEntry) (ms : List Bool) → ls ≡ labels_in ts → IsStrictlyIncreasing ls → length ms ≡ length ts → AreClosed ls ms ts → AreMarks ts ms
closed_marks ls ts ms same up fit closed =
    let rising : IsStrictlyIncreasing (labels_in ts) = subst IsStrictlyIncreasing same up in
    let shut : AreClosed (labels_in ts) ms ts = subst (λ (xs : List ℕ). AreClosed xs ms ts) same closed in
    record {
      fit = fit;
      reals = λ k d h is. marked_at ts ms rising fit k d h (shut k h d (or_left (is_real_type (get_or ts k d)) _ is));
      closed = λ k d h is. marked_at ts ms rising fit k d h (shut k h d (or_right (is_real_type (get_or ts k d)) _ is));
    }
