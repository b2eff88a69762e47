-- Marks that are set one after another, until none is left to set.
use Rattle.std.proofs.Common.{◌≡◌, ℕ, zero, suc, ◌+◌, ◌<◌, ◌≤◌, Bool, true, false, not, ◌&&◌, ◌||◌, List, [], ◌∷◌, map, length, get_or, set, slice_index, Err, refl, sym, ap, subst, ◌∙◌, arith, inl, inr}
use Rattle.std.specs.List.Sorted.{IsStrictlyIncreasing, IsBinarySearchResult}
use Rattle.std.specs.Ordering.{nat_cmp}
use Rattle.std.proofs.lemmas.Bool.{cases_eq}
use Rattle.std.proofs.lemmas.List.{length-set, length-map, get_or-set_same, get_or-set_other, get_or_default}
use Rattle.std.proofs.lemmas.Option.{slice_get-get_or, slice_get_past}
use Rattle.if1_graph.specs.declared.graph.TypeEntry.{TypeEntry}
use Rattle.if1_graph.specs.Formed.{is_basic}
use Rattle.if1_graph.specs.Kinds.{kind_at}
use Rattle.if1_read.specs.Marks.{labels_in, mark_at, is_set, is_real_type, AreClosed, AreMarks}
use Rattle.if1_read.specs.Spread.{is_holder, HasNoHolder, AreRealsMarked, KeepsMarks}
use Rattle.if1_read.proofs.Labels.{not_found}
use Rattle.if1_read.proofs.Closing.{unset, unset_falls, mark_found, mark_none, closed_marks}

keeps_set : (ms : List Bool) (i : ℕ) → i < length ms → KeepsMarks ms (set ms i true)
keeps_set ms i lt = record {
  fit = length-set ms i true;
  still = λ k h. elim (cases_eq k i) [
    | inl same ↦ subst (λ (j : ℕ). get_or (set ms i true) j true ≡ true) (sym same) (get_or-set_same ms i true true lt)
    | inr ne ↦ get_or-set_other ms i k true true ne ∙ h
  ];
}

-- ---- the mark of a label

pub mark_here : (xs : List ℕ) (ms : List Bool) (k l : ℕ) (m : Bool) → IsStrictlyIncreasing xs → k < length xs → slice_index xs k ≡ l → k < length ms → m ≡ get_or ms k m → m ≡ is_set (mark_at xs ms l)
mark_here xs ms k l m up h is short m_is = m_is ∙ ap is_set (sym (mark_found xs ms k l up h is ∙ slice_get-get_or ms k m short))

pub mark_past : (xs : List ℕ) (ms : List Bool) (k l : ℕ) → IsStrictlyIncreasing xs → k < length xs → slice_index xs k ≡ l → length ms ≤ k → false ≡ is_set (mark_at xs ms l)
mark_past xs ms k l up h is past = ap is_set (sym (mark_found xs ms k l up h is ∙ slice_get_past ms k past))

pub mark_away : (xs : List ℕ) (ms : List Bool) (l i : ℕ) → IsStrictlyIncreasing xs → IsBinarySearchResult (λ y. nat_cmp y l) xs (Err i) → false ≡ is_set (mark_at xs ms l)
mark_away xs ms l i up found = ap is_set (sym (mark_none xs ms l (not_found xs l i up found)))

-- ---- what is left to mark

kept_reals : (ts : List TypeEntry) (ms ns : List Bool) → AreRealsMarked ms ts → KeepsMarks ms ns → AreRealsMarked ns ts
kept_reals ts ms ns reals keeps k lt d is = keeps.still k (reals k lt d is)

marked_reals : (ts : List TypeEntry) → AreRealsMarked (map is_real_type ts) ts
marked_reals [] k lt d is = absurd (omega (arith, lt))
marked_reals (t ∷ ts) zero lt d is = is
marked_reals (t ∷ ts) (suc k) lt d is = marked_reals ts k (omega (arith, lt)) d is

unset_few : (ms : List Bool) → unset ms ≤ length ms
unset_few [] = omega arith
unset_few (true ∷ ms) = omega (arith, unset_few ms)
unset_few (false ∷ ms) = omega (arith, unset_few ms)

all_set : (ms : List Bool) (k : ℕ) → unset ms ≡ 0 → get_or ms k true ≡ true
all_set [] k h = refl
all_set (true ∷ ms) zero h = refl
all_set (true ∷ ms) (suc k) h = all_set ms k h
all_set (false ∷ ms) k h = absurd (omega (arith, h))

set_closed : (m real holds : Bool) → (real ≡ true → m ≡ true) → (not m && holds) ≡ false → (real || holds) ≡ true → m ≡ true
set_closed true real holds r h e = refl
set_closed false true holds r h e = r refl
set_closed false false true r h e = absurd cc
set_closed false false false r h e = e

and_assoc : (a b c : Bool) → (a && (b && c)) ≡ ((a && b) && c)
and_assoc true b c = refl
and_assoc false b c = refl

closed_now : (ls : List ℕ) (ms : List Bool) (ts : List TypeEntry) → AreRealsMarked ms ts → HasNoHolder ls ms ts → AreClosed ls ms ts
closed_now ls ms ts reals none k lt d open_now =
    let t = get_or ts k d in
    set_closed (get_or ms k true) (is_real_type t) (not (is_basic (kind_at t.code)) && (is_set (mark_at ls ms t.first) || is_set (mark_at ls ms t.second)))
    (reals k lt d)
    (and_assoc (not (get_or ms k true)) (not (is_basic (kind_at t.code))) (is_set (mark_at ls ms t.first) || is_set (mark_at ls ms t.second)) ∙ none k lt d) open_now

closed_at_last : (ls : List ℕ) (ms : List Bool) (ts : List TypeEntry) → unset ms ≡ 0 → AreClosed ls ms ts
closed_at_last ls ms ts h k lt d open_now = all_set ms k h

pub no_holder_at : (ls : List ℕ) (ms : List Bool) (ts : List TypeEntry) (k : ℕ) (t : TypeEntry) (b : Bool) → k < length ms → k < length ts → t ≡ get_or ts k t →
    b ≡ is_holder ls ms (get_or ms k false) t → b ≡ false → (d : TypeEntry) → is_holder ls ms (get_or ms k true) (get_or ts k d) ≡ false
no_holder_at ls ms ts k t b in_ms in_ts t_is b_is f d =
    ap (λ (m : Bool). is_holder ls ms m (get_or ts k d)) (get_or_default ms k true false in_ms)
    ∙ ap (is_holder ls ms (get_or ms k false)) (get_or_default ts k d t in_ts ∙ sym t_is)
    ∙ sym b_is ∙ f

-- ---- turns

pub record Turn (ts : List TypeEntry) (ms : List Bool) (i : ℕ) : Type 0 where
  pub fit : length ms ≡ length ts
  pub reals : AreRealsMarked ms ts
  pub left : unset ms + i ≤ length ts

pub first_turn : (ts : List TypeEntry) (ms ns : List Bool) → ms ≡ map is_real_type ts → KeepsMarks ms ns → Turn ts ns 0
first_turn ts ms ns is keeps =
    let fit : length ms ≡ length ts = ap length is ∙ length-map ts is_real_type in
    record {
      fit = keeps.fit ∙ fit;
      reals = kept_reals ts ms ns (subst (λ (xs : List Bool). AreRealsMarked xs ts) (sym is) (marked_reals ts)) keeps;
      left = omega (arith, unset_few ns, keeps.fit, fit);
    }

pub next_turn : (ts : List TypeEntry) (ms ns : List Bool) (i k : ℕ) → Turn ts ms i → k < length ms → get_or ms k true ≡ false → ns ≡ set ms k true → Turn ts ns (i + 1)
next_turn ts ms ns i k turn lt free is =
    let keeps : KeepsMarks ms ns = subst (KeepsMarks ms) (sym is) (keeps_set ms k lt) in
    record {
      fit = keeps.fit ∙ turn.fit;
      reals = kept_reals ts ms ns turn.reals keeps;
      left = omega (arith, turn.left, unset_falls ms k lt free, ap unset is);
    }

pub marks_now : (ls : List ℕ) (ts : List TypeEntry) (ms : List Bool) (i : ℕ) → Turn ts ms i → (IsStrictlyIncreasing ls → length ms ≡ length ts → HasNoHolder ls ms ts) →
    ls ≡ labels_in ts → IsStrictlyIncreasing ls → AreMarks ts ms
marks_now ls ts ms i turn none is up = closed_marks ls ts ms is up turn.fit (closed_now ls ms ts turn.reals (none up turn.fit))

pub marks_at_last : (ls : List ℕ) (ts : List TypeEntry) (ms : List Bool) (i : ℕ) → Turn ts ms i → length ts ≤ i → ls ≡ labels_in ts → IsStrictlyIncreasing ls → AreMarks ts ms
marks_at_last ls ts ms i turn past is up = closed_marks ls ts ms is up turn.fit (closed_at_last ls ms ts (omega (arith, turn.left, past)))
