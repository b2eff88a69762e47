-- Only types that hold reals are marked.
use Rattle.std.proofs.Common.{◌≡◌, ℕ, zero, suc, ◌+◌, ◌<◌, ◌≤◌, Bool, true, false, cond, not, ◌&&◌, ◌||◌, List, [], ◌∷◌, ◌++◌, map, length, get_or, set, slice_get, slice_index, Option, Some, None, ◌⊎◌, inl, inr, refl, sym, ap, subst, ◌∙◌, arith}
use Rattle.std.specs.Prelude.{◌==◌, All}
use Rattle.std.specs.List.Sorted.{IsStrictlyIncreasing}
use Rattle.std.proofs.lemmas.Bool.{cases_eq, eqb-true}
use Rattle.std.proofs.lemmas.List.{length-map, get_or-map, get_or-set_same, get_or-set_other, length-set, get_or_past}
use Rattle.std.proofs.lemmas.List.Elements.{All-push, All-same}
use Rattle.std.proofs.lemmas.Option.{slice_get-get_or}
use Rattle.if1_graph.specs.declared.graph.TypeEntry.{TypeEntry}
use Rattle.if1_graph.specs.Kinds.{kind_at, basic_at}
use Rattle.if1_graph.specs.Types.{entry_at}
use Rattle.if1_graph.specs.Formed.{is_basic, is_real, HasReal, itself, within}
use Rattle.if1_read.specs.Marks.{labels_in, mark_at, is_set, is_marked, is_real_type}
use Rattle.if1_read.specs.Spread.{is_holder, KeepsMarks, IsRealAt, AreTrue, LeadsTo, HoldsAs, StandsAt}
use Rattle.if1_read.proofs.Labels.{found_by}

-- ---- a type at its place

label_at : (ts : List TypeEntry) (k : ℕ) (e : TypeEntry) → StandsAt ts k e → slice_index (labels_in ts) k ≡ e.label
label_at ts k e at = get_or-map (λ (e : TypeEntry). e.label) ts k e 0 at.below ∙ ap (λ (x : TypeEntry). x.label) (sym at.is)

entry_found : (ts : List TypeEntry) (k : ℕ) (e : TypeEntry) → IsStrictlyIncreasing (labels_in ts) → StandsAt ts k e → entry_at ts e.label ≡ Some e
entry_found ts k e up at =
    found_by (λ (e : TypeEntry). e.label) (labels_in ts) ts k e.label refl up (omega (arith, at.below, length-map ts (λ (e : TypeEntry). e.label))) (label_at ts k e at)
    ∙ (slice_get-get_or ts k e at.below ∙ ap Some (sym at.is))

pub real_at : (ts : List TypeEntry) (k : ℕ) (e : TypeEntry) → IsStrictlyIncreasing (labels_in ts) → StandsAt ts k e → HasReal ts e.label → IsRealAt ts k
real_at ts k e up at r = record { below = at.below; real = subst (HasReal ts) (sym (label_at ts k e at)) r }

-- what a type of reals is
both_true : (a b : Bool) → (a && b) ≡ true → (a ≡ true) × (b ≡ true)
both_true true b e = (refl, e)
both_true false b e = absurd cc

pub itself_real : (ts : List TypeEntry) (k : ℕ) (e : TypeEntry) → IsStrictlyIncreasing (labels_in ts) → StandsAt ts k e → is_real_type e ≡ true → IsRealAt ts k
itself_real ts k e up at is =
    let t = both_true (is_basic (kind_at e.code)) (is_real (basic_at e.first)) is in
    real_at ts k e up at (itself (record { entry = e; found = entry_found ts k e up at; basic_kind = t.0; real_code = t.1 }))

pub first_holds : (ts : List TypeEntry) (k : ℕ) (e : TypeEntry) → IsStrictlyIncreasing (labels_in ts) → StandsAt ts k e → is_basic (kind_at e.code) ≡ false → HoldsAs ts e.first k
first_holds ts k e up at no_basic r =
    real_at ts k e up at (within (record { entry = e; found = entry_found ts k e up at; no_basic = no_basic; part = inl refl }) r)

pub second_holds : (ts : List TypeEntry) (k : ℕ) (e : TypeEntry) → IsStrictlyIncreasing (labels_in ts) → StandsAt ts k e → is_basic (kind_at e.code) ≡ false → HoldsAs ts e.second k
second_holds ts k e up at no_basic r =
    real_at ts k e up at (within (record { entry = e; found = entry_found ts k e up at; no_basic = no_basic; part = inr refl }) r)

-- a part that is found by its label
pub part_leads : (ts : List TypeEntry) (ls : List ℕ) (l part place : ℕ) → ls ≡ labels_in ts → slice_index ls part ≡ l → HoldsAs ts l place → LeadsTo ts (part, place)
part_leads ts ls l part place is at holds real = holds (subst (HasReal ts) (ap (λ (xs : List ℕ). slice_index xs part) (sym is) ∙ at) real.real)

-- ---- marks

pub true_set : (ts : List TypeEntry) (ms : List Bool) (place : ℕ) → IsRealAt ts place → AreTrue ts ms → AreTrue ts (set ms place true)
true_set ts ms place real are k e = elim (cases_eq k place) [
  | inl same ↦ subst (IsRealAt ts) (sym same) real
  | inr ne ↦ are k (sym (get_or-set_other ms place k true false ne) ∙ e)
]

record IsRealType (xs : List TypeEntry) (k : ℕ) : Type 0 where
  entry : TypeEntry
  at : StandsAt xs k entry
  is : is_real_type entry ≡ true

type_at : (xs : List TypeEntry) (k : ℕ) → get_or (map is_real_type xs) k false ≡ true → IsRealType xs k
type_at [] k e = absurd cc
type_at (x ∷ xs) zero e = record { entry = x; at = record { below = omega arith; is = refl }; is = e }
type_at (x ∷ xs) (suc k) e = let r = type_at xs k e in record { entry = r.entry; at = record { below = omega (arith, r.at.below); is = r.at.is }; is = r.is }

pub mapped_true : (ts : List TypeEntry) → IsStrictlyIncreasing (labels_in ts) → AreTrue ts (map is_real_type ts)
mapped_true ts up k e = let r = type_at ts k e in itself_real ts k r.entry up r.at r.is

-- the place of a mark
record IsMarkedAt (ts : List TypeEntry) (ms : List Bool) (l : ℕ) : Type 0 where
  place : ℕ
  label : slice_index (labels_in ts) place ≡ l
  mark : get_or ms place false ≡ true

marked_if : (b m : Bool) (e : TypeEntry) (ts : List TypeEntry) (ms : List Bool) (l : ℕ) → (e.label == l) ≡ b → (is_set (mark_at (labels_in ts) ms l) ≡ true → IsMarkedAt ts ms l) →
    is_set (cond b (Some m) (mark_at (labels_in ts) ms l)) ≡ true → IsMarkedAt (e ∷ ts) (m ∷ ms) l
marked_if true m e ts ms l is ih h = record { place = 0; label = eqb-true e.label l is; mark = h }
marked_if false m e ts ms l is ih h = let r = ih h in record { place = suc r.place; label = r.label; mark = r.mark }

marked_at : (ts : List TypeEntry) (ms : List Bool) (l : ℕ) → is_set (mark_at (labels_in ts) ms l) ≡ true → IsMarkedAt ts ms l
marked_at [] ms l h = absurd cc
marked_at (e ∷ ts) [] l h = absurd cc
marked_at (e ∷ ts) (m ∷ ms) l h = marked_if (e.label == l) m e ts ms l refl (marked_at ts ms l) h

pub marked_real : (ts : List TypeEntry) (ms : List Bool) → AreTrue ts ms → (l : ℕ) → is_marked ts ms l ≡ true → HasReal ts l
marked_real ts ms are l h = let r = marked_at ts ms l h in subst (HasReal ts) r.label (are r.place r.mark).real

-- ---- what holds a marked type

or_parts : (a b : Bool) → (a || b) ≡ true → (a ≡ true) ⊎ (b ≡ true)
or_parts true b e = inl refl
or_parts false b e = inr e

not_false : (b : Bool) → not b ≡ true → b ≡ false
not_false true e = absurd cc
not_false false e = refl

pub holder_real : (ts : List TypeEntry) (ls : List ℕ) (ms : List Bool) (mark : Bool) (k : ℕ) (e : TypeEntry) → ls ≡ labels_in ts → IsStrictlyIncreasing ls → StandsAt ts k e → AreTrue ts ms →
    is_holder ls ms mark e ≡ true → IsRealAt ts k
holder_real ts ls ms mark k e is up at are h =
    let rising = subst IsStrictlyIncreasing is up in
    let a = both_true (not mark && not (is_basic (kind_at e.code))) (is_set (mark_at ls ms e.first) || is_set (mark_at ls ms e.second)) h in
    let b = both_true (not mark) (not (is_basic (kind_at e.code))) a.0 in
    let no_basic = not_false (is_basic (kind_at e.code)) b.1 in
    elim (or_parts (is_set (mark_at ls ms e.first)) (is_set (mark_at ls ms e.second)) a.1) [
      | inl f ↦ first_holds ts k e rising at no_basic (marked_real ts ms are e.first (ap (λ (xs : List ℕ). is_set (mark_at xs ms e.first)) (sym is) ∙ f))
      | inr f ↦ second_holds ts k e rising at no_basic (marked_real ts ms are e.second (ap (λ (xs : List ℕ). is_set (mark_at xs ms e.second)) (sym is) ∙ f))
    ]

pub keeps_both : (ls ms ns : List Bool) → KeepsMarks ls ms → KeepsMarks ms ns → KeepsMarks ls ns
keeps_both ls ms ns a b = record { fit = b.fit ∙ a.fit; still = λ k h. b.still k (a.still k h) }
