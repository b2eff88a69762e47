-- Faults of types are found.
use Rattle.std.proofs.Common.{◌≡◌, ℕ, suc, ◌≤◌, Bool, true, false, List, [], ◌∷◌, ◌++◌, map, Option, Some, None, ◌⊎◌, inl, inr, if◌then◌else◌, refl, sym, ap, subst, ◌∙◌, arith, true≢false}
use Rattle.std.specs.Prelude.{Contains}
use Rattle.std.proofs.lemmas.List.Elements.{Contains-append_left, Contains-append_right, Contains-append_cases}
use Rattle.if1_graph.specs.declared.line.Line.{Line}
use Rattle.if1_graph.specs.declared.line.Line.TheVariants as line
use Rattle.if1_graph.specs.declared.graph.TypeEntry.{TypeEntry}
use Rattle.if1_graph.specs.Kinds.{kind_at}
use Rattle.if1_graph.specs.Reads.{entries_in}
use Rattle.if1_read.specs.declared.fault.Kind.{Kind}
use Rattle.if1_read.specs.declared.fault.Kind.TheVariants.{Bad, Unknown}
use Rattle.if1_read.specs.declared.fault.Fault.{Fault}
use Rattle.if1_read.specs.Entries.{HasTypes}
use Rattle.if1_read.specs.Faults.{Layer, next, layers, unit_alone, types, with_some, rank, IsFault, type_again, no_part}
use Rattle.if1_read.specs.Least.{noted}
use Rattle.if1_read.specs.Pages.{is_among, again}
use Rattle.if1_read.specs.Rows.{entry_on, by_line, typed, parts_there, wrong_entry, wrong_entries, once, table_faults}
use Rattle.if1_read.proofs.Walking.{Lined}
use Rattle.if1_read.proofs.Same.{contains_here, contains_later, contains_cases, contains_none}
use Rattle.if1_read.proofs.Splits.{contains_middle}
use Rattle.if1_read.proofs.Lining.{lined, contains_parts, says_at, lined_middle}
use Rattle.if1_read.proofs.Repeats.{bad_at, labels, repeats, repeated, noted_is, noted_has, among_contains}
use Rattle.if1_read.proofs.Fitting.{IsFound, map_twice}
use Rattle.if1_read.proofs.Rowwise.{parts_say, parts_have}

-- ---- types are what T lines say

abbrev pub saying : Line → List Layer → Option TypeEntry
saying l os = entry_on l

pub typed_lined : (os : List Layer) (ls : List Lined) → typed ls ≡ lined saying os ls
typed_lined os [] = refl
typed_lined os (l ∷ ls) = ap (with_some (by_line l.0 (entry_on l.1))) (typed_lined (next l.0 l.1 os) ls)

without : (n : ℕ) (o : Option TypeEntry) (xs : List (ℕ × TypeEntry)) → map (λ x. x.1) (with_some (by_line n o) xs) ≡ with_some o (map (λ x. x.1) xs)
without n None xs = refl
without n (Some e) xs = refl

entries_more : (l : Line) (ls : List Line) → entries_in (l ∷ ls) ≡ with_some (entry_on l) (entries_in ls)
entries_more (line.Entry label code first second name) ls = refl
entries_more _ ls = refl

pub types_typed : (ls : List Lined) → types ls ≡ map (λ x. x.1) (typed ls)
types_typed [] = refl
types_typed (l ∷ ls) =
    entries_more l.1 (map (λ l. l.1) ls) ∙ (ap (with_some (entry_on l.1)) (types_typed ls) ∙ sym (without l.0 (entry_on l.1) (typed ls)))

record EntryForm (l : Line) (e : TypeEntry) : Type 0 where
  is : line.Entry e.label e.code e.first e.second e.name ≡ l

entry_form : (l : Line) (e : TypeEntry) → entry_on l ≡ Some e → EntryForm l e
entry_form (line.Entry label code first second name) e h =
    let same : record { label = label; code = code; first = first; second = second; name = name } ≡ e = cc in
    record { is = ap (λ (x : TypeEntry). line.Entry x.label x.code x.first x.second x.name) (sym same) }
entry_form _ e h = absurd cc

abbrev label_of : TypeEntry → ℕ
label_of e = e.label

-- ---- the first of each label

module _ {A : Type 0} (f : A → ℕ) where
  kept_if : (b : Bool) (x : ℕ × A) (us vs xs : List (ℕ × A)) (y : ℕ × A) → (Contains us y → Contains xs y) → (Contains vs y → Contains xs y) →
      Contains (if b then us else x ∷ vs) y → Contains (x ∷ xs) y
  kept_if true x us vs xs y h g c = contains_later x xs y (h c)
  kept_if false x us vs xs y h g c = elim (contains_cases x vs y c) [
    | inl e ↦ subst (λ z. Contains (x ∷ xs) z) e (contains_here x xs)
    | inr d ↦ contains_later x xs y (g d)
  ]

  pub once_among : (seen : List ℕ) (xs : List (ℕ × A)) (y : ℕ × A) → Contains (once f seen xs) y → Contains xs y
  once_among seen [] y c = c
  once_among seen (x ∷ xs) y c =
      kept_if (is_among (f x.1) seen) x (once f seen xs) (once f (f x.1 ∷ seen) xs) xs y (λ d. once_among seen xs y d) (λ d. once_among (f x.1 ∷ seen) xs y d) c

  -- each is the first of its label, or its label stands again
  either_if : (b : Bool) (seen : List ℕ) (x : ℕ × A) (xs : List (ℕ × A)) (y : ℕ × A) → Contains (x ∷ xs) y →
      ((ls : List ℕ) → Contains xs y → Contains (once f ls xs) y ⊎ Contains (again f ls xs) (bad_at y.0)) →
      Contains (if b then once f seen xs else x ∷ once f (f x.1 ∷ seen) xs) y ⊎ Contains (if b then bad_at x.0 ∷ again f seen xs else again f (f x.1 ∷ seen) xs) (bad_at y.0)
  either_if true seen x xs y c ih = elim (contains_cases x xs y c) [
    | inl e ↦ inr (subst (λ (z : ℕ × A). Contains (bad_at x.0 ∷ again f seen xs) (bad_at z.0)) e (contains_here (bad_at x.0) (again f seen xs)))
    | inr d ↦ elim (ih seen d) [ inl k ↦ inl k | inr k ↦ inr (contains_later (bad_at x.0) (again f seen xs) (bad_at y.0) k) ]
  ]
  either_if false seen x xs y c ih = elim (contains_cases x xs y c) [
    | inl e ↦ inl (subst (λ (z : ℕ × A). Contains (x ∷ once f (f x.1 ∷ seen) xs) z) e (contains_here x (once f (f x.1 ∷ seen) xs)))
    | inr d ↦ elim (ih (f x.1 ∷ seen) d) [ inl k ↦ inl (contains_later x (once f (f x.1 ∷ seen) xs) y k) | inr k ↦ inr k ]
  ]

  pub once_or_again : (seen : List ℕ) (xs : List (ℕ × A)) (y : ℕ × A) → Contains xs y → Contains (once f seen xs) y ⊎ Contains (again f seen xs) (bad_at y.0)
  once_or_again seen [] y c = absurd (contains_none y c)
  once_or_again seen (x ∷ xs) y c = either_if (is_among (f x.1) seen) seen x xs y c (λ ls d. once_or_again ls xs y d)

-- ---- wrong numbers

pub record IsWrongEntry (ts : List TypeEntry) (es : List (ℕ × TypeEntry)) (f : Fault) : Type 0 where
  pub item : ℕ × TypeEntry
  pub among : Contains es item
  pub wrong : wrong_entry ts item.1 ≡ Some f.kind
  pub at : f.line ≡ item.0

pub wrong_entry_is : (ts : List TypeEntry) (es : List (ℕ × TypeEntry)) (f : Fault) → Contains (wrong_entries ts es) f → IsWrongEntry ts es f
wrong_entry_is ts [] f c = absurd (contains_none f c)
wrong_entry_is ts (e ∷ es) f c = elim (Contains-append_cases (noted e.0 (wrong_entry ts e.1)) (wrong_entries ts es) f c) [
  | inl d ↦ let t = noted_is e.0 (wrong_entry ts e.1) f d in record { item = e; among = contains_here e es; wrong = t.0; at = t.1 }
  | inr d ↦ let s = wrong_entry_is ts es f d in record { item = s.item; among = contains_later e es s.item s.among; wrong = s.wrong; at = s.at }
]

pub wrong_entry_has : (ts : List TypeEntry) (es : List (ℕ × TypeEntry)) (x : ℕ × TypeEntry) (k : Kind) → Contains es x → wrong_entry ts x.1 ≡ Some k →
    Contains (wrong_entries ts es) (record { line = x.0; kind = k })
wrong_entry_has ts [] x k c e = absurd (contains_none x c)
wrong_entry_has ts (y ∷ es) x k c e = elim (contains_cases y es x c) [
  | inl s ↦
      Contains-append_left (noted y.0 (wrong_entry ts y.1)) (wrong_entries ts es) (record { line = x.0; kind = k })
      (subst (λ (z : ℕ × TypeEntry). Contains (noted z.0 (wrong_entry ts z.1)) (record { line = x.0; kind = k })) (sym s) (noted_has x.0 (wrong_entry ts x.1) k e))
  | inr d ↦ Contains-append_right (noted y.0 (wrong_entry ts y.1)) (wrong_entries ts es) (record { line = x.0; kind = k }) (wrong_entry_has ts es x k d e)
]

wrong_if : (ts : List TypeEntry) (e : TypeEntry) (b : Bool) (k : Kind) → parts_there ts (kind_at e.code) e.first e.second ≡ b → (if b then None else Some Unknown) ≡ Some k →
    (Unknown ≡ k) × (¬ HasTypes ts (kind_at e.code) e.first e.second)
wrong_if ts e true k h w = absurd cc
wrong_if ts e false k h w = (cc, λ p. true≢false (sym (parts_have ts (kind_at e.code) e.first e.second p) ∙ h))

missing_if : (ts : List TypeEntry) (e : TypeEntry) (b : Bool) → parts_there ts (kind_at e.code) e.first e.second ≡ b → ¬ HasTypes ts (kind_at e.code) e.first e.second →
    (if b then None else Some Unknown) ≡ Some Unknown
missing_if ts e true h none = absurd (none (parts_say ts (kind_at e.code) e.first e.second h))
missing_if ts e false h none = refl

-- ---- faults of types

module _ (all : List Lined) where
  again_found : (f : Fault) → Contains (again label_of [] (typed all)) f → IsFound all f
  again_found f c =
      let a = repeats label_of [] (typed all) f c in
      let s = says_at saying all unit_alone a.front a.item a.back (sym (typed_lined unit_alone all) ∙ a.is) in
      let form = entry_form s.line a.item.1 s.says in
      let e = a.item.1 in
      let x = line.Entry e.label e.code e.first e.second e.name in
      let front : typed s.before ≡ a.front = typed_lined unit_alone s.before ∙ s.earlier in
      let names : labels label_of a.front ≡ map (λ e. e.label) (types s.before) =
      map_twice label_of (λ (x : ℕ × TypeEntry). x.1) a.front ∙ (ap (λ xs. map label_of (map (λ x. x.1) xs)) (sym front) ∙ ap (map label_of) (sym (types_typed s.before))) in
      let label : Contains (labels label_of a.front) e.label = elim a.label [ inl d ↦ absurd (contains_none e.label d) | inr d ↦ d ] in
      let fault : IsFault all s.before x Bad = type_again (subst (λ (ls : List ℕ). Contains ls e.label) names label) in
      let at : IsFound all (bad_at a.item.0) =
      record { before = s.before; line = s.line; after = s.after; is = s.is; fault = subst (λ (l : Line). IsFault all s.before l Bad) form.is fault } in
      subst (IsFound all) (sym a.fault) at

  wrong_found : (f : Fault) → Contains (wrong_entries (types all) (once label_of [] (typed all))) f → IsFound all f
  wrong_found f c =
      let w = wrong_entry_is (types all) (once label_of [] (typed all)) f c in
      let ps = contains_parts (typed all) w.item (once_among label_of [] (typed all) w.item w.among) in
      let s = says_at saying all unit_alone ps.front w.item ps.back (sym (typed_lined unit_alone all) ∙ ps.is) in
      let form = entry_form s.line w.item.1 s.says in
      let e = w.item.1 in
      let x = line.Entry e.label e.code e.first e.second e.name in
      let t = wrong_if (types all) e (parts_there (types all) (kind_at e.code) e.first e.second) f.kind refl w.wrong in
      let fault : IsFault all s.before x f.kind = subst (IsFault all s.before x) t.0 (no_part t.1) in
      record {
        before = s.before;
        line = s.line;
        after = s.after;
        is = s.is ∙ ap (λ (n : ℕ). s.before ++ (n, s.line) ∷ s.after) (sym w.at);
        fault = subst (λ (l : Line). IsFault all s.before l f.kind) form.is fault;
      }

  pub table_sound : (f : Fault) → Contains (table_faults (types all) (typed all)) f → IsFound all f
  table_sound f c = elim (Contains-append_cases (again label_of [] (typed all)) (wrong_entries (types all) (once label_of [] (typed all))) f c) [
    | inl d ↦ again_found f d
    | inr d ↦ wrong_found f d
  ]

  -- ---- each of them

  module _ (before : List Lined) (n : ℕ) (l : Line) (after : List Lined) (is : all ≡ before ++ (n, l) ∷ after) (e : TypeEntry) (says : entry_on l ≡ Some e) where
    whole : typed all ≡ typed before ++ (n, e) ∷ lined saying (next n l (layers before)) after
    whole =
        typed_lined unit_alone all ∙ (ap (lined saying unit_alone) is ∙ (lined_middle saying unit_alone before n l after e says
        ∙ ap (λ xs. xs ++ (n, e) ∷ lined saying (next n l (layers before)) after) (sym (typed_lined unit_alone before))))

    pub again_has : Contains (map (λ e. e.label) (types before)) e.label → Contains (table_faults (types all) (typed all)) (bad_at n)
    again_has c =
        let names : map (λ e. e.label) (types before) ≡ labels label_of (typed before) =
        ap (map label_of) (types_typed before) ∙ sym (map_twice label_of (λ (x : ℕ × TypeEntry). x.1) (typed before)) in
        let among : Contains (labels label_of (typed before)) e.label = subst (λ (ls : List ℕ). Contains ls e.label) names c in
        Contains-append_left (again label_of [] (typed all)) (wrong_entries (types all) (once label_of [] (typed all))) (bad_at n)
        (subst (λ (es : List (ℕ × TypeEntry)). Contains (again label_of [] es) (bad_at n)) (sym whole)
        (repeated label_of (typed before) (n, e) (lined saying (next n l (layers before)) after) [] (inr among)))

    pub record IsTabled : Type 0 where
      pub kind : Kind
      pub low : rank kind ≤ rank Unknown
      pub found : Contains (table_faults (types all) (typed all)) (record { line = n; kind = kind })

    pub wrong_has : ¬ HasTypes (types all) (kind_at e.code) e.first e.second → IsTabled
    wrong_has none =
        let there : Contains (typed all) (n, e) =
        subst (λ (es : List (ℕ × TypeEntry)). Contains es (n, e)) (sym whole) (contains_middle (typed before) (n, e) (lined saying (next n l (layers before)) after)) in
        elim (once_or_again label_of [] (typed all) (n, e) there) [
          | inl c ↦ record {
            kind = Unknown;
            low = omega arith;
            found = Contains-append_right (again label_of [] (typed all)) (wrong_entries (types all) (once label_of [] (typed all))) (record { line = n; kind = Unknown })
                (wrong_entry_has (types all) (once label_of [] (typed all)) (n, e) Unknown c (missing_if (types all) e (parts_there (types all) (kind_at e.code) e.first e.second) refl none));
          }
          | inr c ↦ record {
            kind = Bad;
            low = omega arith;
            found = Contains-append_left (again label_of [] (typed all)) (wrong_entries (types all) (once label_of [] (typed all))) (bad_at n) c;
          }
        ]
