-- What is known of rows without a fault before their graphs are read: the table of their types, and the names of their functions.
use Rattle.std.proofs.Common.{◌≡◌, ℕ, Bool, true, false, true≢false, if◌then◌else◌, List, [], ◌∷◌, map, Option, Some, None, IsSome, inl, inr, bytes_eq, refl, sym, ap, subst, ◌∙◌}
use Rattle.std.specs.Prelude.{Contains}
use Rattle.std.specs.List.{list_any}
use Rattle.std.specs.List.Sorted.{IsStrictlyIncreasing}
use Rattle.std.proofs.lemmas.List.Sorted.{All-permutation}
use Rattle.if1_graph.specs.declared.graph.TypeEntry.{TypeEntry}
use Rattle.if1_graph.specs.declared.kind.TypeKind.{TypeKind}
use Rattle.if1_graph.specs.declared.kind.TypeKind.TheVariants as kind
use Rattle.if1_graph.specs.Kinds.{kind_at}
use Rattle.if1_graph.specs.Types.{entry_at}
use Rattle.if1_graph.specs.Formed.{IsType, IsTypeOrEnd, IsOnce}
use Rattle.if1_read.specs.declared.fault.Kind.{Kind}
use Rattle.if1_read.specs.declared.fault.Fault.{Fault}
use Rattle.if1_read.specs.declared.judge.Known.{Known}
use Rattle.if1_read.specs.declared.table.Table.{Table}
use Rattle.if1_read.specs.Entries.{HasTypes, HasEntryTypes, IsTableOf}
use Rattle.if1_read.specs.Faults.{functions, types}
use Rattle.if1_read.specs.Known.{IsTableSound}
use Rattle.if1_read.specs.Marks.{labels_in}
use Rattle.if1_read.specs.Pages.{is_among, again}
use Rattle.if1_read.specs.Rows.{typed, once, wrong_entry, wrong_entries, table_faults}
use Rattle.if1_read.specs.Ruled.{AreRules}
use Rattle.if1_read.specs.Rulings.{rules_of}
use Rattle.if1_read.specs.Sorting.{has_name}
use Rattle.if1_read.specs.Stands.{lines_of}
use Rattle.if1_read.proofs.Walking.{Lined, graph_lines}
use Rattle.if1_read.proofs.Same.{same_find, all_here, contains_none, contains_here, contains_later, contains_cases}
use Rattle.if1_read.proofs.Repeats.{bad_at, among_has}
use Rattle.if1_read.proofs.Tablewise.{types_typed, once_or_again, wrong_entry_has}
use Rattle.if1_read.proofs.Looking.{right_entry}
use Rattle.if1_read.proofs.TypeLabels.{table_made}
use Rattle.if1_read.proofs.Ruling.{rulings}
use Rattle.if1_read.proofs.Refusing.{rules_moved}
use Rattle.if1_read.proofs.Spots.{names_right}
use Rattle.if1_given.proofs.Sorting.{sorted, stays, arranged, strictly}
use Rattle.if1_given.proofs.Marks.{Marked, marks_of}
use Rattle.if1_given.proofs.Clean.{no_first, no_second, from_list}

-- ---- numbers that none repeats

module _ {A : Type 0} (f : A → ℕ) where
  abbrev numbers : List (ℕ × A) → List ℕ
  numbers xs = map (λ x. f x.1) xs

  not_again : (b : Bool) (seen : List ℕ) (x : ℕ × A) (xs : List (ℕ × A)) → (if b then bad_at x.0 ∷ again f seen xs else again f (f x.1 ∷ seen) xs) ≡ [] →
      (b ≡ false) × (again f (f x.1 ∷ seen) xs ≡ [])
  not_again true seen x xs e = absurd cc
  not_again false seen x xs e = (refl, e)

  not_seen : (seen : List ℕ) (xs : List (ℕ × A)) → again f seen xs ≡ [] → (l : ℕ) → Contains seen l → ¬ Contains (numbers xs) l
  not_seen seen [] e l c d = contains_none l d
  not_seen seen (x ∷ xs) e l c d =
      let rest = not_again (is_among (f x.1) seen) seen x xs e in
      elim (contains_cases (f x.1) (numbers xs) l d) [
        | inl same ↦ true≢false (sym (among_has (f x.1) seen (subst (λ (m : ℕ). Contains seen m) (sym same) c)) ∙ rest.0)
        | inr later ↦ not_seen (f x.1 ∷ seen) xs rest.1 l (contains_later (f x.1) seen l c) later
      ]

  pub once_each : (seen : List ℕ) (xs : List (ℕ × A)) → again f seen xs ≡ [] → IsOnce (numbers xs)
  once_each seen [] e = tt
  once_each seen (x ∷ xs) e =
      let rest = not_again (is_among (f x.1) seen) seen x xs e in
      (not_seen (f x.1 ∷ seen) xs rest.1 (f x.1) (contains_here (f x.1) seen), once_each (f x.1 ∷ seen) xs rest.1)

-- ---- types

module _ (ts us : List TypeEntry) (same : (l : ℕ) → entry_at ts l ≡ entry_at us l) where
  type_moved : (l : ℕ) → IsType ts l → IsType us l
  type_moved l h = subst IsSome (same l) h

  end_moved : (l : ℕ) → IsTypeOrEnd ts l → IsTypeOrEnd us l
  end_moved l (inl e) = inl e
  end_moved l (inr h) = inr (type_moved l h)

  types_moved : (k : Option TypeKind) (first second : ℕ) → HasTypes ts k first second → HasTypes us k first second
  types_moved (Some kind.Basic) first second h = tt
  types_moved (Some kind.Field) first second h = (type_moved first h.0, end_moved second h.1)
  types_moved (Some kind.Tag) first second h = (type_moved first h.0, end_moved second h.1)
  types_moved (Some kind.Tuple) first second h = (type_moved first h.0, end_moved second h.1)
  types_moved (Some kind.Function) first second h = (end_moved first h.0, type_moved second h.1)
  types_moved (Some _) first second h = type_moved first h
  types_moved None first second h = h

abbrev pub label : TypeEntry → ℕ
label e = e.label

map_twice : (xs : List (ℕ × TypeEntry)) → map (λ x. x.1.label) xs ≡ map label (map (λ x. x.1) xs)
map_twice [] = refl
map_twice (x ∷ xs) = ap (λ (ns : List ℕ). x.1.label ∷ ns) (map_twice xs)

module _ (all : List Lined) (clean : table_faults (types all) (typed all) ≡ []) where
  abbrev pub ordered : List TypeEntry
  ordered = sorted label (types all)

  none_twice : again label [] (typed all) ≡ []
  none_twice = no_first (again label [] (typed all)) (wrong_entries (types all) (once label [] (typed all))) clean

  none_wrong : wrong_entries (types all) (once label [] (typed all)) ≡ []
  none_wrong = no_second (again label [] (typed all)) (wrong_entries (types all) (once label [] (typed all))) clean

  labels_once : IsOnce (map label (types all))
  labels_once =
      subst (λ ts. IsOnce (map label ts)) (sym (types_typed all)) (subst IsOnce (map_twice (typed all)) (once_each label [] (typed all) none_twice))

  rising : IsStrictlyIncreasing (labels_in ordered)
  rising = strictly label (types all) labels_once

  pub entries_same : (l : ℕ) → entry_at ordered l ≡ entry_at (types all) l
  entries_same l = same_find label ordered (types all) (λ l. stays label (types all) l) l

  not_wrong : (x : ℕ × TypeEntry) → Contains (typed all) x → wrong_entry (types all) x.1 ≡ None
  not_wrong x c = elim (once_or_again label [] (typed all) x c) [
    | inl here ↦ by here (wrong_entry (types all) x.1) refl
    | inr twice ↦ absurd (contains_none (bad_at x.0) (subst (λ fs. Contains fs (bad_at x.0)) none_twice twice))
  ]
    where
      by : Contains (once label [] (typed all)) x → (o : Option Kind) → wrong_entry (types all) x.1 ≡ o → wrong_entry (types all) x.1 ≡ None
      by here None e = e
      by here (Some k) e =
          let f : Fault = record { line = x.0; kind = k } in
          absurd (contains_none f (subst (λ fs. Contains fs f) none_wrong (wrong_entry_has (types all) (once label [] (typed all)) x k here e)))

  entry_right : (e : TypeEntry) → Contains (types all) e → HasEntryTypes ordered e
  entry_right e c =
      let r = from_list (λ x. x.1) (typed all) e (subst (λ ts. Contains ts e) (types_typed all) c) in
      subst (HasEntryTypes ordered) r.2
      (types_moved (types all) ordered (λ l. sym (entries_same l)) (kind_at r.0.1.code) r.0.1.first r.0.1.second (right_entry (types all) r.0.1 (not_wrong r.0 r.1)))

  no_type : TypeEntry
  no_type = record { label = 0; code = 0; first = 0; second = 0; name = [] }

  pub marked : Marked ordered
  marked = marks_of ordered rising no_type

  abbrev pub table : Table
  table = record { types = ordered; labels = labels_in ordered; reals = marked.marks }

  pub table_sound : IsTableSound table
  table_sound = record { rising = rising; labels = refl; marks = marked.are }

  pub table_is : IsTableOf table (types all)
  table_is =
      let a = arranged label (types all) in
      table_made table (types all) ordered a refl
      (All-permutation (HasEntryTypes ordered) (types all) ordered a.these (all_here (HasEntryTypes ordered) (types all) entry_right))

  -- ---- what is known

  abbrev pub known : Known
  known = record { table = table; names = functions all }

  pub names_are : (t : List ℕ) → list_any (λ n. bytes_eq n t) known.names ≡ has_name t (lines_of (graph_lines all))
  names_are t = sym (names_right t all)

  pub rules_are : AreRules (types all) (functions all) (rules_of known)
  rules_are =
      rules_moved ordered (types all) (functions all) (functions all) (rules_of known) entries_same (λ t. refl) (rulings known table_sound marked.exact)
