-- The faults of a table of types.
use Rattle.std.proofs.Common.{◌≡◌, ℕ, zero, suc, ◌+◌, ◌<◌, ◌≤◌, Bool, true, false, cond, List, [], ◌∷◌, ◌++◌, map, take, length, get_or, slice_index, Option, Some, None, refl, sym, ap, subst, ◌∙◌, arith, append_assoc, append-nil, if◌then◌else◌, ◌&&◌, ◌||◌}
use Rattle.std.specs.Prelude.{◌==◌, find, filter, option_map, is_some, All}
use Rattle.std.specs.List.Sorted.{IsNonDecreasingBy}
use Rattle.std.proofs.lemmas.List.{take_more, take_all, get_or-map, length-map, get_or_default}
use Rattle.if1_graph.specs.declared.graph.TypeEntry.{TypeEntry}
use Rattle.if1_graph.specs.declared.kind.TypeKind.{TypeKind}
use Rattle.if1_graph.specs.declared.kind.TypeKind.TheVariants as kind
use Rattle.if1_graph.specs.Kinds.{kind_at}
use Rattle.if1_graph.specs.Types.{entry_at}
use Rattle.if1_read.specs.declared.fault.Kind.{Kind}
use Rattle.if1_read.specs.declared.fault.Kind.TheVariants.{Unknown}
use Rattle.if1_read.specs.declared.fault.Fault.{Fault}
use Rattle.if1_read.specs.Entries.{entries_of, HasEntryTypes}
use Rattle.if1_read.specs.Least.{earlier, least, found, noted}
use Rattle.if1_read.specs.Pages.{again}
use Rattle.if1_read.specs.Rows.{is_type, parts_there, wrong_entry, wrong_entries, once, over, kept, table_faults}
use Rattle.if1_read.proofs.Firsts.{least_append, least_noted, first_then}
use Rattle.if1_read.proofs.Rowwise.{parts_say}
use Rattle.if1_read.proofs.Stably.{sorted_again, sorted_find, sorted_wrong}

abbrev label_of : TypeEntry → ℕ
label_of e = e.label

-- ---- one type after another

wrong_append : (ts : List TypeEntry) (xs ys : List (ℕ × TypeEntry)) → wrong_entries ts (xs ++ ys) ≡ wrong_entries ts xs ++ wrong_entries ts ys
wrong_append ts [] ys = refl
wrong_append ts (x ∷ xs) ys =
    ap (λ fs. noted x.0 (wrong_entry ts x.1) ++ fs) (wrong_append ts xs ys) ∙ sym (append_assoc (noted x.0 (wrong_entry ts x.1)) (wrong_entries ts xs) (wrong_entries ts ys))

pub looked_more : (ts : List TypeEntry) (es : List (ℕ × TypeEntry)) (lines : List ℕ) (o first : Option Fault) (p : ℕ) (e : TypeEntry) (k : Option Kind) → ts ≡ entries_of es →
    lines ≡ map (λ e. e.0) es → p < length ts → e ≡ get_or ts p e → k ≡ wrong_entry ts e → first ≡ earlier o (least (wrong_entries ts (take p es))) →
    earlier first (found (slice_index lines p) k) ≡ earlier o (least (wrong_entries ts (take (p + 1) es)))
looked_more ts es lines o first p e k is lines_are lt at k_is before =
    let short : p < length es = omega (arith, lt, ap length is, length-map es (λ (x : ℕ × TypeEntry). x.1)) in
    let x = get_or es p (0, e) in
    let line : slice_index lines p ≡ x.0 = ap (λ ls. slice_index ls p) lines_are ∙ get_or-map (λ (x : ℕ × TypeEntry). x.0) es p (0, e) 0 short in
    let entry : e ≡ x.1 = at ∙ (ap (λ xs. get_or xs p e) is ∙ get_or-map (λ (x : ℕ × TypeEntry). x.1) es p (0, e) e short) in
    let noted_is : found (slice_index lines p) k ≡ least (noted x.0 (wrong_entry ts x.1)) =
    ap (λ (n : ℕ). found n k) line ∙ (ap (found x.0) (k_is ∙ ap (wrong_entry ts) entry) ∙ sym (least_noted x.0 (wrong_entry ts x.1))) in
    ap (earlier first) noted_is
    ∙ (ap (λ (f : Option Fault). earlier f (least (noted x.0 (wrong_entry ts x.1)))) before
    ∙ (first_then o (wrong_entries ts (take p es)) (noted x.0 (wrong_entry ts x.1))
    ∙ ap (λ fs. earlier o (least fs))
    (ap (λ fs. wrong_entries ts (take p es) ++ fs) (sym (append-nil (noted x.0 (wrong_entry ts x.1))))
    ∙ (sym (wrong_append ts (take p es) (x ∷ [])) ∙ ap (wrong_entries ts) (sym (take_more es p (0, e) short))))))

pub looked_all : (ts : List TypeEntry) (es : List (ℕ × TypeEntry)) (o first : Option Fault) (p : ℕ) → ts ≡ entries_of es → length ts ≤ p → first ≡ earlier o (least (wrong_entries ts (take p es))) →
    first ≡ earlier o (least (wrong_entries ts es))
looked_all ts es o first p is past h =
    h ∙ ap (λ es. earlier o (least (wrong_entries ts es))) (take_all p es (omega (arith, past, ap length is, length-map es (λ (x : ℕ × TypeEntry). x.1))))

-- ---- by the same types

module _ (ts us : List TypeEntry) (same : (l : ℕ) → entry_at ts l ≡ entry_at us l) where
  type_same : (l : ℕ) → is_type ts l ≡ is_type us l
  type_same l = ap (λ (o : Option TypeEntry). is_some o) (same l)

  parts_same : (k : Option TypeKind) (first second : ℕ) → parts_there ts k first second ≡ parts_there us k first second
  parts_same (Some kind.Basic) first second = refl
  parts_same (Some kind.Field) first second = λ i. type_same first i && ((second == 0) || type_same second i)
  parts_same (Some kind.Tag) first second = λ i. type_same first i && ((second == 0) || type_same second i)
  parts_same (Some kind.Tuple) first second = λ i. type_same first i && ((second == 0) || type_same second i)
  parts_same (Some kind.Function) first second = λ i. ((first == 0) || type_same first i) && type_same second i
  parts_same (Some _) first second = type_same first
  parts_same None first second = refl

  wrong_same : (es : List (ℕ × TypeEntry)) → wrong_entries ts es ≡ wrong_entries us es
  wrong_same [] = refl
  wrong_same (e ∷ es) =
      ap (λ (b : Bool). noted e.0 (if b then None else Some Unknown) ++ wrong_entries ts es) (parts_same (kind_at e.1.code) e.1.first e.1.second)
      ∙ ap (λ fs. noted e.0 (wrong_entry us e.1) ++ fs) (wrong_same es)

-- ---- the whole table

map_if : (b : Bool) (x : ℕ × TypeEntry) (o : Option (ℕ × TypeEntry)) (p : Option TypeEntry) → p ≡ option_map (λ x. x.1) o → cond b (Some x.1) p ≡ option_map (λ x. x.1) (cond b (Some x) o)
map_if true x o p e = refl
map_if false x o p e = e

find_entries : (xs : List (ℕ × TypeEntry)) (l : ℕ) → entry_at (entries_of xs) l ≡ option_map (λ x. x.1) (find (λ x. x.1.label == l) xs)
find_entries [] l = refl
find_entries (x ∷ xs) l = map_if (x.1.label == l) x (find (λ x. x.1.label == l) xs) (entry_at (entries_of xs) l) (find_entries xs l)

module _ (es ys : List (ℕ × TypeEntry)) (same : (l : ℕ) → filter (λ e. e.1.label == l) ys ≡ filter (λ e. e.1.label == l) es) (up : IsNonDecreasingBy (λ (e : ℕ × TypeEntry). e.1.label) ys)
    (ts : List TypeEntry) (is : ts ≡ entries_of (kept label_of None ys)) where
  pub table_first : (l : ℕ) → entry_at ts l ≡ entry_at (entries_of es) l
  table_first l =
      ap (λ (us : List TypeEntry). entry_at us l) is
      ∙ (find_entries (kept label_of None ys) l ∙ (ap (option_map (λ (x : ℕ × TypeEntry). x.1)) (sorted_find label_of es ys same up l) ∙ sym (find_entries es l)))

  pub table_found : (first o r : Option Fault) → o ≡ earlier first (least (over label_of None ys)) → r ≡ earlier o (least (wrong_entries ts (kept label_of None ys))) →
      r ≡ earlier first (least (table_faults (entries_of es) es))
  table_found first o r o_is r_is =
      r_is
      ∙ (ap (λ (x : Option Fault). earlier x (least (wrong_entries ts (kept label_of None ys)))) o_is
      ∙ (ap (λ (x : Option Fault). earlier (earlier first x) (least (wrong_entries ts (kept label_of None ys)))) (sorted_again label_of es ys same up)
      ∙ (ap (λ (x : Option Fault). earlier (earlier first (least (again label_of [] es))) x)
      (ap least (wrong_same ts (entries_of es) table_first (kept label_of None ys)) ∙ sorted_wrong (entries_of es) es ys same up)
      ∙ first_then first (again label_of [] es) (wrong_entries (entries_of es) (once label_of [] es)))))

right_if : (ts : List TypeEntry) (e : TypeEntry) (b : Bool) → parts_there ts (kind_at e.code) e.first e.second ≡ b → (if b then None else Some Unknown) ≡ None → HasEntryTypes ts e
right_if ts e true h n = parts_say ts (kind_at e.code) e.first e.second h
right_if ts e false h n = absurd cc

-- a type without a fault
pub right_entry : (ts : List TypeEntry) (e : TypeEntry) → wrong_entry ts e ≡ None → HasEntryTypes ts e
right_entry ts e n = right_if ts e (parts_there ts (kind_at e.code) e.first e.second) refl n

pub right_at : (ts xs : List TypeEntry) (p : ℕ) (e d : TypeEntry) (k : Option Kind) → xs ≡ ts → p < length ts → e ≡ get_or xs p e → k ≡ wrong_entry ts e → k ≡ None → HasEntryTypes ts (get_or ts p d)
right_at ts xs p e d k is lt at k_is none =
    subst (HasEntryTypes ts) (at ∙ (ap (λ ys. get_or ys p e) is ∙ get_or_default ts p e d lt)) (right_entry ts e (sym k_is ∙ none))
