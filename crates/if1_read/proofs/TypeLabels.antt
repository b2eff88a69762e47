-- Labels of types in a table.
use Rattle.std.proofs.Common.{◌≡◌, ◌↔◌, not, Option, cond, ℕ, ◌<◌, Bool, true, false, List, [], ◌∷◌, zero, suc, length, Some, Err, slice_get, slice_index, refl, sym, ap, subst, ◌∙◌, arith}
use Rattle.std.specs.Prelude.{◌==◌, is_some, filter, All}
use Rattle.std.specs.Ordering.{nat_cmp}
use Rattle.std.specs.List.Sorted.{IsStrictlyIncreasing, IsPermutation, IsBinarySearchResult}
use Rattle.std.proofs.lemmas.List.{length-map}
use Rattle.if1_graph.specs.declared.graph.TypeEntry.{TypeEntry}
use Rattle.if1_graph.specs.Types.{entry_at}
use Rattle.if1_read.specs.declared.table.Table.{Table}
use Rattle.if1_read.specs.Marks.{labels_in, mark_at, is_set}
use Rattle.if1_read.specs.Known.{IsTableSound, IsClear}
use Rattle.if1_read.specs.Entries.{HasEntryTypes, IsTableOf}
use Rattle.if1_read.specs.Arranged.{IsArranged}
use Rattle.if1_read.proofs.Marking.{clear_there}
use Rattle.if1_read.proofs.Labels.{found_by, away_by}

some_here : (ts : List TypeEntry) (k : ℕ) → k < length ts → true ≡ is_some (slice_get ts k)
some_here [] k h = absurd (omega (arith, h))
some_here (t ∷ ts) zero h = refl
some_here (t ∷ ts) (suc k) h = some_here ts k (omega (arith, h))

pub type_found : (ls : List ℕ) (ts : List TypeEntry) (k l : ℕ) → ls ≡ labels_in ts → IsStrictlyIncreasing ls → k < length ls → slice_index ls k ≡ l → true ≡ is_some (entry_at ts l)
type_found ls ts k l is up lt at =
    some_here ts k (omega (arith, lt, ap length is, length-map ts (λ e. e.label))) ∙ ap is_some (sym (found_by (λ e. e.label) ls ts k l is up lt at))

pub type_away : (ls : List ℕ) (ts : List TypeEntry) (l i : ℕ) → ls ≡ labels_in ts → IsStrictlyIncreasing ls → IsBinarySearchResult (λ y. nat_cmp y l) ls (Err i) → false ≡ is_some (entry_at ts l)
type_away ls ts l i is up away = ap is_some (sym (away_by (λ e. e.label) ls ts l i is up away))

clear_if : (b m : Bool) (e : TypeEntry) (o : Option TypeEntry) (p : Option Bool) → (is_some o ≡ true → is_set p ≡ false → p ≡ Some false) →
    is_some (cond b (Some e) o) ≡ true → is_set (cond b (Some m) p) ≡ false → cond b (Some m) p ≡ Some false
clear_if true m e o p h s f = ap Some f
clear_if false m e o p h s f = h s f

-- the label of a type whose mark is not set
pub clear_here : (ts : List TypeEntry) (ms : List Bool) (l : ℕ) → length ms ≡ length ts → is_some (entry_at ts l) ≡ true → is_set (mark_at (labels_in ts) ms l) ≡ false →
    mark_at (labels_in ts) ms l ≡ Some false
clear_here [] ms l fit s f = absurd cc
clear_here (e ∷ ts) [] l fit s f = absurd (omega (arith, fit))
clear_here (e ∷ ts) (m ∷ ms) l fit s f =
    clear_if (e.label == l) m e (entry_at ts l) (mark_at (labels_in ts) ms l) (clear_here ts ms l (omega (arith, fit))) s f

-- ---- what the functions of a table say

pub there_by : (t : Table) (ls : List ℕ) (l : ℕ) (b : Bool) → IsTableSound t → ls ≡ t.labels →
    ((ts : List TypeEntry) → ls ≡ labels_in ts → IsStrictlyIncreasing ls → b ≡ is_some (entry_at ts l)) → b ≡ is_some (entry_at t.types l)
there_by t ls l b sound is says = says t.types (is ∙ sound.labels) (subst IsStrictlyIncreasing (sym (is ∙ sound.labels)) sound.rising)

pub mark_by : (t : Table) (ls : List ℕ) (ms : List Bool) (l : ℕ) (m : Bool) → IsTableSound t → ls ≡ t.labels → ms ≡ t.reals →
    (IsStrictlyIncreasing ls → m ≡ is_set (mark_at ls ms l)) → m ≡ is_set (mark_at (labels_in t.types) t.reals l)
mark_by t ls ms l m sound is ms_is says =
    says (subst IsStrictlyIncreasing (sym (is ∙ sound.labels)) sound.rising)
    ∙ ap (λ (ls : List ℕ). is_set (mark_at ls ms l)) (is ∙ sound.labels)
    ∙ ap (λ (ms : List Bool). is_set (mark_at (labels_in t.types) ms l)) ms_is

not_set : (m : Bool) → not m ≡ true → m ≡ false
not_set true h = absurd cc
not_set false h = refl

pub clear_by : (t : Table) (l : ℕ) (b m : Bool) → IsTableSound t → b ≡ is_some (entry_at t.types l) → b ≡ true → m ≡ is_set (mark_at (labels_in t.types) t.reals l) →
    (not m ≡ true) ↔ IsClear t l
clear_by t l b m sound b_is there m_is = (
  λ h. clear_here t.types t.reals l sound.marks.fit (sym b_is ∙ there) (sym m_is ∙ not_set m h),
  λ clear. ap not (m_is ∙ ap is_set clear),
)

pub not_clear_by : (t : Table) (l : ℕ) (b : Bool) → b ≡ is_some (entry_at t.types l) → b ≡ false → (false ≡ true) ↔ IsClear t l
not_clear_by t l b b_is none = (λ h. absurd cc, λ clear. sym none ∙ b_is ∙ clear_there t l clear)

-- ---- a table of types in order

pub table_made : (t : Table) (es fs : List TypeEntry) → IsArranged (λ e. e.label) es fs → t.types ≡ fs → All (HasEntryTypes t.types) t.types → IsTableOf t es
table_made t es fs arranged is types = record {
  these = subst (IsPermutation es) (sym is) arranged.these;
  same = λ l. ap (filter (λ e. e.label == l)) is ∙ arranged.same l;
  types = types;
}
