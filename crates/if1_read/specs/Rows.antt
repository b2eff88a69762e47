-- What is found of the lines of a text: lines that do not read, types, and graphs.
use Rattle.std.specs.Prelude.{ℕ, suc, nat_le, Bool, true, false, ◌&&◌, ◌||◌, ◌==◌, List, [], ◌∷◌, ◌++◌, filter, is_some, Option, Some, None, if◌then◌else◌}
use Rattle.if1_graph.specs.declared.line.Line.{Line}
use Rattle.if1_graph.specs.declared.line.Line.TheVariants as line
use Rattle.if1_graph.specs.declared.graph.TypeEntry.{TypeEntry}
use Rattle.if1_graph.specs.declared.kind.TypeKind.{TypeKind}
use Rattle.if1_graph.specs.declared.kind.TypeKind.TheVariants as kind
use Rattle.if1_graph.specs.Kinds.{kind_at}
use Rattle.if1_graph.specs.Types.{entry_at}
use Rattle.if1_graph.specs.Formed.{most}
use Rattle.if1_graph.specs.Reads.{is_of_graph}
use Rattle.if1_read.specs.declared.fault.Kind.{Kind}
use Rattle.if1_read.specs.declared.fault.Kind.TheVariants.{Bad, Unknown, TooMany}
use Rattle.if1_read.specs.declared.fault.Fault.{Fault}
use Rattle.if1_read.specs.Faults.{numbered, types, with_some}
use Rattle.if1_read.specs.Least.{noted}
use Rattle.if1_read.specs.Pages.{is_among, again, Rules, run_faults}

-- ---- lines that do not read, and more types than there may be

-- a type behind so many
abbrev pub many_types : ℕ → Option Kind
many_types before = if nat_le most before then Some TooMany else None

-- a `}` line that has no label does not read
abbrev pub wrong_label : ℕ → Option Kind
wrong_label label = if label == 0 then Some Bad else None

-- from the line of this number on, behind so many types
abbrev pub row_faults : ℕ → ℕ → List (Option Line) → List Fault
row_faults n count [] = []
row_faults n count (None ∷ rows) = record { line = n; kind = Bad } ∷ row_faults (suc n) count rows
row_faults n count (Some (line.Entry label code first second name) ∷ rows) = noted n (many_types count) ++ row_faults (suc n) (suc count) rows
row_faults n count (Some (line.Close label op graphs assoc before name) ∷ rows) = noted n (wrong_label label) ++ row_faults (suc n) count rows
row_faults n count (Some _ ∷ rows) = row_faults (suc n) count rows

-- ---- types

abbrev pub entry_on : Line → Option TypeEntry
entry_on (line.Entry label code first second name) = Some (record { label = label; code = code; first = first; second = second; name = name })
entry_on _ = None

abbrev pub by_line : {A : Type 0} → ℕ → Option A → Option (ℕ × A)
by_line n None = None
by_line n (Some a) = Some (n, a)

-- the types with their lines
abbrev pub typed : List (ℕ × Line) → List (ℕ × TypeEntry)
typed [] = []
typed (l ∷ ls) = with_some (by_line l.0 (entry_on l.1)) (typed ls)

abbrev pub is_type : List TypeEntry → ℕ → Bool
is_type ts l = is_some (entry_at ts l)

abbrev pub is_type_or_end : List TypeEntry → ℕ → Bool
is_type_or_end ts l = (l == 0) || is_type ts l

-- whether the numbers of a type's line are labels of types where they have to be
abbrev pub parts_there : List TypeEntry → Option TypeKind → ℕ → ℕ → Bool
parts_there ts (Some kind.Basic) first second = true
parts_there ts (Some kind.Field) first second = is_type ts first && is_type_or_end ts second
parts_there ts (Some kind.Tag) first second = is_type ts first && is_type_or_end ts second
parts_there ts (Some kind.Tuple) first second = is_type ts first && is_type_or_end ts second
parts_there ts (Some kind.Function) first second = is_type_or_end ts first && is_type ts second
parts_there ts (Some _) first second = is_type ts first
parts_there ts None first second = false

abbrev pub wrong_entry : List TypeEntry → TypeEntry → Option Kind
wrong_entry ts e = if parts_there ts (kind_at e.code) e.first e.second then None else Some Unknown

abbrev pub wrong_entries : List TypeEntry → List (ℕ × TypeEntry) → List Fault
wrong_entries ts [] = []
wrong_entries ts (e ∷ es) = noted e.0 (wrong_entry ts e.1) ++ wrong_entries ts es

-- the first of each label
abbrev pub once : {A : Type 0} → (A → ℕ) → List ℕ → List (ℕ × A) → List (ℕ × A)
once f seen [] = []
once f seen (x ∷ xs) = if is_among (f x.1) seen then once f seen xs else x ∷ once f (f x.1 ∷ seen) xs

abbrev pub table_faults : List TypeEntry → List (ℕ × TypeEntry) → List Fault
table_faults ts es = again (λ e. e.label) [] es ++ wrong_entries ts (once (λ e. e.label) [] es)

-- ---- all

abbrev pub all_faults : Rules → List (Option Line) → List Fault
all_faults r rows =
    row_faults 1 0 rows
    ++ (table_faults (types (numbered 1 rows)) (typed (numbered 1 rows))
    ++ run_faults r ((None, 0) ∷ []) (filter (λ l. is_of_graph l.1) (numbered 1 rows)))

-- ---- in a list that is sorted by labels

-- whether a label is not above the last one, if there is one
abbrev pub is_past : Option ℕ → ℕ → Bool
is_past None l = false
is_past (Some last) l = nat_le l last

-- labels that stand a second time, behind a label
abbrev pub over : {A : Type 0} → (A → ℕ) → Option ℕ → List (ℕ × A) → List Fault
over f last [] = []
over f last (x ∷ xs) = if is_past last (f x.1) then record { line = x.0; kind = Bad } ∷ over f last xs else over f (Some (f x.1)) xs

-- the first of each label
abbrev pub kept : {A : Type 0} → (A → ℕ) → Option ℕ → List (ℕ × A) → List (ℕ × A)
kept f last [] = []
kept f last (x ∷ xs) = if is_past last (f x.1) then kept f last xs else x ∷ kept f (Some (f x.1)) xs

-- the last label
abbrev pub last_of : {A : Type 0} → (A → ℕ) → Option ℕ → List (ℕ × A) → Option ℕ
last_of f last [] = last
last_of f last (x ∷ xs) = if is_past last (f x.1) then last_of f last xs else last_of f (Some (f x.1)) xs
