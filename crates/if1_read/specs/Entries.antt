-- Types as their lines give them, before they stand in the table.
use Rattle.std.specs.Prelude.{◌≡◌, ℕ, ◌==◌, List, map, filter, Option, Some, None, All}
use Rattle.std.specs.List.Sorted.{IsPermutation}
use Rattle.if1_graph.specs.declared.graph.TypeEntry.{TypeEntry}
use Rattle.if1_graph.specs.declared.kind.TypeKind.{TypeKind}
use Rattle.if1_graph.specs.declared.kind.TypeKind.TheVariants as kind
use Rattle.if1_graph.specs.Kinds.{kind_at}
use Rattle.if1_graph.specs.Formed.{IsType, IsTypeOrEnd}
use Rattle.if1_read.specs.declared.table.Table.{Table}

-- types without their lines
abbrev pub entries_of : List (ℕ × TypeEntry) → List TypeEntry
entries_of es = map (λ e. e.1) es

-- the numbers behind the code are labels of types where they have to be
abbrev pub HasTypes : List TypeEntry → Option TypeKind → ℕ → ℕ → Type 0
HasTypes ts (Some kind.Basic) first second = Unit {0}
HasTypes ts (Some kind.Field) first second = IsType ts first × IsTypeOrEnd ts second
HasTypes ts (Some kind.Tag) first second = IsType ts first × IsTypeOrEnd ts second
HasTypes ts (Some kind.Tuple) first second = IsType ts first × IsTypeOrEnd ts second
HasTypes ts (Some kind.Function) first second = IsTypeOrEnd ts first × IsType ts second
HasTypes ts (Some _) first second = IsType ts first
HasTypes ts None first second = ⊥

abbrev pub HasEntryTypes : List TypeEntry → TypeEntry → Type 0
HasEntryTypes ts e = HasTypes ts (kind_at e.code) e.first e.second

-- a table of these types, each of which has the types that it names
pub record IsTableOf (t : Table) (es : List TypeEntry) : Type 0 where
  pub these : IsPermutation es t.types
  pub same : (l : ℕ) → filter (λ e. e.label == l) t.types ≡ filter (λ e. e.label == l) es
  pub types : All (HasEntryTypes t.types) t.types
