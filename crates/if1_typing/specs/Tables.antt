-- What the labels of a unit's types stand for, by number, and what its functions' types are.
use Rattle.std.specs.Prelude.{◌≡◌, ℕ, ◌==◌, Bool, true, false, List, Option, Some, None, bytes_eq}
use Rattle.if1_graph.specs.declared.graph.Graph.{Graph}
use Rattle.if1_graph.specs.declared.graph.Graph.TheViews.{out-Graph}
use Rattle.if1_graph.specs.declared.graph.TypeEntry.{TypeEntry}
use Rattle.if1_graph.specs.declared.kind.TypeKind.{TypeKind}
use Rattle.if1_graph.specs.declared.kind.TypeKind.TheVariants as kind
use Rattle.if1_graph.specs.Tables.{◌>>=◌}
use Rattle.if1_graph.specs.Kinds.{kind_at}
use Rattle.if1_graph.specs.Types.{entry_at}
use Rattle.if1_graph.specs.Formed.{function_named}
use Rattle.indexmap.specs.IndexMap.{get_by}
use Rattle.if1_types.specs.Shapes.{Key}
use Rattle.if1_types.specs.Tables.{number_at, AreSorts}
use Rattle.if1_types.specs.Forms.{Stand, AreOnce, AreRead}
use Rattle.if1_typing.specs.declared.known.Known.{Known}

pub record Table : Type 0 where
  -- what the numbers stand for, and the number of each label
  pub keys : List Key
  pub labels : List ℕ
  pub numbers : List ℕ
  -- the number of the type of each named function, 0 where there is none
  pub callees : List ℕ → ℕ
  -- which labels are those of function types
  pub is_function : ℕ → Bool

abbrev pub number : Table → ℕ → ℕ
number t l = number_at t.labels t.numbers l

abbrev pub or_zero : Option ℕ → ℕ
or_zero None = 0
or_zero (Some n) = n

-- the table that the code has
abbrev pub table_of : Known → Table
table_of k = record {
  keys = k.sorts.shapes;
  labels = k.sorts.labels;
  numbers = k.sorts.numbers;
  callees = λ text. or_zero (get_by (λ key. bytes_eq text key.items) k.callees);
  is_function = λ l. number_at k.sorts.labels k.codes l == 3;
}

-- the number of a function's type
abbrev pub type_number : (ℕ → ℕ) → Option Graph → ℕ
type_number n None = 0
type_number n (Some g) = n (out-Graph g).fun

abbrev pub is_function_kind : Option TypeKind → Bool
is_function_kind (Some kind.Function) = true
is_function_kind _ = false

abbrev pub kind_in : List TypeEntry → ℕ → Option TypeKind
kind_in ts l = entry_at ts l >>= λ e. kind_at e.code

-- a table is that of these types and functions
pub record Tells (ts : List TypeEntry) (gs : List Graph) (t : Table) : Type 0 where
  pub sorts : AreSorts ts t.labels t.numbers
  pub stand : Stand ts t.keys t.labels t.numbers
  pub once : AreOnce t.keys
  pub read : AreRead t.keys
  pub callees : (text : List ℕ) → t.callees text ≡ type_number (number t) (function_named gs text)
  pub functions : (l : ℕ) → t.is_function l ≡ is_function_kind (kind_in ts l)
