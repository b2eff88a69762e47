-- What is known of a unit before its graphs are read: its types, which of them hold reals, and the names of its functions.
use Rattle.std.specs.Prelude.{◌≡◌, ℕ, Bool, true, false, List, bytes_eq, is_some, IsSome, Option, Some}
use Rattle.std.specs.List.{list_any}
use Rattle.std.specs.List.Sorted.{IsStrictlyIncreasing}
use Rattle.if1_graph.specs.declared.graph.Graph.{Graph}
use Rattle.if1_graph.specs.declared.graph.Node.{Node, out-Node}
use Rattle.if1_graph.specs.declared.graph.Edge.{Edge}
use Rattle.if1_graph.specs.declared.graph.Origin.{Origin}
use Rattle.if1_graph.specs.declared.graph.Origin.TheVariants.{Port, Lit}
use Rattle.if1_graph.specs.declared.graph.TypeEntry.{TypeEntry}
use Rattle.if1_graph.specs.declared.graph.Unit1.{Unit1}
use Rattle.if1_graph.specs.declared.kind.TypeKind.{TypeKind}
use Rattle.if1_graph.specs.declared.kind.Basic.{Basic}
use Rattle.if1_graph.specs.declared.op.Simple.{Simple}
use Rattle.if1_graph.specs.declared.row.Want.{Want}
use Rattle.if1_graph.specs.declared.row.Want.TheVariants as want
use Rattle.if1_graph.specs.Literals.{literal}
use Rattle.if1_graph.specs.Tables.{◌>>=◌}
use Rattle.if1_graph.specs.Ops.{simple_at}
use Rattle.if1_graph.specs.Rows.{operand_of}
use Rattle.if1_graph.specs.Kinds.{kind_at, basic_at}
use Rattle.if1_graph.specs.Types.{entry_at}
use Rattle.if1_graph.specs.Units.{node_at}
use Rattle.if1_graph.specs.Formed.{function_named, IsLiteralFor}
use Rattle.if1_graph.specs.Normal.{text_for, canonical, canonical_as}
use Rattle.if1_read.specs.declared.table.Table.{Table}
use Rattle.if1_read.specs.declared.judge.Known.{Known}
use Rattle.if1_read.specs.declared.judge.Judged.{Judged}
use Rattle.if1_read.specs.declared.judge.Judged.TheVariants.{Right, Wrong}
use Rattle.if1_read.specs.Marks.{labels_in, mark_at, AreMarks}

-- types by rising label, with their labels and marks
pub record IsTableSound (t : Table) : Type 0 where
  pub rising : IsStrictlyIncreasing (labels_in t.types)
  pub labels : t.labels ≡ labels_in t.types
  pub marks : AreMarks t.types t.reals

-- a type that is there and holds no reals
abbrev pub IsClear : Table → ℕ → Type 0
IsClear t l = mark_at (labels_in t.types) t.reals l ≡ Some false

-- these are the names of the functions
abbrev pub AreNamed : List (List ℕ) → List Graph → Type 0
AreNamed names gs = (t : List ℕ) → is_some (function_named gs t) ≡ list_any (λ n. bytes_eq n t) names

-- a unit with these types and functions of these names
pub record Fits (k : Known) (u : Unit1) : Type 0 where
  pub types : u.types ≡ k.table.types
  pub names : AreNamed k.names u.graphs

-- what a port of a simple node wants
abbrev pub want_from : Option Simple → ℕ → Option Want
want_from o port = o >>= λ op. operand_of op port >>= λ operand. Some operand.1

-- what a port of a simple node among these wants
abbrev pub want_in : List Node → ℕ → ℕ → Option Want
want_in ns l port = node_at ns l >>= λ n. simple_at (out-Node n).op >>= λ op. operand_of op port >>= λ operand. Some operand.1

abbrev pub IsLiteralAt : Known → Option Want → ℕ → List ℕ → Type 0
IsLiteralAt k w ty text =
    (gs : List Graph) → AreNamed k.names gs → (e : TypeEntry) → entry_at k.table.types ty ≡ Some e → IsLiteralFor gs w text (kind_at e.code) (basic_at e.first)

abbrev pub is_reduction : Option Want → Bool
is_reduction (Some want.Reduction) = true
is_reduction _ = false

-- where a name is known its text stays
abbrev pub IsIfKnown : Bool → List ℕ → Judged → Type 0
IsIfKnown known text (Right t) = (known ≡ true) × (t ≡ text)
IsIfKnown known text (Wrong kind) = Unit {0}

abbrev pub IsBasicJudged : Basic → List ℕ → Judged → Type 0
IsBasicJudged b text (Right t) = IsSome (literal b text) × (t ≡ text_for text (literal b text))
IsBasicJudged b text (Wrong kind) = Unit {0}

-- a literal by the want of its port and by its type
abbrev pub IsJudgedAs : List (List ℕ) → Option Want → List ℕ → Option TypeKind → Option Basic → Judged → Type 0
IsJudgedAs names w text k b (Right t) = ((gs : List Graph) → AreNamed names gs → IsLiteralFor gs w text k b) × (t ≡ canonical w k b text)
IsJudgedAs names w text k b (Wrong kind) = Unit {0}

-- a literal whose type is clear is one of it, and is spelled canonically
abbrev pub IsJudged : Known → Option Want → ℕ → List ℕ → Judged → Type 0
IsJudged k w ty text (Right t) = IsClear k.table ty → IsLiteralAt k w ty text × (t ≡ canonical_as w (entry_at k.table.types ty) text)
IsJudged k w ty text (Wrong kind) = Unit {0}

abbrev pub canonical_from : Known → List Node → Edge → Origin → Origin
canonical_from k ns e (Port node port) = Port node port
canonical_from k ns e (Lit text) = Lit (canonical_as (want_in ns e.node e.port) (entry_at k.table.types e.ty) text)

abbrev pub IsLiteralFrom : Known → List Node → Edge → Origin → Type 0
IsLiteralFrom k ns e (Port node port) = Unit {0}
IsLiteralFrom k ns e (Lit text) = IsLiteralAt k (want_in ns e.node e.port) e.ty text

-- the second edge is the first one with its literal, which is one of its type, in canonical spelling
abbrev pub IsCanonical : Known → List Node → Edge → Edge → Type 0
IsCanonical k ns e f = IsClear k.table e.ty → IsLiteralFrom k ns e e.from × (f ≡ record e { from = canonical_from k ns e e.from })
