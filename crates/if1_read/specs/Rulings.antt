-- What is wrong with types, with functions of other units and with literals, by the table of types and the names of the functions.
use Rattle.std.specs.Prelude.{ℕ, Bool, List, is_some, Option, Some, None, if◌then◌else◌}
use Rattle.if1_graph.specs.declared.graph.TypeEntry.{TypeEntry}
use Rattle.if1_graph.specs.declared.row.Want.{Want}
use Rattle.if1_graph.specs.Kinds.{kind_at, basic_at}
use Rattle.if1_graph.specs.Types.{entry_at}
use Rattle.if1_read.specs.declared.fault.Kind.{Kind}
use Rattle.if1_read.specs.declared.fault.Kind.TheVariants.{Unknown, Real}
use Rattle.if1_read.specs.declared.table.Table.{Table}
use Rattle.if1_read.specs.declared.judge.Known.{Known}
use Rattle.if1_read.specs.Marks.{is_marked}
use Rattle.if1_read.specs.Faults.{want_of, literal_fault}
use Rattle.if1_read.specs.Pages.{Lit, Rules}

-- no type has the label
abbrev pub type_absent : Table → ℕ → Option Kind
type_absent t ty = if is_some (entry_at t.types ty) then None else Some Unknown

-- or the type of the label holds reals
abbrev pub type_wrong : Table → ℕ → Option Kind
type_wrong t ty = if is_some (entry_at t.types ty) then (if is_marked t.types t.reals ty then Some Real else None) else Some Unknown

-- a literal of a type, where there is one
abbrev pub lit_fault : List (List ℕ) → Option Want → List ℕ → Option TypeEntry → Option Kind
lit_fault names w text None = None
lit_fault names w text (Some e) = literal_fault names w text (kind_at e.code) (basic_at e.first)

-- one whose type holds reals is not looked at
abbrev pub lit_wrong : Known → List (ℕ × ℕ) → Lit → Option Kind
lit_wrong k ns l =
    if is_marked k.table.types k.table.reals l.ty then None else lit_fault k.names (want_of ns l.node l.port) l.text (entry_at k.table.types l.ty)

abbrev pub rules_of : Known → Rules
rules_of k = record { type_wrong = type_wrong k.table; import_wrong = type_absent k.table; lit_wrong = lit_wrong k }
