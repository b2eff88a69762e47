-- Which edges carry aggregates: arrays, streams, records and unions, and multiples of these.
use Rattle.std.specs.Prelude.{ℕ, List, Bool, true, false, Option, Some, None}
use Rattle.if1_graph.specs.declared.graph.TypeEntry.{TypeEntry}
use Rattle.if1_graph.specs.declared.kind.TypeKind.{TypeKind}
use Rattle.if1_graph.specs.declared.kind.TypeKind.TheVariants as kind
use Rattle.if1_graph.specs.Kinds.{kind_at}
use Rattle.if1_graph.specs.Tables.{◌>>=◌}
use Rattle.if1_graph.specs.Types.{entry_at}

-- values of this kind of type have parts
abbrev pub has_parts : Option TypeKind → Bool
has_parts (Some kind.Array) = true
has_parts (Some kind.Stream) = true
has_parts (Some kind.Record) = true
has_parts (Some kind.Union) = true
has_parts _ = false

abbrev pub kind_in : List TypeEntry → ℕ → Option TypeKind
kind_in ts l = entry_at ts l >>= λ e. kind_at e.code

abbrev pub is_carrying : List TypeEntry → TypeEntry → Option TypeKind → Bool
is_carrying ts e (Some kind.Multiple) = has_parts (kind_in ts e.first)
is_carrying ts e k = has_parts k

abbrev pub is_carried_by : List TypeEntry → Option TypeEntry → Bool
is_carried_by ts None = false
is_carried_by ts (Some e) = is_carrying ts e (kind_at e.code)

-- an aggregate is of the type of this label
abbrev pub is_aggregate : List TypeEntry → ℕ → Bool
is_aggregate ts l = is_carried_by ts (entry_at ts l)
