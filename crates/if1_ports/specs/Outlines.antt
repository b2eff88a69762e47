-- What ports depend on of a type: its kind, and how many members it has.
use Rattle.std.specs.Prelude.{ℕ, ◌==◌, Bool, true, false, List, [], ◌∷◌, length, Option, Some, None, if◌then◌else◌}
use Rattle.flow_value.specs.declared.ty.Ty.{Ty}
use Rattle.flow_value.specs.declared.ty.Ty.TheOpen.{Ty-F}
use Rattle.flow_value.specs.declared.ty.Ty.TheViews.{out-Ty}
use Rattle.if1_graph.specs.Types.{Sort, Plain, Many}
use Rattle.if1_graph.specs.Types as types
use Rattle.if1_ports.specs.declared.outline.Outline.{Outline}
use Rattle.if1_ports.specs.declared.rows.Outlines.{Outlines}
use Rattle.if1_ports.specs.declared.outline.Outline.TheVariants.{Nothing, Integer, Stream, Record, Union, Function, Other}

abbrev pub ty_outline : Ty-F Ty → Outline
ty_outline Ty-F.Int = Integer
ty_outline (Ty-F.Stream t) = Stream
ty_outline (Ty-F.Rec fs) = Record (length fs)
ty_outline (Ty-F.Uni ts) = Union (length ts)
ty_outline _ = Other

abbrev pub outline_of : Option Sort → Outline
outline_of None = Nothing
outline_of (Some (Plain t)) = ty_outline (out-Ty t)
outline_of (Some (Many t)) = Other
outline_of (Some (types.Function args rs)) = Function (length args) (length rs)

-- ---- what it tells

abbrev pub arguments_in : Outline → Option ℕ
arguments_in (Function args rs) = Some args
arguments_in _ = None

abbrev pub results_in : Outline → Option ℕ
results_in (Function args rs) = Some rs
results_in _ = None

abbrev pub fields_in : Outline → Option ℕ
fields_in (Record n) = Some n
fields_in _ = None

abbrev pub tags_in : Outline → Option ℕ
tags_in (Union n) = Some n
tags_in _ = None

abbrev pub is_stream_outline : Outline → Bool
is_stream_outline Stream = true
is_stream_outline _ = false

abbrev pub is_integer_outline : Outline → Bool
is_integer_outline Integer = true
is_integer_outline _ = false

-- ---- a table

-- the row beside a label
abbrev pub outline_at : List ℕ → List Outline → ℕ → Outline
outline_at [] os l = Nothing
outline_at (x ∷ xs) [] l = Nothing
outline_at (x ∷ xs) (o ∷ os) l = if x == l then o else outline_at xs os l

abbrev pub types_in : Outlines → ℕ → Outline
types_in t = outline_at t.labels t.rows
