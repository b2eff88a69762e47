-- What the numbers of sorts, types and lists of types lead to.
use Rattle.std.specs.Prelude.{ℕ, ◌≤◌, zero, suc, Bool, false, ◌==◌, List, AllPairs, Option, Some, None, find}
use Rattle.if1_graph.specs.declared.graph.Edge.{Edge}
use Rattle.if1_graph.specs.Tables.{◌>>=◌, if_keyed}
use Rattle.if1_types.specs.declared.forms.SortForm.{SortForm}
use Rattle.if1_types.specs.declared.forms.SortForm.TheVariants as sort
use Rattle.if1_types.specs.declared.forms.TyForm.{TyForm}
use Rattle.if1_types.specs.declared.forms.TyForm.TheVariants as form
use Rattle.if1_fits.specs.declared.kind.Kind.{Kind}
use Rattle.if1_fits.specs.declared.kind.Kind.TheVariants as kind
use Rattle.if1_types.specs.Shapes.{Key}
use Rattle.if1_types.specs.Tables.{number_at}
use Rattle.if1_types.specs.Forms.{sort_form_at, ty_form_at}
use Rattle.if1_types.specs.Skips.{member_at}

-- ---- forms

abbrev pub value_in : SortForm → Option ℕ
value_in (sort.Value k) = Some k
value_in _ = None

abbrev pub many_in : SortForm → Option ℕ
many_in (sort.Multiple k) = Some k
many_in _ = None

abbrev pub arguments_in : SortForm → Option ℕ
arguments_in (sort.Function a r) = Some a
arguments_in _ = None

abbrev pub results_in : SortForm → Option ℕ
results_in (sort.Function a r) = Some r
results_in _ = None

abbrev pub array_in : TyForm → Option ℕ
array_in (form.Array k) = Some k
array_in _ = None

abbrev pub sequence_in : TyForm → Option ℕ
sequence_in (form.Array k) = Some k
sequence_in (form.Stream k) = Some k
sequence_in _ = None

abbrev pub fields_in : TyForm → Option ℕ
fields_in (form.Record l) = Some l
fields_in _ = None

abbrev pub tags_in : TyForm → Option ℕ
tags_in (form.Union l) = Some l
tags_in _ = None

abbrev pub kind_in : TyForm → Kind
kind_in form.Nothing = kind.Nothing
kind_in form.Boolean = kind.Boolean
kind_in form.Character = kind.Character
kind_in form.Integer = kind.Integer
kind_in form.Null = kind.Null
kind_in (form.Array k) = kind.Array
kind_in (form.Stream k) = kind.Stream
kind_in (form.Record l) = kind.Record
kind_in (form.Union l) = kind.Union

-- a number for each kind, to tell them apart
abbrev pub kind_number : Kind → ℕ
kind_number kind.Boolean = 0
kind_number kind.Character = 1
kind_number kind.Integer = 2
kind_number kind.Null = 3
kind_number kind.Array = 4
kind_number kind.Stream = 5
kind_number kind.Record = 6
kind_number kind.Union = 7
kind_number kind.Nothing = 8

abbrev pub is_kind : Kind → Kind → Bool
is_kind a b = kind_number a == kind_number b

-- ---- numbers

module _ (ks : List Key) where
  -- the type of a value, and of the values of a multiple
  abbrev pub value_of : ℕ → Option ℕ
  value_of n = value_in (sort_form_at ks n)

  abbrev pub many_of : ℕ → Option ℕ
  many_of n = many_in (sort_form_at ks n)

  -- the elements of an array or a stream
  abbrev pub array_of : ℕ → Option ℕ
  array_of k = array_in (ty_form_at ks k)

  abbrev pub sequence_of : ℕ → Option ℕ
  sequence_of k = sequence_in (ty_form_at ks k)

  abbrev pub fields_of : ℕ → Option ℕ
  fields_of k = fields_in (ty_form_at ks k)

  abbrev pub tags_of : ℕ → Option ℕ
  tags_of k = tags_in (ty_form_at ks k)

  -- and where they are values
  abbrev pub array_at : ℕ → Option ℕ
  array_at n = value_of n >>= array_of

  abbrev pub sequence_at : ℕ → Option ℕ
  sequence_at n = value_of n >>= sequence_of

  abbrev pub fields_at : ℕ → Option ℕ
  fields_at n = value_of n >>= fields_of

  -- the kind of a type, if there is one
  abbrev pub kind_or : Option ℕ → Kind
  kind_or None = kind.Nothing
  kind_or (Some k) = kind_in (ty_form_at ks k)

  -- a value, or the values of a multiple, have a type of this kind
  abbrev pub value_is : ℕ → Kind → Bool
  value_is n k = is_kind (kind_or (value_of n)) k

  abbrev pub many_is : ℕ → Kind → Bool
  many_is n k = is_kind (kind_or (many_of n)) k

  -- the type at a place of a list, from 0
  abbrev pub listed : ℕ → ℕ → Option ℕ
  listed l i = member_at ks l i

  -- and at a port, from 1
  abbrev pub listed_at : Option ℕ → ℕ → Option ℕ
  listed_at l zero = None
  listed_at l (suc i) = l >>= λ l. listed l i

-- two numbers, where both are there, are equal
abbrev pub are_same : Option ℕ → Option ℕ → Bool
are_same (Some a) (Some b) = a == b
are_same _ _ = false

-- the number of what the edge into a port carries, 0 where nothing is carried
abbrev pub number_of : List ℕ → List ℕ → Option Edge → ℕ
number_of ls ns None = 0
number_of ls ns (Some e) = number_at ls ns e.ty

abbrev pub carried_at : List ℕ → List ℕ → List Edge → ℕ → ℕ
carried_at ls ns es port = number_of ls ns (find (λ e. e.port == port) es)

-- ports do not fall
abbrev pub AreUp : List Edge → Type 0
AreUp es = AllPairs (λ e f. e.port ≤ f.port) es

-- the edge, where it leads into this port
abbrev pub with_port : ℕ → Option Edge → Option Edge
with_port port m = m >>= if_keyed (λ e. e.port) port
