-- Whether a type is one that the table of nodes wants, by numbers.
use Rattle.std.specs.Prelude.{◌≡◌, ℕ, zero, suc, Bool, true, false, ◌&&◌, ◌||◌, ◌==◌, List, Option, Some, None, is_some}
use Rattle.if1_graph.specs.declared.op.Reducer.{Reducer}
use Rattle.if1_graph.specs.declared.op.Reducer.TheVariants as reducer
use Rattle.if1_graph.specs.declared.row.Want.{Want}
use Rattle.if1_graph.specs.declared.row.Want.TheVariants as want
use Rattle.if1_graph.specs.Tables.{◌>>=◌}
use Rattle.if1_graph.specs.Types.{Sort}
use Rattle.if1_graph.specs.Typing.{Known}
use Rattle.if1_types.specs.declared.forms.SortForm.{SortForm}
use Rattle.if1_types.specs.declared.forms.SortForm.TheVariants as sort
use Rattle.if1_types.specs.declared.forms.TyForm.{TyForm}
use Rattle.if1_types.specs.declared.forms.TyForm.TheVariants as form
use Rattle.if1_types.specs.Shapes.{Key, tree_at, trees_in, members_in}
use Rattle.if1_types.specs.Forms.{IsSort, sort_form_at, ty_form_at, list_form_at}
use Rattle.if1_types.specs.Skips.{first_in, rest_in}
use Rattle.if1_fits.specs.declared.kind.Kind.{Kind}
use Rattle.if1_fits.specs.declared.kind.Kind.TheVariants as kind
use Rattle.if1_fits.specs.Views.{value_of, many_of, array_of, sequence_of, fields_of, kind_or, is_kind, value_is, many_is, listed_at, arguments_in, results_in, are_same}

-- a number stands for what is carried, and 0 for nothing
abbrev pub IsNumbered : List Key → Option Sort → ℕ → Type 0
IsNumbered ks None n = n ≡ 0
IsNumbered ks (Some s) n = IsSort ks n s

-- the elements of an array, a stream or a multiple
abbrev pub elements_in : List Key → SortForm → Option ℕ
elements_in ks (sort.Value k) = sequence_of ks k
elements_in ks (sort.Multiple k) = Some k
elements_in ks _ = None

abbrev pub is_reducible : Option Reducer → Kind → Bool
is_reducible (Some reducer.Catenate) k = is_kind k kind.Array || is_kind k kind.Stream
is_reducible (Some _) k = is_kind k kind.Integer
is_reducible None k = false

-- an array or stream, of what is carried, if anything is
abbrev pub is_sequence_of : List Key → Option ℕ → ℕ → Bool
is_sequence_of ks elements m = is_some elements && ((m == 0) || are_same elements (value_of ks m))

module _ (ks : List Key) (at : ℕ → ℕ) where
  -- the fields of a list have the types at ports from one on
  abbrev pub fields_fit : ℕ → ℕ → ℕ → Bool
  fields_fit zero l port = true
  fields_fit (suc more) l port =
      are_same (first_in (list_form_at ks l)) (value_of ks (at port))
      && elim (rest_in (list_form_at ks l)) [ None ↦ false | Some rest ↦ fields_fit more rest (suc port) ]

  -- one tag of a list has the type at its port
  abbrev pub some_tag_fits : ℕ → ℕ → ℕ → Bool
  some_tag_fits zero l port = false
  some_tag_fits (suc more) l port =
      are_same (first_in (list_form_at ks l)) (value_of ks (at port))
      || elim (rest_in (list_form_at ks l)) [ None ↦ false | Some rest ↦ some_tag_fits more rest (suc port) ]

  -- the tag at a port has the type of what is carried there
  abbrev pub tag_fits : ℕ → ℕ → Bool
  tag_fits l port = are_same (listed_at ks (Some l) port) (value_of ks (at port))

  abbrev pub is_built : TyForm → Bool
  is_built (form.Record l) = fields_fit (members_in (tree_at (trees_in ks) l)) l 1
  is_built (form.Union l) = some_tag_fits (members_in (tree_at (trees_in ks) l)) l 1
  is_built _ = false

  abbrev pub is_built_value : Option ℕ → Bool
  is_built_value None = false
  is_built_value (Some k) = is_built (ty_form_at ks k)

  abbrev pub fits_at : ℕ → Option Reducer → Want → ℕ → Bool
  fits_at callee reducer want.Integer n = value_is ks n kind.Integer
  fits_at callee reducer want.Boolean n = value_is ks n kind.Boolean
  fits_at callee reducer want.Character n = value_is ks n kind.Character
  fits_at callee reducer want.IntegerOrBoolean n = value_is ks n kind.Integer || value_is ks n kind.Boolean
  fits_at callee reducer want.IntegerOrCharacter n = value_is ks n kind.Integer || value_is ks n kind.Character
  fits_at callee reducer want.Discrete n = value_is ks n kind.Integer || (value_is ks n kind.Boolean || value_is ks n kind.Character)
  fits_at callee reducer want.Scalar n =
      value_is ks n kind.Integer
      || (value_is ks n kind.Boolean || (value_is ks n kind.Character || value_is ks n kind.Null))
  fits_at callee reducer want.Any n = is_some (value_of ks n)
  fits_at callee reducer want.Array n = value_is ks n kind.Array
  fits_at callee reducer want.Stream n = value_is ks n kind.Stream
  fits_at callee reducer want.Sequence n = value_is ks n kind.Array || value_is ks n kind.Stream
  fits_at callee reducer want.Record n = value_is ks n kind.Record
  fits_at callee reducer want.Multiple n = is_some (many_of ks n)
  fits_at callee reducer want.Integers n = many_is ks n kind.Integer
  fits_at callee reducer want.Booleans n = many_is ks n kind.Boolean
  fits_at callee reducer want.Reducible n = is_reducible reducer (kind_or ks (many_of ks n))
  fits_at callee reducer want.Function n = is_some (arguments_in (sort_form_at ks n)) && (callee == n)
  fits_at callee reducer want.Reduction n = value_is ks n kind.Integer
  fits_at callee reducer (want.Same port) n = is_some (value_of ks n) && (at port == n)
  fits_at callee reducer (want.Element port) n = are_same (value_of ks n) (elements_in ks (sort_form_at ks (at port)))
  fits_at callee reducer (want.ArrayOf port) n = are_same (value_of ks n >>= array_of ks) (value_of ks (at port))
  fits_at callee reducer (want.SequenceOf port) n = is_sequence_of ks (value_of ks n >>= sequence_of ks) (at port)
  fits_at callee reducer (want.SequenceOfElements port) n = are_same (value_of ks n >>= sequence_of ks) (many_of ks (at port))
  fits_at callee reducer (want.Elements port) n = are_same (many_of ks n) (value_of ks (at port) >>= sequence_of ks)
  fits_at callee reducer want.Built n = is_built_value (value_of ks n)
  fits_at callee reducer (want.Argument i) n = are_same (listed_at ks (arguments_in (sort_form_at ks callee)) i) (value_of ks n)
  fits_at callee reducer (want.Output i) n = are_same (listed_at ks (results_in (sort_form_at ks callee)) i) (value_of ks n)
  fits_at callee reducer (want.FieldOf i) n = are_same (listed_at ks (value_of ks (at 1) >>= fields_of ks) i) (value_of ks n)

-- what a node has at its ports, and what the literal at port 1 names, by numbers
pub record IsKnown (ks : List Key) (k : Known) (at : ℕ → ℕ) (callee : ℕ) (named : Option Reducer) : Type 0 where
  pub ports : (port : ℕ) → IsNumbered ks (k.at port) (at port)
  pub function : IsNumbered ks k.callee callee
  pub reduction : k.reducer ≡ named

-- wants that need no other port, and those that need one
abbrev pub IsBeside : Want → Type 0
IsBeside (want.Same port) = Unit {0}
IsBeside (want.Element port) = Unit {0}
IsBeside (want.ArrayOf port) = Unit {0}
IsBeside (want.SequenceOf port) = Unit {0}
IsBeside (want.SequenceOfElements port) = Unit {0}
IsBeside (want.Elements port) = Unit {0}
IsBeside want.Built = Unit {0}
IsBeside (want.FieldOf i) = Unit {0}
IsBeside _ = ⊥

abbrev pub IsAlone : Want → Type 0
IsAlone (want.Same port) = ⊥
IsAlone (want.Element port) = ⊥
IsAlone (want.ArrayOf port) = ⊥
IsAlone (want.SequenceOf port) = ⊥
IsAlone (want.SequenceOfElements port) = ⊥
IsAlone (want.Elements port) = ⊥
IsAlone want.Built = ⊥
IsAlone (want.FieldOf i) = ⊥
IsAlone want.Function = ⊥
IsAlone (want.Argument i) = ⊥
IsAlone (want.Output i) = ⊥
IsAlone _ = Unit {0}
