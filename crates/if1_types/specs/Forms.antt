-- What a number of the table of trees stands for: a type, a list of types, or what a label stands for.
use Rattle.std.specs.Prelude.{◌≡◌, ℕ, List, [], ◌∷◌, map, Option, Some, None}
use Rattle.flow_value.specs.declared.ty.Ty.{Ty}
use Rattle.flow_value.specs.declared.ty.Ty.TheVariants as ty
use Rattle.if1_graph.specs.declared.graph.TypeEntry.{TypeEntry}
use Rattle.if1_graph.specs.Types.{Member, Sort, Plain, Many, Function, sort_at}
use Rattle.if1_types.specs.declared.kind.Kind.{Kind}
use Rattle.if1_types.specs.declared.kind.Kind.TheVariants as kind
use Rattle.if1_types.specs.Trees.{kind_by}
use Rattle.if1_types.specs.Telling.{ty_tree, types_tree, told_sort, read_value, read_types, read_sort}
use Rattle.if1_types.specs.Shapes.{Key, trees_in, key_at, Stands}
use Rattle.if1_types.specs.Tables.{number_at}
use Rattle.if1_types.specs.declared.forms.SortForm.{SortForm}
use Rattle.if1_types.specs.declared.forms.SortForm.TheVariants as sort
use Rattle.if1_types.specs.declared.forms.TyForm.{TyForm}
use Rattle.if1_types.specs.declared.forms.TyForm.TheVariants as form
use Rattle.if1_types.specs.declared.forms.ListForm.{ListForm}
use Rattle.if1_types.specs.declared.forms.ListForm.TheVariants as list

-- a number stands for a type, whose fields and tags have no names
pub record IsTy (ks : List Key) (n : ℕ) (t : Ty) : Type 0 where
  pub stands : Stands (trees_in ks) n (ty_tree t)
  pub bare : read_value (ty_tree t) ≡ Some t

pub record IsList (ks : List Key) (n : ℕ) (ts : List Ty) : Type 0 where
  pub stands : Stands (trees_in ks) n (types_tree ts)
  pub bare : read_types (types_tree ts) ≡ Some ts

pub record IsSort (ks : List Key) (n : ℕ) (s : Sort) : Type 0 where
  pub stands : Stands (trees_in ks) n (told_sort s)
  pub bare : read_sort (told_sort s) ≡ Some s

-- the number beside a label stands for what the label stands for
abbrev pub Stand : List TypeEntry → List Key → List ℕ → List ℕ → Type 0
Stand ts ks ls ns = (l : ℕ) (s : Sort) → sort_at ts l ≡ Some s → IsSort ks (number_at ls ns l) s

-- a list, a type and a sort have one number
pub record AreOnce (ks : List Key) : Type 0 where
  pub types : (n m : ℕ) (t : Ty) → IsTy ks n t → IsTy ks m t → n ≡ m
  pub lists : (n m : ℕ) (ts : List Ty) → IsList ks n ts → IsList ks m ts → n ≡ m
  pub sorts : (n m : ℕ) (s : Sort) → IsSort ks n s → IsSort ks m s → n ≡ m

-- and a number stands for one of them
pub record AreOne (ks : List Key) : Type 0 where
  pub types : (n : ℕ) (t u : Ty) → IsTy ks n t → IsTy ks n u → t ≡ u
  pub lists : (n : ℕ) (ts us : List Ty) → IsList ks n ts → IsList ks n us → ts ≡ us
  pub sorts : (n : ℕ) (s r : Sort) → IsSort ks n s → IsSort ks n r → s ≡ r

-- ---- forms

abbrev pub IsSortForm : List Key → Sort → SortForm → Type 0
IsSortForm ks s sort.Nothing = ⊥
IsSortForm ks s (sort.Value k) = (t : Ty) × (s ≡ Plain t) × IsTy ks k t
IsSortForm ks s (sort.Multiple k) = (t : Ty) × (s ≡ Many t) × IsTy ks k t
IsSortForm ks s (sort.Function a r) = (args rs : List Ty) × (s ≡ Function args rs) × IsList ks a args × IsList ks r rs

abbrev pub IsTyForm : List Key → Ty → TyForm → Type 0
IsTyForm ks t form.Nothing = ⊥
IsTyForm ks t form.Boolean = t ≡ ty.Bool
IsTyForm ks t form.Character = t ≡ ty.Char
IsTyForm ks t form.Integer = t ≡ ty.Int
IsTyForm ks t form.Null = t ≡ ty.Null
IsTyForm ks t (form.Array k) = (a : Ty) × (t ≡ ty.Arr a) × IsTy ks k a
IsTyForm ks t (form.Stream k) = (a : Ty) × (t ≡ ty.Stream a) × IsTy ks k a
IsTyForm ks t (form.Record k) = (ms : List Member) × (t ≡ ty.Rec ms) × IsList ks k (map (λ m. m.1) ms)
IsTyForm ks t (form.Union k) = (ms : List Member) × (t ≡ ty.Uni ms) × IsList ks k (map (λ m. m.1) ms)

abbrev pub IsListForm : List Key → List Ty → ListForm → Type 0
IsListForm ks ts list.End = ts ≡ []
IsListForm ks ts (list.Member k rest) = (t : Ty) × (others : List Ty) × (ts ≡ t ∷ others) × IsTy ks k t × IsList ks rest others

-- ---- forms by the kind of a tree and the numbers of its parts

abbrev pub sort_form_of : Option Kind → ℕ → ℕ → SortForm
sort_form_of (Some kind.Value) first second = sort.Value first
sort_form_of (Some kind.Multiple) first second = sort.Multiple first
sort_form_of (Some kind.Function) first second = sort.Function first second
sort_form_of _ first second = sort.Nothing

abbrev pub ty_form_of : Option Kind → ℕ → TyForm
ty_form_of (Some kind.Boolean) first = form.Boolean
ty_form_of (Some kind.Character) first = form.Character
ty_form_of (Some kind.Integer) first = form.Integer
ty_form_of (Some kind.Null) first = form.Null
ty_form_of (Some kind.Array) first = form.Array first
ty_form_of (Some kind.Stream) first = form.Stream first
ty_form_of (Some kind.Record) first = form.Record first
ty_form_of (Some kind.Union) first = form.Union first
ty_form_of _ first = form.Nothing

abbrev pub list_form_of : Option Kind → ℕ → ℕ → ListForm
list_form_of (Some kind.Member) first second = list.Member first second
list_form_of _ first second = list.End

abbrev pub sort_form : ℕ → ℕ → ℕ → SortForm
sort_form k first second = sort_form_of (kind_by k) first second

abbrev pub ty_form : ℕ → ℕ → TyForm
ty_form k first = ty_form_of (kind_by k) first

abbrev pub list_form : ℕ → ℕ → ℕ → ListForm
list_form k first second = list_form_of (kind_by k) first second

-- ---- forms of numbers

abbrev pub sort_form_at : List Key → ℕ → SortForm
sort_form_at ks n = elim (key_at ks n) [ None ↦ sort.Nothing | Some k ↦ sort_form k.0 k.1 k.2 ]

abbrev pub ty_form_at : List Key → ℕ → TyForm
ty_form_at ks n = elim (key_at ks n) [ None ↦ form.Nothing | Some k ↦ ty_form k.0 k.1 ]

abbrev pub list_form_at : List Key → ℕ → ListForm
list_form_at ks n = elim (key_at ks n) [ None ↦ list.End | Some k ↦ list_form k.0 k.1 k.2 ]

-- the forms of numbers are those of what the numbers stand for
pub record AreRead (ks : List Key) : Type 0 where
  pub sorts : (n : ℕ) (s : Sort) → IsSort ks n s → IsSortForm ks s (sort_form_at ks n)
  pub types : (n : ℕ) (t : Ty) → IsTy ks n t → IsTyForm ks t (ty_form_at ks n)
  pub lists : (n : ℕ) (ts : List Ty) → IsList ks n ts → IsListForm ks ts (list_form_at ks n)
