-- What a lowered type stands for in a program: the type of a value, of a multiple or of a function, without the names of fields and
-- tags, by which types of units are compared (IF1 manual M-170, type table).
use Rattle.std.specs.Prelude.{ℕ, zero, suc, List, [], map, Option, Some, None, slice_get}
use Rattle.flow_value.specs.declared.ty.Ty.{Ty}
use Rattle.flow_value.specs.declared.ty.Ty.TheVariants as ty
use Rattle.flow_value.specs.declared.ty.Ty.TheOpen.{Ty-F}
use Rattle.flow_value.specs.declared.ty.Ty.TheFolds.{fold-Ty}
use Rattle.if1_graph.specs.Types.{Member, Sort, Plain, Many as ManyOf, Function as FunctionOf}
use Rattle.type_table.specs.declared.form.Form.{Form}
use Rattle.type_table.specs.declared.form.Form.TheVariants.{Boolean, Character, Integer, Null, Array, Stream, Record, Union}
use Rattle.type_table.specs.declared.form.Member.{Member as NumberedMember}
use Rattle.typed_tree.specs.declared.program.Function.{Function}
use Rattle.typed_tree.specs.declared.program.Program.{Program}
use Rattle.lowering.specs.declared.feed.Carried.{Carried}
use Rattle.lowering.specs.declared.feed.Carried.TheVariants.{One, Many, Callee}
use Rattle.lowering.specs.Types.{deepest}

-- ---- types without the names of fields and tags

abbrev pub unnamed : List Member → List Member
unnamed ms = map (λ m. ([], m.1)) ms

abbrev pub bare_step : Ty-F Ty → Ty
bare_step Ty-F.Bool = ty.Bool
bare_step Ty-F.Char = ty.Char
bare_step Ty-F.Int = ty.Int
bare_step Ty-F.Null = ty.Null
bare_step (Ty-F.Arr t) = ty.Arr t
bare_step (Ty-F.Stream t) = ty.Stream t
bare_step (Ty-F.Rec ms) = ty.Rec (unnamed ms)
bare_step (Ty-F.Uni ms) = ty.Uni (unnamed ms)

abbrev pub bare : Ty → Ty
bare = fold-Ty Ty bare_step

-- ---- types by number

abbrev pub members_of : (ℕ → Ty) → List NumberedMember → List Member
members_of type ms = map (λ m. ([], type m.ty)) ms

-- the type of a form, where numbers stand for types
abbrev pub type_of : (ℕ → Ty) → Option Form → Ty
type_of type (Some Boolean) = ty.Bool
type_of type (Some Character) = ty.Char
type_of type (Some Integer) = ty.Int
type_of type (Some Null) = ty.Null
type_of type (Some (Array n)) = ty.Arr (type n)
type_of type (Some (Stream n)) = ty.Stream (type n)
type_of type (Some (Record ms)) = ty.Rec (members_of type ms)
type_of type (Some (Union ms)) = ty.Uni (members_of type ms)
type_of type None = ty.Null

-- what a number stands for, where it is at most so deep
abbrev pub type_within : List Form → ℕ → ℕ → Ty
type_within forms zero n = ty.Null
type_within forms (suc depth) n = type_of (type_within forms depth) (slice_get forms n)

abbrev pub type_at : List Form → ℕ → Ty
type_at forms n = type_within forms deepest n

abbrev pub types_at : List Form → List ℕ → List Ty
types_at forms ns = map (type_at forms) ns

-- ---- what is carried

abbrev pub function_sort : Program → Function → Sort
function_sort p f = FunctionOf (types_at p.types f.params) (types_at p.types f.results)

abbrev pub callee_sort : Program → Option Function → Sort
callee_sort p None = FunctionOf [] []
callee_sort p (Some f) = function_sort p f

abbrev pub sort_of : Program → Carried → Sort
sort_of p (One n) = Plain (type_at p.types n)
sort_of p (Many n) = ManyOf (type_at p.types n)
sort_of p (Callee f) = callee_sort p (slice_get p.functions f)
