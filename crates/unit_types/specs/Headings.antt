-- What the headers of a unit say beside types.
use Rattle.std.specs.Prelude.{◌≡◌, ◌⊎◌, ℕ, ◌+◌, ◌^◌, ◌<◌, ◌≤◌, List, [], ◌∷◌, All, map, flat_map, length, get_or, Bool, true, false, Option, Some, None, slice_get, Contains}
use Rattle.std.specs.List.{filter}
use Rattle.sisal_tree.specs.declared.unit.Field.{Field}
use Rattle.sisal_tree.specs.declared.unit.FunDef.{FunDef}
use Rattle.sisal_tree.specs.declared.unit.FunKind.{FunKind}
use Rattle.sisal_tree.specs.declared.unit.FunKind.TheVariants as fun
use Rattle.sisal_tree.specs.declared.unit.Item.{Item}
use Rattle.sisal_tree.specs.declared.unit.Item.TheVariants as item
use Rattle.sisal_tree.specs.declared.unit.Named.{Named}
use Rattle.name_scope.specs.Newest.{newest}
use Rattle.sisal_lex.specs.Words.{beside}
use Rattle.typed_tree.specs.declared.built_in.BuiltIn.{BuiltIn}
use Rattle.typed_tree.specs.BuiltIns.{built_ins}
use Rattle.typed_tree.specs.Scopes.{AreDistinct}
use Rattle.typed_tree.specs.Typing.{names_of}
use Rattle.typed_tree.specs.Units.{is_given}
use Rattle.typed_tree.specs.Faults.{functions}
use Rattle.unit_types.specs.declared.header.Signature.{Signature}
use Rattle.unit_types.specs.declared.declaring.Announced.{Announced}

-- the line of the first word of a function, its name and its parameters
pub record Heading : Type 0 where
  pub line : ℕ
  pub name : ℕ
  pub parameters : List ℕ

abbrev pub parameters_of : List Field → List ℕ
parameters_of fields = flat_map (λ f. names_of f.names) fields

abbrev pub heading_of : FunDef → Heading
heading_of f = record { line = f.line; name = f.header.name.name; parameters = parameters_of f.header.params }

abbrev pub heading_in : Signature → Heading
heading_in s = record { line = s.line; name = s.name; parameters = s.parameters }

-- whether a function has its body in this unit
abbrev pub has_body : FunKind → Bool
has_body (fun.Defined es) = true
has_body _ = false

-- the functions that are given, in order
abbrev pub given_functions : List Item → List FunDef
given_functions items = filter is_given (functions items)

-- those of one item
abbrev pub given_by : Item → List FunDef
given_by (item.Alias d) = []
given_by (item.Function f) = filter is_given (f ∷ [])

-- names with their places from a place on, before other ones, the last first
abbrev pub numbering : ℕ → List (ℕ × ℕ) → List ℕ → List (ℕ × ℕ)
numbering n before [] = before
numbering n before (x ∷ xs) = numbering (n + 1) ((x, n) ∷ before) xs

-- what a function of this kind adds to the functions that are given
abbrev pub given_as : {A : Type 0} → FunKind → A → List A
given_as fun.Forward a = []
given_as fun.Global a = a ∷ []
given_as (fun.Defined es) a = a ∷ []

-- each function has a result
abbrev pub HaveResults : List Signature → Type 0
HaveResults functions = All (λ s. 1 ≤ length s.results) functions

-- ---- names of functions

-- the name is not that of a call that is built in
abbrev pub IsOwnName : List (List ℕ) → ℕ → Type 0
IsOwnName spellings x = (spelling : List ℕ) → slice_get spellings x ≡ Some spelling → beside spelling built_ins ≡ None

-- or it is
abbrev pub IsBuiltName : List (List ℕ) → ℕ → Type 0
IsBuiltName spellings x = (spelling : List ℕ) × (slice_get spellings x ≡ Some spelling) × ((b : BuiltIn) × (beside spelling built_ins ≡ Some b))

-- no function has it, by the numbers of functions, nor is it built in
pub record IsFree (spellings : List (List ℕ)) (numbers : List (ℕ × ℕ)) (x : ℕ) : Type 0 where
  pub new : newest x numbers ≡ None
  pub own : IsOwnName spellings x

-- a function has it, or it is built in
abbrev pub IsTaken : List (List ℕ) → List (ℕ × ℕ) → ℕ → Type 0
IsTaken spellings numbers x = IsBuiltName spellings x ⊎ ((n : ℕ) × (newest x numbers ≡ Some n))

abbrev pub AreOwnNames : List (List ℕ) → List ℕ → Type 0
AreOwnNames spellings [] = Unit {0}
AreOwnNames spellings (x ∷ xs) = IsOwnName spellings x × AreOwnNames spellings xs

-- no two are the same, and none is built in
pub record AreOwn (spellings : List (List ℕ)) (names : List ℕ) : Type 0 where
  pub distinct : AreDistinct names
  pub own : AreOwnNames spellings names

-- Functions that a `u32` counts: the number of each name is its place, and names are small.
pub record AreCounted (functions : List Signature) (numbers : List (ℕ × ℕ)) : Type 0 where
  pub numbered : (i d : ℕ) → i < length functions → newest (get_or (map (λ s. s.name) functions) i d) numbers ≡ Some i
  pub small : All (λ x. x < 2 ^ 32) (map (λ s. s.name) functions)

-- ---- functions by name

-- no function of the name has its body here
abbrev pub HasNoBody : List (ℕ × ℕ) → List Bool → ℕ → Type 0
HasNoBody numbers bodies x = (n : ℕ) → newest x numbers ≡ Some n → slice_get bodies n ≡ Some true → ⊥

-- one of these names has none, and stands on this line
pub record IsUndefined (numbers : List (ℕ × ℕ)) (bodies : List Bool) (names : List Named) (line : ℕ) : Type 0 where
  pub named : Named
  pub there : Contains names named
  pub at : line ≡ named.line
  pub none : HasNoBody numbers bodies named.name

-- the function of a name
abbrev pub function_at : List Signature → Option ℕ → Option Signature
function_at functions None = None
function_at functions (Some n) = slice_get functions n

-- the same parameters, and the same types by number
pub record HasSame (one other : Signature) : Type 0 where
  pub parameters : one.parameters ≡ other.parameters
  pub params : one.params ≡ other.params
  pub results : one.results ≡ other.results

-- a header that was announced is that of its function
pub record IsKept (numbers : List (ℕ × ℕ)) (functions : List Signature) (s : Signature) : Type 0 where
  pub function : Signature
  pub there : function_at functions (newest s.name numbers) ≡ Some function
  pub same : HasSame s function

-- one of the headers that were announced has no function, or its function has another one
pub data IsBroken (numbers : List (ℕ × ℕ)) (functions : List Signature) (announced : List Announced) : ℕ → ℕ → Type 0 where
  missing : (a : Announced) → Contains announced a → function_at functions (newest a.signature.name numbers) ≡ None → IsBroken numbers functions announced 7 a.line
  other : (a : Announced) (s : Signature) → Contains announced a → function_at functions (newest a.signature.name numbers) ≡ Some s → (HasSame a.signature s → ⊥) → IsBroken numbers functions announced 6 a.line

-- what a function of this kind adds to the headers that are announced
abbrev pub announced_as : FunKind → Announced → List Announced
announced_as fun.Forward a = a ∷ []
announced_as fun.Global a = []
announced_as (fun.Defined es) a = []
