-- What the walk over a function's body is given, and what it makes on its way, as the laws of typing have it.
use Rattle.std.specs.Prelude.{◌≡◌, ℕ, ◌-◌, ◌<◌, List, [], ◌∷◌, ◌++◌, drop, length, map, slice_get, Bool, true, false, All, Option, Some, None}
use Rattle.type_table.specs.declared.form.Form.{Form}
use Rattle.sisal_tree.specs.declared.expr.Clause.{Clause}
use Rattle.sisal_tree.specs.declared.expr.Def.{Def}
use Rattle.sisal_tree.specs.declared.expr.Generator.{Generator}
use Rattle.sisal_tree.specs.declared.expr.Expr.{Expr}
use Rattle.sisal_tree.specs.declared.expr.Arm.{Arm}
use Rattle.sisal_tree.specs.declared.expr.Elements.{Elements}
use Rattle.sisal_tree.specs.declared.expr.ExprKind.{ExprKind}
use Rattle.sisal_tree.specs.declared.expr.ExprKind.TheOpen.{ExprKind-F}
use Rattle.sisal_tree.specs.declared.expr.FieldValue.{FieldValue}
use Rattle.sisal_tree.specs.declared.expr.Loop.{Loop}
use Rattle.sisal_tree.specs.declared.expr.Mask.{Mask}
use Rattle.sisal_tree.specs.declared.expr.TagCase.{TagCase}
use Rattle.sisal_tree.specs.declared.expr.Turn.{Turn}
use Rattle.sisal_tree.specs.declared.unit.FunDef.{FunDef}
use Rattle.sisal_tree.specs.declared.unit.FunKind.{FunKind}
use Rattle.sisal_tree.specs.declared.unit.FunKind.TheVariants as fun
use Rattle.sisal_tree.specs.declared.unit.Written.{Written}
use Rattle.typed_tree.specs.declared.expr.TypedExpr.{TypedExpr}
use Rattle.typed_tree.specs.declared.expr.TypedKind.TheVariants as typed
use Rattle.typed_tree.specs.declared.program.Function.{Function}
use Rattle.typed_tree.specs.Scopes.{AreDistinct, targets}
use Rattle.typed_tree.specs.Typing.{with}
use Rattle.type_rules.specs.declared.head.Head.{Head}
use Rattle.type_rules.specs.declared.head.Head.TheVariants as head
use Rattle.unit_types.specs.declared.header.Signature.{Signature}
use Rattle.value_names.specs.Names.{Names}
use Rattle.typing_laws.specs.Given as by
use Rattle.breaking_laws.specs.Parts.{Differs}
use Rattle.typing_laws.specs.Bodies.{parameters_in}
use Rattle.typing_laws.specs.Defining.{AllDefined}
use Rattle.typing_laws.specs.Forming.{AreFound}
use Rattle.typing_laws.specs.Judged.{AllTyped, IsDenoted}
use Rattle.typing_laws.specs.Looping.{AllValues, AllMade, GroupsTyped, IsCrossed, initial_of}
use Rattle.breaking_laws.specs.FormLaws.{BrokenBody}
use Rattle.sisal_check.specs.declared.state.Given.{Given}
use Rattle.sisal_check.specs.declared.state.Parts.{Parts}
use Rattle.sisal_check.specs.declared.defs.Defined.{Defined}
use Rattle.sisal_check.specs.declared.cases.Arms.{Arms}
use Rattle.sisal_check.specs.declared.generators.Group.{Group}
use Rattle.sisal_check.specs.declared.clauses.Folds.{Folds}
use Rattle.sisal_check.specs.declared.turns.Turned.{Turned}

abbrev pub header_of : Signature → by.Header
header_of s = record { name = s.name; parameters = s.parameters; params = s.params; results = s.results }

-- the names of types that are known behind so many definitions
abbrev pub given_behind : ℕ → Given → by.Given
given_behind known g = record {
  tokens = g.tokens.now;
  spellings = g.spellings.now;
  named = drop (length g.named.now - known) g.named.now;
  functions = map header_of g.functions.now;
  numbers = g.numbers.now;
}

abbrev pub given_of : Given → by.Given
given_of g = given_behind g.known g

abbrev pub parts_of : Parts → by.Parts
parts_of p = record { exprs = p.exprs; types = p.types }

abbrev pub defined_of : Defined → by.Defined
defined_of d = record { exprs = d.exprs; targets = d.targets; types = d.types }

abbrev pub arms_of : Arms → by.Arms
arms_of a = record { name = a.name; union = a.choices.union; chosen = a.choices.arms.entries; results = a.results; types = a.types; is_even = a.is_even }

abbrev pub group_of : Group → by.Group
group_of g = record { sources = g.sources; bounds = g.bounds; names = g.names; types = g.types }

abbrev pub folds_of : Folds → by.Folds
folds_of f = record { forms = f.forms; types = f.types }

abbrev pub turned_of : Turned → by.Turned
turned_of t = record { is_first = t.is_first; is_until = t.is_until; test = t.test; renewed = t.renewed; exprs = t.exprs }

-- ---- forms

-- the names of the fields of a record are spelled
abbrev pub IsHeadSpelled : List (List ℕ) → Head → Type 0
IsHeadSpelled spellings (head.Record named xs) = All (λ x. x < length spellings) xs
IsHeadSpelled spellings _ = Unit {0}

-- `error` of a written type
pub record IsErrorHead (g : by.Given) (forms : List Form) (w : Written) (h : Head) : Type 0 where
  pub type : ℕ
  pub is : h ≡ head.ErrorOf type
  pub denoted : IsDenoted g forms w type

-- an array, with elements or without
abbrev pub array_form : Bool → Option ℕ → Head
array_form true named = head.Array named
array_form false named = head.EmptyArray named

pub record IsArrayHead (g : by.Given) (x : Option ℕ) (has_elements : Bool) (h : Head) : Type 0 where
  pub named : Option ℕ
  pub is : h ≡ array_form has_elements named
  pub found : AreFound g.named x named

-- neither a `tagcase` nor a loop
abbrev pub IsPlain : ExprKind-F ExprKind Loop Arm Clause Def Elements Expr FieldValue Generator Mask TagCase Turn → Type 0
IsPlain (ExprKind-F.TagCase cases) = ⊥
IsPlain (ExprKind-F.For l) = ⊥
IsPlain _ = Unit {0}

-- ---- loops

-- a loop over a group of generators, whose clauses go over values of these types
pub record IsLoopOver (forms : List Form) (line : ℕ) (cs : List Clause) (is_masked : Bool) (ns : List ℕ) (m : by.Group) (us : List (List TypedExpr)) (ts : List TypedExpr) (t : TypedExpr) : Type 0 where
  pub folds : by.Folds
  pub made : AllMade forms cs is_masked ns folds
  pub is : t ≡ with line folds.types (typed.Product (record { sources = m.sources; clauses = folds.forms }) m.bounds us ts)

-- the loops over groups before others, over the loop over these
pub record CrossesAll (g : by.Given) (before after : List Form) (line : ℕ) (cs : List Clause) (ms : List by.Group) (inner t : TypedExpr) : Type 0 where
  pub holds : (names inside : Names) (gs others : List (List Generator)) (ds : List Def) → GroupsTyped g before names gs ms inside → IsCrossed g before inside line others ds cs inner
      → IsCrossed g after names line (gs ++ others) ds cs t

-- the loops over all groups
pub record IsProduct (g : by.Given) (before after : List Form) (line : ℕ) (cs : List Clause) (ms : List by.Group) (us : List (List TypedExpr)) (ns : List ℕ) (values : by.Parts) (t : TypedExpr) : Type 0 where
  pub holds : (names inside within : Names) (gs : List (List Generator)) (ds : List Def) → GroupsTyped g before names gs ms inside → AllDefined g before inside within None ds us ns → AreDistinct (targets ds)
      → AllValues g before within cs values.exprs values.types → IsCrossed g after names line gs ds cs t

-- a `for initial`
pub record IsInitial (forms : List Form) (line : ℕ) (cs : List Clause) (started : by.Defined) (turned : by.Turned) (values : by.Parts) (t : TypedExpr) : Type 0 where
  pub folds : by.Folds
  pub made : AllMade forms cs true values.types folds
  pub is : t ≡ initial_of line started turned values.exprs folds

-- ---- `tagcase`

-- results of `otherwise` that differ from those of the first arm, where the arms are not even any more
pub record DiffersIn (g : by.Given) (forms : List Form) (names : Names) (es : List Expr) (old new : by.Arms) : Type 0 where
  pub exprs : List TypedExpr
  pub types : List ℕ
  pub typed : AllTyped g forms names es exprs types
  pub differs : Differs types old new

-- ---- functions

-- the results of a function have the types that its header says
pub record IsBody (g : by.Given) (forms : List Form) (h : by.Header) (es : List Expr) (ts : List TypedExpr) : Type 0 where
  pub types : List ℕ
  pub typed : AllTyped g forms (parameters_in h) es ts types
  pub results : types ≡ h.results

-- what a function of this kind gives, of this header
pub data IsBodyOf (g : by.Given) (forms : List Form) (h : by.Header) : FunKind → Option (List TypedExpr) → Type 0 where
  global : IsBodyOf g forms h fun.Global None
  defined : {es : List Expr} {ts : List TypedExpr} → IsBody g forms h es ts → IsBodyOf g forms h (fun.Defined es) (Some ts)

-- functions of these kinds, of the first of these headers
pub data AreBodies (g : Given) (forms : List Form) : List FunKind → List Signature → List Function → Type 0 where
  no_body : {headers : List Signature} → AreBodies g forms [] headers []
  a_body : {kind : FunKind} {s : Signature} {f : Function} {kinds : List FunKind} {headers : List Signature} {fs : List Function}
      → IsBodyOf (given_behind s.known g) forms (header_of s) kind f.body → AreBodies g forms kinds headers fs → AreBodies g forms (kind ∷ kinds) (s ∷ headers) (f ∷ fs)

-- the results of a function of this kind, of the header of a place, break a rule
pub record IsBrokenAt (g : Given) (old : List Form) (kind : FunKind) (place rule line : ℕ) : Type 0 where
  pub header : Signature
  pub exprs : List Expr
  pub is : kind ≡ fun.Defined exprs
  pub there : slice_get g.functions.now place ≡ Some header
  pub breaks : BrokenBody (given_behind header.known g) old (header_of header) header.line exprs rule line

-- those of one of these functions
pub record IsBrokenAmong (g : Given) (old : List Form) (fs : List FunDef) (rule line : ℕ) : Type 0 where
  pub function : FunDef
  pub place : ℕ
  pub there : slice_get fs place ≡ Some function
  pub breaks : IsBrokenAt g old function.kind place rule line
