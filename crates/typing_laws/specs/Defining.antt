-- Definitions, and the names that they bring into force.
use Rattle.std.specs.Prelude.{◌≡◌, ℕ, List, [], ◌∷◌, ◌++◌, map, flat_map, length, Option, Some, None}
use Rattle.name_scope.specs.Newest.{newest}
use Rattle.flow_value.specs.declared.ty.Ty.{Ty}
use Rattle.type_table.specs.declared.form.Form.{Form}
use Rattle.sisal_tree.specs.declared.unit.Named.{Named}
use Rattle.sisal_tree.specs.declared.unit.Written.{Written}
use Rattle.sisal_tree.specs.declared.expr.Def.{Def, out-Def}
use Rattle.sisal_tree.specs.declared.expr.Target.{Target}
use Rattle.typed_tree.specs.declared.expr.TypedExpr.{TypedExpr}
use Rattle.typed_tree.specs.Scopes as tree
use Rattle.typed_tree.specs.Scopes.{targets}
use Rattle.typed_tree.specs.Typing.{Known, Number, Defines, names_in}
use Rattle.value_names.specs.declared.value.Value.{Value}
use Rattle.value_names.specs.Names.{Names}
use Rattle.value_names.specs.Scopes.{define_all}
use Rattle.typing_laws.specs.Turns.{IsInTurn}
use Rattle.typing_laws.specs.Given.{Given}
use Rattle.typing_laws.specs.Given.{Defined}
use Rattle.typing_laws.specs.Judged.{Agrees, Stands, denotes_in, AllTyped, IsDenoted, IsAbove}

-- ---- targets

abbrev pub named_targets : List Target → List Named
named_targets xs = map (λ x. x.name) xs

-- the targets of definitions, where they stand
abbrev pub targets_in : List Def → List Named
targets_in ds = flat_map (λ d. named_targets (out-Def d).targets) ds

-- the type that is declared for a target, if one is, has this number
abbrev pub IsDeclaredAs : Given → List Form → Option Written → ℕ → Type 0
IsDeclaredAs g forms None n = Unit {0}
IsDeclaredAs g forms (Some w) n = IsDenoted g forms w n

abbrev pub AreDeclaredAs : Given → List Form → List Target → List ℕ → Type 0
AreDeclaredAs g forms [] ns = Unit {0}
AreDeclaredAs g forms (x ∷ xs) [] = Unit {0}
AreDeclaredAs g forms (x ∷ xs) (n ∷ ns) = IsDeclaredAs g forms x.ty n × AreDeclaredAs g forms xs ns

-- the type of a loop name is that before, if it is a loop name
abbrev pub IsKept : ℕ → Option Value → Type 0
IsKept n None = Unit {0}
IsKept n (Some v) = n ≡ v.ty

abbrev pub AreKept : List (ℕ × Value) → List ℕ → List ℕ → Type 0
AreKept loop [] ns = Unit {0}
AreKept loop (x ∷ xs) [] = Unit {0}
AreKept loop (x ∷ xs) (n ∷ ns) = IsKept n (newest x loop) × AreKept loop xs ns

-- In a turn of a loop, whose first name has this level, loop names keep their types.
pub record KeepsTurn (turn : Option ℕ) (names : Names) (xs ns : List ℕ) : Type 0 where
  pub holds : (first : ℕ) (loop : List (ℕ × Value)) → turn ≡ Some first → IsInTurn first loop names → AreKept loop xs ns

-- ---- one definition

-- the targets of a definition came into force with these values
pub record Enters (g : Given) (forms : List Form) (before after : Names) (turn : Option ℕ) (xs : List Target) (ts : List TypedExpr) (ns : List ℕ) (old new : Defined) : Type 0 where
  pub exprs : new.exprs ≡ old.exprs ++ (ts ∷ [])
  pub types : new.types ≡ old.types ++ ns
  pub targets : new.targets ≡ old.targets
  pub count : length ns ≡ length xs
  pub declared : AreDeclaredAs g forms xs ns
  pub kept : KeepsTurn turn before (names_in xs) ns
  pub names : after ≡ define_all (named_targets xs) ns before

-- a definition was added to those before
pub record AddsDef (g : Given) (forms : List Form) (before after : Names) (turn : Option ℕ) (d : Def) (old new : Defined) : Type 0 where
  pub exprs : List TypedExpr
  pub types : List ℕ
  pub typed : AllTyped g forms before (out-Def d).values exprs types
  pub enters : Enters g forms before after turn (out-Def d).targets exprs types old new

-- ---- definitions in order

pub record AreDefinedAs (k : Known) (g : Given) (s : tree.Scope) (after : Names) (ds : List Def) (us : List (List TypedExpr)) (ns : List ℕ) : Type 0 where
  pub made : List Ty
  pub inside : tree.Scope
  pub defines : Defines k (denotes_in g k) s ds us made inside
  pub number : Number k ns made
  pub stands : Stands k after inside

-- the typed trees of definitions with the types of all that is defined; the names came into force
pub record AllDefined (g : Given) (forms : List Form) (before after : Names) (turn : Option ℕ) (ds : List Def) (us : List (List TypedExpr)) (ns : List ℕ) : Type 0 where
  pub holds : (k : Known) (s : tree.Scope) → Agrees g forms k → Stands k before s → AreDefinedAs k g s after ds us ns
  pub count : length ns ≡ length (targets ds)
  pub kept : KeepsTurn turn before (targets ds) ns
  pub above : IsAbove before after
