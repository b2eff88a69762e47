-- What expressions and calls give belongs to their types, at every depth (SISAL Language Reference Manual 1.2, expressions).
use Rattle.std.specs.Prelude.{◌≡◌, ℕ, ℤ, pos, true, List, [], ◌∷◌, Some, slice_get}
use Rattle.flow_value.specs.declared.value.Val.{Val}
use Rattle.flow_value.specs.declared.value.Val.TheVariants as val
use Rattle.flow_value.specs.declared.operation.Scalar2.TheVariants as two
use Rattle.flow_value.specs.declared.ty.Ty.{Ty}
use Rattle.sisal_tree.specs.declared.expr.Constant.TheVariants as constant
use Rattle.value_ops.specs.declared.operation.Operation.TheVariants as op
use Rattle.type_table.specs.declared.form.Form.{Form}
use Rattle.typed_tree.specs.declared.expr.TypedExpr.{TypedExpr}
use Rattle.typed_tree.specs.declared.expr.TypedKind.TheVariants as typed
use Rattle.typed_tree.specs.declared.program.Function.{Function}
use Rattle.typed_tree.specs.Typing.{Signature, with}
use Rattle.typed_tree.specs.Types.{AreNumbers}
use Rattle.sisal_tree.specs.declared.unit.Unit as tree
use Rattle.typed_tree.specs.declared.program.Program.{Program}
use Rattle.typed_tree.specs.Units.{signatures, IsTyped}
use Rattle.fitting_units.specs.Leaves.{IsWrittenProgram, AreNamesOnce, AreTagsOnce}
use Rattle.meaning.specs.Plain.{plain_calls, plain_meaning}
use Rattle.fitting_units.specs.Fitting.{Header, Fits, IsFittingTree}
use Rattle.typed_rows.specs.Rows.{AreOf}
use Rattle.typed_values.specs.Meets.{Asked, Meets, Takes, IsRight}

-- on one value for each name, each of its name's type, an expression gives one value for each of its types, each of its type
abbrev pub AreExpressionsTyped : Type 0
AreExpressionsTyped = (forms : List Form) (spellings : List (List ℕ)) (hs : List Header) (p : List Function) → IsFittingTree forms spellings hs p
    → (γ tys : List Ty) (e : TypedExpr) → Fits (AreNumbers forms spellings) hs γ e tys
    → (n : ℕ) (env : List Val) (r : List Val × ℕ) → AreOf γ env → plain_meaning n p e env ≡ Some r → AreOf tys r.0

-- on one argument for each parameter, each of its type, a call gives one value for each result, each of its type
abbrev pub AreCallsTyped : Type 0
AreCallsTyped = (forms : List Form) (spellings : List (List ℕ)) (hs : List Header) (p : List Function) → IsFittingTree forms spellings hs p
    → (f : ℕ) (g : Header) → slice_get hs f ≡ Some g
    → (n : ℕ) (vs : List Val) (r : List Val × ℕ) → AreOf g.params vs → plain_calls n p f vs ≡ Some r → AreOf g.results r.0

-- whatever a run of an expression meets is right
abbrev pub AreRunsRight : Type 0
AreRunsRight = (forms : List Form) (spellings : List (List ℕ)) (hs : List Header) (p : List Function) → IsFittingTree forms spellings hs p
    → (γ tys : List Ty) (e : TypedExpr) → Fits (AreNumbers forms spellings) hs γ e tys
    → (n : ℕ) (env : List Val) (a : Asked) → AreOf γ env → Meets p n e env a → IsRight a

-- ---- units

-- On arguments of the types of its parameters a function of a typed unit gives values of the types of its results, at every
-- depth, and so many: where names are spelled once each, no union of the table has a tag twice, and the program's constants,
-- records, changes and arms are such as a text can write.
abbrev pub AreUnitsTyped : Type 0
AreUnitsTyped = (u : tree.Unit) (p : Program) → AreNamesOnce u.tokens.names → AreTagsOnce p.types → IsWrittenProgram p.functions
    → (t : IsTyped u p) (f : ℕ) (s : Signature) → slice_get (signatures t.declared) f ≡ Some s
    → (n : ℕ) (vs : List Val) (r : List Val × ℕ) → AreOf s.params vs → plain_calls n p.functions f vs ≡ Some r → AreOf s.results r.0

-- ---- examples

abbrev pub a_number : ℕ → List ℕ → ℤ → TypedExpr
a_number line types n = with line types (typed.Constant (constant.Integer n))

abbrev pub a_truth : ℕ → List ℕ → TypedExpr
a_truth line types = with line types (typed.Constant constant.True)

-- whatever the types of a program are, `1 + true` has no fitting tree
abbrev pub HasNoTree : Type 0
HasNoTree = (forms : List Form) (spellings : List (List ℕ)) (hs : List Header) (γ tys : List Ty) (l line next : ℕ) (ns types others : List ℕ)
    → Fits (AreNumbers forms spellings) hs γ (with l ns (typed.Apply (op.Binary two.Plus) (a_number line types (pos 1) ∷ a_truth next others ∷ []))) tys → ⊥

-- and no row of the sum takes 1 and `true`
abbrev pub HasNoRow : Type 0
HasNoRow = Takes (op.Binary two.Plus) (val.Int (pos 1) ∷ val.Bool true ∷ []) → ⊥
