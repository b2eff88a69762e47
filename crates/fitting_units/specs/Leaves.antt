-- What a typed tree has to keep to as trees of texts do (SISAL Language Reference Manual 1.2, expressions): each constant is one
-- that a text can spell and that fits 64 bits, each new record has at most as many fields as an aggregate may have elements,
-- `replace` changes one field at least, and `tagcase` has one arm at least.
use Rattle.std.specs.Prelude.{◌≡◌, slice_get, ℕ, ◌≤◌, List, [], ◌∷◌, ◌++◌, map, length, All, Option, Some, None}
use Rattle.sisal_tree.specs.declared.expr.Constant.{Constant}
use Rattle.type_table.specs.declared.form.Form.{Form}
use Rattle.type_table.specs.declared.form.Form.TheVariants as form
use Rattle.type_table.specs.declared.form.Member.{Member}
use Rattle.typed_tree.specs.Scopes.{AreDistinct}
use Rattle.value_ops.specs.declared.operation.Operation.{Operation}
use Rattle.value_ops.specs.declared.operation.Operation.TheVariants as op
use Rattle.typed_tree.specs.declared.expr.TypedExpr.{TypedExpr}
use Rattle.typed_tree.specs.declared.expr.TypedKind.TheOpen.{TypedKind-F}
use Rattle.typed_tree.specs.declared.expr.TypedKind.TheFolds.{fold-TypedExpr}
use Rattle.typed_tree.specs.declared.program.Function.{Function}
use Rattle.fitting_trees.specs.Fitting.{IsLiteral}

-- a constant, or how many fields a new record has, how many are changed, or how many arms there are
pub data Leaf : Type 0 where
  a_constant : Constant → Leaf
  a_record : ℕ → Leaf
  a_change : ℕ → Leaf
  a_case : ℕ → Leaf

abbrev pub IsWritten : Leaf → Type 0
IsWritten (a_constant c) = IsLiteral c
IsWritten (a_record n) = n ≤ 4194304
IsWritten (a_change n) = 1 ≤ n
IsWritten (a_case n) = 1 ≤ n

abbrev pub AreWritten : List Leaf → Type 0
AreWritten [] = Unit {0}
AreWritten (x ∷ xs) = IsWritten x × AreWritten xs

abbrev pub all_in : List (List Leaf) → List Leaf
all_in [] = []
all_in (xs ∷ l) = xs ++ all_in l

abbrev pub in_apply : Operation → ℕ → List Leaf → List Leaf
in_apply op.Record n xs = a_record n ∷ xs
in_apply (op.Change places) n xs = a_change (length places) ∷ xs
in_apply _ n xs = xs

abbrev pub in_kind : TypedKind-F (List Leaf) (List Leaf) → List Leaf
in_kind (TypedKind-F.Constant c) = a_constant c ∷ []
in_kind (TypedKind-F.Value level) = []
in_kind (TypedKind-F.Group ts) = all_in ts
in_kind (TypedKind-F.Call f ts) = all_in ts
in_kind (TypedKind-F.Apply o ts) = in_apply o (length ts) (all_in ts)
in_kind (TypedKind-F.Let us ts) = all_in (map all_in us) ++ all_in ts
in_kind (TypedKind-F.If ts us vs) = all_in ts ++ (all_in us ++ all_in vs)
in_kind (TypedKind-F.Case c ts arms) = a_case (length arms) ∷ all_in ts ++ all_in (map all_in arms)
in_kind (TypedKind-F.Product p bs us ts) = all_in bs ++ (all_in (map all_in us) ++ all_in ts)
in_kind (TypedKind-F.Initial t us tests vs ts) = all_in (map all_in us) ++ (all_in tests ++ (all_in (map all_in vs) ++ all_in ts))

-- those of a typed expression
abbrev pub leaves : TypedExpr → List Leaf
leaves = fold-TypedExpr (List Leaf) (List Leaf) in_kind (λ e. e.kind)

abbrev pub IsWrittenBody : Option (List TypedExpr) → Type 0
IsWrittenBody None = Unit {0}
IsWrittenBody (Some ts) = AreWritten (all_in (map leaves ts))

-- so are those of a program
abbrev pub IsWrittenProgram : List Function → Type 0
IsWrittenProgram fs = All (λ f. IsWrittenBody f.body) fs

-- no name is spelled as another one
abbrev pub AreNamesOnce : List (List ℕ) → Type 0
AreNamesOnce spellings = (x y : ℕ) (s : List ℕ) → slice_get spellings x ≡ Some s → slice_get spellings y ≡ Some s → x ≡ y

-- no union of the table has a tag twice
abbrev pub AreTagsOnce : List Form → Type 0
AreTagsOnce forms = (n : ℕ) (ms : List Member) → slice_get forms n ≡ Some (form.Union ms) → AreDistinct (map (λ m. m.name) ms)
