-- What breaks the rules of SISAL in a whole unit (SISAL Language Reference Manual 1.2, programs and scope), with the number of
-- the rule and the line: beside the rules on types (2 to 5) and on expressions (2 to 23)
--  1  two types have one name
--  6  two functions, or a function and a call that is built in, have one name, or a header differs from its definition
--  7  `define` names a function that is not defined here, or `forward` one that is neither defined here nor `global`
--  8  a name stands twice in one list of parameters
-- 13  the values of a function are not of the types of its header
use Rattle.std.specs.Prelude.{◌≡◌, ◌≢◌, ℕ, List, [], ◌∷◌, map, flat_map, Some, None, Contains}
use Rattle.std.specs.List.{filter}
use Rattle.name_scope.specs.Newest.{newest}
use Rattle.loop_folds.specs.Ty.{Ty}
use Rattle.type_table.specs.declared.form.Form.{Form}
use Rattle.sisal_tree.specs.declared.unit.Named.{Named}
use Rattle.sisal_tree.specs.declared.unit.Written.{Written}
use Rattle.sisal_tree.specs.declared.unit.Field.{Field}
use Rattle.sisal_tree.specs.declared.unit.TypeDef.{TypeDef}
use Rattle.sisal_tree.specs.declared.unit.Header.{Header}
use Rattle.sisal_tree.specs.declared.unit.FunKind.TheVariants as fun
use Rattle.sisal_tree.specs.declared.unit.FunDef.{FunDef}
use Rattle.sisal_tree.specs.declared.unit.Item.{Item}
use Rattle.sisal_tree.specs.declared.unit.Item.TheVariants as item
use Rattle.sisal_tree.specs.declared.unit.Unit as tree
use Rattle.sisal_tree.specs.declared.expr.Expr.{Expr}
use Rattle.typed_tree.specs.declared.built_in.BuiltIn.{BuiltIn}
use Rattle.typed_tree.specs.declared.expr.TypedExpr.{TypedExpr}
use Rattle.typed_tree.specs.Typing.{IsBuiltIn, AreTyped}
use Rattle.typed_tree.specs.Breaks.{IsTwice, BreaksIn}
use Rattle.typed_tree.specs.Written.{Misnames}
use Rattle.typed_tree.specs.Units.{is_given, Declared, given, parameters, written, denotes, known, Declares, AreDeclared}

-- the functions of items
abbrev pub functions : List Item → List FunDef
functions items = flat_map function items
  where
    function : Item → List FunDef
    function (item.Alias d) = []
    function (item.Function f) = f ∷ []

abbrev pub given_names : List Item → List Named
given_names items = map (λ f. f.header.name) (filter is_given (functions items))

module _ (u : tree.Unit) where
  -- a written type breaks a rule, where these names of types are known
  abbrev pub misnames : List (ℕ × Ty) → Written → ℕ → ℕ → Type 0
  misnames types w rule line = Misnames u.tokens.names types (written u w) rule line

  pub data BreaksHeader (types : List (ℕ × Ty)) (h : Header) : ℕ → ℕ → Type 0 where
    in_param : {f : Field} {rule line : ℕ} → Contains h.params f → misnames types f.ty rule line → BreaksHeader types h rule line
    in_result : {w : Written} {rule line : ℕ} → Contains h.results w → misnames types w rule line → BreaksHeader types h rule line
    twice : {line : ℕ} → IsTwice (flat_map (λ f. f.names) h.params) line → BreaksHeader types h 8 line

  -- items in order: one breaks a rule, where the types before it are known
  pub data BreaksItems : List (ℕ × Ty) → List Item → ℕ → ℕ → Type 0 where
    in_type : {types : List (ℕ × Ty)} {d : TypeDef} {items : List Item} {rule line : ℕ}
        → misnames types d.ty rule line → BreaksItems types (item.Alias d ∷ items) rule line
    two_types : {types : List (ℕ × Ty)} {d : TypeDef} {a : Ty} {items : List Item}
        → newest d.name types ≡ Some a → BreaksItems types (item.Alias d ∷ items) 1 d.line
    in_header : {types : List (ℕ × Ty)} {f : FunDef} {items : List Item} {rule line : ℕ}
        → BreaksHeader types f.header rule line → BreaksItems types (item.Function f ∷ items) rule line
    after_type : {types : List (ℕ × Ty)} {d : TypeDef} {a : Ty} {items : List Item} {rule line : ℕ}
        → denotes u types d.ty a → newest d.name types ≡ None → BreaksItems ((d.name, a) ∷ types) items rule line → BreaksItems types (item.Alias d ∷ items) rule line
    after_function : {types : List (ℕ × Ty)} {f : FunDef} {items : List Item} {rule line : ℕ}
        → BreaksItems types items rule line → BreaksItems types (item.Function f ∷ items) rule line

  -- the unit breaks a rule, on a line
  pub data BreaksUnit : ℕ → ℕ → Type 0 where
    in_items : {rule line : ℕ} → BreaksItems [] u.items rule line → BreaksUnit rule line
    -- names of functions
    two_functions : {line : ℕ} → IsTwice (given_names u.items) line → BreaksUnit 6 line
    built_in : {n : Named} (b : BuiltIn) → Contains (given_names u.items) n → IsBuiltIn (known u [] [] []) n.name b → BreaksUnit 6 n.line
    another_header : {ds : List Declared} {d e : Declared}
        → Declares u [] u.items ds → Contains ds d → d.function.kind ≡ fun.Forward → Contains (given ds) e
        → d.signature.name ≡ e.signature.name → d.signature ≢ e.signature → BreaksUnit 6 d.function.header.name.line
    no_function : {f : FunDef} → Contains (functions u.items) f → f.kind ≡ fun.Forward
        → (Contains (map (λ n. n.name) (given_names u.items)) f.header.name.name → ⊥) → BreaksUnit 7 f.header.name.line
    not_defined : {n : Named} → Contains u.defines n
        → ((f : FunDef) (es : List Expr) → Contains (functions u.items) f → f.header.name.name ≡ n.name → f.kind ≡ fun.Defined es → ⊥) → BreaksUnit 7 n.line
    -- results of functions
    in_body : {ds : List Declared} {d : Declared} {es : List Expr} {rule line : ℕ} (forms : List Form)
        → AreDeclared u ds → Contains ds d → d.function.kind ≡ fun.Defined es
        → BreaksIn (known u forms ds d.types) (denotes u d.types) (misnames d.types) (parameters d.signature) es rule line → BreaksUnit rule line
    other_results : {ds : List Declared} {d : Declared} {es : List Expr} {ts : List TypedExpr} {tys : List Ty} (forms : List Form)
        → AreDeclared u ds → Contains ds d → d.function.kind ≡ fun.Defined es
        → AreTyped (known u forms ds d.types) (denotes u d.types) (parameters d.signature) es ts tys → tys ≢ d.signature.results → BreaksUnit 13 d.function.line
