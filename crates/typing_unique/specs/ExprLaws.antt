-- What the laws on expressions say, where what is known is fair: an expression has one list of types, whatever the table of types,
-- and none where it breaks a rule; the types have no field or tag twice; at a table in which each type has one number the typed
-- tree is one.
use Rattle.std.specs.Prelude.{◌≡◌, ℕ, List, [], ◌∷◌, All}
use Rattle.flow_value.specs.declared.ty.Ty.{Ty}
use Rattle.type_table.specs.declared.form.Form.{Form}
use Rattle.sisal_tree.specs.declared.unit.Unit as tree
use Rattle.sisal_tree.specs.declared.expr.Expr.{Expr}
use Rattle.sisal_tree.specs.declared.expr.Def.{Def}
use Rattle.typed_tree.specs.declared.expr.TypedExpr.{TypedExpr}
use Rattle.typed_tree.specs.Scopes.{Scope, AreDistinct, targets}
use Rattle.typed_tree.specs.Typing.{Known, Types, AreTyped, Defines}
use Rattle.typed_tree.specs.Breaks.{Breaks, BreaksOne, BreaksIn, BreaksDefs}
use Rattle.typed_tree.specs.Units.{denotes}
use Rattle.typed_tree.specs.Faults.{misnames}
use Rattle.typing_unique.specs.Fair.{IsProper, IsFair}
use Rattle.typing_unique.specs.Inverted.{at_table, IsProperScope}
use Rattle.typing_unique.specs.InvertedTree.{AreNumbered}

-- what is known is fair, where these names of types are known in the unit, and so are the names of values in force
pub record IsFairAt (u : tree.Unit) (types : List (ℕ × Ty)) (k : Known) (s : Scope) : Type 0 where
  pub fair : IsFair k (denotes u types) (misnames u types)
  pub scope : IsProperScope s

-- the types of expressions have no field or tag twice
abbrev pub ProperLaw : Type 0
ProperLaw = (u : tree.Unit) (types : List (ℕ × Ty)) (k : Known) (s : Scope) → IsFairAt u types k s
    → (es : List Expr) (ts : List TypedExpr) (tys : List Ty) → AreTyped k (denotes u types) s es ts tys → All IsProper tys

-- an expression has one list of types
abbrev pub OneTypeLaw : Type 0
OneTypeLaw = (u : tree.Unit) (types : List (ℕ × Ty)) (k : Known) (s : Scope) → IsFairAt u types k s
    → (forms : List Form) (e : Expr) (t v : TypedExpr) (tys others : List Ty) → Types k (denotes u types) s e t tys → Types (at_table k forms) (denotes u types) s e v others → tys ≡ others

-- expressions one after another have one list of types
abbrev pub OneListLaw : Type 0
OneListLaw = (u : tree.Unit) (types : List (ℕ × Ty)) (k : Known) (s : Scope) → IsFairAt u types k s
    → (forms : List Form) (es : List Expr) (ts vs : List TypedExpr) (tys others : List Ty) → AreTyped k (denotes u types) s es ts tys → AreTyped (at_table k forms) (denotes u types) s es vs others → tys ≡ others

-- definitions define names of one list of types, behind which one scope is in force
abbrev pub OneScopeLaw : Type 0
OneScopeLaw = (u : tree.Unit) (types : List (ℕ × Ty)) (k : Known) (s : Scope) → IsFairAt u types k s
    → (forms : List Form) (ds : List Def) (ts vs : List (List TypedExpr)) (tys others : List Ty) (after later : Scope)
    → Defines k (denotes u types) s ds ts tys after → Defines (at_table k forms) (denotes u types) s ds vs others later → (tys ≡ others) × (after ≡ later)

-- an expression has one typed tree
abbrev pub OneTypedLaw : Type 0
OneTypedLaw = (u : tree.Unit) (types : List (ℕ × Ty)) (k : Known) (s : Scope) → IsFairAt u types k s → AreNumbered k
    → (e : Expr) (t v : TypedExpr) (tys others : List Ty) → Types k (denotes u types) s e t tys → Types k (denotes u types) s e v others → t ≡ v

-- expressions one after another have one list of typed trees
abbrev pub OneTypedListLaw : Type 0
OneTypedListLaw = (u : tree.Unit) (types : List (ℕ × Ty)) (k : Known) (s : Scope) → IsFairAt u types k s → AreNumbered k
    → (es : List Expr) (ts vs : List TypedExpr) (tys others : List Ty) → AreTyped k (denotes u types) s es ts tys → AreTyped k (denotes u types) s es vs others → ts ≡ vs

-- what breaks a rule has no type
abbrev pub NoTypeLaw : Type 0
NoTypeLaw = (u : tree.Unit) (types : List (ℕ × Ty)) (k : Known) (s : Scope) → IsFairAt u types k s
    → (forms : List Form) (e : Expr) (rule line : ℕ) (t : TypedExpr) (tys : List Ty) → Breaks k (denotes u types) (misnames u types) s e rule line → Types (at_table k forms) (denotes u types) s e t tys → ⊥

-- where one value is wanted there is none of one type
abbrev pub NoOneLaw : Type 0
NoOneLaw = (u : tree.Unit) (types : List (ℕ × Ty)) (k : Known) (s : Scope) → IsFairAt u types k s
    → (forms : List Form) (e : Expr) (rule line : ℕ) (t : TypedExpr) (a : Ty) → BreaksOne k (denotes u types) (misnames u types) s e rule line → Types (at_table k forms) (denotes u types) s e t (a ∷ []) → ⊥

abbrev pub NoListLaw : Type 0
NoListLaw = (u : tree.Unit) (types : List (ℕ × Ty)) (k : Known) (s : Scope) → IsFairAt u types k s
    → (forms : List Form) (es : List Expr) (rule line : ℕ) (ts : List TypedExpr) (tys : List Ty) → BreaksIn k (denotes u types) (misnames u types) s es rule line
    → AreTyped (at_table k forms) (denotes u types) s es ts tys → ⊥

-- definitions that break a rule define nothing
abbrev pub NoScopeLaw : Type 0
NoScopeLaw = (u : tree.Unit) (types : List (ℕ × Ty)) (k : Known) (s : Scope) → IsFairAt u types k s
    → (forms : List Form) (ds : List Def) (rule line : ℕ) (ts : List (List TypedExpr)) (tys : List Ty) (after : Scope) → BreaksDefs k (denotes u types) (misnames u types) s ds rule line
    → Defines (at_table k forms) (denotes u types) s ds ts tys after → AreDistinct (targets ds) → ⊥
