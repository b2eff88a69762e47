-- Which units are programs (SISAL Language Reference Manual 1.2, programs and scope). A type is known after its definition, a
-- function in the whole unit.
use Rattle.std.specs.Prelude.{◌≡◌, ℕ, List, [], ◌∷◌, ◌++◌, map, Bool, true, false, Option, Some, None, slice_get, slice_range, Contains, All}
use Rattle.std.specs.List.{filter}
use Rattle.name_scope.specs.Newest.{newest}
use Rattle.loop_folds.specs.Ty.{Ty}
use Rattle.type_table.specs.declared.form.Form.{Form}
use Rattle.sisal_tree.specs.declared.unit.Named.{Named}
use Rattle.sisal_tree.specs.declared.unit.Written.{Written}
use Rattle.sisal_tree.specs.declared.unit.Field.{Field}
use Rattle.sisal_tree.specs.declared.unit.TypeDef.{TypeDef}
use Rattle.sisal_tree.specs.declared.unit.Header.{Header}
use Rattle.sisal_tree.specs.declared.unit.FunKind.{FunKind}
use Rattle.sisal_tree.specs.declared.unit.FunKind.TheVariants as fun
use Rattle.sisal_tree.specs.declared.unit.FunDef.{FunDef}
use Rattle.sisal_tree.specs.declared.unit.Item.{Item}
use Rattle.sisal_tree.specs.declared.unit.Item.TheVariants as item
use Rattle.sisal_tree.specs.declared.unit.Unit as tree
use Rattle.sisal_tree.specs.declared.expr.Expr.{Expr}
use Rattle.sisal_grammar.specs.declared.value.Placed.{Placed}
use Rattle.sisal_grammar.specs.Placed.{placed}
use Rattle.typed_tree.specs.declared.expr.TypedExpr.{TypedExpr}
use Rattle.typed_tree.specs.declared.program.Function.{Function}
use Rattle.typed_tree.specs.declared.program.Program.{Program}
use Rattle.typed_tree.specs.Scopes.{Scope, no_names, define_all, AreDistinct}
use Rattle.typed_tree.specs.Types.{AreNumbers}
use Rattle.typed_tree.specs.Typing.{Signature, Known, names_of, AreTyped}
use Rattle.typed_tree.specs.Breaks.{NoBuiltIn}
use Rattle.typed_tree.specs.Written.{Denotes}

-- whether the function itself is given, here or in another unit, and not only its header
abbrev pub is_given : FunDef → Bool
is_given f = is_whole f.kind
  where
    is_whole : FunKind → Bool
    is_whole fun.Forward = false
    is_whole _ = true

-- a function, the names of types that are known where it stands, the newest first, and what its header says
pub record Declared : Type 0 where
  pub function : FunDef
  pub types : List (ℕ × Ty)
  pub signature : Signature

abbrev pub given : List Declared → List Declared
given ds = filter (λ d. is_given d.function) ds

abbrev pub signatures : List Declared → List Signature
signatures ds = map (λ d. d.signature) (given ds)

-- the parameters are in force in the whole function
abbrev pub parameters : Signature → Scope
parameters s = define_all s.parameters s.params no_names

module _ (u : tree.Unit) where
  -- the tokens of a written type
  abbrev pub written : Written → List Placed
  written w = slice_range (placed 0 u.tokens.list) w.from w.to

  -- a written type denotes a type, where these names of types are known
  abbrev pub denotes : List (ℕ × Ty) → Written → Ty → Type 0
  denotes types w a = Denotes u.tokens.names types (written w) a

  -- what is known where these names of types are, in a unit of these functions
  abbrev pub known : List Form → List Declared → List (ℕ × Ty) → Known
  known forms ds types = record { forms = forms; spellings = u.tokens.names; types = types; functions = signatures ds }

  -- ---- headers

  -- the names of parameters, in order, and their types
  pub data HasParams (types : List (ℕ × Ty)) : List Field → List ℕ → List Ty → Type 0 where
    no_field : HasParams types [] [] []
    a_field : {f : Field} {a : Ty} {fs : List Field} {xs : List ℕ} {tys : List Ty}
        → denotes types f.ty a → HasParams types fs xs tys
        → HasParams types (f ∷ fs) (names_of f.names ++ xs) (map (λ n. a) f.names ++ tys)

  pub data HasResults (types : List (ℕ × Ty)) : List Written → List Ty → Type 0 where
    no_result : HasResults types [] []
    a_result : {w : Written} {a : Ty} {ws : List Written} {tys : List Ty}
        → denotes types w a → HasResults types ws tys → HasResults types (w ∷ ws) (a ∷ tys)

  -- what a header says
  pub record IsHeader (types : List (ℕ × Ty)) (h : Header) (s : Signature) : Type 0 where
    pub named : s.name ≡ h.name.name
    pub params : HasParams types h.params s.parameters s.params
    pub distinct : AreDistinct s.parameters
    pub results : HasResults types h.results s.results

  -- The functions of items, in order, where these names of types are known before.
  pub data Declares : List (ℕ × Ty) → List Item → List Declared → Type 0 where
    no_item : {types : List (ℕ × Ty)} → Declares types [] []
    a_type : {types : List (ℕ × Ty)} {d : TypeDef} {a : Ty} {items : List Item} {ds : List Declared}
        → denotes types d.ty a → newest d.name types ≡ None → Declares ((d.name, a) ∷ types) items ds
        → Declares types (item.Alias d ∷ items) ds
    a_function : {types : List (ℕ × Ty)} {f : FunDef} {s : Signature} {items : List Item} {ds : List Declared}
        → IsHeader types f.header s → Declares types items ds
        → Declares types (item.Function f ∷ items) (record { function = f; types = types; signature = s } ∷ ds)

  -- the functions of the unit, each given once, and none as a call that is built in
  pub record AreDeclared (ds : List Declared) : Type 0 where
    pub declares : Declares [] u.items ds
    pub distinct : AreDistinct (map (λ s. s.name) (signatures ds))
    pub own : All (λ s. NoBuiltIn (known [] ds []) s.name) (signatures ds)

  -- ---- functions

  -- what a function gives: the results of its header, or nothing here where another unit has it
  pub data HasBody (k : Known) (s : Signature) : FunKind → Option (List TypedExpr) → Type 0 where
    global : HasBody k s fun.Global None
    defined : {es : List Expr} {ts : List TypedExpr}
        → AreTyped k (denotes k.types) (parameters s) es ts s.results → HasBody k s (fun.Defined es) (Some ts)

  -- a function of the program, of a unit of these functions
  pub record IsFunctionOf (forms : List Form) (ds : List Declared) (d : Declared) (f : Function) : Type 0 where
    pub line : f.line ≡ d.function.line
    pub name : f.name ≡ d.signature.name
    pub parameters : f.parameters ≡ d.signature.parameters
    pub params : AreNumbers forms u.tokens.names f.params d.signature.params
    pub results : AreNumbers forms u.tokens.names f.results d.signature.results
    pub body : HasBody (known forms ds d.types) d.signature d.function.kind f.body

  pub data AreFunctionsOf (forms : List Form) (ds : List Declared) : List Declared → List Function → Type 0 where
    no_function : AreFunctionsOf forms ds [] []
    a_function : {d : Declared} {f : Function} {es : List Declared} {fs : List Function}
        → IsFunctionOf forms ds d f → AreFunctionsOf forms ds es fs → AreFunctionsOf forms ds (d ∷ es) (f ∷ fs)

  -- the function of this number has this name and is defined in the unit
  pub record IsDefined (ds : List Declared) (name n : ℕ) : Type 0 where
    pub function : Declared
    pub there : slice_get (given ds) n ≡ Some function
    pub named : function.signature.name ≡ name
    pub body : List Expr
    pub defined : function.function.kind ≡ fun.Defined body

  pub data AreDefined (ds : List Declared) : List Named → List ℕ → Type 0 where
    no_name : AreDefined ds [] []
    a_name : {name : Named} {n : ℕ} {names : List Named} {ns : List ℕ}
        → IsDefined ds name.name n → AreDefined ds names ns → AreDefined ds (name ∷ names) (n ∷ ns)

  -- ---- units

  -- The unit is a program, and this is its typed tree.
  pub record IsTyped (p : Program) : Type 0 where
    pub declared : List Declared
    pub declares : AreDeclared declared
    -- a header is that of its definition
    pub forward : All (λ d. Contains (signatures declared) d.signature) declared
    pub names : p.names ≡ u.tokens.names
    pub functions : AreFunctionsOf p.types declared (given declared) p.functions
    pub defines : AreDefined declared u.defines p.defines
