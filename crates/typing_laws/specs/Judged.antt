-- What the walk over a function's body says of the typed trees that it makes: for all that is known of the program, and all names
-- in force, that the walk stands for, they are those of the typing rules. The table of types may still grow.
use Rattle.std.specs.Prelude.{◌≡◌, ℕ, List, [], ◌∷◌, ◌++◌, Some, slice_get, slice_range}
use Rattle.name_scope.specs.Newest.{newest}
use Rattle.flow_value.specs.declared.ty.Ty.{Ty}
use Rattle.type_table.specs.declared.form.Form.{Form}
use Rattle.type_table.specs.Tables.{IsTable}
use Rattle.sisal_tree.specs.declared.unit.Written.{Written}
use Rattle.sisal_tree.specs.declared.expr.Expr.{Expr}
use Rattle.sisal_grammar.specs.Placed.{placed}
use Rattle.typed_tree.specs.declared.expr.TypedExpr.{TypedExpr}
use Rattle.typed_tree.specs.Types.{IsNumber}
use Rattle.typed_tree.specs.Written.{Denotes}
use Rattle.typed_tree.specs.Scopes as tree
use Rattle.typed_tree.specs.Typing.{Known, Signature, Number, Types, AreTyped}
use Rattle.type_rules.specs.Applies.{Grows}
use Rattle.type_rules.specs.Typed.{AreSpelledOnce}
use Rattle.unit_types.specs.Rests.{AreKnown, AreStanding, AreTokensSpelled}
use Rattle.value_names.specs.declared.value.Value.{Value}
use Rattle.value_names.specs.declared.value.Meaning.{Meaning}
use Rattle.value_names.specs.declared.value.Meaning.TheVariants as means
use Rattle.value_names.specs.Names.{Names}
use Rattle.typing_laws.specs.Turns.{AreBelow}
use Rattle.typing_laws.specs.Given.{Header, Given, Parts}

-- ---- what is known

-- the header of a function by number, and by type
pub record IsSignature (k : Known) (s : Header) (f : Signature) : Type 0 where
  pub name : s.name ≡ f.name
  pub parameters : s.parameters ≡ f.parameters
  pub params : Number k s.params f.params
  pub results : Number k s.results f.results

abbrev pub AreSignatures : Known → List Header → List Signature → Type 0
AreSignatures k [] [] = Unit {0}
AreSignatures k (s ∷ ss) (f ∷ fs) = IsSignature k s f × AreSignatures k ss fs
AreSignatures k _ _ = ⊥

-- a function of a name and its number
pub record IsNumbered (functions : List Header) (x n : ℕ) : Type 0 where
  pub header : Header
  pub there : slice_get functions n ≡ Some header
  pub named : header.name ≡ x

-- each number of a name is that of a function of the name
pub record AreNumbered (numbers : List (ℕ × ℕ)) (functions : List Header) : Type 0 where
  pub each : (x n : ℕ) → newest x numbers ≡ Some n → IsNumbered functions x n

-- each function has the number of its name
pub record AreAll (numbers : List (ℕ × ℕ)) (functions : List Header) : Type 0 where
  pub each : (n : ℕ) (h : Header) → slice_get functions n ≡ Some h → newest h.name numbers ≡ Some n

-- what a written type of the text denotes
abbrev pub denotes_in : Given → Known → Written → Ty → Type 0
denotes_in g k w a = Denotes k.spellings k.types (slice_range (placed 0 g.tokens) w.from w.to) a

-- What is given stands for what is known, where these are the types so far: the table of the program has more behind them.
pub record Agrees (g : Given) (forms : List Form) (k : Known) : Type 0 where
  pub grows : Grows forms k.forms
  pub table : IsTable k.forms
  pub spellings : k.spellings ≡ g.spellings
  pub types : AreKnown k.forms k.spellings g.named k.types
  -- each number of the table stands for a type, and the names in the text are spelled, each in its own way
  pub standing : AreStanding k.spellings k.forms
  pub spelled : AreTokensSpelled k.spellings g.tokens
  pub once : AreSpelledOnce k.spellings
  pub functions : AreSignatures k g.functions k.functions
  pub numbers : AreNumbered g.numbers g.functions
  pub all : AreAll g.numbers g.functions

-- the table goes on to that one, and each of its numbers stands for a type if it did before
pub record IsUsedIn (g : Given) (old new : List Form) : Type 0 where
  pub grows : Grows old new
  pub standing : AreTokensSpelled g.spellings g.tokens → AreStanding g.spellings old → AreStanding g.spellings new

-- ---- names in force

-- what a name stands for, by number and by type
abbrev pub IsValue : Known → Value → tree.Meaning → Type 0
IsValue k v (tree.At level t) = (v.level ≡ level) × IsNumber k.forms k.spellings v.ty t
IsValue k v tree.Later = ⊥

abbrev pub IsMeaning : Known → Meaning → tree.Meaning → Type 0
IsMeaning k (means.At v) m = IsValue k v m
IsMeaning k means.Later (tree.At level t) = ⊥
IsMeaning k means.Later tree.Later = Unit {0}

abbrev pub AreMeanings : Known → List (ℕ × Meaning) → List (ℕ × tree.Meaning) → Type 0
AreMeanings k [] [] = Unit {0}
AreMeanings k (n ∷ ns) (m ∷ ms) = (n.0 ≡ m.0) × IsMeaning k n.1 m.1 × AreMeanings k ns ms
AreMeanings k _ _ = ⊥

abbrev pub AreValues : Known → List (ℕ × Value) → List (ℕ × tree.Meaning) → Type 0
AreValues k [] [] = Unit {0}
AreValues k (n ∷ ns) (m ∷ ms) = (n.0 ≡ m.0) × IsValue k n.1 m.1 × AreValues k ns ms
AreValues k _ _ = ⊥

-- the names in force by number stand for those by type
pub record Stands (k : Known) (held : Names) (s : tree.Scope) : Type 0 where
  pub names : AreMeanings k held.names s.names
  pub olds : AreValues k held.olds s.olds
  pub height : held.height ≡ s.height
  -- old names are of loops around
  pub below : AreBelow held.height held.olds

-- names came only on top of those that were in force
pub record IsAbove (old new : Names) : Type 0 where
  pub more : List (ℕ × Meaning)
  pub names : new.names ≡ more ++ old.names
  pub olds : new.olds ≡ old.olds

-- ---- expressions

-- the typed tree of an expression, with the types of its values
pub record IsTypedAs (k : Known) (g : Given) (s : tree.Scope) (e : Expr) (t : TypedExpr) : Type 0 where
  pub tys : List Ty
  pub number : Number k t.types tys
  pub typed : Types k (denotes_in g k) s e t tys

pub record Typed (g : Given) (forms : List Form) (names : Names) (e : Expr) (t : TypedExpr) : Type 0 where
  pub holds : (k : Known) (s : tree.Scope) → Agrees g forms k → Stands k names s → IsTypedAs k g s e t

-- expressions one after another, with the types of all their values
pub record AreTypedAs (k : Known) (g : Given) (s : tree.Scope) (es : List Expr) (ts : List TypedExpr) (ns : List ℕ) : Type 0 where
  pub tys : List Ty
  pub number : Number k ns tys
  pub typed : AreTyped k (denotes_in g k) s es ts tys

pub record AllTyped (g : Given) (forms : List Form) (names : Names) (es : List Expr) (ts : List TypedExpr) (ns : List ℕ) : Type 0 where
  pub holds : (k : Known) (s : tree.Scope) → Agrees g forms k → Stands k names s → AreTypedAs k g s es ts ns

-- expressions that have some value, if there are any
pub record AllElements (g : Given) (forms : List Form) (names : Names) (es : List Expr) (ts : List TypedExpr) (ns : List ℕ) : Type 0 where
  pub typed : AllTyped g forms names es ts ns
  pub some : ns ≡ [] → es ≡ []

-- expressions that have one value each
pub data AreOnes (k : Known) (denotes : Written → Ty → Type 0) (s : tree.Scope) : List Expr → List TypedExpr → List Ty → Type 0 where
  no_one : AreOnes k denotes s [] [] []
  a_one : {e : Expr} {t : TypedExpr} {a : Ty} {es : List Expr} {ts : List TypedExpr} {tys : List Ty}
      → Types k denotes s e t (a ∷ []) → AreOnes k denotes s es ts tys → AreOnes k denotes s (e ∷ es) (t ∷ ts) (a ∷ tys)

pub record AreOnesAs (k : Known) (g : Given) (s : tree.Scope) (es : List Expr) (ts : List TypedExpr) (ns : List ℕ) : Type 0 where
  pub tys : List Ty
  pub number : Number k ns tys
  pub typed : AreOnes k (denotes_in g k) s es ts tys

pub record AllOnes (g : Given) (forms : List Form) (names : Names) (es : List Expr) (ts : List TypedExpr) (ns : List ℕ) : Type 0 where
  pub holds : (k : Known) (s : tree.Scope) → Agrees g forms k → Stands k names s → AreOnesAs k g s es ts ns

-- parts with more behind them, of which this is so
pub record Adds (old new : Parts) (more : List TypedExpr → List ℕ → Type 0) : Type 0 where
  pub exprs : List TypedExpr
  pub types : List ℕ
  pub is_exprs : new.exprs ≡ old.exprs ++ exprs
  pub is_types : new.types ≡ old.types ++ types
  pub holds : more exprs types

-- parts with one more expression behind them, which has one value
pub record AddsSingle (old new : Parts) : Type 0 where
  pub expr : TypedExpr
  pub type : ℕ
  pub exprs : new.exprs ≡ old.exprs ++ (expr ∷ [])
  pub types : new.types ≡ old.types ++ (type ∷ [])

-- the number of the type that a written type denotes
pub record IsDenoted (g : Given) (forms : List Form) (w : Written) (n : ℕ) : Type 0 where
  pub holds : (k : Known) → Agrees g forms k → (a : Ty) × denotes_in g k w a × IsNumber k.forms k.spellings n a
