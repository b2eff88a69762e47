-- What the laws on written types and whole units say: tokens are one type, a unit is one program, and a unit that breaks a rule
-- is none.
use Rattle.std.specs.Prelude.{◌≡◌, ℕ, List, [], ◌∷◌, ◌++◌, Some, slice_get}
use Rattle.flow_value.specs.declared.ty.Ty.{Ty}
use Rattle.type_table.specs.declared.form.Form.{Form}
use Rattle.sisal_tree.specs.declared.unit.Unit as tree
use Rattle.sisal_grammar.specs.declared.value.Placed.{Placed}
use Rattle.typed_tree.specs.declared.program.Function.{Function}
use Rattle.typed_tree.specs.declared.program.Program.{Program}
use Rattle.typed_tree.specs.Types.{IsNumber, AreNumbers}
use Rattle.typed_tree.specs.Written.{Denotes, Misnames}
use Rattle.typed_tree.specs.Units.{Declared, AreDeclared, IsTyped}
use Rattle.typed_tree.specs.Faults.{BreaksUnit}

-- each name is spelled in its own way
abbrev pub AreSpelledOnce : List (List ℕ) → Type 0
AreSpelledOnce names = (i j : ℕ) (s : List ℕ) → slice_get names i ≡ Some s → slice_get names j ≡ Some s → i ≡ j

-- ---- written types

-- of two types at the front of the same tokens
abbrev pub OneDenotedLaw : Type 0
OneDenotedLaw = (spellings : List (List ℕ)) (types : List (ℕ × Ty)) (ts us rest others : List Placed) (a b : Ty) → Denotes spellings types ts a → Denotes spellings types us b
    → ts ++ rest ≡ us ++ others → (ts ≡ us) × (a ≡ b) × (rest ≡ others)

-- what breaks a rule is no type, whatever stands behind it
abbrev pub NoneDenotedLaw : Type 0
NoneDenotedLaw = (spellings : List (List ℕ)) (types : List (ℕ × Ty)) (ts us rest : List Placed) (rule line : ℕ) (a : Ty) → Misnames spellings types ts rule line → Denotes spellings types us a
    → us ++ rest ≡ ts → ⊥

-- ---- units

-- the functions of a unit
abbrev pub OneDeclaredLaw : Type 0
OneDeclaredLaw = (u : tree.Unit) (ds es : List Declared) → AreDeclared u ds → AreDeclared u es → ds ≡ es

-- a unit that breaks a rule is no program
abbrev pub NoProgramLaw : Type 0
NoProgramLaw = (u : tree.Unit) (rule line : ℕ) (p : Program) → AreSpelledOnce u.tokens.names → BreaksUnit u rule line → IsTyped u p → ⊥

-- functions of two tables, with the same names and types
pub record IsAlike (names : List (List ℕ)) (forms others : List Form) (f g : Function) : Type 0 where
  pub line : f.line ≡ g.line
  pub name : f.name ≡ g.name
  pub parameters : f.parameters ≡ g.parameters
  pub params : (tys : List Ty) × AreNumbers forms names f.params tys × AreNumbers others names g.params tys
  pub results : (tys : List Ty) × AreNumbers forms names f.results tys × AreNumbers others names g.results tys

pub data AreAlike (names : List (List ℕ)) (forms others : List Form) : List Function → List Function → Type 0 where
  no_function : AreAlike names forms others [] []
  a_function : {f g : Function} {fs gs : List Function} → IsAlike names forms others f g → AreAlike names forms others fs gs → AreAlike names forms others (f ∷ fs) (g ∷ gs)

-- two typed trees of one unit
pub record SameProgram (u : tree.Unit) (p q : Program) : Type 0 where
  pub names : p.names ≡ q.names
  pub functions : AreAlike u.tokens.names p.types q.types p.functions q.functions
  pub defines : p.defines ≡ q.defines

abbrev pub OneTypingLaw : Type 0
OneTypingLaw = (u : tree.Unit) (p q : Program) → IsTyped u p → IsTyped u q → SameProgram u p q

-- each type has one number in the table
abbrev pub IsEachOnce : List Form → List (List ℕ) → Type 0
IsEachOnce forms names = (n m : ℕ) (a : Ty) → IsNumber forms names n a → IsNumber forms names m a → n ≡ m

-- over one table, in which each type has one number, a unit has one typed tree
abbrev pub OneTreeLaw : Type 0
OneTreeLaw = (u : tree.Unit) (p q : Program) → AreSpelledOnce u.tokens.names → IsTyped u p → IsTyped u q → p.types ≡ q.types → IsEachOnce p.types u.tokens.names → p ≡ q
