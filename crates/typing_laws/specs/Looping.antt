-- The parts of loops: generators, clauses and turns.
use Rattle.std.specs.Prelude.{◌≡◌, ℕ, ◌+◌, List, [], ◌∷◌, ◌++◌, length, Bool, true, false, Option, Some, None, is_some, if◌then◌else◌}
use Rattle.flow_value.specs.declared.ty.Ty.{Ty}
use Rattle.flow_value.specs.declared.ty.Ty.TheVariants as ty
use Rattle.type_table.specs.declared.form.Form.{Form}
use Rattle.type_table.specs.Tables.{IsTable}
use Rattle.sisal_tree.specs.declared.expr.Clause.{Clause, out-Clause}
use Rattle.sisal_tree.specs.declared.expr.Def.{Def}
use Rattle.sisal_tree.specs.declared.expr.Expr.{Expr}
use Rattle.sisal_tree.specs.declared.expr.Generator.{Generator}
use Rattle.sisal_tree.specs.declared.expr.Mask.{Mask}
use Rattle.sisal_tree.specs.declared.expr.Turn.{Turn, out-Turn}
use Rattle.sisal_tree.specs.declared.unit.Named.{Named}
use Rattle.sisal_tree.specs.declared.unit.Written.{Written}
use Rattle.typed_tree.specs.declared.expr.ClauseForm.{ClauseForm}
use Rattle.typed_tree.specs.declared.expr.Source.{Source}
use Rattle.typed_tree.specs.declared.expr.Source.TheVariants as source
use Rattle.typed_tree.specs.declared.expr.TypedExpr.{TypedExpr}
use Rattle.typed_tree.specs.declared.expr.TypedKind.TheVariants as typed
use Rattle.typed_tree.specs.Operations.{clause_form}
use Rattle.typed_tree.specs.Scopes as tree
use Rattle.typed_tree.specs.Scopes.{AreDistinct, targets}
use Rattle.typed_tree.specs.Types.{IsShallow, Makes}
use Rattle.typed_tree.specs.Typing.{Known, Number, Types, Generates, IsMask, Defines, Crosses, names_of, with}
use Rattle.type_rules.specs.declared.folds.Made.{Made}
use Rattle.type_rules.specs.Applies.{Grows}
use Rattle.type_rules.specs.Folds.{IsMade}
use Rattle.type_rules.specs.Parts.{sequence_at}
use Rattle.value_names.specs.declared.value.Meaning.{Meaning}
use Rattle.value_names.specs.declared.value.Value.{Value}
use Rattle.value_names.specs.Names.{Names}
use Rattle.value_names.specs.Scopes.{define_all}
use Rattle.typing_laws.specs.Turns.{AreBelow}
use Rattle.typing_laws.specs.Given.{Given}
use Rattle.typing_laws.specs.Given.{Parts}
use Rattle.typing_laws.specs.Given.{Defined}
use Rattle.typing_laws.specs.Given.{Group}
use Rattle.typing_laws.specs.Given.{Folds}
use Rattle.typing_laws.specs.Given.{Turned}
use Rattle.typing_laws.specs.Judged.{Agrees, Stands, denotes_in}

-- ---- generators

-- generators that see none of each other
pub record AreGeneratedAs (k : Known) (g : Given) (s : tree.Scope) (gs : List Generator) (m : Group) : Type 0 where
  pub tys : List Ty
  pub number : Number k m.types tys
  pub typed : Generates k (denotes_in g k) s gs m.sources m.bounds (names_of m.names) tys

pub record AllGenerated (g : Given) (forms : List Form) (names : Names) (gs : List Generator) (m : Group) : Type 0 where
  pub holds : (k : Known) (s : tree.Scope) → Agrees g forms k → Stands k names s → AreGeneratedAs k g s gs m

-- a generator was added to those before
pub record AddsGenerator (g : Given) (before after : List Form) (names : Names) (one : Generator) (old new : Group) : Type 0 where
  pub holds : (others : List Generator) → AllGenerated g before names others old → AllGenerated g after names (others ++ (one ∷ [])) new

-- the upper bound, where there is one
abbrev pub up_to : Option Expr → List Expr
up_to None = []
up_to (Some e) = e ∷ []

-- what goes over a type, and the type of its elements
pub record IsElement (forms : List Form) (n : ℕ) (has_index : Bool) (from : Source) (element : ℕ) : Type 0 where
  pub at : sequence_at forms n ≡ Some element
  pub is : from ≡ (if has_index then source.Indexed else source.Elements)

pub data GoesOver (forms : List Form) (bounds : List ℕ) (has_index : Bool) (from : Source) (n : ℕ) : Type 0 where
  over_range : bounds ≡ 2 ∷ 2 ∷ [] → has_index ≡ false → from ≡ source.Range → n ≡ 2 → GoesOver forms bounds has_index from n
  over_elements : (m : ℕ) → bounds ≡ m ∷ [] → IsElement forms m has_index from n → GoesOver forms bounds has_index from n

-- the index of a generator
abbrev pub index_names : Option ℕ → ℕ → List Named
index_names None line = []
index_names (Some x) line = record { name = x; line = line } ∷ []

abbrev pub index_types : Option ℕ → List ℕ
index_types None = []
index_types (Some x) = 2 ∷ []

-- a generator was added with its bounds
pub record KeepsGenerator (forms : List Form) (name : Named) (index : Option ℕ) (parts : Parts) (old new : Group) : Type 0 where
  pub from : Source
  pub type : ℕ
  pub over : GoesOver forms parts.types (is_some index) from type
  pub sources : new.sources ≡ old.sources ++ (from ∷ [])
  pub bounds : new.bounds ≡ old.bounds ++ parts.exprs
  pub names : new.names ≡ old.names ++ (name ∷ index_names index name.line)
  pub types : new.types ≡ old.types ++ (type ∷ index_types index)

-- a group of generators, no name of which stands twice
pub record GroupTyped (g : Given) (forms : List Form) (names : Names) (gs : List Generator) (m : Group) : Type 0 where
  pub generated : AllGenerated g forms names gs m
  pub distinct : AreDistinct (names_of m.names)

-- groups in order, each of which sees the names of those before; these come into force
pub data GroupsTyped (g : Given) (forms : List Form) : Names → List (List Generator) → List Group → Names → Type 0 where
  no_group : {names : Names} → GroupsTyped g forms names [] [] names
  a_group : {names after : Names} {gs : List Generator} {m : Group} {groups : List (List Generator)} {ms : List Group}
      → GroupTyped g forms names gs m → GroupsTyped g forms (define_all m.names m.types names) groups ms after
      → GroupsTyped g forms names (gs ∷ groups) (m ∷ ms) after

-- ---- clauses

-- the values of clauses, each with its mask behind it, and the types of the values alone
pub data AreValuesOf (k : Known) (denotes : Written → Ty → Type 0) (s : tree.Scope) : List Clause → List TypedExpr → List Ty → Type 0 where
  no_value : AreValuesOf k denotes s [] [] []
  a_value : (c : Clause) {a : Ty} {t : TypedExpr} {masks : List TypedExpr} {cs : List Clause} {ts : List TypedExpr} {tys : List Ty}
      → Types k denotes s (out-Clause c).value t (a ∷ []) → IsMask k denotes s (out-Clause c).mask masks → AreValuesOf k denotes s cs ts tys
      → AreValuesOf k denotes s (c ∷ cs) (t ∷ (masks ++ ts)) (a ∷ tys)

pub record AreValuesAs (k : Known) (g : Given) (s : tree.Scope) (cs : List Clause) (ts : List TypedExpr) (ns : List ℕ) : Type 0 where
  pub tys : List Ty
  pub number : Number k ns tys
  pub typed : AreValuesOf k (denotes_in g k) s cs ts tys

pub record AllValues (g : Given) (forms : List Form) (names : Names) (cs : List Clause) (ts : List TypedExpr) (ns : List ℕ) : Type 0 where
  pub holds : (k : Known) (s : tree.Scope) → Agrees g forms k → Stands k names s → AreValuesAs k g s cs ts ns

-- a mask, where it counts
abbrev pub mask_if : Bool → Option Mask → Option Mask
mask_if true m = m
mask_if false m = None

-- what clauses make of values of these types, as far as there are both
pub data AreMade (is_masked : Bool) : List Clause → List Ty → List ClauseForm → List Ty → Type 0 where
  no_clause : (tys : List Ty) → AreMade is_masked [] tys [] []
  no_value : (cs : List Clause) → AreMade is_masked cs [] [] []
  a_clause : (c : Clause) {a b : Ty} {cs : List Clause} {tys made : List Ty} {forms : List ClauseForm}
      → Makes (out-Clause c).kind a b → IsShallow b → AreMade is_masked cs tys forms made
      → AreMade is_masked (c ∷ cs) (a ∷ tys) (clause_form (out-Clause c).kind a (mask_if is_masked (out-Clause c).mask) ∷ forms) (b ∷ made)

pub record AreMadeAs (k : Known) (cs : List Clause) (is_masked : Bool) (tys : List Ty) (m : Folds) : Type 0 where
  pub made : List Ty
  pub number : Number k m.types made
  pub each : AreMade is_masked cs tys m.forms made

pub record AllMade (forms : List Form) (cs : List Clause) (is_masked : Bool) (ns : List ℕ) (m : Folds) : Type 0 where
  pub holds : (k : Known) → Grows forms k.forms → IsTable k.forms → (tys : List Ty) → Number k ns tys → AreMadeAs k cs is_masked tys m

abbrev pub unless_of : Option Mask → Option Bool
unless_of None = None
unless_of (Some m) = Some m.is_unless

abbrev pub mask_of : Clause → Bool → Option Bool
mask_of c is_masked = unless_of (mask_if is_masked (out-Clause c).mask)

-- what a clause makes was added
pub record FoldAdded (before after : List Form) (c : Clause) (is_masked : Bool) (n : ℕ) (old new : Folds) : Type 0 where
  pub made : Made
  pub is_made : IsMade before (out-Clause c).kind (mask_of c is_masked) n made after
  pub forms : new.forms ≡ old.forms ++ (made.form ∷ [])
  pub types : new.types ≡ old.types ++ (made.ty ∷ [])

-- ---- loops over groups

pub record IsCrossedAs (k : Known) (g : Given) (s : tree.Scope) (line : ℕ) (gs : List (List Generator)) (ds : List Def) (cs : List Clause) (t : TypedExpr) : Type 0 where
  pub tys : List Ty
  pub number : Number k t.types tys
  pub typed : Crosses k (denotes_in g k) s line gs ds cs t tys

pub record IsCrossed (g : Given) (forms : List Form) (names : Names) (line : ℕ) (gs : List (List Generator)) (ds : List Def) (cs : List Clause) (t : TypedExpr) : Type 0 where
  pub holds : (k : Known) (s : tree.Scope) → Agrees g forms k → Stands k names s → IsCrossedAs k g s line gs ds cs t

-- ---- turns

-- names and old names came only on top of those that were in force
pub record IsAround (old new : Names) : Type 0 where
  pub more : List (ℕ × Meaning)
  pub others : List (ℕ × Value)
  pub names : new.names ≡ more ++ old.names
  pub olds : new.olds ≡ others ++ old.olds

-- the names of a loop, whose first has this level, are the last ones that came into force
pub record IsStarted (first : ℕ) (started : Defined) (names : Names) : Type 0 where
  pub below : AreBelow first names.olds
  pub height : names.height ≡ first + length started.types
  pub count : length started.types ≡ length started.targets

abbrev pub loop_in : ℕ → Defined → List Ty → List (ℕ × tree.Meaning)
loop_in first started tys = tree.loop_names first (names_of started.targets) tys

-- the definitions of a turn
pub record AreRenewedAs (k : Known) (g : Given) (s : tree.Scope) (first : ℕ) (loop : List (ℕ × tree.Meaning)) (ds : List Def) (renewed : List (Option ℕ)) (us : List (List TypedExpr)) : Type 0 where
  pub later : List Ty
  pub inside : tree.Scope
  pub defines : Defines k (denotes_in g k) (tree.in_turn loop (targets ds) s) ds us later inside
  pub keeps : tree.KeepTypes loop (targets ds) later
  pub renewals : renewed ≡ tree.renewals loop first (targets ds)

pub record AllRenewed (g : Given) (forms : List Form) (names : Names) (first : ℕ) (started : Defined) (ds : List Def) (renewed : List (Option ℕ)) (us : List (List TypedExpr)) : Type 0 where
  pub distinct : AreDistinct (targets ds)
  pub holds : IsStarted first started names → (k : Known) (s : tree.Scope) (tys : List Ty) → Agrees g forms k → Stands k names s → Number k started.types tys
      → AreRenewedAs k g s first (loop_in first started tys) ds renewed us

-- a test with its truth value
pub record IsTestAs (k : Known) (g : Given) (s : tree.Scope) (e : Expr) (ts : List TypedExpr) : Type 0 where
  pub test : TypedExpr
  pub is : ts ≡ test ∷ []
  pub typed : Types k (denotes_in g k) s e test (ty.Bool ∷ [])

pub record IsTest (g : Given) (forms : List Form) (names : Names) (e : Expr) (ts : List TypedExpr) : Type 0 where
  pub holds : (k : Known) (s : tree.Scope) → Agrees g forms k → Stands k names s → IsTestAs k g s e ts

pub record TurnTyped (g : Given) (forms : List Form) (names : Names) (first : ℕ) (started : Defined) (turn : Turn) (t : Turned) : Type 0 where
  pub is_first : t.is_first ≡ (out-Turn turn).is_first
  pub is_until : t.is_until ≡ (out-Turn turn).is_until
  pub test : IsTest g forms names (out-Turn turn).test t.test
  pub renewed : AllRenewed g forms names first started (out-Turn turn).defs t.renewed t.exprs

-- the typed tree of a `for initial`
abbrev pub initial_of : ℕ → Defined → Turned → List TypedExpr → Folds → TypedExpr
initial_of line started turned ts folds = with line folds.types (typed.Initial (record { is_first = turned.is_first; is_until = turned.is_until; renewed = turned.renewed; clauses = folds.forms }) started.exprs turned.test turned.exprs ts)
