-- What the walk over a function's body says where it refuses: the types so far grow to a table at which, for all that is known in
-- the whole program, and all names in force, that the walk stands for, a phrase breaks the rule on the line.
use Rattle.std.specs.Prelude.{◌≡◌, ℕ, List, slice_range, Contains}
use Rattle.type_table.specs.declared.form.Form.{Form}
use Rattle.type_table.specs.Tables.{IsTable}
use Rattle.sisal_tree.specs.declared.unit.Written.{Written}
use Rattle.sisal_tree.specs.declared.expr.Expr.{Expr}
use Rattle.sisal_tree.specs.declared.expr.ExprKind.{ExprKind}
use Rattle.sisal_tree.specs.declared.expr.FieldValue.{FieldValue}
use Rattle.sisal_grammar.specs.Placed.{placed}
use Rattle.typed_tree.specs.Written.{Misnames}
use Rattle.typed_tree.specs.Scopes as tree
use Rattle.typed_tree.specs.Typing.{Known, at}
use Rattle.typed_tree.specs.Breaks.{Breaks, BreaksOne, BreaksIn}
use Rattle.value_names.specs.Names.{Names}
use Rattle.typing_laws.specs.Given.{Given}
use Rattle.typing_laws.specs.Judged.{IsUsedIn, Agrees, Stands, denotes_in}

-- which rule a written type of the text breaks, and where
abbrev pub misnames_in : Given → Known → Written → ℕ → ℕ → Type 0
misnames_in g k w rule line = Misnames k.spellings k.types (slice_range (placed 0 g.tokens) w.from w.to) rule line

-- the types so far grow to a table of which this is so
pub record Reaches (g : Given) (old : List Form) (says : List Form → Type 0) : Type 0 where
  pub table : List Form
  pub used : IsUsedIn g old table
  pub is_table : IsTable table
  pub holds : says table

-- what is given stands for what is known, where these are all types of the program
pub record IsWhole (g : Given) (forms : List Form) (k : Known) : Type 0 where
  pub agrees : Agrees g forms k
  pub same : k.forms ≡ forms

-- ---- written types

pub record MisnamesAt (g : Given) (w : Written) (rule line : ℕ) (forms : List Form) : Type 0 where
  pub holds : (k : Known) → IsWhole g forms k → misnames_in g k w rule line

-- a written type breaks the rule
abbrev pub Misnamed : Given → List Form → Written → ℕ → ℕ → Type 0
Misnamed g old w rule line = Reaches g old (MisnamesAt g w rule line)

-- ---- expressions

pub record BreaksAt (g : Given) (names : Names) (e : Expr) (rule line : ℕ) (forms : List Form) : Type 0 where
  pub holds : (k : Known) (s : tree.Scope) → IsWhole g forms k → Stands k names s → Breaks k (denotes_in g k) (misnames_in g k) s e rule line

-- an expression breaks the rule
abbrev pub Broken : Given → List Form → Names → Expr → ℕ → ℕ → Type 0
Broken g old names e rule line = Reaches g old (BreaksAt g names e rule line)

pub record BreaksOneAt (g : Given) (names : Names) (e : Expr) (rule line : ℕ) (forms : List Form) : Type 0 where
  pub holds : (k : Known) (s : tree.Scope) → IsWhole g forms k → Stands k names s → BreaksOne k (denotes_in g k) (misnames_in g k) s e rule line

-- an expression, where one value is wanted
abbrev pub BrokenOne : Given → List Form → Names → Expr → ℕ → ℕ → Type 0
BrokenOne g old names e rule line = Reaches g old (BreaksOneAt g names e rule line)

pub record BreaksInAt (g : Given) (names : Names) (es : List Expr) (rule line : ℕ) (forms : List Form) : Type 0 where
  pub holds : (k : Known) (s : tree.Scope) → IsWhole g forms k → Stands k names s → BreaksIn k (denotes_in g k) (misnames_in g k) s es rule line

-- one of some expressions
abbrev pub BrokenIn : Given → List Form → Names → List Expr → ℕ → ℕ → Type 0
BrokenIn g old names es rule line = Reaches g old (BreaksInAt g names es rule line)

-- a form over operands, on whatever line it stands
abbrev pub BrokenForm : Given → List Form → Names → ExprKind → ℕ → ℕ → Type 0
BrokenForm g old names kind rule line = (l : ℕ) → Broken g old names (at l kind) rule line

pub record BreaksFieldAt (g : Given) (names : Names) (vs : List FieldValue) (rule line : ℕ) (forms : List Form) : Type 0 where
  pub field : FieldValue
  pub contains : Contains vs field
  pub breaks : BreaksOneAt g names field.value rule line forms

-- the value of one of some fields
abbrev pub BrokenField : Given → List Form → Names → List FieldValue → ℕ → ℕ → Type 0
BrokenField g old names vs rule line = Reaches g old (BreaksFieldAt g names vs rule line)
