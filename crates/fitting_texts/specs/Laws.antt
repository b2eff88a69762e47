-- What is said of the programs of texts.
use Rattle.std.specs.Prelude.{◌≡◌, ◌≤◌, ℕ, List, [], ◌∷◌, Some, slice_get, Ok}
use Rattle.type_table.specs.Tables.{IsTable}
use Rattle.sisal_tree.specs.declared.unit.Unit as tree
use Rattle.sisal_tree.specs.Depth.{depth_of}
use Rattle.sisal_lex.specs.Tokens.{tokens_of}
use Rattle.sisal_grammar.specs.Phrases.{unit}
use Rattle.sisal_grammar.specs.Placed.{placed}
use Rattle.sisal_grammar.specs.Spells.{Spells}
use Rattle.typed_tree.specs.declared.program.Program.{Program}
use Rattle.unit_types.specs.Rests.{AreStanding}
use Rattle.typed_tree.specs.Units.{signatures, IsTyped}
use Rattle.flow_value.specs.declared.value.Val.{Val}
use Rattle.flow_value.specs.declared.ty.Ty.{Ty}
use Rattle.value_text.specs.Printed.{value_bytes}
use Rattle.value_text.specs.Grammar.{reads_value}
use Rattle.typed_tree.specs.declared.expr.TypedExpr.{TypedExpr}
use Rattle.typed_tree.specs.declared.program.Function.{Function}
use Rattle.typed_tree.specs.Typing.{Signature}
use Rattle.meaning.specs.Plain.{plain_calls}
use Rattle.typed_rows.specs.Rows.{AreOf}
use Rattle.typed_values.specs.Meets.{Asked, Meets, IsRight}
use Rattle.lowered_units.specs.Fitting.{IsFitting}

-- A program of a unit that a text spells. That its types stand, no union with a tag twice, is what `check` answers besides.
pub record IsTypedText (bytes : List ℕ) (u : tree.Unit) (p : Program) : Type 0 where
  pub lexed : tokens_of bytes ≡ Ok u.tokens
  pub spelled : Spells unit (placed 0 u.tokens.list) (record { defines = u.defines; items = u.items })
  pub typed : IsTyped u p
  pub standing : AreStanding u.tokens.names p.types

-- it fits, where the text is at most 200 deep
abbrev pub DoTextsFit : Type 0
DoTextsFit = (bytes : List ℕ) (u : tree.Unit) (p : Program) → IsTypedText bytes u p → depth_of u.items ≤ 200 → IsTable p.types → IsFitting p

-- on arguments of the types of its parameters, a function gives values of the types of its results
abbrev pub DoTextsGiveTypes : Type 0
DoTextsGiveTypes = (bytes : List ℕ) (u : tree.Unit) (p : Program) (t : IsTypedText bytes u p) (f : ℕ) (s : Signature) → slice_get (signatures t.typed.declared) f ≡ Some s
    → (n : ℕ) (vs : List Val) (r : List Val × ℕ) → AreOf s.params vs → plain_calls n p.functions f vs ≡ Some r → AreOf s.results r.0

-- and whatever its results meet is what is taken there
abbrev pub DoTextsMeetWhatTheyTake : Type 0
DoTextsMeetWhatTheyTake = (bytes : List ℕ) (u : tree.Unit) (p : Program) (t : IsTypedText bytes u p) (f : ℕ) (s : Signature) → slice_get (signatures t.typed.declared) f ≡ Some s
    → (d : Function) (es : List TypedExpr) (k : ℕ) (e : TypedExpr) → slice_get p.functions f ≡ Some d → d.body ≡ Some es → slice_get es k ≡ Some e
    → (n : ℕ) (vs : List Val) (a : Asked) → AreOf s.params vs → Meets p.functions n e vs a → IsRight a

-- what is printed of these values reads as them, at these types
abbrev pub AreReadAs : List Ty → List Val → Type 0
AreReadAs [] [] = Unit {0}
AreReadAs (t ∷ ts) (v ∷ vs) = reads_value (value_bytes v) t v × AreReadAs ts vs
AreReadAs _ _ = ⊥

-- so it is of the results of a function of a text
abbrev pub AreResultsRead : Type 0
AreResultsRead = (bytes : List ℕ) (u : tree.Unit) (p : Program) (t : IsTypedText bytes u p) → IsTable p.types → (f : ℕ) (s : Signature) → slice_get (signatures t.typed.declared) f ≡ Some s
    → (n : ℕ) (vs : List Val) (r : List Val × ℕ) → AreOf s.params vs → plain_calls n p.functions f vs ≡ Some r → AreReadAs s.results r.0
