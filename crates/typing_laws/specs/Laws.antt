-- What the laws say: typed parts make typed expressions, also where types stand by their numbers.
use Rattle.flow_value.specs.declared.ty.Ty.{Ty}
use Rattle.name_scope.specs.Newest.{newest}
use Rattle.sisal_tree.specs.declared.expr.Arm.{Arm, out-Arm}
use Rattle.sisal_tree.specs.declared.expr.Clause.{Clause, out-Clause}
use Rattle.sisal_tree.specs.declared.expr.Constant.{Constant}
use Rattle.sisal_tree.specs.declared.expr.Def.{Def}
use Rattle.sisal_tree.specs.declared.expr.Elements.{Elements}
use Rattle.sisal_tree.specs.declared.expr.Expr.{Expr}
use Rattle.sisal_tree.specs.declared.expr.ExprKind.{ExprKind}
use Rattle.sisal_tree.specs.declared.expr.Generator.{Generator, out-Generator}
use Rattle.sisal_tree.specs.declared.expr.Mask.{Mask}
use Rattle.sisal_tree.specs.declared.expr.TagCase.{TagCase, out-TagCase}
use Rattle.sisal_tree.specs.declared.expr.Turn.{Turn}
use Rattle.sisal_tree.specs.declared.unit.Named.{Named}
use Rattle.sisal_tree.specs.declared.unit.Written.{Written}
use Rattle.std.specs.Prelude.{Bool, List, None, Option, Some, [], false, length, true, ℕ, ◌++◌, ◌+◌, ◌-◌, ◌<◌, ◌∷◌, ◌≡◌}
use Rattle.type_rules.specs.Applies.{Grows}
use Rattle.type_rules.specs.declared.head.Head.{Head}
use Rattle.type_table.specs.declared.form.Form.{Form}
use Rattle.typed_tree.specs.Scopes.{AreDistinct, targets}
use Rattle.typed_tree.specs.Types.{IsNumber, array}
use Rattle.typed_tree.specs.Typing.{Known, at, more, names_of, with}
use Rattle.typed_tree.specs.Units.{Declared, HasBody, known}
use Rattle.typed_tree.specs.declared.expr.TypedExpr.{TypedExpr}
use Rattle.typing_laws.specs.Bodies.{parameters_in}
use Rattle.typing_laws.specs.Casing.{AddsArms, Begins, Ends, EntersArm, IsCase, Keeps}
use Rattle.typing_laws.specs.Defining.{AddsDef, AllDefined, targets_in}
use Rattle.typing_laws.specs.Forming.{AreFound, Calls, Finishes, IfElses, IsHead, Operands, constant_number}
use Rattle.typing_laws.specs.Given.{Arms, Defined, Given, Group, Header, Parts, Turned}
use Rattle.typing_laws.specs.Judged.{Agrees, AllOnes, AllTyped, IsDenoted, IsSignature, Typed, denotes_in}
use Rattle.typing_laws.specs.Looping.{AllGenerated, AllMade, AllRenewed, AllValues, FoldAdded, GroupTyped, IsCrossed, KeepsGenerator, TurnTyped, initial_of, up_to}
use Rattle.unit_types.specs.Rests.{AreKnown, AreTokensSpelled, IsLater}
use Rattle.value_names.specs.Names.{Names}
use Rattle.value_names.specs.Scopes.{define_all, seen, twice_in}
use Rattle.typing_laws.specs.Turns.{AreBelow, in_turn, loop_names, renewals}
use Rattle.value_names.specs.declared.value.Value.{Value}
use Rattle.sisal_tree.specs.declared.expr.ExprKind.TheVariants as tree
use Rattle.sisal_tree.specs.declared.expr.Loop.TheVariants as loop
use Rattle.sisal_tree.specs.declared.unit.FunKind.TheVariants as fun
use Rattle.sisal_tree.specs.declared.unit.Unit as text
use Rattle.type_rules.specs.declared.head.Head.TheVariants as head
use Rattle.typed_tree.specs.declared.expr.TypedKind.TheVariants as typed
use Rattle.typing_laws.specs.Given as given

-- a constant with the number of its type
abbrev pub ConstantLaw : Type 0
ConstantLaw = (g : Given) (f : List Form) (names : Names) (line : ℕ) (c : Constant) (t : TypedExpr) → t ≡ with line (constant_number c ∷ []) (typed.Constant c)
    → Typed g f names (at line (tree.Constant c)) t

-- a name that stands for a value
abbrev pub NameLaw : Type 0
NameLaw = (g : Given) (f : List Form) (names : Names) (line x : ℕ) (v : Value) (t : TypedExpr) → seen (newest x names.names) ≡ Some v
    → t ≡ with line (v.ty ∷ []) (typed.Value v.level) → Typed g f names (at line (tree.Name x)) t

-- an old name that stands for a value
abbrev pub OldNameLaw : Type 0
OldNameLaw = (g : Given) (f : List Form) (names : Names) (line x : ℕ) (v : Value) (t : TypedExpr) → newest x names.olds ≡ Some v
    → t ≡ with line (v.ty ∷ []) (typed.Value v.level) → Typed g f names (at line (tree.Old x)) t

-- an expression in parentheses
abbrev pub GroupLaw : Type 0
GroupLaw = (g : Given) (f : List Form) (names : Names) (line : ℕ) (e : Expr) (inner t : TypedExpr) → Typed g f names e inner
    → t ≡ with line inner.types (typed.Group (inner ∷ [])) → Typed g f names (at line (tree.Group e)) t

-- a call over typed operands
abbrev pub CallLaw : Type 0
CallLaw = (g : Given) (f1 f2 : List Form) (names : Names) (line x : ℕ) (es : List Expr) (operands : Parts) (t : TypedExpr)
    → AllTyped g f1 names es operands.exprs operands.types → Grows f1 f2 → Calls g f1 f2 line x operands t → Typed g f2 names (at line (tree.Call x es)) t

-- `if` of typed parts
abbrev pub IfLaw : Type 0
IfLaw = (g : Given) (f0 f1 f2 : List Form) (names : Names) (line : ℕ) (c : Expr) (es fs : List Expr) (test one other : Parts) (t : TypedExpr) → Grows f0 f1 → Grows f1 f2
    → AllOnes g f0 names (c ∷ []) test.exprs test.types → AllTyped g f1 names es one.exprs one.types → AllTyped g f2 names fs other.exprs other.types
    → IfElses line test one other t → Typed g f2 names (at line (tree.If c es fs)) t

-- `let` of typed definitions and results
abbrev pub LetLaw : Type 0
LetLaw = (g : Given) (f1 f2 : List Form) (names inside : Names) (line : ℕ) (ds : List Def) (es : List Expr) (us : List (List TypedExpr)) (made : List ℕ) (ts : List TypedExpr) (ns : List ℕ) (t : TypedExpr)
    → Grows f1 f2 → AllDefined g f1 names inside None ds us made → AreDistinct (targets ds) → AllTyped g f2 inside es ts ns
    → t ≡ with line ns (typed.Let us ts) → Typed g f2 names (at line (tree.Let ds es)) t

-- a form over its operands
abbrev pub FormLaw : Type 0
FormLaw = (g : Given) (f0 f1 f2 : List Form) (names : Names) (kind : ExprKind) (h : Head) (parts : Parts) (line : ℕ) (t : TypedExpr)
    → IsHead g f0 kind h → Grows f0 f1 → Operands g f1 names kind parts.exprs parts.types → Grows f1 f2 → Finishes f1 f2 line h parts t
    → Typed g f2 names (at line kind) t

-- the form of an array
abbrev pub ArrayHeadLaw : Type 0
ArrayHeadLaw = (g : Given) (f : List Form) (x n : Option ℕ) (els : Elements) → AreFound g.named x n → IsHead g f (tree.Array x (Some els)) (head.Array n)

-- names that stand once
abbrev pub OnceLaw : Type 0
OnceLaw = (ns : List Named) → twice_in ns ≡ None → AreDistinct (names_of ns)

-- the results of a function
abbrev pub FunctionLaw : Type 0
FunctionLaw = (u : text.Unit) (forms f : List Form) (ds : List Declared) (d : Declared) (g : Given) (h : Header) (es : List Expr) (ts : List TypedExpr) (ns : List ℕ) → g.tokens ≡ u.tokens.list
    → Agrees g f (known u forms ds d.types) → IsSignature (known u forms ds d.types) h d.signature → AllTyped g f (parameters_in h) es ts ns → ns ≡ h.results
    → HasBody u (known u forms ds d.types) d.signature (fun.Defined es) (Some ts)

-- a written type by number
abbrev pub WrittenLaw : Type 0
WrittenLaw = (g : Given) (f : List Form) (w : Written) (n : ℕ) → n < length f
    → ((k : Known) → IsLater f k.forms → AreTokensSpelled k.spellings g.tokens → AreKnown k.forms k.spellings g.named k.types → (a : Ty) → IsNumber k.forms k.spellings n a → denotes_in g k w a)
    → IsDenoted g f w n

-- one more definition
abbrev pub DefinitionLaw : Type 0
DefinitionLaw = (g : Given) (f0 f1 : List Form) (start now after : Names) (turn : Option ℕ) (ds : List Def) (d : Def) (old new : Defined) → Grows f0 f1
    → AllDefined g f0 start now turn ds old.exprs old.types → AddsDef g f1 now after turn d old new → AllDefined g f1 start after turn (ds ++ (d ∷ [])) new.exprs new.types

-- `tagcase` of typed arms
abbrev pub TagcaseLaw : Type 0
TagcaseLaw = (g : Given) (f0 f1 f2 : List Form) (names : Names) (line count : ℕ) (c : TagCase) (subject : Parts) (begun done final : Arms) (t : TypedExpr) → Grows f0 f1 → Grows f1 f2
    → AllOnes g f0 names ((out-TagCase c).subject ∷ []) subject.exprs subject.types → Begins f0 (out-TagCase c).name subject begun → AddsArms g f0 f1 names (out-TagCase c).arms begun done
    → count ≡ length (out-TagCase c).arms → Ends g f2 names (out-TagCase c).otherwise done final → IsCase line count subject final t → Typed g f2 names (at line (tree.TagCase c)) t

-- one more arm
abbrev pub ArmLaw : Type 0
ArmLaw = (g : Given) (f0 f1 : List Form) (names inner : Names) (a : Arm) (ts : List TypedExpr) (ns : List ℕ) (old mid new : Arms) → Grows f0 f1
    → EntersArm f0 (out-Arm a).line (out-Arm a).tags old mid names inner → AllTyped g f1 inner (out-Arm a).results ts ns → Keeps ts ns mid new → AddsArms g f0 f1 names (a ∷ []) old new

-- one more generator
abbrev pub GeneratorLaw : Type 0
GeneratorLaw = (g : Given) (f0 f1 : List Form) (names : Names) (gs : List Generator) (one : Generator) (parts : Parts) (old new : Group) → Grows f0 f1
    → AllGenerated g f0 names gs old → AllOnes g f1 names ((out-Generator one).from ∷ up_to (out-Generator one).to) parts.exprs parts.types
    → KeepsGenerator f1 (out-Generator one).name (out-Generator one).at parts old new → AllGenerated g f1 names (gs ++ (one ∷ [])) new

-- one more clause
abbrev pub ClauseLaw : Type 0
ClauseLaw = (f0 f1 : List Form) (is_masked : Bool) (cs : List Clause) (c : Clause) (ns : List ℕ) (n : ℕ) (old new : given.Folds) → Grows f0 f1 → length cs ≡ length ns
    → AllMade f0 cs is_masked ns old → FoldAdded f0 f1 c is_masked n old new → AllMade f1 (cs ++ (c ∷ [])) is_masked (ns ++ (n ∷ [])) new

-- the value of a clause with a mask
abbrev pub ValueLaw : Type 0
ValueLaw = (g : Given) (f0 f1 : List Form) (names : Names) (c : Clause) (m : Mask) (ts us : List TypedExpr) (ns ms : List ℕ) → Grows f0 f1 → (out-Clause c).mask ≡ Some m
    → AllOnes g f0 names ((out-Clause c).value ∷ []) ts ns → AllOnes g f1 names (m.test ∷ []) us ms → ms ≡ 0 ∷ [] → AllValues g f1 names (c ∷ []) (ts ++ us) ns

-- `for` over groups of generators
abbrev pub ProductLaw : Type 0
ProductLaw = (g : Given) (f : List Form) (names : Names) (line : ℕ) (gs : List (List Generator)) (ds : List Def) (cs : List Clause) (t : TypedExpr) → IsCrossed g f names line gs ds cs t
    → Typed g f names (at line (tree.For (loop.Product gs ds cs))) t

-- the loop over the last group
abbrev pub GroupLoopLaw : Type 0
GroupLoopLaw = (g : Given) (f0 f1 : List Form) (names after : Names) (line : ℕ) (gs : List Generator) (m : Group) (ds : List Def) (us : List (List TypedExpr)) (ns : List ℕ) (cs : List Clause)
    (ts : List TypedExpr) (ms : List ℕ) (folds : given.Folds) (t : TypedExpr) → Grows f0 f1 → GroupTyped g f0 names gs m → AllDefined g f0 (define_all m.names m.types names) after None ds us ns → AreDistinct (targets ds)
    → AllValues g f0 after cs ts ms → AllMade f1 cs true ms folds → t ≡ with line folds.types (typed.Product (record { sources = m.sources; clauses = folds.forms }) m.bounds us ts)
    → IsCrossed g f1 names line (gs ∷ []) ds cs t

-- the loop over a group around another one
abbrev pub OuterLoopLaw : Type 0
OuterLoopLaw = (g : Given) (f0 f1 : List Form) (names : Names) (line : ℕ) (gs : List Generator) (m : Group) (others : List (List Generator)) (ds : List Def) (cs : List Clause)
    (inner : TypedExpr) (folds : given.Folds) (t : TypedExpr) → Grows f0 f1 → GroupTyped g f0 names gs m → IsCrossed g f0 (define_all m.names m.types names) line others ds cs inner
    → AllMade f1 cs false inner.types folds → t ≡ with line folds.types (typed.Product (record { sources = m.sources; clauses = folds.forms }) m.bounds [] (inner ∷ []))
    → IsCrossed g f1 names line (gs ∷ others) ds cs t

-- the definitions of a turn
abbrev pub TurnLaw : Type 0
TurnLaw = (g : Given) (f : List Form) (names inside after : Names) (first : ℕ) (started : Defined) (ds : List Def) (us : List (List TypedExpr)) (ns : List ℕ) (renewed : List (Option ℕ))
    → (AreBelow first names.olds → inside ≡ in_turn (loop_names first started.targets started.types) (targets_in ds) names)
    → (AreBelow first names.olds → renewed ≡ renewals first (loop_names first started.targets started.types) (targets_in ds))
    → AllDefined g f inside after (Some first) ds us ns → AreDistinct (targets ds) → AllRenewed g f names first started ds renewed us

-- a loop with turns
abbrev pub TurnsLaw : Type 0
TurnsLaw = (g : Given) (f0 f1 : List Form) (names after : Names) (line : ℕ) (ds : List Def) (started : Defined) (turn : Turn) (turned : Turned) (cs : List Clause) (ts : List TypedExpr) (ms : List ℕ)
    (folds : given.Folds) (t : TypedExpr) → Grows f0 f1 → AllDefined g f0 names after None ds started.exprs started.types → AreDistinct (targets ds) → started.targets ≡ targets_in ds
    → TurnTyped g f0 after names.height started turn turned → AllValues g f0 after cs ts ms → AllMade f1 cs true ms folds → t ≡ initial_of line started turned ts folds
    → Typed g f1 names (at line (tree.For (loop.Initial ds turn cs))) t
