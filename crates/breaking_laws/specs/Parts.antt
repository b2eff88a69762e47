-- What the walk over a function's body says where it refuses definitions, loops, turns, generators, clauses or `tagcase`.
use Rattle.std.specs.Prelude.{◌≡◌, ◌≢◌, ◌⊎◌, ℕ, List, [], ◌∷◌, ◌++◌, flat_map, length, Bool, false, Option, Some, None, Err, Contains}
use Rattle.flow_value.specs.declared.ty.Ty.{Ty}
use Rattle.flow_value.specs.declared.ty.Ty.TheVariants as ty
use Rattle.type_table.specs.declared.form.Form.{Form}
use Rattle.sisal_tree.specs.declared.unit.Named.{Named}
use Rattle.sisal_tree.specs.declared.unit.Written.{Written}
use Rattle.sisal_tree.specs.declared.expr.Arm.{Arm, out-Arm}
use Rattle.sisal_tree.specs.declared.expr.Clause.{Clause, out-Clause}
use Rattle.sisal_tree.specs.declared.expr.Def.{Def, roll-Def}
use Rattle.sisal_tree.specs.declared.expr.Expr.{Expr}
use Rattle.sisal_tree.specs.declared.expr.Generator.{Generator}
use Rattle.sisal_tree.specs.declared.expr.Target.{Target}
use Rattle.sisal_tree.specs.declared.expr.Turn.{Turn, out-Turn}
use Rattle.typed_tree.specs.declared.expr.TypedExpr.{TypedExpr}
use Rattle.typed_tree.specs.Scopes as tree
use Rattle.typed_tree.specs.Scopes.{targets}
use Rattle.typed_tree.specs.Types.{Member, IsNumber, IsShallow, MakesThrough}
use Rattle.typed_tree.specs.Typing.{Known, Number, Types, AreTyped, Defines}
use Rattle.typed_tree.specs.Breaks.{IsTwice, IsPair, IsMistyped, IsRetyped, BreaksOne, BreaksDefs, BreaksGroups, BreaksGenerator, BreaksClause, BreaksArm, HasResults, generators_in, line_of}
use Rattle.type_rules.specs.Arms.{gives_arm}
use Rattle.type_rules.specs.Parts.{sequence_at, tags_at}
use Rattle.value_names.specs.declared.value.Value.{Value}
use Rattle.value_names.specs.Names.{Names}
use Rattle.typing_laws.specs.Given.{Given, Parts, Defined, Arms, Folds}
use Rattle.typing_laws.specs.Judged.{Agrees, Stands, AreValues, denotes_in}
use Rattle.typing_laws.specs.Turns.{IsInTurn}
use Rattle.typing_laws.specs.Looping.{AllMade, IsStarted, loop_in}
use Rattle.typing_laws.specs.Casing.{AreSame, ArmsTyped}
use Rattle.breaking_laws.specs.Broken.{IsWhole, Reaches, misnames_in}

-- ---- definitions

-- one of these names stands before it in the list
pub record StandsTwice (ns : List Named) (rule line : ℕ) : Type 0 where
  pub is_rule : rule ≡ 8
  pub twice : IsTwice ns line

-- the targets of a definition that begins on a line break a rule over values of these types, in a turn of a loop of these names
pub data BreaksTargets (denotes : Written → Ty → Type 0) (misnames : Written → ℕ → ℕ → Type 0) (loop : List (ℕ × tree.Meaning)) (at : ℕ) (xs : List Target) (tys : List Ty) : ℕ → ℕ → Type 0 where
  number_of_values : length tys ≢ length xs → BreaksTargets denotes misnames loop at xs tys 14 at
  in_declared : {rule line : ℕ} (x : Target) (w : Written) → Contains xs x → x.ty ≡ Some w → misnames w rule line → BreaksTargets denotes misnames loop at xs tys rule line
  declared : {x : Target} {a : Ty} → IsPair xs tys x a → IsMistyped denotes x a → BreaksTargets denotes misnames loop at xs tys 14 at
  retyped : {x : Target} {a : Ty} → IsPair xs tys x a → IsRetyped loop x.name.name a → BreaksTargets denotes misnames loop at xs tys 23 at

-- In a turn of a loop of these names a definition breaks a rule, or gives one of them a value of another type.
pub data BreaksTurn (k : Known) (denotes : Written → Ty → Type 0) (misnames : Written → ℕ → ℕ → Type 0) (loop : List (ℕ × tree.Meaning)) (s : tree.Scope) (ds : List Def) : ℕ → ℕ → Type 0 where
  in_defs : {rule line : ℕ} → BreaksDefs k denotes misnames s ds rule line → BreaksTurn k denotes misnames loop s ds rule line
  renamed : {turned : tree.Scope} {x : Target} {a : Ty} (before : List Def) (xs : List Target) (es : List Expr) (after : List Def) {us : List (List TypedExpr)} {earlier tys : List Ty} {ts : List TypedExpr}
      → ds ≡ before ++ (roll-Def (record { targets = xs; values = es }) ∷ after) → Defines k denotes s before us earlier turned → AreTyped k denotes turned es ts tys
      → IsPair xs tys x a → IsRetyped loop x.name.name a → BreaksTurn k denotes misnames loop s ds 23 (line_of xs)

-- the names of the loop, if these names are in force in a turn of one
abbrev pub InLoop : Known → Names → Option ℕ → (List (ℕ × tree.Meaning) → Type 0) → Type 0
InLoop k names None says = says []
InLoop k names (Some first) says = (loop : List (ℕ × Value)) (means : List (ℕ × tree.Meaning)) → IsInTurn first loop names → AreValues k loop means → says means

pub record BreaksTargetsAt (g : Given) (names : Names) (turn : Option ℕ) (at : ℕ) (xs : List Target) (ns : List ℕ) (rule line : ℕ) (forms : List Form) : Type 0 where
  pub holds : (k : Known) (tys : List Ty) → IsWhole g forms k → Number k ns tys → InLoop k names turn (λ loop. BreaksTargets (denotes_in g k) (misnames_in g k) loop at xs tys rule line)

-- targets break the rule over values of these types
abbrev pub BrokenTargets : Given → List Form → Names → Option ℕ → ℕ → List Target → List ℕ → ℕ → ℕ → Type 0
BrokenTargets g old names turn at xs ns rule line = Reaches g old (BreaksTargetsAt g names turn at xs ns rule line)

pub record BreaksDefsAt (g : Given) (names : Names) (turn : Option ℕ) (ds : List Def) (rule line : ℕ) (forms : List Form) : Type 0 where
  pub holds : (k : Known) (s : tree.Scope) → IsWhole g forms k → Stands k names s → InLoop k names turn (λ loop. BreaksTurn k (denotes_in g k) (misnames_in g k) loop s ds rule line)

-- definitions break the rule, in a turn of a loop, where its first name has this level
abbrev pub BrokenDefs : Given → List Form → Names → Option ℕ → List Def → ℕ → ℕ → Type 0
BrokenDefs g old names turn ds rule line = Reaches g old (BreaksDefsAt g names turn ds rule line)

-- ---- turns

-- a turn of a loop on a line breaks a rule, where these are the names of the loop
pub data BreaksTurnOf (k : Known) (denotes : Written → Ty → Type 0) (misnames : Written → ℕ → ℕ → Type 0) (loop : List (ℕ × tree.Meaning)) (s : tree.Scope) (l : ℕ) (turn : Turn) : ℕ → ℕ → Type 0 where
  in_test : {rule line : ℕ} → BreaksOne k denotes misnames s (out-Turn turn).test rule line → BreaksTurnOf k denotes misnames loop s l turn rule line
  test : {a : Ty} {t : TypedExpr} → Types k denotes s (out-Turn turn).test t (a ∷ []) → a ≢ ty.Bool → BreaksTurnOf k denotes misnames loop s l turn 23 l
  in_defs : {rule line : ℕ} → BreaksTurn k denotes misnames loop (tree.in_turn loop (targets (out-Turn turn).defs) s) (out-Turn turn).defs rule line → BreaksTurnOf k denotes misnames loop s l turn rule line

pub record BreaksRenewingAt (g : Given) (names : Names) (first : ℕ) (started : Defined) (ds : List Def) (rule line : ℕ) (forms : List Form) : Type 0 where
  pub holds : IsStarted first started names → (k : Known) (s : tree.Scope) (tys : List Ty) → IsWhole g forms k → Stands k names s → Number k started.types tys
      → BreaksTurn k (denotes_in g k) (misnames_in g k) (loop_in first started tys) (tree.in_turn (loop_in first started tys) (targets ds) s) ds rule line

-- the definitions of a turn break the rule
abbrev pub BrokenRenewing : Given → List Form → Names → ℕ → Defined → List Def → ℕ → ℕ → Type 0
BrokenRenewing g old names first started ds rule line = Reaches g old (BreaksRenewingAt g names first started ds rule line)

pub record BreaksTurnAt (g : Given) (names : Names) (first : ℕ) (started : Defined) (l : ℕ) (turn : Turn) (rule line : ℕ) (forms : List Form) : Type 0 where
  pub holds : IsStarted first started names → (k : Known) (s : tree.Scope) (tys : List Ty) → IsWhole g forms k → Stands k names s → Number k started.types tys
      → BreaksTurnOf k (denotes_in g k) (misnames_in g k) (loop_in first started tys) s l turn rule line

-- the turn of a loop on a line breaks the rule
abbrev pub BrokenTurn : Given → List Form → Names → ℕ → Defined → ℕ → Turn → ℕ → ℕ → Type 0
BrokenTurn g old names first started l turn rule line = Reaches g old (BreaksTurnAt g names first started l turn rule line)

-- a test of these types is no boolean, on this line
pub record IsNoTruth (ns : List ℕ) (at rule line : ℕ) : Type 0 where
  pub is_rule : rule ≡ 23
  pub is_line : line ≡ at
  pub false_types : ns ≢ 0 ∷ []

-- ---- clauses

-- one of some clauses, of a loop of so many groups from a line on
pub data BreaksClauses (k : Known) (denotes : Written → Ty → Type 0) (misnames : Written → ℕ → ℕ → Type 0) (s : tree.Scope) (groups from : ℕ) (cs : List Clause) (rule line : ℕ) : Type 0 where
  one_of : (c : Clause) → Contains cs c → BreaksClause k denotes misnames s groups from c rule line → BreaksClauses k denotes misnames s groups from cs rule line

pub record BreaksClausesAt (g : Given) (names : Names) (groups from : ℕ) (cs : List Clause) (rule line : ℕ) (forms : List Form) : Type 0 where
  pub holds : (k : Known) (s : tree.Scope) → IsWhole g forms k → Stands k names s → BreaksClauses k (denotes_in g k) (misnames_in g k) s groups from cs rule line

-- clauses of a loop of so many groups, from a line on, break the rule
abbrev pub BrokenClauses : Given → List Form → Names → ℕ → ℕ → List Clause → ℕ → ℕ → Type 0
BrokenClauses g old names groups from cs rule line = Reaches g old (BreaksClausesAt g names groups from cs rule line)

-- the same of however many groups, from whatever line
abbrev pub BrokenValues : Given → List Form → Names → List Clause → ℕ → ℕ → Type 0
BrokenValues g old names cs rule line = (groups from : ℕ) → BrokenClauses g old names groups from cs rule line

-- the last of these types is none of a boolean
pub record EndsFalse (ns : List ℕ) (at rule line : ℕ) : Type 0 where
  pub is_rule : rule ≡ 23
  pub is_line : line ≡ at
  pub ends : (before : List ℕ) → ns ≢ before ++ (0 ∷ [])

-- a clause and the type of the values at its place
pub data IsClausePair : List Clause → List Ty → Clause → Ty → Type 0 where
  first : {c : Clause} {cs : List Clause} {a : Ty} {tys : List Ty} → IsClausePair (c ∷ cs) (a ∷ tys) c a
  later : {c d : Clause} {cs : List Clause} {a b : Ty} {tys : List Ty} → IsClausePair cs tys c a → IsClausePair (d ∷ cs) (b ∷ tys) c a

-- what a clause makes of values of a type, through so many groups from a line on, breaks a rule
pub data BreaksMade (groups from : ℕ) (c : Clause) (a : Ty) : ℕ → ℕ → Type 0 where
  reduction : ((b : Ty) → MakesThrough (out-Clause c).kind groups a b → ⊥) → BreaksMade groups from c a 23 (out-Clause c).line
  deep : {b : Ty} → MakesThrough (out-Clause c).kind groups a b → (IsShallow b → ⊥) → BreaksMade groups from c a 4 from

pub record BreaksMadeIn (groups from : ℕ) (cs : List Clause) (tys : List Ty) (rule line : ℕ) : Type 0 where
  pub clause : Clause
  pub type : Ty
  pub pair : IsClausePair cs tys clause type
  pub breaks : BreaksMade groups from clause type rule line

pub record BreaksMadeAt (groups from : ℕ) (cs : List Clause) (ns : List ℕ) (rule line : ℕ) (forms : List Form) : Type 0 where
  pub holds : (k : Known) (tys : List Ty) → k.forms ≡ forms → Number k ns tys → BreaksMadeIn groups from cs tys rule line

-- what clauses make of values of these types, through so many groups from a line on, breaks the rule
abbrev pub BrokenMade : Given → List Form → ℕ → ℕ → List Clause → List ℕ → ℕ → ℕ → Type 0
BrokenMade g old groups from cs ns rule line = Reaches g old (BreaksMadeAt groups from cs ns rule line)

-- what clauses make of values of types has these types
pub record MakesTypes (forms : List Form) (cs : List Clause) (is_masked : Bool) (ns ms : List ℕ) : Type 0 where
  pub folds : Folds
  pub made : AllMade forms cs is_masked ns folds
  pub types : ms ≡ folds.types

-- ---- generators

pub record BreaksGeneratorAt (g : Given) (names : Names) (one : Generator) (rule line : ℕ) (forms : List Form) : Type 0 where
  pub holds : (k : Known) (s : tree.Scope) → IsWhole g forms k → Stands k names s → BreaksGenerator k (denotes_in g k) (misnames_in g k) s one rule line

-- a generator breaks the rule
abbrev pub BrokenGenerator : Given → List Form → Names → Generator → ℕ → ℕ → Type 0
BrokenGenerator g old names one rule line = Reaches g old (BreaksGeneratorAt g names one rule line)

-- a group of generators breaks a rule
pub data BreaksGroup (k : Known) (denotes : Written → Ty → Type 0) (misnames : Written → ℕ → ℕ → Type 0) (s : tree.Scope) (gs : List Generator) : ℕ → ℕ → Type 0 where
  in_one : {rule line : ℕ} (one : Generator) → Contains gs one → BreaksGenerator k denotes misnames s one rule line → BreaksGroup k denotes misnames s gs rule line
  named_twice : {line : ℕ} → IsTwice (generators_in gs) line → BreaksGroup k denotes misnames s gs 8 line

pub record BreaksGroupAt (g : Given) (names : Names) (gs : List Generator) (rule line : ℕ) (forms : List Form) : Type 0 where
  pub holds : (k : Known) (s : tree.Scope) → IsWhole g forms k → Stands k names s → BreaksGroup k (denotes_in g k) (misnames_in g k) s gs rule line

abbrev pub BrokenGroup : Given → List Form → Names → List Generator → ℕ → ℕ → Type 0
BrokenGroup g old names gs rule line = Reaches g old (BreaksGroupAt g names gs rule line)

-- one of some groups, whatever is inside of all
pub record BreaksGroupsAt (g : Given) (names : Names) (gs : List (List Generator)) (rule line : ℕ) (forms : List Form) : Type 0 where
  pub holds : (k : Known) (s : tree.Scope) → IsWhole g forms k → Stands k names s → (groups from : ℕ) (ds : List Def) (cs : List Clause)
      → BreaksGroups k (denotes_in g k) (misnames_in g k) groups from s gs ds cs rule line

abbrev pub BrokenGroups : Given → List Form → Names → List (List Generator) → ℕ → ℕ → Type 0
BrokenGroups g old names gs rule line = Reaches g old (BreaksGroupsAt g names gs rule line)

-- bounds of these types are no range of integers without an index, and no array or stream
pub data IsNoSource (forms : List Form) (bounds : List ℕ) (has_index : Bool) : Type 0 where
  no_elements : (n : ℕ) → bounds ≡ n ∷ [] → sequence_at forms n ≡ None → IsNoSource forms bounds has_index
  no_range : ((n : ℕ) → bounds ≡ n ∷ [] → ⊥) → (bounds ≡ 2 ∷ 2 ∷ [] → has_index ≡ false → ⊥) → IsNoSource forms bounds has_index

-- such bounds break the rule on their line
pub record HasNoSource (forms : List Form) (bounds : List ℕ) (has_index : Bool) (at rule line : ℕ) : Type 0 where
  pub is_rule : rule ≡ 22
  pub is_line : line ≡ at
  pub no_source : IsNoSource forms bounds has_index

-- ---- arms

-- one of some arms behind others breaks a rule
pub data BreaksArms (k : Known) (denotes : Written → Ty → Type 0) (misnames : Written → ℕ → ℕ → Type 0) (s : tree.Scope) (x : Option ℕ) (ms : List Member) (others arms : List Arm) : ℕ → ℕ → Type 0 where
  in_one : {rule line : ℕ} (arm : Arm) → Contains arms arm → BreaksArm k denotes misnames s x ms arm rule line → BreaksArms k denotes misnames s x ms others arms rule line
  tag_twice : {line : ℕ} → IsTwice (flat_map (λ arm. (out-Arm arm).tags) (others ++ arms)) line → BreaksArms k denotes misnames s x ms others arms 18 line

pub record BreaksArmsAt (g : Given) (before : List Form) (names : Names) (arms : List Arm) (done : Arms) (rule line : ℕ) (forms : List Form) : Type 0 where
  pub holds : (union : ℕ) (others : List Arm) → ArmsTyped g before names union others done → (k : Known) (s : tree.Scope) (ms : List Member) → IsWhole g forms k → Stands k names s
      → IsNumber k.forms k.spellings union (ty.Uni ms) → BreaksArms k (denotes_in g k) (misnames_in g k) s done.name ms others arms rule line

-- arms behind those so far break the rule
abbrev pub BrokenArms : Given → List Form → Names → List Arm → Arms → ℕ → ℕ → Type 0
BrokenArms g old names arms done rule line = Reaches g old (BreaksArmsAt g old names arms done rule line)

-- the subject is no union, on this line
pub record IsNoUnion (forms : List Form) (subject : Parts) (at rule line : ℕ) : Type 0 where
  pub is_rule : rule ≡ 18
  pub is_line : line ≡ at
  pub number : ℕ
  pub is_subject : subject.types ≡ number ∷ []
  pub none : tags_at forms number ≡ None

-- the tags of an arm on a line are not given it
pub record IsNoArm (forms : List Form) (at : ℕ) (tags : List Named) (done : Arms) (rule line : ℕ) : Type 0 where
  pub is_rule : rule ≡ 18
  pub refused : gives_arm forms done.union (length done.results) at None done.chosen tags ≡ Err line

-- one of these arms has results of types with these numbers
pub record OneHas (k : Known) (g : Given) (s : tree.Scope) (x : Option ℕ) (ms : List Member) (arms : List Arm) (ns : List ℕ) : Type 0 where
  pub arm : Arm
  pub tys : List Ty
  pub contains : Contains arms arm
  pub number : Number k ns tys
  pub results : HasResults k (denotes_in g k) (misnames_in g k) s x ms arm tys

-- two of these arms have results of other types
pub record TwoDiffer (k : Known) (g : Given) (s : tree.Scope) (x : Option ℕ) (ms : List Member) (arms : List Arm) : Type 0 where
  pub ns : List ℕ
  pub os : List ℕ
  pub one : OneHas k g s x ms arms ns
  pub other : OneHas k g s x ms arms os
  pub differ : ns ≢ os

-- what the arms so far have as results: those of the first, and two that differ, where some do
pub record ArmsHave (g : Given) (forms : List Form) (names : Names) (union : ℕ) (arms : List Arm) (done : Arms) : Type 0 where
  pub first : (ns : List ℕ) → done.types ≡ Some ns → (k : Known) (s : tree.Scope) (ms : List Member) → Agrees g forms k → Stands k names s
      → IsNumber k.forms k.spellings union (ty.Uni ms) → OneHas k g s done.name ms arms ns
  pub uneven : done.is_even ≡ false → (k : Known) (s : tree.Scope) (ms : List Member) → Agrees g forms k → Stands k names s
      → IsNumber k.forms k.spellings union (ty.Uni ms) → TwoDiffer k g s done.name ms arms

-- arms were added to those before, with their results
pub record AddsResults (g : Given) (before after : List Form) (names : Names) (arms : List Arm) (old new : Arms) : Type 0 where
  pub holds : (union : ℕ) (others : List Arm) → ArmsTyped g before names union others old → ArmsHave g before names union others old → ArmsHave g after names union (others ++ arms) new

-- results of these types are not those of the first arm, where the arms are not even any more
pub record Differs (ns : List ℕ) (old new : Arms) : Type 0 where
  pub uneven : new.is_even ≡ false → (old.is_even ≡ false) ⊎ (AreSame old.types ns → ⊥)
