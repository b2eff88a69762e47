-- What the laws say: definitions, loops, turns, generators, clauses and `tagcase` that are refused break the rule that is named.
use Rattle.std.specs.Prelude.{◌≡◌, ◌≢◌, ℕ, suc, List, [], ◌∷◌, ◌++◌, length, Bool, false, Option, Some, None, Contains, is_some, slice_get}
use Rattle.name_scope.specs.Newest.{newest}
use Rattle.type_table.specs.declared.form.Form.{Form}
use Rattle.type_table.specs.Tables.{IsTable}
use Rattle.sisal_tree.specs.declared.unit.Named.{Named}
use Rattle.sisal_tree.specs.declared.unit.Written.{Written}
use Rattle.sisal_tree.specs.declared.expr.Arm.{Arm, out-Arm}
use Rattle.sisal_tree.specs.declared.expr.Clause.{Clause, out-Clause}
use Rattle.sisal_tree.specs.declared.expr.Def.{Def, out-Def}
use Rattle.sisal_tree.specs.declared.expr.Expr.{Expr}
use Rattle.sisal_tree.specs.declared.expr.ExprKind.TheVariants as tree
use Rattle.sisal_tree.specs.declared.expr.Generator.{Generator, out-Generator}
use Rattle.sisal_tree.specs.declared.expr.Loop.TheVariants as loop
use Rattle.sisal_tree.specs.declared.expr.Mask.{Mask}
use Rattle.sisal_tree.specs.declared.expr.TagCase.{TagCase, out-TagCase}
use Rattle.sisal_tree.specs.declared.expr.Target.{Target}
use Rattle.sisal_tree.specs.declared.expr.Turn.{Turn, out-Turn}
use Rattle.typed_tree.specs.declared.expr.TypedExpr.{TypedExpr}
use Rattle.typed_tree.specs.Typing.{at}
use Rattle.typed_tree.specs.Breaks.{generators_in, line_of}
use Rattle.type_rules.specs.Applies.{Grows}
use Rattle.type_rules.specs.Arms.{are_all_named}
use Rattle.type_rules.specs.Folds.{IsUnmade}
use Rattle.type_rules.specs.declared.fault.Refused.TheVariants as refused
use Rattle.value_names.specs.declared.value.Value.{Value}
use Rattle.value_names.specs.Names.{Names}
use Rattle.value_names.specs.Scopes.{loop_value, twice_in}
use Rattle.typing_laws.specs.Casing.{AddsArms, Begins, EntersArm, Keeps}
use Rattle.typing_laws.specs.Defining.{AllDefined, targets_in}
use Rattle.typing_laws.specs.Given.{Arms, Defined, Given, Group, Parts}
use Rattle.typing_laws.specs.Given as given
use Rattle.typing_laws.specs.Judged.{IsUsedIn, AllOnes, AllTyped, IsDenoted}
use Rattle.typing_laws.specs.Looping.{AllMade, AllValues, GroupsTyped, up_to}
use Rattle.typing_laws.specs.Turns.{AreBelow, in_turn, loop_names}
use Rattle.breaking_laws.specs.Broken.{Broken, BrokenIn, BrokenOne, Misnamed}
use Rattle.breaking_laws.specs.Parts.{StandsTwice, BrokenTargets, BrokenDefs, BrokenRenewing, BrokenTurn, IsNoTruth, BrokenClauses, BrokenValues, EndsFalse, BrokenMade, BrokenGenerator, HasNoSource, BrokenGroup, BrokenGroups, BrokenArms, IsNoUnion, IsNoArm, AddsResults, Differs}

-- ---- definitions

-- a name that stands twice
abbrev pub TwiceLaw : Type 0
TwiceLaw = (ns : List Named) (line : ℕ) → twice_in ns ≡ Some line → StandsTwice ns 8 line

-- a target that stands twice
abbrev pub DefinedTwiceLaw : Type 0
DefinedTwiceLaw = (g : Given) (f : List Form) (names : Names) (turn : Option ℕ) (ds : List Def) (rule line : ℕ) → IsTable f → StandsTwice (targets_in ds) rule line → BrokenDefs g f names turn ds rule line

-- a definition behind typed ones
abbrev pub AfterDefsLaw : Type 0
AfterDefsLaw = (g : Given) (f0 f1 : List Form) (start now : Names) (turn : Option ℕ) (done : List Def) (d : Def) (rest : List Def) (us : List (List TypedExpr)) (ns : List ℕ) (rule line : ℕ)
    → IsUsedIn g f0 f1 → AllDefined g f1 start now turn done us ns → BrokenDefs g f1 now turn (d ∷ []) rule line → BrokenDefs g f0 start turn (done ++ (d ∷ rest)) rule line

-- the values of a definition
abbrev pub ValuesLaw : Type 0
ValuesLaw = (g : Given) (f : List Form) (names : Names) (turn : Option ℕ) (d : Def) (rule line : ℕ) → BrokenIn g f names (out-Def d).values rule line → BrokenDefs g f names turn (d ∷ []) rule line

-- its targets
abbrev pub TargetsLaw : Type 0
TargetsLaw = (g : Given) (f0 f1 : List Form) (names : Names) (turn : Option ℕ) (d : Def) (ts : List TypedExpr) (ns : List ℕ) (rule line : ℕ) → IsUsedIn g f0 f1
    → AllTyped g f1 names (out-Def d).values ts ns → BrokenTargets g f1 names turn (line_of (out-Def d).targets) (out-Def d).targets ns rule line → BrokenDefs g f0 names turn (d ∷ []) rule line

-- another number of values than of targets
abbrev pub CountLaw : Type 0
CountLaw = (g : Given) (f : List Form) (names : Names) (turn : Option ℕ) (at : ℕ) (xs : List Target) (ns : List ℕ) → IsTable f → length ns ≢ length xs → BrokenTargets g f names turn at xs ns 14 at

-- one of the targets
abbrev pub OneTargetLaw : Type 0
OneTargetLaw = (g : Given) (f0 f1 : List Form) (names : Names) (turn : Option ℕ) (at : ℕ) (xs : List Target) (ns : List ℕ) (i : ℕ) (x : Target) (n rule line : ℕ) → IsUsedIn g f0 f1
    → slice_get xs i ≡ Some x → slice_get ns i ≡ Some n → BrokenTargets g f1 names turn at (x ∷ []) (n ∷ []) rule line → BrokenTargets g f0 names turn at xs ns rule line

-- the written type of a target
abbrev pub MisnamedLaw : Type 0
MisnamedLaw = (g : Given) (f : List Form) (names : Names) (turn : Option ℕ) (at : ℕ) (x : Target) (w : Written) (n rule line : ℕ) → x.ty ≡ Some w → Misnamed g f w rule line
    → BrokenTargets g f names turn at (x ∷ []) (n ∷ []) rule line

-- a value of another type than is declared
abbrev pub DeclaredLaw : Type 0
DeclaredLaw = (g : Given) (f0 f1 : List Form) (names : Names) (turn : Option ℕ) (at : ℕ) (x : Target) (w : Written) (n m : ℕ) → IsUsedIn g f0 f1 → IsTable f1 → x.ty ≡ Some w → IsDenoted g f1 w m
    → m ≢ n → BrokenTargets g f0 names turn at (x ∷ []) (n ∷ []) 14 at

-- a loop name with a value of another type
abbrev pub RetypedLaw : Type 0
RetypedLaw = (g : Given) (f : List Form) (names : Names) (first at : ℕ) (x : Target) (n : ℕ) (v : Value) → IsTable f → loop_value first (newest x.name.name names.olds) ≡ Some v → v.ty ≢ n
    → BrokenTargets g f names (Some first) at (x ∷ []) (n ∷ []) 23 at

-- ---- turns

-- the definitions of a turn, where it has begun
abbrev pub RenewingLaw : Type 0
RenewingLaw = (g : Given) (f : List Form) (names inside : Names) (first : ℕ) (started : Defined) (ds : List Def) (rule line : ℕ)
    → (AreBelow first names.olds → inside ≡ in_turn (loop_names first started.targets started.types) (targets_in ds) names)
    → BrokenDefs g f inside (Some first) ds rule line → BrokenRenewing g f names first started ds rule line

abbrev pub TurnDefsLaw : Type 0
TurnDefsLaw = (g : Given) (f0 f1 : List Form) (names : Names) (first : ℕ) (started : Defined) (l : ℕ) (turn : Turn) (rule line : ℕ) → IsUsedIn g f0 f1
    → BrokenRenewing g f1 names first started (out-Turn turn).defs rule line → BrokenTurn g f0 names first started l turn rule line

-- its test
abbrev pub TurnTestLaw : Type 0
TurnTestLaw = (g : Given) (f0 f1 : List Form) (names : Names) (first : ℕ) (started : Defined) (l : ℕ) (turn : Turn) (rule line : ℕ) → IsUsedIn g f0 f1
    → BrokenOne g f1 names (out-Turn turn).test rule line → BrokenTurn g f0 names first started l turn rule line

abbrev pub TruthLaw : Type 0
TruthLaw = (g : Given) (f0 f1 : List Form) (names : Names) (first : ℕ) (started : Defined) (l : ℕ) (turn : Turn) (ts : List TypedExpr) (ns : List ℕ) (rule line : ℕ) → IsUsedIn g f0 f1 → IsTable f1
    → AllOnes g f1 names ((out-Turn turn).test ∷ []) ts ns → IsNoTruth ns l rule line → BrokenTurn g f0 names first started l turn rule line

-- `for initial`: the definitions before the turns, the turns, the clauses
abbrev pub InitialDefsLaw : Type 0
InitialDefsLaw = (g : Given) (f : List Form) (names : Names) (l : ℕ) (ds : List Def) (turn : Turn) (cs : List Clause) (rule line : ℕ) → BrokenDefs g f names None ds rule line
    → Broken g f names (at l (tree.For (loop.Initial ds turn cs))) rule line

abbrev pub InitialTurnLaw : Type 0
InitialTurnLaw = (g : Given) (f0 f1 : List Form) (names after : Names) (l : ℕ) (ds : List Def) (started : Defined) (turn : Turn) (cs : List Clause) (rule line : ℕ) → IsUsedIn g f0 f1
    → AllDefined g f1 names after None ds started.exprs started.types → started.targets ≡ targets_in ds → BrokenTurn g f1 after names.height started l turn rule line
    → Broken g f0 names (at l (tree.For (loop.Initial ds turn cs))) rule line

abbrev pub InitialClausesLaw : Type 0
InitialClausesLaw = (g : Given) (f0 f1 : List Form) (names after : Names) (l : ℕ) (ds : List Def) (us : List (List TypedExpr)) (ns : List ℕ) (turn : Turn) (cs : List Clause) (rule line : ℕ)
    → IsUsedIn g f0 f1 → AllDefined g f1 names after None ds us ns → BrokenClauses g f1 after 1 l cs rule line → Broken g f0 names (at l (tree.For (loop.Initial ds turn cs))) rule line

-- ---- clauses

-- the value of a clause
abbrev pub ClauseValueLaw : Type 0
ClauseValueLaw = (g : Given) (f : List Form) (names : Names) (c : Clause) (rule line : ℕ) → BrokenOne g f names (out-Clause c).value rule line → BrokenValues g f names (c ∷ []) rule line

-- its mask
abbrev pub ClauseMaskLaw : Type 0
ClauseMaskLaw = (g : Given) (f0 f1 : List Form) (names : Names) (c : Clause) (m : Mask) (rule line : ℕ) → IsUsedIn g f0 f1 → (out-Clause c).mask ≡ Some m
    → BrokenOne g f1 names m.test rule line → BrokenValues g f0 names (c ∷ []) rule line

-- a mask that is no boolean, behind values of these types
abbrev pub MaskLaw : Type 0
MaskLaw = (g : Given) (f0 f1 : List Form) (names : Names) (c : Clause) (m : Mask) (ts : List TypedExpr) (before ns : List ℕ) (rule line : ℕ) → IsUsedIn g f0 f1 → IsTable f1 → (out-Clause c).mask ≡ Some m
    → AllOnes g f1 names (m.test ∷ []) ts ns → EndsFalse (before ++ ns) (out-Clause c).line rule line → BrokenValues g f0 names (c ∷ []) rule line

-- one of the clauses
abbrev pub OneClauseLaw : Type 0
OneClauseLaw = (g : Given) (f0 f1 : List Form) (names : Names) (cs : List Clause) (c : Clause) (rule line : ℕ) → IsUsedIn g f0 f1 → Contains cs c → BrokenValues g f1 names (c ∷ []) rule line
    → BrokenValues g f0 names cs rule line

-- a clause that makes nothing of the values, and one that makes too deep a type
abbrev pub UnmadeLaw : Type 0
UnmadeLaw = (g : Given) (f : List Form) (groups from : ℕ) (c : Clause) (n rule : ℕ) → IsTable f → rule ≢ 4 → IsUnmade f (out-Clause c).kind n (refused.Rule rule)
    → BrokenMade g f (suc groups) from (c ∷ []) (n ∷ []) rule (out-Clause c).line

abbrev pub DeepLaw : Type 0
DeepLaw = (g : Given) (f : List Form) (groups from : ℕ) (c : Clause) (n : ℕ) → IsTable f → IsUnmade f (out-Clause c).kind n (refused.Rule 4) → BrokenMade g f (suc groups) from (c ∷ []) (n ∷ []) 4 from

-- one of the clauses with its values
abbrev pub OneMadeLaw : Type 0
OneMadeLaw = (g : Given) (f0 f1 : List Form) (groups from : ℕ) (cs : List Clause) (ns : List ℕ) (i : ℕ) (c : Clause) (n rule line : ℕ) → IsUsedIn g f0 f1
    → slice_get cs i ≡ Some c → slice_get ns i ≡ Some n → BrokenMade g f1 groups from (c ∷ []) (n ∷ []) rule line → BrokenMade g f0 groups from cs ns rule line

-- over what they make for the group inside
abbrev pub ThroughLaw : Type 0
ThroughLaw = (g : Given) (f0 f1 : List Form) (groups from : ℕ) (cs : List Clause) (is_masked : Bool) (ns : List ℕ) (folds : given.Folds) (rule line : ℕ) → IsUsedIn g f0 f1
    → AllMade f1 cs is_masked ns folds → BrokenMade g f1 groups from cs folds.types rule line → BrokenMade g f0 (suc groups) from cs ns rule line

-- over typed values
abbrev pub MadeLaw : Type 0
MadeLaw = (g : Given) (f0 f1 : List Form) (names : Names) (groups from : ℕ) (cs : List Clause) (ts : List TypedExpr) (ns : List ℕ) (rule line : ℕ) → IsUsedIn g f0 f1
    → AllValues g f1 names cs ts ns → BrokenMade g f1 groups from cs ns rule line → BrokenClauses g f0 names groups from cs rule line

-- ---- generators

-- the bounds of a generator
abbrev pub FromLaw : Type 0
FromLaw = (g : Given) (f : List Form) (names : Names) (one : Generator) (rule line : ℕ) → BrokenOne g f names (out-Generator one).from rule line → BrokenGenerator g f names one rule line

abbrev pub ToLaw : Type 0
ToLaw = (g : Given) (f0 f1 : List Form) (names : Names) (one : Generator) (e : Expr) (rule line : ℕ) → IsUsedIn g f0 f1 → (out-Generator one).to ≡ Some e → BrokenOne g f1 names e rule line
    → BrokenGenerator g f0 names one rule line

abbrev pub NoSourceLaw : Type 0
NoSourceLaw = (g : Given) (f0 f1 : List Form) (names : Names) (one : Generator) (ts : List TypedExpr) (ns : List ℕ) (rule line : ℕ) → IsUsedIn g f0 f1 → IsTable f1
    → AllOnes g f1 names ((out-Generator one).from ∷ up_to (out-Generator one).to) ts ns → HasNoSource f1 ns (is_some (out-Generator one).at) (out-Generator one).name.line rule line
    → BrokenGenerator g f0 names one rule line

-- one of a group
abbrev pub OneGeneratorLaw : Type 0
OneGeneratorLaw = (g : Given) (f0 f1 : List Form) (names : Names) (gs : List Generator) (one : Generator) (rule line : ℕ) → IsUsedIn g f0 f1 → Contains gs one
    → BrokenGenerator g f1 names one rule line → BrokenGroup g f0 names gs rule line

-- a name that stands twice among the first names of a group
abbrev pub GroupTwiceLaw : Type 0
GroupTwiceLaw = (g : Given) (f0 f1 : List Form) (names : Names) (gs : List Generator) (ns more : List Named) (rule line : ℕ) → IsUsedIn g f0 f1 → IsTable f1 → generators_in gs ≡ ns ++ more
    → StandsTwice ns rule line → BrokenGroup g f0 names gs rule line

-- a group behind typed ones
abbrev pub AfterGroupsLaw : Type 0
AfterGroupsLaw = (g : Given) (f0 f1 : List Form) (names now : Names) (done : List (List Generator)) (ms : List Group) (one : List Generator) (rest : List (List Generator)) (rule line : ℕ)
    → IsUsedIn g f0 f1 → GroupsTyped g f1 names done ms now → BrokenGroup g f1 now one rule line → BrokenGroups g f0 names (done ++ (one ∷ rest)) rule line

-- ---- loops over groups

abbrev pub ProductGroupsLaw : Type 0
ProductGroupsLaw = (g : Given) (f : List Form) (names : Names) (l : ℕ) (gs : List (List Generator)) (ds : List Def) (cs : List Clause) (rule line : ℕ) → BrokenGroups g f names gs rule line
    → Broken g f names (at l (tree.For (loop.Product gs ds cs))) rule line

abbrev pub ProductDefsLaw : Type 0
ProductDefsLaw = (g : Given) (f0 f1 : List Form) (names now : Names) (l : ℕ) (gs : List (List Generator)) (ms : List Group) (ds : List Def) (cs : List Clause) (rule line : ℕ) → IsUsedIn g f0 f1
    → GroupsTyped g f1 names gs ms now → BrokenDefs g f1 now None ds rule line → Broken g f0 names (at l (tree.For (loop.Product gs ds cs))) rule line

abbrev pub ProductClausesLaw : Type 0
ProductClausesLaw = (g : Given) (f0 f1 f2 : List Form) (names now after : Names) (l : ℕ) (gs : List (List Generator)) (ms : List Group) (ds : List Def) (us : List (List TypedExpr)) (ns : List ℕ) (cs : List Clause) (rule line : ℕ)
    → IsUsedIn g f0 f1 → IsUsedIn g f1 f2 → GroupsTyped g f1 names gs ms now → AllDefined g f2 now after None ds us ns → BrokenClauses g f2 after (length gs) l cs rule line
    → Broken g f0 names (at l (tree.For (loop.Product gs ds cs))) rule line

-- ---- arms

-- the subject
abbrev pub CaseSubjectLaw : Type 0
CaseSubjectLaw = (g : Given) (f : List Form) (names : Names) (l : ℕ) (c : TagCase) (rule line : ℕ) → BrokenOne g f names (out-TagCase c).subject rule line → Broken g f names (at l (tree.TagCase c)) rule line

abbrev pub CaseNoUnionLaw : Type 0
CaseNoUnionLaw = (g : Given) (f0 f1 : List Form) (names : Names) (l : ℕ) (c : TagCase) (subject : Parts) (rule line : ℕ) → IsUsedIn g f0 f1 → IsTable f1
    → AllOnes g f1 names ((out-TagCase c).subject ∷ []) subject.exprs subject.types → IsNoUnion f1 subject l rule line → Broken g f0 names (at l (tree.TagCase c)) rule line

-- the tags of an arm, and its results
abbrev pub ArmTagsLaw : Type 0
ArmTagsLaw = (g : Given) (f : List Form) (names : Names) (a : Arm) (done : Arms) (rule line : ℕ) → IsTable f → IsNoArm f (out-Arm a).line (out-Arm a).tags done rule line
    → BrokenArms g f names (a ∷ []) done rule line

abbrev pub ArmResultsLaw : Type 0
ArmResultsLaw = (g : Given) (f : List Form) (names inner : Names) (a : Arm) (old mid : Arms) (rule line : ℕ) → EntersArm f (out-Arm a).line (out-Arm a).tags old mid names inner
    → BrokenIn g f inner (out-Arm a).results rule line → BrokenArms g f names (a ∷ []) old rule line

-- an arm behind others
abbrev pub AfterArmsLaw : Type 0
AfterArmsLaw = (g : Given) (f0 f1 : List Form) (names : Names) (done : List Arm) (a : Arm) (rest : List Arm) (old mid : Arms) (rule line : ℕ) → IsUsedIn g f0 f1
    → AddsArms g f0 f1 names done old mid → BrokenArms g f1 names (a ∷ []) mid rule line → BrokenArms g f0 names (done ++ (a ∷ rest)) old rule line

-- what an arm has as results, behind others
abbrev pub ArmResultLaw : Type 0
ArmResultLaw = (g : Given) (f0 f1 : List Form) (names inner : Names) (a : Arm) (ts : List TypedExpr) (ns : List ℕ) (old mid new : Arms) → Grows f0 f1
    → EntersArm f0 (out-Arm a).line (out-Arm a).tags old mid names inner → AllTyped g f1 inner (out-Arm a).results ts ns → Keeps ts ns mid new → Differs ns mid new → AddsResults g f0 f1 names (a ∷ []) old new

abbrev pub NoResultsLaw : Type 0
NoResultsLaw = (g : Given) (f : List Form) (names : Names) (done : Arms) → AddsResults g f f names [] done done

abbrev pub MoreResultsLaw : Type 0
MoreResultsLaw = (g : Given) (f0 f1 f2 : List Form) (names : Names) (arms more : List Arm) (old mid new : Arms) → AddsArms g f0 f1 names arms old mid → AddsResults g f0 f1 names arms old mid
    → AddsResults g f1 f2 names more mid new → AddsResults g f0 f2 names (arms ++ more) old new

-- `tagcase`: an arm, the results of `otherwise`, a tag without an arm, and arms that differ
abbrev pub CaseArmsLaw : Type 0
CaseArmsLaw = (g : Given) (f0 f1 : List Form) (names : Names) (l : ℕ) (c : TagCase) (subject : Parts) (begun : Arms) (rule line : ℕ) → IsUsedIn g f0 f1
    → AllOnes g f1 names ((out-TagCase c).subject ∷ []) subject.exprs subject.types → Begins f1 (out-TagCase c).name subject begun
    → BrokenArms g f1 names (out-TagCase c).arms begun rule line → Broken g f0 names (at l (tree.TagCase c)) rule line

abbrev pub CaseOtherwiseLaw : Type 0
CaseOtherwiseLaw = (g : Given) (f0 f1 : List Form) (names : Names) (l : ℕ) (c : TagCase) (es : List Expr) (rule line : ℕ) → IsUsedIn g f0 f1 → (out-TagCase c).otherwise ≡ Some es
    → BrokenIn g f1 names es rule line → Broken g f0 names (at l (tree.TagCase c)) rule line

abbrev pub CaseNoArmLaw : Type 0
CaseNoArmLaw = (g : Given) (f0 f1 f2 : List Form) (names : Names) (l : ℕ) (c : TagCase) (subject : Parts) (begun done : Arms) → IsUsedIn g f0 f1 → IsUsedIn g f1 f2 → IsTable f2
    → AllOnes g f1 names ((out-TagCase c).subject ∷ []) subject.exprs subject.types → Begins f1 (out-TagCase c).name subject begun → AddsArms g f1 f2 names (out-TagCase c).arms begun done
    → (out-TagCase c).otherwise ≡ None → are_all_named f2 done.union done.chosen ≡ false → Broken g f0 names (at l (tree.TagCase c)) 18 l

abbrev pub CaseDifferLaw : Type 0
CaseDifferLaw = (g : Given) (f0 f1 f2 : List Form) (names : Names) (l : ℕ) (c : TagCase) (subject : Parts) (begun done : Arms) → IsUsedIn g f0 f1 → IsUsedIn g f1 f2 → IsTable f2
    → AllOnes g f1 names ((out-TagCase c).subject ∷ []) subject.exprs subject.types → Begins f1 (out-TagCase c).name subject begun → AddsArms g f1 f2 names (out-TagCase c).arms begun done
    → AddsResults g f1 f2 names (out-TagCase c).arms begun done → done.is_even ≡ false → Broken g f0 names (at l (tree.TagCase c)) 18 l

abbrev pub CaseOtherwiseDiffersLaw : Type 0
CaseOtherwiseDiffersLaw = (g : Given) (f0 f1 f2 f3 : List Form) (names : Names) (l : ℕ) (c : TagCase) (subject : Parts) (es : List Expr) (ts : List TypedExpr) (ns : List ℕ) (begun done final : Arms)
    → IsUsedIn g f0 f1 → IsUsedIn g f1 f2 → IsUsedIn g f2 f3 → IsTable f3
    → AllOnes g f1 names ((out-TagCase c).subject ∷ []) subject.exprs subject.types → Begins f1 (out-TagCase c).name subject begun → AddsArms g f1 f2 names (out-TagCase c).arms begun done
    → AddsResults g f1 f2 names (out-TagCase c).arms begun done → (out-TagCase c).otherwise ≡ Some es → AllTyped g f3 names es ts ns → Differs ns done final → final.is_even ≡ false
    → Broken g f0 names (at l (tree.TagCase c)) 18 l
