-- What breaks the typing rules of SISAL (SISAL Language Reference Manual 1.2): a phrase whose parts are typed, and which is
-- what a rule forbids, with the number of the rule and the line of the phrase. What a part breaks, the whole breaks.
--  2  a type name is not known here
--  4  a type of an expression is deeper than 64
--  8  a name is defined twice in one list of definitions, or in one group of generators
--  9  a name of a value is not known, or not yet
-- 10  `old` before a name that is no loop name of a turn around
-- 11  a called function is not known
-- 12  the arguments of a call are not of the types of the parameters
-- 14  a definition has other numbers of targets and values, or another type than is declared
-- 15  an operator, a conversion or a call that is built in has wrong operands
-- 16  one value is wanted, and several stand there
-- 17  the test of an `if` is not boolean, or its branches have other types
-- 18  a `tagcase`: no union, a tag that is not there or stands twice, tags of one arm with other contents, a tag that no arm
--     names where there is no `otherwise`, arms with other types
-- 19  a selection or an update of something else than an array, an index or a bound that is no integer, elements of several
--     types, an empty array or stream without a type, a named type that does not fit
-- 20  a record: no record, a field that is not there or stands twice, a value of another type, a named type that does not fit
-- 21  a union: no union, a tag that is not there, a content of another type
-- 22  a generator: bounds that are no integers, an expression that is neither array nor stream, `at` with a range
-- 23  a loop: a test or mask that is not boolean, a reduction of a wrong type, a loop name defined anew with another type
use Rattle.std.specs.Prelude.{◌≡◌, ◌≢◌, ◌⊎◌, ℕ, List, [], ◌∷◌, ◌++◌, map, flat_map, length, Bool, Option, Some, None, Contains, All}
use Rattle.name_scope.specs.Newest.{newest}
use Rattle.loop_folds.specs.Ty.{Ty}
use Rattle.loop_folds.specs.Ty.TheVariants as ty
use Rattle.sisal_tree.specs.declared.unit.Named.{Named}
use Rattle.sisal_tree.specs.declared.unit.Written.{Written}
use Rattle.sisal_tree.specs.declared.expr.Expr.{Expr}
use Rattle.sisal_tree.specs.declared.expr.ExprKind.TheVariants as tree
use Rattle.sisal_tree.specs.declared.expr.Scalar.{Scalar}
use Rattle.sisal_tree.specs.declared.expr.PrefixOperator.{PrefixOperator}
use Rattle.sisal_tree.specs.declared.expr.BinaryOperator.{BinaryOperator}
use Rattle.sisal_tree.specs.declared.expr.ClauseKind.{ClauseKind}
use Rattle.sisal_tree.specs.declared.expr.FieldValue.{FieldValue}
use Rattle.sisal_tree.specs.declared.expr.Elements.{Elements, roll-Elements}
use Rattle.sisal_tree.specs.declared.expr.Def.{Def, roll-Def, out-Def}
use Rattle.sisal_tree.specs.declared.expr.Target.{Target}
use Rattle.sisal_tree.specs.declared.expr.TagCase.{roll-TagCase}
use Rattle.sisal_tree.specs.declared.expr.Arm.{Arm, roll-Arm, out-Arm}
use Rattle.sisal_tree.specs.declared.expr.Loop.TheVariants as loop
use Rattle.sisal_tree.specs.declared.expr.Generator.{Generator, roll-Generator, out-Generator}
use Rattle.sisal_tree.specs.declared.expr.Turn.{roll-Turn}
use Rattle.sisal_tree.specs.declared.expr.Clause.{Clause, roll-Clause}
use Rattle.sisal_tree.specs.declared.expr.Mask.{Mask}
use Rattle.typed_tree.specs.declared.built_in.BuiltIn.{BuiltIn}
use Rattle.typed_tree.specs.declared.expr.TypedExpr.{TypedExpr}
use Rattle.typed_tree.specs.declared.expr.Source.{Source}
use Rattle.typed_tree.specs.Scopes.{Meaning, At, Scope, define_all, targets, AreDistinct, in_turn}
use Rattle.typed_tree.specs.Types.{Member, IsSequence, IsShallow, IsConverted, prefix_type, AreOperands, Gives, MakesThrough}
use Rattle.typed_tree.specs.Typing.{Signature, Known, IsFunction, IsBuiltIn, IsTypeNamed, Has, IsTag, at, names_of, AreAllNamed, AreTargets, names_in, loop_of, with_content, AreTyped, Types, HasFields, Defines, Generates}

-- ---- what is forbidden

-- a name that stands for no value here
abbrev pub IsUnknown : Option Meaning → Type 0
IsUnknown (Some (At level a)) = ⊥
IsUnknown _ = Unit {0}

abbrev pub NoFunction : Known → ℕ → Type 0
NoFunction k x = (n : ℕ) (f : Signature) → IsFunction k x n f → ⊥

abbrev pub NoBuiltIn : Known → ℕ → Type 0
NoBuiltIn k x = (b : BuiltIn) → IsBuiltIn k x b → ⊥

-- one value is wanted, and there are none or several
abbrev pub IsNotOne : List Ty → Type 0
IsNotOne tys = (a : Ty) → tys ≡ a ∷ [] → ⊥

abbrev pub NoArray : Ty → Type 0
NoArray a = (element : Ty) → a ≡ ty.Arr element → ⊥

abbrev pub NoStream : Ty → Type 0
NoStream a = (element : Ty) → a ≡ ty.Stream element → ⊥

abbrev pub NoSequence : Ty → Type 0
NoSequence a = (element : Ty) → IsSequence a element → ⊥

abbrev pub NoRecord : Ty → Type 0
NoRecord a = (ms : List Member) → a ≡ ty.Rec ms → ⊥

abbrev pub NoUnion : Ty → Type 0
NoUnion a = (ms : List Member) → a ≡ ty.Uni ms → ⊥

-- no field or tag has this name; none has it with this type
abbrev pub NoMember : Known → List Member → ℕ → Type 0
NoMember k ms x = (place : ℕ) (a : Ty) → Has k ms x place a → ⊥

abbrev pub NoMemberOf : Known → List Member → ℕ → Ty → Type 0
NoMemberOf k ms x a = (place : ℕ) → Has k ms x place a → ⊥

-- the name stands twice, the second time on this line
pub data IsTwice : List Named → ℕ → Type 0 where
  twice : {n m : Named} {ns : List Named} → Contains ns m → n.name ≡ m.name → IsTwice (n ∷ ns) m.line
  later : {n : Named} {ns : List Named} {line : ℕ} → IsTwice ns line → IsTwice (n ∷ ns) line

-- the targets of definitions; the names of a group of generators, where each stands
abbrev pub targets_in : List Def → List Target
targets_in ds = flat_map (λ d. (out-Def d).targets) ds

abbrev pub named_in : List Target → List Named
named_in xs = map (λ x. x.name) xs

abbrev pub index_in : ℕ → Option ℕ → List Named
index_in line None = []
index_in line (Some i) = record { name = i; line = line } ∷ []

abbrev pub generators_in : List Generator → List Named
generators_in gs = flat_map (λ g. (out-Generator g).name ∷ index_in (out-Generator g).name.line (out-Generator g).at) gs

-- a definition stands on the line of its first target
abbrev pub line_of : List Target → ℕ
line_of [] = 0
line_of (x ∷ xs) = x.name.line

-- the value of a target is of another type than is declared
abbrev pub IsMistyped : (Written → Ty → Type 0) → Target → Ty → Type 0
IsMistyped denotes x a = (w : Written) × (b : Ty) × (x.ty ≡ Some w) × denotes w b × (a ≢ b)

-- a target and the value at its place
pub data IsPair : List Target → List Ty → Target → Ty → Type 0 where
  first : {x : Target} {xs : List Target} {a : Ty} {tys : List Ty} → IsPair (x ∷ xs) (a ∷ tys) x a
  later : {x y : Target} {xs : List Target} {a b : Ty} {tys : List Ty} → IsPair xs tys x a → IsPair (y ∷ xs) (b ∷ tys) x a

-- a loop name that the turn defines anew with another type
abbrev pub IsRetyped : List (ℕ × Meaning) → ℕ → Ty → Type 0
IsRetyped loop x a = (level : ℕ) × (before : Ty) × (newest x loop ≡ Some (At level before)) × (a ≢ before)

-- ---- rules

-- `denotes` says what a written type stands for, and `misnames` which rule it breaks, and where
module _ (k : Known) (denotes : Written → Ty → Type 0) (misnames : Written → ℕ → ℕ → Type 0) where
  abbrev pub Typed : Scope → Expr → TypedExpr → List Ty → Type 0
  Typed s e t tys = Types k denotes s e t tys

  mutual
    -- where these names are in force the expression breaks a rule, on a line
    pub data Breaks : Scope → Expr → ℕ → ℕ → Type 0 where
      unknown : {s : Scope} {l x : ℕ} → IsUnknown (newest x s.names) → Breaks s (at l (tree.Name x)) 9 l
      no_loop_name : {s : Scope} {l x : ℕ} → IsUnknown (newest x s.olds) → Breaks s (at l (tree.Old x)) 10 l
      in_group : {s : Scope} {l rule line : ℕ} {e : Expr} → Breaks s e rule line → Breaks s (at l (tree.Group e)) rule line
      -- calls
      unknown_function : {s : Scope} {l : ℕ} (x : ℕ) (es : List Expr) → NoFunction k x → NoBuiltIn k x → Breaks s (at l (tree.Call x es)) 11 l
      in_arguments : {s : Scope} {l rule line : ℕ} (x : ℕ) {es : List Expr} → BreaksIn s es rule line → Breaks s (at l (tree.Call x es)) rule line
      arguments : {s : Scope} {l x n : ℕ} {f : Signature} {es : List Expr} {ts : List TypedExpr} {tys : List Ty}
          → IsFunction k x n f → AreTyped k denotes s es ts tys → tys ≢ f.params → Breaks s (at l (tree.Call x es)) 12 l
      operands : {s : Scope} {l x : ℕ} {b : BuiltIn} {es : List Expr} {ts : List TypedExpr} {tys : List Ty}
          → IsBuiltIn k x b → AreTyped k denotes s es ts tys → ((a : Ty) → Gives b tys a → ⊥) → Breaks s (at l (tree.Call x es)) 15 l
      deep_call : {s : Scope} {l x : ℕ} {a : Ty} {b : BuiltIn} {es : List Expr} {ts : List TypedExpr} {tys : List Ty}
          → IsBuiltIn k x b → AreTyped k denotes s es ts tys → Gives b tys a → (IsShallow a → ⊥) → Breaks s (at l (tree.Call x es)) 4 l
      -- operators
      in_convert : {s : Scope} {l rule line : ℕ} (c : Scalar) {e : Expr} → BreaksOne s e rule line → Breaks s (at l (tree.Convert c e)) rule line
      converted : {s : Scope} {l : ℕ} {a : Ty} (c : Scalar) {e : Expr} {t : TypedExpr}
          → Typed s e t (a ∷ []) → (IsConverted c a → ⊥) → Breaks s (at l (tree.Convert c e)) 15 l
      in_error_of : {s : Scope} {l rule line : ℕ} {w : Written} → misnames w rule line → Breaks s (at l (tree.ErrorOf w)) rule line
      in_is_error : {s : Scope} {l rule line : ℕ} {e : Expr} → BreaksOne s e rule line → Breaks s (at l (tree.IsError e)) rule line
      in_prefix : {s : Scope} {l rule line : ℕ} (o : PrefixOperator) {e : Expr} → BreaksOne s e rule line → Breaks s (at l (tree.Prefix o e)) rule line
      prefixed : {s : Scope} {l : ℕ} {a : Ty} (o : PrefixOperator) {e : Expr} {t : TypedExpr}
          → Typed s e t (a ∷ []) → a ≢ prefix_type o → Breaks s (at l (tree.Prefix o e)) 15 l
      in_left : {s : Scope} {l rule line : ℕ} (o : BinaryOperator) {e : Expr} (f : Expr) → BreaksOne s e rule line → Breaks s (at l (tree.Binary o e f)) rule line
      in_right : {s : Scope} {l rule line : ℕ} (o : BinaryOperator) {f : Expr} (e : Expr) → BreaksOne s f rule line → Breaks s (at l (tree.Binary o e f)) rule line
      joined : {s : Scope} {l : ℕ} {a b : Ty} (o : BinaryOperator) {e f : Expr} {t u : TypedExpr}
          → Typed s e t (a ∷ []) → Typed s f u (b ∷ []) → (a ≢ b) ⊎ (AreOperands o a → ⊥) → Breaks s (at l (tree.Binary o e f)) 15 l
      -- arrays
      in_array : {s : Scope} {l rule line : ℕ} {e : Expr} (i : Expr) → BreaksOne s e rule line → Breaks s (at l (tree.Select e i)) rule line
      in_index : {s : Scope} {l rule line : ℕ} {i : Expr} (e : Expr) → BreaksOne s i rule line → Breaks s (at l (tree.Select e i)) rule line
      selected : {s : Scope} {l : ℕ} {a b : Ty} {e i : Expr} {t u : TypedExpr}
          → Typed s e t (a ∷ []) → Typed s i u (b ∷ []) → NoArray a ⊎ (b ≢ ty.Int) → Breaks s (at l (tree.Select e i)) 19 l
      in_updated : {s : Scope} {l rule line : ℕ} {e : Expr} (i f : Expr) → BreaksOne s e rule line → Breaks s (at l (tree.Update e i f)) rule line
      in_place : {s : Scope} {l rule line : ℕ} {i : Expr} (e f : Expr) → BreaksOne s i rule line → Breaks s (at l (tree.Update e i f)) rule line
      in_value : {s : Scope} {l rule line : ℕ} {f : Expr} (e i : Expr) → BreaksOne s f rule line → Breaks s (at l (tree.Update e i f)) rule line
      updated : {s : Scope} {l : ℕ} {a b c : Ty} {e i f : Expr} {t u v : TypedExpr}
          → Typed s e t (a ∷ []) → Typed s i u (b ∷ []) → Typed s f v (c ∷ []) → (a ≢ ty.Arr c) ⊎ (b ≢ ty.Int) → Breaks s (at l (tree.Update e i f)) 19 l
      -- records
      in_record : {s : Scope} {l rule line : ℕ} (x : ℕ) {e : Expr} → BreaksOne s e rule line → Breaks s (at l (tree.Field e x)) rule line
      no_record : {s : Scope} {l : ℕ} (x : ℕ) {a : Ty} {e : Expr} {t : TypedExpr} → Typed s e t (a ∷ []) → NoRecord a → Breaks s (at l (tree.Field e x)) 20 l
      no_field : {s : Scope} {l : ℕ} (x : ℕ) (ms : List Member) {e : Expr} {t : TypedExpr} → Typed s e t (ty.Rec ms ∷ []) → NoMember k ms x → Breaks s (at l (tree.Field e x)) 20 l
      in_replaced : {s : Scope} {l rule line : ℕ} {e : Expr} (vs : List FieldValue) → BreaksOne s e rule line → Breaks s (at l (tree.Replace e vs)) rule line
      in_replacement : {s : Scope} {l rule line : ℕ} {v : FieldValue} (e : Expr) (vs : List FieldValue)
          → Contains vs v → BreaksOne s v.value rule line → Breaks s (at l (tree.Replace e vs)) rule line
      replaced_no_record : {s : Scope} {l : ℕ} {a : Ty} {e : Expr} {t : TypedExpr} (vs : List FieldValue)
          → Typed s e t (a ∷ []) → NoRecord a → Breaks s (at l (tree.Replace e vs)) 20 l
      replaced_by_another : {s : Scope} {l : ℕ} {a : Ty} (ms : List Member) {v : FieldValue} {e : Expr} {t u : TypedExpr} (vs : List FieldValue)
          → Typed s e t (ty.Rec ms ∷ []) → Contains vs v → Typed s v.value u (a ∷ []) → NoMemberOf k ms v.field.name a → Breaks s (at l (tree.Replace e vs)) 20 l
      replaced_twice : {s : Scope} {l : ℕ} {a : Ty} {e : Expr} {t : TypedExpr} (vs : List FieldValue)
          → Typed s e t (a ∷ []) → (AreDistinct (map (λ v. v.field.name) vs) → ⊥) → Breaks s (at l (tree.Replace e vs)) 20 l
      -- constructors
      array_name : {s : Scope} {l : ℕ} (x : ℕ) (es : Option Elements) → newest x k.types ≡ None → Breaks s (at l (tree.Array (Some x) es)) 2 l
      empty_array : {s : Scope} {l : ℕ} → Breaks s (at l (tree.Array None None)) 19 l
      empty_no_array : {s : Scope} {l : ℕ} (x : ℕ) (a : Ty) → IsTypeNamed k x a → NoArray a → Breaks s (at l (tree.Array (Some x) None)) 19 l
      in_lower : {s : Scope} {l rule line : ℕ} (x : Option ℕ) (low : Expr) (es : List Expr) → BreaksOne s low rule line
          → Breaks s (at l (tree.Array x (Some (roll-Elements (record { lower = low; values = es }))))) rule line
      in_elements : {s : Scope} {l rule line : ℕ} (x : Option ℕ) (low : Expr) (es : List Expr) → BreaksIn s es rule line
          → Breaks s (at l (tree.Array x (Some (roll-Elements (record { lower = low; values = es }))))) rule line
      lower : {s : Scope} {l : ℕ} {a : Ty} (x : Option ℕ) (low : Expr) {t : TypedExpr} (es : List Expr) → Typed s low t (a ∷ []) → a ≢ ty.Int
          → Breaks s (at l (tree.Array x (Some (roll-Elements (record { lower = low; values = es }))))) 19 l
      elements : {s : Scope} {l : ℕ} {a : Ty} (b : Ty) {tys : List Ty} (x : Option ℕ) (low : Expr) (es : List Expr) {ts : List TypedExpr}
          → AreTyped k denotes s es ts (a ∷ tys) → Contains tys b → b ≢ a
          → Breaks s (at l (tree.Array x (Some (roll-Elements (record { lower = low; values = es }))))) 19 l
      another_array : {s : Scope} {l : ℕ} (x : ℕ) {a : Ty} (b : Ty) {tys : List Ty} (low : Expr) (es : List Expr) {ts : List TypedExpr}
          → AreTyped k denotes s es ts (a ∷ tys) → IsTypeNamed k x b → b ≢ ty.Arr a
          → Breaks s (at l (tree.Array (Some x) (Some (roll-Elements (record { lower = low; values = es }))))) 19 l
      deep_array : {s : Scope} {l : ℕ} {a : Ty} {tys : List Ty} (x : Option ℕ) (low : Expr) (es : List Expr) {ts : List TypedExpr}
          → AreTyped k denotes s es ts (a ∷ tys) → (IsShallow (ty.Arr a) → ⊥)
          → Breaks s (at l (tree.Array x (Some (roll-Elements (record { lower = low; values = es }))))) 4 l
      stream_name : {s : Scope} {l : ℕ} (x : ℕ) (es : List Expr) → newest x k.types ≡ None → Breaks s (at l (tree.Stream (Some x) es)) 2 l
      empty_stream : {s : Scope} {l : ℕ} → Breaks s (at l (tree.Stream None [])) 19 l
      empty_no_stream : {s : Scope} {l : ℕ} (x : ℕ) (a : Ty) → IsTypeNamed k x a → NoStream a → Breaks s (at l (tree.Stream (Some x) [])) 19 l
      in_stream : {s : Scope} {l rule line : ℕ} (x : Option ℕ) {es : List Expr} → BreaksIn s es rule line → Breaks s (at l (tree.Stream x es)) rule line
      stream_elements : {s : Scope} {l : ℕ} {a : Ty} (b : Ty) {tys : List Ty} (x : Option ℕ) {es : List Expr} {ts : List TypedExpr}
          → AreTyped k denotes s es ts (a ∷ tys) → Contains tys b → b ≢ a → Breaks s (at l (tree.Stream x es)) 19 l
      another_stream : {s : Scope} {l : ℕ} (x : ℕ) {a : Ty} (b : Ty) {tys : List Ty} {es : List Expr} {ts : List TypedExpr}
          → AreTyped k denotes s es ts (a ∷ tys) → IsTypeNamed k x b → b ≢ ty.Stream a → Breaks s (at l (tree.Stream (Some x) es)) 19 l
      deep_stream : {s : Scope} {l : ℕ} {a : Ty} {tys : List Ty} (x : Option ℕ) {es : List Expr} {ts : List TypedExpr}
          → AreTyped k denotes s es ts (a ∷ tys) → (IsShallow (ty.Stream a) → ⊥) → Breaks s (at l (tree.Stream x es)) 4 l
      record_name : {s : Scope} {l : ℕ} (x : ℕ) (vs : List FieldValue) → newest x k.types ≡ None → Breaks s (at l (tree.Record (Some x) vs)) 2 l
      in_field : {s : Scope} {l rule line : ℕ} (x : Option ℕ) {v : FieldValue} (vs : List FieldValue)
          → Contains vs v → BreaksOne s v.value rule line → Breaks s (at l (tree.Record x vs)) rule line
      field_twice : {s : Scope} {l : ℕ} (x : Option ℕ) (vs : List FieldValue) → (AreDistinct (map (λ v. v.field.name) vs) → ⊥) → Breaks s (at l (tree.Record x vs)) 20 l
      another_record : {s : Scope} {l : ℕ} (x : ℕ) (b : Ty) {ms : List Member} {vs : List FieldValue} {ts : List TypedExpr}
          → HasFields k denotes s vs ts ms → IsTypeNamed k x b → b ≢ ty.Rec ms → Breaks s (at l (tree.Record (Some x) vs)) 20 l
      deep_record : {s : Scope} {l : ℕ} (x : Option ℕ) {ms : List Member} {vs : List FieldValue} {ts : List TypedExpr}
          → HasFields k denotes s vs ts ms → (IsShallow (ty.Rec ms) → ⊥) → Breaks s (at l (tree.Record x vs)) 4 l
      -- unions
      union_name : {s : Scope} {l : ℕ} (x tag : ℕ) (e : Expr) → newest x k.types ≡ None → Breaks s (at l (tree.Union x tag e)) 2 l
      in_content : {s : Scope} {l rule line : ℕ} (x tag : ℕ) {e : Expr} → BreaksOne s e rule line → Breaks s (at l (tree.Union x tag e)) rule line
      no_union : {s : Scope} {l : ℕ} (x tag : ℕ) (a : Ty) (e : Expr) → IsTypeNamed k x a → NoUnion a → Breaks s (at l (tree.Union x tag e)) 21 l
      content : {s : Scope} {l : ℕ} (x tag : ℕ) {a : Ty} (ms : List Member) {e : Expr} {t : TypedExpr}
          → IsTypeNamed k x (ty.Uni ms) → Typed s e t (a ∷ []) → NoMemberOf k ms tag a → Breaks s (at l (tree.Union x tag e)) 21 l
      in_is_tag : {s : Scope} {l rule line : ℕ} (x : ℕ) {e : Expr} → BreaksOne s e rule line → Breaks s (at l (tree.IsTag x e)) rule line
      is_no_union : {s : Scope} {l : ℕ} (x : ℕ) {a : Ty} {e : Expr} {t : TypedExpr} → Typed s e t (a ∷ []) → NoUnion a → Breaks s (at l (tree.IsTag x e)) 21 l
      is_no_tag : {s : Scope} {l : ℕ} (x : ℕ) (ms : List Member) {e : Expr} {t : TypedExpr} → Typed s e t (ty.Uni ms ∷ []) → NoMember k ms x → Breaks s (at l (tree.IsTag x e)) 21 l
      -- `let` and `if`
      in_definitions : {s : Scope} {l rule line : ℕ} {ds : List Def} (es : List Expr) → BreaksDefs s ds rule line → Breaks s (at l (tree.Let ds es)) rule line
      in_results : {s after : Scope} {l rule line : ℕ} {ds : List Def} {us : List (List TypedExpr)} {made : List Ty} {es : List Expr}
          → Defines k denotes s ds us made after → BreaksIn after es rule line → Breaks s (at l (tree.Let ds es)) rule line
      in_test : {s : Scope} {l rule line : ℕ} {c : Expr} (es fs : List Expr) → BreaksOne s c rule line → Breaks s (at l (tree.If c es fs)) rule line
      in_then : {s : Scope} {l rule line : ℕ} (c : Expr) {es : List Expr} (fs : List Expr) → BreaksIn s es rule line → Breaks s (at l (tree.If c es fs)) rule line
      in_else : {s : Scope} {l rule line : ℕ} (c : Expr) {fs : List Expr} (es : List Expr) → BreaksIn s fs rule line → Breaks s (at l (tree.If c es fs)) rule line
      test : {s : Scope} {l : ℕ} {a : Ty} {c : Expr} {t : TypedExpr} (es fs : List Expr) → Typed s c t (a ∷ []) → a ≢ ty.Bool → Breaks s (at l (tree.If c es fs)) 17 l
      branches : {s : Scope} {l : ℕ} (c : Expr) {es fs : List Expr} {ts us : List TypedExpr} {tys others : List Ty}
          → AreTyped k denotes s es ts tys → AreTyped k denotes s fs us others → tys ≢ others → Breaks s (at l (tree.If c es fs)) 17 l
      -- `tagcase`
      in_subject : {s : Scope} {l rule line : ℕ} (x : Option ℕ) (e : Expr) (arms : List Arm) (other : Option (List Expr)) → BreaksOne s e rule line
          → Breaks s (at l (tree.TagCase (roll-TagCase (record { name = x; subject = e; arms = arms; otherwise = other })))) rule line
      case_no_union : {s : Scope} {l : ℕ} {a : Ty} (x : Option ℕ) (e : Expr) {t : TypedExpr} (arms : List Arm) (other : Option (List Expr)) → Typed s e t (a ∷ []) → NoUnion a
          → Breaks s (at l (tree.TagCase (roll-TagCase (record { name = x; subject = e; arms = arms; otherwise = other })))) 18 l
      in_arms : {s : Scope} {l rule line : ℕ} (ms : List Member) (x : Option ℕ) (e : Expr) {t : TypedExpr} {arm : Arm} (arms : List Arm) (other : Option (List Expr))
          → Typed s e t (ty.Uni ms ∷ []) → Contains arms arm → BreaksArm s x ms arm rule line
          → Breaks s (at l (tree.TagCase (roll-TagCase (record { name = x; subject = e; arms = arms; otherwise = other })))) rule line
      tag_twice : {s : Scope} {l line : ℕ} (ms : List Member) (x : Option ℕ) (e : Expr) {t : TypedExpr} (arms : List Arm) (other : Option (List Expr))
          → Typed s e t (ty.Uni ms ∷ []) → IsTwice (flat_map (λ arm. (out-Arm arm).tags) arms) line
          → Breaks s (at l (tree.TagCase (roll-TagCase (record { name = x; subject = e; arms = arms; otherwise = other })))) 18 line
      no_arm : {s : Scope} {l : ℕ} (ms : List Member) (x : Option ℕ) (e : Expr) {t : TypedExpr} (arms : List Arm) (other : Option (List Expr))
          → Typed s e t (ty.Uni ms ∷ []) → (AreAllNamed k (map (λ arm. names_of (out-Arm arm).tags) arms) ms other → ⊥)
          → Breaks s (at l (tree.TagCase (roll-TagCase (record { name = x; subject = e; arms = arms; otherwise = other })))) 18 l
      arms_differ : {s : Scope} {l : ℕ} {tys others : List Ty} (ms : List Member) (x : Option ℕ) (e : Expr) {t : TypedExpr} {arm brm : Arm} (arms : List Arm) (other : Option (List Expr))
          → Typed s e t (ty.Uni ms ∷ []) → Contains arms arm → HasResults s x ms arm tys → Contains arms brm → HasResults s x ms brm others → tys ≢ others
          → Breaks s (at l (tree.TagCase (roll-TagCase (record { name = x; subject = e; arms = arms; otherwise = other })))) 18 l
      otherwise_differs : {s : Scope} {l : ℕ} {tys others : List Ty} (ms : List Member) (x : Option ℕ) (e : Expr) {t : TypedExpr} {arm : Arm} (arms : List Arm) (es : List Expr) {ts : List TypedExpr}
          → Typed s e t (ty.Uni ms ∷ []) → Contains arms arm → HasResults s x ms arm tys → AreTyped k denotes s es ts others → tys ≢ others
          → Breaks s (at l (tree.TagCase (roll-TagCase (record { name = x; subject = e; arms = arms; otherwise = Some es })))) 18 l
      in_otherwise : {s : Scope} {l rule line : ℕ} (x : Option ℕ) (e : Expr) (arms : List Arm) (es : List Expr) → BreaksIn s es rule line
          → Breaks s (at l (tree.TagCase (roll-TagCase (record { name = x; subject = e; arms = arms; otherwise = Some es })))) rule line
      -- `for`
      in_groups : {s : Scope} {l rule line : ℕ} {gs : List (List Generator)} {ds : List Def} {cs : List Clause} → BreaksGroups (length gs) l s gs ds cs rule line
          → Breaks s (at l (tree.For (loop.Product gs ds cs))) rule line
      in_initial : {s : Scope} {l rule line : ℕ} (ds es : List Def) (cs : List Clause) (is_first is_until : Bool) (e : Expr) → BreaksDefs s ds rule line
          → Breaks s (at l (tree.For (loop.Initial ds (roll-Turn (record { is_first = is_first; is_until = is_until; test = e; defs = es })) cs))) rule line
      in_loop_test : {s started : Scope} {l rule line : ℕ} (ds es : List Def) {us : List (List TypedExpr)} {first : List Ty} (cs : List Clause) (is_first is_until : Bool) (e : Expr)
          → Defines k denotes s ds us first started → BreaksOne started e rule line
          → Breaks s (at l (tree.For (loop.Initial ds (roll-Turn (record { is_first = is_first; is_until = is_until; test = e; defs = es })) cs))) rule line
      loop_test : {s started : Scope} {l : ℕ} {a : Ty} (ds es : List Def) {us : List (List TypedExpr)} {first : List Ty} (cs : List Clause) (is_first is_until : Bool) (e : Expr) {t : TypedExpr}
          → Defines k denotes s ds us first started → Typed started e t (a ∷ []) → a ≢ ty.Bool
          → Breaks s (at l (tree.For (loop.Initial ds (roll-Turn (record { is_first = is_first; is_until = is_until; test = e; defs = es })) cs))) 23 l
      in_turn_of : {s started : Scope} {l rule line : ℕ} (ds es : List Def) {us : List (List TypedExpr)} {first : List Ty} (cs : List Clause) (is_first is_until : Bool) (e : Expr)
          → Defines k denotes s ds us first started → BreaksDefs (in_turn (loop_of s ds first) (targets es) started) es rule line
          → Breaks s (at l (tree.For (loop.Initial ds (roll-Turn (record { is_first = is_first; is_until = is_until; test = e; defs = es })) cs))) rule line
      retyped : {s started turned : Scope} {l : ℕ} {a : Ty} {x : Target} (ds before : List Def) (xs : List Target) (after : List Def) {us vs : List (List TypedExpr)}
          {first earlier tys : List Ty} (es : List Expr) {ts : List TypedExpr} (cs : List Clause) (is_first is_until : Bool) (e : Expr)
          → Defines k denotes s ds us first started
          → Defines k denotes (in_turn (loop_of s ds first) (targets (before ++ roll-Def (record { targets = xs; values = es }) ∷ after)) started) before vs earlier turned
          → AreTyped k denotes turned es ts tys → IsPair xs tys x a → IsRetyped (loop_of s ds first) x.name.name a
          → Breaks s (at l (tree.For (loop.Initial ds (roll-Turn (record { is_first = is_first; is_until = is_until; test = e; defs = before ++ roll-Def (record { targets = xs; values = es }) ∷ after })) cs))) 23 (line_of xs)
      in_loop_clauses : {s started : Scope} {l rule line : ℕ} (ds es : List Def) {us : List (List TypedExpr)} {first : List Ty} (cs : List Clause) (c : Clause) (is_first is_until : Bool) (e : Expr)
          → Defines k denotes s ds us first started → Contains cs c → BreaksClause started 1 l c rule line
          → Breaks s (at l (tree.For (loop.Initial ds (roll-Turn (record { is_first = is_first; is_until = is_until; test = e; defs = es })) cs))) rule line

    -- where one value is wanted
    pub data BreaksOne : Scope → Expr → ℕ → ℕ → Type 0 where
      inside : {s : Scope} {rule line : ℕ} {e : Expr} → Breaks s e rule line → BreaksOne s e rule line
      not_one : {s : Scope} {e : Expr} {t : TypedExpr} {tys : List Ty} → Typed s e t tys → IsNotOne tys → BreaksOne s e 16 e.line

    -- one of some expressions
    pub data BreaksIn : Scope → List Expr → ℕ → ℕ → Type 0 where
      one_of : {s : Scope} {rule line : ℕ} {e : Expr} {es : List Expr} → Contains es e → Breaks s e rule line → BreaksIn s es rule line

    -- definitions in order: one breaks a rule where those before it are typed
    pub data BreaksDefs : Scope → List Def → ℕ → ℕ → Type 0 where
      defined_twice : {s : Scope} {line : ℕ} {ds : List Def} → IsTwice (named_in (targets_in ds)) line → BreaksDefs s ds 8 line
      in_values : {s : Scope} {rule line : ℕ} (xs : List Target) (es : List Expr) {ds : List Def} → BreaksIn s es rule line
          → BreaksDefs s (roll-Def (record { targets = xs; values = es }) ∷ ds) rule line
      number_of_values : {s : Scope} (xs : List Target) (es : List Expr) {ts : List TypedExpr} {tys : List Ty} {ds : List Def} → AreTyped k denotes s es ts tys → length tys ≢ length xs
          → BreaksDefs s (roll-Def (record { targets = xs; values = es }) ∷ ds) 14 (line_of xs)
      in_declared : {s : Scope} {rule line : ℕ} (x : Target) (w : Written) (xs : List Target) (es : List Expr) {ds : List Def} → Contains xs x → x.ty ≡ Some w → misnames w rule line
          → BreaksDefs s (roll-Def (record { targets = xs; values = es }) ∷ ds) rule line
      declared : {s : Scope} {a : Ty} {x : Target} (xs : List Target) (es : List Expr) {ts : List TypedExpr} {tys : List Ty} {ds : List Def}
          → AreTyped k denotes s es ts tys → IsPair xs tys x a → IsMistyped denotes x a → BreaksDefs s (roll-Def (record { targets = xs; values = es }) ∷ ds) 14 (line_of xs)
      after_one : {s : Scope} {rule line : ℕ} (xs : List Target) (es : List Expr) {ts : List TypedExpr} {tys : List Ty} {ds : List Def}
          → AreTyped k denotes s es ts tys → AreTargets denotes xs tys → BreaksDefs (define_all (names_in xs) tys s) ds rule line
          → BreaksDefs s (roll-Def (record { targets = xs; values = es }) ∷ ds) rule line

    -- a loop of so many groups of generators in all, from a line on: one breaks a rule where those before it are typed, or what
    -- is inside of all
    pub data BreaksGroups : ℕ → ℕ → Scope → List (List Generator) → List Def → List Clause → ℕ → ℕ → Type 0 where
      here : {groups from : ℕ} {s : Scope} {rule line : ℕ} {g : Generator} {group : List Generator} {gs : List (List Generator)} {ds : List Def} {cs : List Clause}
          → Contains group g → BreaksGenerator s g rule line → BreaksGroups groups from s (group ∷ gs) ds cs rule line
      named_twice : {groups from : ℕ} {s : Scope} {line : ℕ} {group : List Generator} {gs : List (List Generator)} {ds : List Def} {cs : List Clause}
          → IsTwice (generators_in group) line → BreaksGroups groups from s (group ∷ gs) ds cs 8 line
      after_group : {groups from : ℕ} {s : Scope} {rule line : ℕ} {names : List ℕ} {tys : List Ty} {group : List Generator} {sources : List Source} {bounds : List TypedExpr} {gs : List (List Generator)} {ds : List Def} {cs : List Clause}
          → Generates k denotes s group sources bounds names tys → AreDistinct names → BreaksGroups groups from (define_all names tys s) gs ds cs rule line → BreaksGroups groups from s (group ∷ gs) ds cs rule line
      in_body : {groups from : ℕ} {s : Scope} {rule line : ℕ} {ds : List Def} {cs : List Clause} → BreaksDefs s ds rule line → BreaksGroups groups from s [] ds cs rule line
      in_clauses : {groups from : ℕ} {s inside : Scope} {rule line : ℕ} {ds : List Def} {us : List (List TypedExpr)} {made : List Ty} (cs : List Clause) {c : Clause}
          → Defines k denotes s ds us made inside → Contains cs c → BreaksClause inside groups from c rule line → BreaksGroups groups from s [] ds cs rule line

    pub data BreaksGenerator : Scope → Generator → ℕ → ℕ → Type 0 where
      in_from : {s : Scope} {rule line : ℕ} (n : Named) (e : Expr) (to : Option Expr) (i : Option ℕ) → BreaksOne s e rule line
          → BreaksGenerator s (roll-Generator (record { name = n; from = e; to = to; at = i })) rule line
      in_to : {s : Scope} {rule line : ℕ} (n : Named) (e f : Expr) (i : Option ℕ) → BreaksOne s f rule line
          → BreaksGenerator s (roll-Generator (record { name = n; from = e; to = Some f; at = i })) rule line
      bounds : {s : Scope} {a b : Ty} (n : Named) (e f : Expr) {t u : TypedExpr} (i : Option ℕ) → Typed s e t (a ∷ []) → Typed s f u (b ∷ []) → (a ≢ ty.Int) ⊎ (b ≢ ty.Int)
          → BreaksGenerator s (roll-Generator (record { name = n; from = e; to = Some f; at = i })) 22 n.line
      at_range : {s : Scope} (i : ℕ) (n : Named) (e f : Expr) → BreaksGenerator s (roll-Generator (record { name = n; from = e; to = Some f; at = Some i })) 22 n.line
      no_sequence : {s : Scope} {a : Ty} (n : Named) (e : Expr) {t : TypedExpr} (i : Option ℕ) → Typed s e t (a ∷ []) → NoSequence a
          → BreaksGenerator s (roll-Generator (record { name = n; from = e; to = None; at = i })) 22 n.line

    -- a clause of a loop of so many groups, from a line on
    pub data BreaksClause : Scope → ℕ → ℕ → Clause → ℕ → ℕ → Type 0 where
      in_clause : {s : Scope} (groups from l rule line : ℕ) (kind : ClauseKind) (e : Expr) (m : Option Mask) → BreaksOne s e rule line
          → BreaksClause s groups from (roll-Clause (record { line = l; kind = kind; value = e; mask = m })) rule line
      in_mask : {s : Scope} (groups from l rule line : ℕ) (kind : ClauseKind) (e : Expr) (m : Mask) → BreaksOne s m.test rule line
          → BreaksClause s groups from (roll-Clause (record { line = l; kind = kind; value = e; mask = Some m })) rule line
      mask : {s : Scope} (groups from l : ℕ) {a : Ty} (kind : ClauseKind) (e : Expr) (m : Mask) {t : TypedExpr} → Typed s m.test t (a ∷ []) → a ≢ ty.Bool
          → BreaksClause s groups from (roll-Clause (record { line = l; kind = kind; value = e; mask = Some m })) 23 l
      reduction : {s : Scope} (groups from l : ℕ) {a : Ty} (kind : ClauseKind) (e : Expr) {t : TypedExpr} (m : Option Mask) → Typed s e t (a ∷ []) → ((b : Ty) → MakesThrough kind groups a b → ⊥)
          → BreaksClause s groups from (roll-Clause (record { line = l; kind = kind; value = e; mask = m })) 23 l
      deep_clause : {s : Scope} (groups from l : ℕ) {a b : Ty} (kind : ClauseKind) (e : Expr) {t : TypedExpr} (m : Option Mask) → Typed s e t (a ∷ []) → MakesThrough kind groups a b → (IsShallow b → ⊥)
          → BreaksClause s groups from (roll-Clause (record { line = l; kind = kind; value = e; mask = m })) 4 from

    pub data BreaksArm : Scope → Option ℕ → List Member → Arm → ℕ → ℕ → Type 0 where
      no_tag : {s : Scope} (l : ℕ) {x : Option ℕ} {ms : List Member} {n : Named} (tags : List Named) (es : List Expr) → Contains tags n → NoMember k ms n.name
          → BreaksArm s x ms (roll-Arm (record { line = l; tags = tags; results = es })) 18 n.line
      contents : {s : Scope} (l : ℕ) (a b : Ty) {x : Option ℕ} {ms : List Member} (n m : Named) (tags : List Named) (es : List Expr)
          → Contains tags n → IsTag k ms n.name a → Contains tags m → IsTag k ms m.name b → a ≢ b
          → BreaksArm s x ms (roll-Arm (record { line = l; tags = tags; results = es })) 18 l
      in_arm : {s : Scope} (l rule line : ℕ) (content : Ty) {x : Option ℕ} {ms : List Member} (tags : List Named) (es : List Expr)
          → All (λ tag. IsTag k ms tag content) (names_of tags) → BreaksIn (with_content x content s) es rule line
          → BreaksArm s x ms (roll-Arm (record { line = l; tags = tags; results = es })) rule line

    -- the types of the results of an arm
    pub data HasResults : Scope → Option ℕ → List Member → Arm → List Ty → Type 0 where
      results : {s : Scope} (l : ℕ) (content : Ty) {x : Option ℕ} {ms : List Member} (tags : List Named) (es : List Expr) {ts : List TypedExpr} {tys : List Ty}
          → All (λ tag. IsTag k ms tag content) (names_of tags) → AreTyped k denotes (with_content x content s) es ts tys
          → HasResults s x ms (roll-Arm (record { line = l; tags = tags; results = es })) tys
