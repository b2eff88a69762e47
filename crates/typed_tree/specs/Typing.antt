-- The typing rules of SISAL (SISAL Language Reference Manual 1.2): which expressions have values of which types, a rule for
-- each production, and the typed tree of each.
use Rattle.std.specs.Prelude.{◌≡◌, ℕ, suc, List, [], ◌∷◌, ◌++◌, map, flat_map, length, Bool, Option, Some, None, slice_get, Contains, All}
use Rattle.name_scope.specs.Newest.{newest}
use Rattle.sisal_tree.specs.Words.{beside}
use Rattle.loop_folds.specs.Ty.{Ty}
use Rattle.loop_folds.specs.Ty.TheVariants as ty
use Rattle.type_table.specs.declared.form.Form.{Form}
use Rattle.sisal_tree.specs.declared.unit.Named.{Named}
use Rattle.sisal_tree.specs.declared.unit.Written.{Written}
use Rattle.sisal_tree.specs.declared.expr.Expr.{Expr}
use Rattle.sisal_tree.specs.declared.expr.ExprKind.{ExprKind}
use Rattle.sisal_tree.specs.declared.expr.ExprKind.TheVariants as tree
use Rattle.sisal_tree.specs.declared.expr.Constant.{Constant}
use Rattle.sisal_tree.specs.declared.expr.Scalar.{Scalar}
use Rattle.sisal_tree.specs.declared.expr.PrefixOperator.{PrefixOperator}
use Rattle.sisal_tree.specs.declared.expr.BinaryOperator.{BinaryOperator}
use Rattle.sisal_tree.specs.declared.expr.ClauseKind.{ClauseKind}
use Rattle.sisal_tree.specs.declared.expr.FieldValue.{FieldValue}
use Rattle.sisal_tree.specs.declared.expr.Elements.{roll-Elements}
use Rattle.sisal_tree.specs.declared.expr.Def.{Def, roll-Def}
use Rattle.sisal_tree.specs.declared.expr.Target.{Target}
use Rattle.sisal_tree.specs.declared.expr.TagCase.{roll-TagCase}
use Rattle.sisal_tree.specs.declared.expr.Arm.{Arm, roll-Arm}
use Rattle.sisal_tree.specs.declared.expr.Loop.TheVariants as loop
use Rattle.sisal_tree.specs.declared.expr.Generator.{Generator, roll-Generator}
use Rattle.sisal_tree.specs.declared.expr.Turn.{roll-Turn}
use Rattle.sisal_tree.specs.declared.expr.Clause.{Clause, roll-Clause}
use Rattle.sisal_tree.specs.declared.expr.Mask.{Mask}
use Rattle.loop_folds.specs.Scalar1.TheVariants as unary
use Rattle.value_ops.specs.declared.operation.Operation.TheVariants as operation
use Rattle.typed_tree.specs.declared.built_in.BuiltIn.{BuiltIn}
use Rattle.typed_tree.specs.declared.expr.TypedExpr.{TypedExpr}
use Rattle.typed_tree.specs.declared.expr.TypedKind.{TypedKind}
use Rattle.typed_tree.specs.declared.expr.TypedKind.TheVariants as typed
use Rattle.typed_tree.specs.declared.expr.Choice.{Choice}
use Rattle.typed_tree.specs.declared.expr.Source.{Source}
use Rattle.typed_tree.specs.declared.expr.Source.TheVariants as source
use Rattle.typed_tree.specs.declared.expr.ClauseForm.{ClauseForm}
use Rattle.typed_tree.specs.BuiltIns.{built_ins}
use Rattle.typed_tree.specs.Scopes.{Meaning, At, Scope, define, define_all, targets, AreDistinct, loop_names, in_turn, KeepTypes, renewals}
use Rattle.typed_tree.specs.Types.{Member, IsMember, IsSequence, IsShallow, AreNumbers, constant_type, scalar_type, IsConverted, prefix_type, AreOperands, binary_type, Gives, Makes}
use Rattle.typed_tree.specs.Operations.{prefix_operation, binary_operation, convert_operation, built_in_operation, clause_form}

-- a function by its name, the names and types of its parameters, and the types of its results
pub record Signature : Type 0 where
  pub name : ℕ
  pub parameters : List ℕ
  pub params : List Ty
  pub results : List Ty

-- what is known at a place of a unit, beside the names of values
pub record Known : Type 0 where
  -- the types of the program, by number
  pub forms : List Form
  -- how the names of the text are spelled
  pub spellings : List (List ℕ)
  -- the names of types, the newest first
  pub types : List (ℕ × Ty)
  -- the functions, in order
  pub functions : List Signature

-- the function of a name, by its number
pub record IsFunction (k : Known) (x n : ℕ) (f : Signature) : Type 0 where
  pub there : slice_get k.functions n ≡ Some f
  pub named : f.name ≡ x

-- how a name is spelled
abbrev pub IsSpelled : Known → ℕ → List ℕ → Type 0
IsSpelled k x spelling = slice_get k.spellings x ≡ Some spelling

-- the call of a name that is built in
pub record IsBuiltIn (k : Known) (x : ℕ) (b : BuiltIn) : Type 0 where
  pub spelling : List ℕ
  pub spelled : IsSpelled k x spelling
  pub named : beside spelling built_ins ≡ Some b

-- the type of a name
abbrev pub IsTypeNamed : Known → ℕ → Ty → Type 0
IsTypeNamed k x t = newest x k.types ≡ Some t

-- a constructor with or without the name of its type
abbrev pub IsNamedType : Known → Option ℕ → Ty → Type 0
IsNamedType k None t = Unit {0}
IsNamedType k (Some x) t = IsTypeNamed k x t

-- these numbers stand for the types
pub record Number (k : Known) (ns : List ℕ) (ts : List Ty) : Type 0 where
  pub each : AreNumbers k.forms k.spellings ns ts

-- the field or tag of a name, by its place
pub record Has (k : Known) (ms : List Member) (x place : ℕ) (content : Ty) : Type 0 where
  pub spelling : List ℕ
  pub spelled : IsSpelled k x spelling
  pub member : IsMember ms spelling place content

abbrev pub at : ℕ → ExprKind → Expr
at line kind = record { line = line; kind = kind }

abbrev pub with : ℕ → List ℕ → TypedKind → TypedExpr
with line types kind = record { line = line; types = types; kind = kind }

abbrev pub names_of : List Named → List ℕ
names_of ns = map (λ n. n.name) ns

-- ---- unions

-- the tags of arms, the first of which has this place, each with the place of its arm
abbrev pub tags_from : ℕ → List (List ℕ) → List (ℕ × ℕ)
tags_from i [] = []
tags_from i (names ∷ arms) = map (λ x. (x, i)) names ++ tags_from (suc i) arms

-- each tag by its place in the union, with the place of its arm
abbrev pub AreChoices : Known → List Member → List (ℕ × ℕ) → List Choice → Type 0
AreChoices k ms [] [] = Unit {0}
AreChoices k ms (x ∷ xs) (c ∷ cs) = (((content : Ty) × Has k ms x.0 c.tag content) × (c.arm ≡ x.1)) × AreChoices k ms xs cs
AreChoices k ms _ _ = ⊥

-- the tags that arms name, in the order of the text
pub record Chooses (k : Known) (arms : List (List ℕ)) (ms : List Member) (choices : List Choice) : Type 0 where
  pub each : AreChoices k ms (tags_from 0 arms) choices

-- every tag is named by an arm, unless there is an `otherwise`
abbrev pub AreAllNamed : Known → List (List ℕ) → List Member → Option (List Expr) → Type 0
AreAllNamed k arms ms (Some es) = Unit {0}
AreAllNamed k arms ms None =
    All (λ m. (x : ℕ) × IsSpelled k x m.0 × Contains (flat_map (λ tags. tags) arms) x) ms

-- a tag of the union whose content is of this type
abbrev pub IsTag : Known → List Member → ℕ → Ty → Type 0
IsTag k ms tag content = (place : ℕ) × Has k ms tag place content

-- ---- definitions

-- the declared types are those of the values, and there is a value for each target
abbrev pub AreTargets : (Written → Ty → Type 0) → List Target → List Ty → Type 0
AreTargets denotes [] [] = Unit {0}
AreTargets denotes (x ∷ xs) (t ∷ ts) = IsDeclared x.ty × AreTargets denotes xs ts
  where
    IsDeclared : Option Written → Type 0
    IsDeclared None = Unit {0}
    IsDeclared (Some w) = denotes w t
AreTargets denotes _ _ = ⊥

abbrev pub names_in : List Target → List ℕ
names_in xs = map (λ x. x.name.name) xs

-- the names of a loop, which its initial part defines with values of these types, the newest first
abbrev pub loop_of : Scope → List Def → List Ty → List (ℕ × Meaning)
loop_of s ds ts = loop_names s.height (targets ds) ts

-- the content of a union is in force where it has a name
abbrev pub with_content : Option ℕ → Ty → Scope → Scope
with_content None content s = s
with_content (Some x) content s = define x content s

-- in how many arms, from the first, the content of the union is in force
abbrev pub named_arms : Option ℕ → List Arm → ℕ
named_arms None arms = 0
named_arms (Some x) arms = length arms

-- what clauses make of the results of a loop inside of theirs, without masks
pub data Folds : List Clause → List Ty → List ClauseForm → List Ty → Type 0 where
  no_clause : Folds [] [] [] []
  a_clause : (l : ℕ) {kind : ClauseKind} {a b : Ty} (e : Expr) (m : Option Mask) {cs : List Clause} {tys made : List Ty} {forms : List ClauseForm}
      → Makes kind a b → IsShallow b → Folds cs tys forms made
      → Folds (roll-Clause (record { line = l; kind = kind; value = e; mask = m }) ∷ cs) (a ∷ tys) (clause_form kind a None ∷ forms) (b ∷ made)

-- ---- rules

-- `denotes` says what a written type stands for
module _ (k : Known) (denotes : Written → Ty → Type 0) where
  mutual
    -- where these names are in force the expression has this typed tree, and values of these types
    pub data Types : Scope → Expr → TypedExpr → List Ty → Type 0 where
      constant : {s : Scope} {l : ℕ} {c : Constant} {ns : List ℕ} → Number k ns (constant_type c ∷ [])
          → Types s (at l (tree.Constant c)) (with l ns (typed.Constant c)) (constant_type c ∷ [])
      name : {s : Scope} {l x level : ℕ} {a : Ty} {ns : List ℕ} → newest x s.names ≡ Some (At level a) → Number k ns (a ∷ [])
          → Types s (at l (tree.Name x)) (with l ns (typed.Value level)) (a ∷ [])
      old : {s : Scope} {l x level : ℕ} {a : Ty} {ns : List ℕ} → newest x s.olds ≡ Some (At level a) → Number k ns (a ∷ [])
          → Types s (at l (tree.Old x)) (with l ns (typed.Value level)) (a ∷ [])
      group : {s : Scope} {l : ℕ} {e : Expr} {t : TypedExpr} {tys : List Ty} {ns : List ℕ} → Types s e t tys → Number k ns tys
          → Types s (at l (tree.Group e)) (with l ns (typed.Group (t ∷ []))) tys
      call : {s : Scope} {l x n : ℕ} {f : Signature} {es : List Expr} {ts : List TypedExpr} {ns : List ℕ}
          → IsFunction k x n f → AreTyped s es ts f.params → Number k ns f.results
          → Types s (at l (tree.Call x es)) (with l ns (typed.Call n ts)) f.results
      built_in : {s : Scope} {l x : ℕ} {a : Ty} {b : BuiltIn} {es : List Expr} {ts : List TypedExpr} {tys : List Ty} {ns : List ℕ}
          → IsBuiltIn k x b → AreTyped s es ts tys → Gives b tys a → IsShallow a → Number k ns (a ∷ [])
          → Types s (at l (tree.Call x es)) (with l ns (typed.Apply (built_in_operation b) ts)) (a ∷ [])
      convert : {s : Scope} {l : ℕ} {a : Ty} {c : Scalar} {e : Expr} {t : TypedExpr} {ns : List ℕ}
          → Types s e t (a ∷ []) → IsConverted c a → Number k ns (scalar_type c ∷ [])
          → Types s (at l (tree.Convert c e)) (with l ns (typed.Apply (convert_operation c) (t ∷ []))) (scalar_type c ∷ [])
      error_of : {s : Scope} {l : ℕ} {a : Ty} {w : Written} {ns : List ℕ} → denotes w a → Number k ns (a ∷ [])
          → Types s (at l (tree.ErrorOf w)) (with l ns (typed.Apply operation.Error [])) (a ∷ [])
      is_error : {s : Scope} {l : ℕ} {a : Ty} {e : Expr} {t : TypedExpr} {ns : List ℕ} → Types s e t (a ∷ []) → Number k ns (ty.Bool ∷ [])
          → Types s (at l (tree.IsError e)) (with l ns (typed.Apply (operation.Unary unary.IsError) (t ∷ []))) (ty.Bool ∷ [])
      is_tag : {s : Scope} {l x place : ℕ} {content : Ty} {ms : List Member} {e : Expr} {t : TypedExpr} {ns : List ℕ}
          → Types s e t (ty.Uni ms ∷ []) → Has k ms x place content → Number k ns (ty.Bool ∷ [])
          → Types s (at l (tree.IsTag x e)) (with l ns (typed.Apply (operation.IsTag place) (t ∷ []))) (ty.Bool ∷ [])
      prefix : {s : Scope} {l : ℕ} {o : PrefixOperator} {e : Expr} {t : TypedExpr} {ns : List ℕ}
          → Types s e t (prefix_type o ∷ []) → Number k ns (prefix_type o ∷ [])
          → Types s (at l (tree.Prefix o e)) (with l ns (typed.Apply (prefix_operation o) (t ∷ []))) (prefix_type o ∷ [])
      binary : {s : Scope} {l : ℕ} {a : Ty} {o : BinaryOperator} {e f : Expr} {t u : TypedExpr} {ns : List ℕ}
          → Types s e t (a ∷ []) → Types s f u (a ∷ []) → AreOperands o a → Number k ns (binary_type o a ∷ [])
          → Types s (at l (tree.Binary o e f)) (with l ns (typed.Apply (binary_operation o) (t ∷ u ∷ []))) (binary_type o a ∷ [])
      select : {s : Scope} {l : ℕ} {a : Ty} {e i : Expr} {t u : TypedExpr} {ns : List ℕ}
          → Types s e t (ty.Arr a ∷ []) → Types s i u (ty.Int ∷ []) → Number k ns (a ∷ [])
          → Types s (at l (tree.Select e i)) (with l ns (typed.Apply operation.Element (t ∷ u ∷ []))) (a ∷ [])
      update : {s : Scope} {l : ℕ} {a : Ty} {e i f : Expr} {t u v : TypedExpr} {ns : List ℕ}
          → Types s e t (ty.Arr a ∷ []) → Types s i u (ty.Int ∷ []) → Types s f v (a ∷ []) → Number k ns (ty.Arr a ∷ [])
          → Types s (at l (tree.Update e i f)) (with l ns (typed.Apply operation.Update (t ∷ u ∷ v ∷ []))) (ty.Arr a ∷ [])
      field : {s : Scope} {l x place : ℕ} {content : Ty} {ms : List Member} {e : Expr} {t : TypedExpr} {ns : List ℕ}
          → Types s e t (ty.Rec ms ∷ []) → Has k ms x place content → Number k ns (content ∷ [])
          → Types s (at l (tree.Field e x)) (with l ns (typed.Apply (operation.Field place) (t ∷ []))) (content ∷ [])
      replace : {s : Scope} {l : ℕ} {ms : List Member} {e : Expr} {t : TypedExpr} {vs : List FieldValue} {places : List ℕ} {us : List TypedExpr} {ns : List ℕ}
          → Types s e t (ty.Rec ms ∷ []) → Replaces s ms vs places us → AreDistinct (map (λ v. v.field.name) vs) → Number k ns (ty.Rec ms ∷ [])
          → Types s (at l (tree.Replace e vs)) (with l ns (typed.Apply (operation.Change places) (t ∷ us))) (ty.Rec ms ∷ [])
      -- an array of no elements has the type that is named
      empty_array : {s : Scope} {l x : ℕ} (a : Ty) {ns : List ℕ} → IsTypeNamed k x (ty.Arr a) → Number k ns (ty.Arr a ∷ [])
          → Types s (at l (tree.Array (Some x) None)) (with l ns (typed.Apply operation.EmptyArray [])) (ty.Arr a ∷ [])
      array : {s : Scope} {l : ℕ} {a : Ty} {tys : List Ty} {x : Option ℕ} {low : Expr} {t : TypedExpr} {es : List Expr} {ts : List TypedExpr} {ns : List ℕ}
          → Types s low t (ty.Int ∷ []) → AreTyped s es ts (a ∷ tys) → All (λ b. b ≡ a) tys
          → IsNamedType k x (ty.Arr a) → IsShallow (ty.Arr a) → Number k ns (ty.Arr a ∷ [])
          → Types s (at l (tree.Array x (Some (roll-Elements (record { lower = low; values = es })))))
          (with l ns (typed.Apply operation.Array (t ∷ ts))) (ty.Arr a ∷ [])
      empty_stream : {s : Scope} {l x : ℕ} (a : Ty) {ns : List ℕ} → IsTypeNamed k x (ty.Stream a) → Number k ns (ty.Stream a ∷ [])
          → Types s (at l (tree.Stream (Some x) [])) (with l ns (typed.Apply operation.Stream [])) (ty.Stream a ∷ [])
      stream : {s : Scope} {l : ℕ} {a : Ty} {tys : List Ty} {x : Option ℕ} {es : List Expr} {ts : List TypedExpr} {ns : List ℕ}
          → AreTyped s es ts (a ∷ tys) → All (λ b. b ≡ a) tys
          → IsNamedType k x (ty.Stream a) → IsShallow (ty.Stream a) → Number k ns (ty.Stream a ∷ [])
          → Types s (at l (tree.Stream x es)) (with l ns (typed.Apply operation.Stream ts)) (ty.Stream a ∷ [])
      -- a record has the fields as they are written
      a_record : {s : Scope} {l : ℕ} {x : Option ℕ} {ms : List Member} {vs : List FieldValue} {ts : List TypedExpr} {ns : List ℕ}
          → HasFields s vs ts ms → AreDistinct (map (λ v. v.field.name) vs)
          → IsNamedType k x (ty.Rec ms) → IsShallow (ty.Rec ms) → Number k ns (ty.Rec ms ∷ [])
          → Types s (at l (tree.Record x vs)) (with l ns (typed.Apply operation.Record ts)) (ty.Rec ms ∷ [])
      union : {s : Scope} {l x tag place : ℕ} {content : Ty} {ms : List Member} {e : Expr} {t : TypedExpr} {ns : List ℕ}
          → IsTypeNamed k x (ty.Uni ms) → Has k ms tag place content → Types s e t (content ∷ []) → Number k ns (ty.Uni ms ∷ [])
          → Types s (at l (tree.Union x tag e)) (with l ns (typed.Apply (operation.Union place) (t ∷ []))) (ty.Uni ms ∷ [])
      let_in : {s after : Scope} {l : ℕ} {ds : List Def} {us : List (List TypedExpr)} {made tys : List Ty} {es : List Expr} {ts : List TypedExpr} {ns : List ℕ}
          → Defines s ds us made after → AreDistinct (targets ds) → AreTyped after es ts tys → Number k ns tys
          → Types s (at l (tree.Let ds es)) (with l ns (typed.Let us ts)) tys
      if_else : {s : Scope} {l : ℕ} {c : Expr} {t : TypedExpr} {es fs : List Expr} {ts us : List TypedExpr} {tys : List Ty} {ns : List ℕ}
          → Types s c t (ty.Bool ∷ []) → AreTyped s es ts tys → AreTyped s fs us tys → Number k ns tys
          → Types s (at l (tree.If c es fs)) (with l ns (typed.If (t ∷ []) ts us)) tys
      tag_case : {s : Scope} {l : ℕ} {ms : List Member} {x : Option ℕ} {e : Expr} {t : TypedExpr}
          {arms : List Arm} {typed_arms last : List (List TypedExpr)} {tags : List (List ℕ)} {choices : List Choice} {ns : List ℕ} {tys : List Ty} {other : Option (List Expr)}
          → Types s e t (ty.Uni ms ∷ []) → AreArms s x ms tys arms typed_arms tags → AreDistinct (flat_map (λ names. names) tags)
          → AreAllNamed k tags ms other → IsOtherwise s tys other last → Chooses k tags ms choices → Number k ns tys
          → Types s (at l (tree.TagCase (roll-TagCase (record { name = x; subject = e; arms = arms; otherwise = other }))))
          (with l ns (typed.Case (record { named = named_arms x arms; choices = choices; others = length arms }) (t ∷ []) (typed_arms ++ last))) tys
      for_product : {s : Scope} {l : ℕ} {tys : List Ty} {gs : List (List Generator)} {ds : List Def} {cs : List Clause} {t : TypedExpr}
          → Crosses s l gs ds cs t tys → Types s (at l (tree.For (loop.Product gs ds cs))) t tys
      for_initial : {s started turned : Scope} {l : ℕ} {first later tys : List Ty} {ns : List ℕ} (is_first is_until : Bool) {test : Expr} {t : TypedExpr}
          {ds es : List Def} {us vs : List (List TypedExpr)} {cs : List Clause} {forms : List ClauseForm} {ts : List TypedExpr}
          → Defines s ds us first started → AreDistinct (targets ds) → Types started test t (ty.Bool ∷ [])
          → Defines (in_turn (loop_of s ds first) (targets es) started) es vs later turned → AreDistinct (targets es)
          → KeepTypes (loop_of s ds first) (targets es) later
          → AreClauses started cs forms ts tys → Number k ns tys
          → Types s (at l (tree.For (loop.Initial ds (roll-Turn (record { is_first = is_first; is_until = is_until; test = test; defs = es })) cs)))
          (with l ns (typed.Initial (record { is_first = is_first; is_until = is_until; renewed = renewals (loop_of s ds first) s.height (targets es); clauses = forms })
          us (t ∷ []) vs ts)) tys

    -- expressions in order, and the types of all their values
    pub data AreTyped : Scope → List Expr → List TypedExpr → List Ty → Type 0 where
      no_more : {s : Scope} → AreTyped s [] [] []
      more : {s : Scope} {e : Expr} {t : TypedExpr} {tys others : List Ty} {es : List Expr} {ts : List TypedExpr}
          → Types s e t tys → AreTyped s es ts others → AreTyped s (e ∷ es) (t ∷ ts) (tys ++ others)

    -- fields of a record that is changed, by their places
    pub data Replaces : Scope → List Member → List FieldValue → List ℕ → List TypedExpr → Type 0 where
      no_field : {s : Scope} {ms : List Member} → Replaces s ms [] [] []
      a_field : {s : Scope} {ms : List Member} {n : Named} {place : ℕ} {a : Ty} {e : Expr} {t : TypedExpr} {vs : List FieldValue} {places : List ℕ} {us : List TypedExpr}
          → Has k ms n.name place a → Types s e t (a ∷ []) → Replaces s ms vs places us
          → Replaces s ms (record { field = n; value = e } ∷ vs) (place ∷ places) (t ∷ us)

    -- the fields of a new record
    pub data HasFields : Scope → List FieldValue → List TypedExpr → List Member → Type 0 where
      no_member : {s : Scope} → HasFields s [] [] []
      a_member : {s : Scope} {n : Named} {spelling : List ℕ} {a : Ty} {e : Expr} {t : TypedExpr} {vs : List FieldValue} {ts : List TypedExpr} {ms : List Member}
          → IsSpelled k n.name spelling → Types s e t (a ∷ []) → HasFields s vs ts ms
          → HasFields s (record { field = n; value = e } ∷ vs) (t ∷ ts) ((spelling, a) ∷ ms)

    -- Definitions in order, each of which sees the earlier ones, with the types of all that is defined; the targets of one
    -- definition see none of each other.
    pub data Defines : Scope → List Def → List (List TypedExpr) → List Ty → Scope → Type 0 where
      no_def : {s : Scope} → Defines s [] [] [] s
      a_def : {s after : Scope} (xs : List Target) {es : List Expr} {ts : List TypedExpr} {tys others : List Ty} {ds : List Def} {us : List (List TypedExpr)}
          → AreTyped s es ts tys → AreTargets denotes xs tys → Defines (define_all (names_in xs) tys s) ds us others after
          → Defines s (roll-Def (record { targets = xs; values = es }) ∷ ds) (ts ∷ us) (tys ++ others) after

    -- A loop that begins on a line, over groups of generators, each of which sees the names of the groups before it: a group
    -- before others is a loop of its own, over the results of the loop behind it.
    pub data Crosses : Scope → ℕ → List (List Generator) → List Def → List Clause → TypedExpr → List Ty → Type 0 where
      one_group : {s inside : Scope} {l : ℕ} {names ns : List ℕ} {tys made results : List Ty} {g : List Generator} {sources : List Source} {bounds : List TypedExpr}
          {ds : List Def} {us : List (List TypedExpr)} {cs : List Clause} {forms : List ClauseForm} {ts : List TypedExpr}
          → Generates s g sources bounds names tys → AreDistinct names → Defines (define_all names tys s) ds us made inside → AreDistinct (targets ds)
          → AreClauses inside cs forms ts results → Number k ns results
          → Crosses s l (g ∷ []) ds cs (with l ns (typed.Product (record { sources = sources; clauses = forms }) bounds us ts)) results
      a_group : {s : Scope} {l : ℕ} {names ns : List ℕ} {tys inner results : List Ty} {g : List Generator} {gs : List (List Generator)} {sources : List Source} {bounds : List TypedExpr}
          {ds : List Def} {cs : List Clause} {forms : List ClauseForm} {t : TypedExpr}
          → Generates s g sources bounds names tys → AreDistinct names → Crosses (define_all names tys s) l gs ds cs t inner
          → Folds cs inner forms results → Number k ns results
          → Crosses s l (g ∷ gs) ds cs (with l ns (typed.Product (record { sources = sources; clauses = forms }) bounds [] (t ∷ []))) results

    -- Generators of one group, which see none of each other: what they go over, their bounds, and their names with the types
    -- of these.
    pub data Generates : Scope → List Generator → List Source → List TypedExpr → List ℕ → List Ty → Type 0 where
      no_generator : {s : Scope} → Generates s [] [] [] [] []
      range : {s : Scope} (n : Named) {e f : Expr} {t u : TypedExpr} {names : List ℕ} {tys : List Ty} {gs : List Generator} {sources : List Source} {bounds : List TypedExpr}
          → Types s e t (ty.Int ∷ []) → Types s f u (ty.Int ∷ []) → Generates s gs sources bounds names tys
          → Generates s (roll-Generator (record { name = n; from = e; to = Some f; at = None }) ∷ gs)
          (source.Range ∷ sources) (t ∷ u ∷ bounds) (n.name ∷ names) (ty.Int ∷ tys)
      elements : {s : Scope} (n : Named) {a b : Ty} {e : Expr} {t : TypedExpr} {names : List ℕ} {tys : List Ty} {gs : List Generator} {sources : List Source} {bounds : List TypedExpr}
          → Types s e t (a ∷ []) → IsSequence a b → Generates s gs sources bounds names tys
          → Generates s (roll-Generator (record { name = n; from = e; to = None; at = None }) ∷ gs)
          (source.Elements ∷ sources) (t ∷ bounds) (n.name ∷ names) (b ∷ tys)
      indexed : {s : Scope} (n : Named) {i : ℕ} {a b : Ty} {e : Expr} {t : TypedExpr} {names : List ℕ} {tys : List Ty} {gs : List Generator} {sources : List Source} {bounds : List TypedExpr}
          → Types s e t (a ∷ []) → IsSequence a b → Generates s gs sources bounds names tys
          → Generates s (roll-Generator (record { name = n; from = e; to = None; at = Some i }) ∷ gs)
          (source.Indexed ∷ sources) (t ∷ bounds) (n.name ∷ i ∷ names) (b ∷ ty.Int ∷ tys)

    -- The clauses of a loop: their forms, their values, each with its mask behind it, and the types that they make.
    pub data AreClauses : Scope → List Clause → List ClauseForm → List TypedExpr → List Ty → Type 0 where
      no_clause : {s : Scope} → AreClauses s [] [] [] []
      a_clause : {s : Scope} (l : ℕ) {kind : ClauseKind} {a b : Ty} {e : Expr} {t : TypedExpr} {m : Option Mask} {masks : List TypedExpr}
          {cs : List Clause} {forms : List ClauseForm} {ts : List TypedExpr} {tys : List Ty}
          → Types s e t (a ∷ []) → Makes kind a b → IsShallow b → IsMask s m masks → AreClauses s cs forms ts tys
          → AreClauses s (roll-Clause (record { line = l; kind = kind; value = e; mask = m }) ∷ cs)
          (clause_form kind a m ∷ forms) (t ∷ (masks ++ ts)) (b ∷ tys)

    pub data IsMask : Scope → Option Mask → List TypedExpr → Type 0 where
      no_mask : {s : Scope} → IsMask s None []
      a_mask : {s : Scope} {is_unless : Bool} {e : Expr} {t : TypedExpr} → Types s e t (ty.Bool ∷ [])
          → IsMask s (Some (record { is_unless = is_unless; test = e })) (t ∷ [])

    -- the arms of a `tagcase`, each with its tags, one at least, whose contents are of one type; the content is in force where
    -- it has a name
    pub data AreArms : Scope → Option ℕ → List Member → List Ty → List Arm → List (List TypedExpr) → List (List ℕ) → Type 0 where
      no_arm : {s : Scope} {x : Option ℕ} {ms : List Member} {tys : List Ty} → AreArms s x ms tys [] [] []
      an_arm : {s : Scope} {x : Option ℕ} {ms : List Member} {tys : List Ty} (l : ℕ) (content : Ty) (names : List Named) {es : List Expr} {ts : List TypedExpr}
          {arms : List Arm} {typed_arms : List (List TypedExpr)} {tags : List (List ℕ)}
          → (names ≡ [] → ⊥) → All (λ tag. IsTag k ms tag content) (names_of names) → AreTyped (with_content x content s) es ts tys
          → AreArms s x ms tys arms typed_arms tags
          → AreArms s x ms tys (roll-Arm (record { line = l; tags = names; results = es }) ∷ arms) (ts ∷ typed_arms) (names_of names ∷ tags)

    -- the name of the content is not in force in `otherwise`
    pub data IsOtherwise : Scope → List Ty → Option (List Expr) → List (List TypedExpr) → Type 0 where
      no_otherwise : {s : Scope} {tys : List Ty} → IsOtherwise s tys None []
      otherwise : {s : Scope} {tys : List Ty} {es : List Expr} {ts : List TypedExpr}
          → AreTyped s es ts tys → IsOtherwise s tys (Some es) (ts ∷ [])
