-- The arms of a `tagcase`.
use Rattle.std.specs.Prelude.{◌≡◌, ℕ, List, [], ◌∷◌, ◌++◌, map, flat_map, length, true, Option, Some, None, Ok}
use Rattle.flow_value.specs.declared.ty.Ty.{Ty}
use Rattle.flow_value.specs.declared.ty.Ty.TheVariants as ty
use Rattle.type_table.specs.declared.form.Form.{Form}
use Rattle.type_table.specs.declared.form.Member.{Member as NumberedMember}
use Rattle.sisal_tree.specs.declared.expr.Arm.{Arm, out-Arm}
use Rattle.sisal_tree.specs.declared.expr.Expr.{Expr}
use Rattle.sisal_tree.specs.declared.unit.Named.{Named}
use Rattle.typed_tree.specs.declared.expr.TypedExpr.{TypedExpr}
use Rattle.typed_tree.specs.declared.expr.TypedKind.TheVariants as typed
use Rattle.type_table.specs.Forms.{first_member}
use Rattle.typed_tree.specs.Scopes as tree
use Rattle.typed_tree.specs.Scopes.{AreDistinct}
use Rattle.typed_tree.specs.Types.{Member, IsNumber}
use Rattle.typed_tree.specs.Typing.{Known, Number, AreArms, names_of, tags_from, with}
use Rattle.type_rules.specs.Arms.{are_all_named, gives_arm, choices_of}
use Rattle.type_rules.specs.Parts.{tags_at}
use Rattle.value_names.specs.Names.{Names}
use Rattle.value_names.specs.Scopes.{define}
use Rattle.typing_laws.specs.Given.{Given}
use Rattle.typing_laws.specs.Given.{Parts}
use Rattle.typing_laws.specs.Given.{Arms}
use Rattle.typing_laws.specs.Judged.{Agrees, Stands, denotes_in, AllTyped}

-- the tags of arms
abbrev pub tags_in : List Arm → List (List ℕ)
tags_in arms = map (λ a. names_of (out-Arm a).tags) arms

-- no arm yet, of the union that is the subject
pub record Begins (forms : List Form) (x : Option ℕ) (subject : Parts) (done : Arms) : Type 0 where
  pub union : ℕ
  pub members : List NumberedMember
  pub is_subject : subject.types ≡ union ∷ []
  pub is_union : tags_at forms union ≡ Some members
  pub name : done.name ≡ x
  pub chosen_union : done.union ≡ union
  pub chosen_arms : done.chosen ≡ []
  pub results : done.results ≡ []
  pub types : done.types ≡ None
  pub even : done.is_even ≡ true

-- tags with the places of their arms, each by its place in the union
abbrev pub IsFound : List NumberedMember → ℕ × ℕ → ℕ × ℕ → Type 0
IsFound ms x c = ((content : ℕ) × (first_member x.0 0 ms ≡ Some (c.0, content))) × (c.1 ≡ x.1)

abbrev pub AreFound : List NumberedMember → List (ℕ × ℕ) → List (ℕ × ℕ) → Type 0
AreFound ms [] [] = Unit {0}
AreFound ms (x ∷ xs) (c ∷ cs) = IsFound ms x c × AreFound ms xs cs
AreFound ms _ _ = ⊥

-- Which arm each tag of a union has, where the arms so far have these tags.
pub record IsChosen (ms : List NumberedMember) (chosen : List (ℕ × ℕ)) (tags : List (List ℕ)) : Type 0 where
  pub each : AreFound ms (tags_from 0 tags) chosen
  pub distinct : AreDistinct (flat_map (λ names. names) tags)

-- the types of results, where there are any
abbrev pub AreResults : Known → Option (List ℕ) → List Ty → Type 0
AreResults k None tys = Unit {0}
AreResults k (Some ns) tys = Number k ns tys

-- the arms so far, of a union of these tags
pub record ArmsTypedAs (k : Known) (g : Given) (s : tree.Scope) (ms : List Member) (arms : List Arm) (done : Arms) : Type 0 where
  pub number : (ns : List ℕ) → done.types ≡ Some ns → (tys : List Ty) × Number k ns tys
  pub typed : (tys : List Ty) → AreResults k done.types tys → AreArms k (denotes_in g k) s done.name ms tys arms done.results (tags_in arms)

pub record ArmsTyped (g : Given) (forms : List Form) (names : Names) (union : ℕ) (arms : List Arm) (done : Arms) : Type 0 where
  pub members : List NumberedMember
  pub is_union : tags_at forms union ≡ Some members
  pub chosen_union : done.union ≡ union
  pub chosen : IsChosen members done.chosen (tags_in arms)
  pub count : length done.results ≡ length arms
  pub holds : done.is_even ≡ true → (k : Known) (s : tree.Scope) (ms : List Member) → Agrees g forms k → Stands k names s
      → IsNumber k.forms k.spellings union (ty.Uni ms) → ArmsTypedAs k g s ms arms done

-- arms were added to those before
pub record AddsArms (g : Given) (before after : List Form) (names : Names) (arms : List Arm) (old new : Arms) : Type 0 where
  pub name : new.name ≡ old.name
  pub holds : (union : ℕ) (others : List Arm) → ArmsTyped g before names union others old → ArmsTyped g after names union (others ++ arms) new

-- ---- results

abbrev pub first_types : Option (List ℕ) → List ℕ → Option (List ℕ)
first_types None ns = Some ns
first_types (Some first) ns = Some first

abbrev pub AreSame : Option (List ℕ) → List ℕ → Type 0
AreSame None ns = Unit {0}
AreSame (Some first) ns = first ≡ ns

abbrev pub named_content : Option ℕ → ℕ → Names → Names
named_content None content names = names
named_content (Some x) content names = define x content names

-- the tags of an arm were given it, and their content came into force where it has a name
pub record EntersArm (forms : List Form) (line : ℕ) (tags : List Named) (old new : Arms) (before after : Names) : Type 0 where
  pub content : ℕ
  pub chosen : gives_arm forms old.union (length old.results) line None old.chosen tags ≡ Ok (Some content, new.chosen)
  pub union : new.union ≡ old.union
  pub name : new.name ≡ old.name
  pub results : new.results ≡ old.results
  pub types : new.types ≡ old.types
  pub even : new.is_even ≡ old.is_even
  pub names : after ≡ named_content old.name content before

-- the types of an arm were looked at
pub record Suits (ns : List ℕ) (old new : Arms) : Type 0 where
  pub name : new.name ≡ old.name
  pub union : new.union ≡ old.union
  pub chosen : new.chosen ≡ old.chosen
  pub results : new.results ≡ old.results
  pub types : new.types ≡ first_types old.types ns
  pub even : new.is_even ≡ true → (old.is_even ≡ true) × AreSame old.types ns

-- results of these types were added
pub record Keeps (ts : List TypedExpr) (ns : List ℕ) (old new : Arms) : Type 0 where
  pub name : new.name ≡ old.name
  pub union : new.union ≡ old.union
  pub chosen : new.chosen ≡ old.chosen
  pub results : new.results ≡ old.results ++ (ts ∷ [])
  pub types : new.types ≡ first_types old.types ns
  pub even : new.is_even ≡ true → (old.is_even ≡ true) × AreSame old.types ns

-- the results of `otherwise` were added
pub record AddsLast (g : Given) (forms : List Form) (names : Names) (es : List Expr) (old new : Arms) : Type 0 where
  pub exprs : List TypedExpr
  pub types : List ℕ
  pub typed : AllTyped g forms names es exprs types
  pub keeps : Keeps exprs types old new

-- ---- the whole

abbrev pub named_by : Option ℕ → ℕ → ℕ
named_by None count = 0
named_by (Some x) count = count

pub record IsCase (line count : ℕ) (subject : Parts) (done : Arms) (t : TypedExpr) : Type 0 where
  pub types : List ℕ
  pub even : done.is_even ≡ true
  pub is_types : done.types ≡ Some types
  pub is : t ≡ with line types (typed.Case (record { named = named_by done.name count; choices = choices_of done.chosen; others = count }) subject.exprs done.results)

-- how a `tagcase` ends: with `otherwise`, or with all tags named
abbrev pub Ends : Given → List Form → Names → Option (List Expr) → Arms → Arms → Type 0
Ends g f names None done final = (are_all_named f done.union done.chosen ≡ true) × (final ≡ done)
Ends g f names (Some es) done final = AddsLast g f names es done final
