-- Which forms over operands of some types are typed: the rules of the SISAL Language Reference Manual 1.2 for one form, by the types
-- of its operands. Names are numbers of the text's names.
use Rattle.std.specs.Prelude.{◌≡◌, ℕ, ◌<◌, List, [], ◌∷◌, map, length, true, Option, Some, None, slice_get, All}
use Rattle.flow_value.specs.declared.ty.Ty.{Ty}
use Rattle.flow_value.specs.declared.ty.Ty.TheVariants as ty
use Rattle.flow_value.specs.declared.operation.Scalar1.TheVariants as unary
use Rattle.sisal_tree.specs.declared.expr.Scalar.{Scalar}
use Rattle.sisal_tree.specs.declared.expr.PrefixOperator.{PrefixOperator}
use Rattle.sisal_tree.specs.declared.expr.BinaryOperator.{BinaryOperator}
use Rattle.sisal_tree.specs.declared.expr.ClauseKind.{ClauseKind}
use Rattle.value_ops.specs.declared.operation.Operation.{Operation}
use Rattle.value_ops.specs.declared.operation.Operation.TheVariants as operation
use Rattle.type_table.specs.declared.form.Form.{Form}
use Rattle.type_table.specs.declared.form.Form.TheVariants as form
use Rattle.type_table.specs.declared.form.Member.{Member as NumberedMember}
use Rattle.type_table.specs.Forms.{form_depth}
use Rattle.type_table.specs.Tables.{depths, IsOver, IsTable}
use Rattle.typed_tree.specs.declared.built_in.BuiltIn.{BuiltIn}
use Rattle.typed_tree.specs.Scopes.{AreDistinct}
use Rattle.typed_tree.specs.Types.{Member, IsMember, IsNumber, AreNumbers, scalar_type, IsConverted, prefix_type, AreOperands, binary_type, Gives, Makes, depth_of, IsShallow}
use Rattle.typed_tree.specs.Operations.{prefix_operation, binary_operation, convert_operation, built_in_operation, folding_of}
use Rattle.type_rules.specs.declared.head.Head.{Head}
use Rattle.type_rules.specs.declared.head.Head.TheVariants as head
use Rattle.type_rules.specs.declared.head.Sort.{Sort}
use Rattle.type_rules.specs.declared.head.Sort.TheVariants as sort
use Rattle.type_rules.specs.declared.head.Outcome.{Outcome}
use Rattle.type_rules.specs.declared.folds.Folded.{Folded}
use Rattle.type_rules.specs.Folds.{makes_of}
use Rattle.type_rules.specs.Records.{are_distinct}
use Rattle.type_rules.specs.Applies.{applies, Grows, IsSorted}

-- each name is spelled in its own way
abbrev pub AreSpelledOnce : List (List ℕ) → Type 0
AreSpelledOnce names = (i j : ℕ) (s : List ℕ) → slice_get names i ≡ Some s → slice_get names j ≡ Some s → i ≡ j

-- the field or tag of a name, by its place
pub record Has (names : List (List ℕ)) (ms : List Member) (x place : ℕ) (content : Ty) : Type 0 where
  pub spelling : List ℕ
  pub spelled : slice_get names x ≡ Some spelling
  pub member : IsMember ms spelling place content

-- fields of these names and types, by their places
pub data AreChanged (names : List (List ℕ)) (ms : List Member) : List ℕ → List Ty → List ℕ → Type 0 where
  no_change : AreChanged names ms [] [] []
  a_change : {x place : ℕ} {a : Ty} {xs places : List ℕ} {tys : List Ty}
      → Has names ms x place a → AreChanged names ms xs tys places → AreChanged names ms (x ∷ xs) (a ∷ tys) (place ∷ places)

-- the fields of these names and types
pub data AreFields (names : List (List ℕ)) : List ℕ → List Ty → List Member → Type 0 where
  no_field : AreFields names [] [] []
  a_field : {x : ℕ} {spelling : List ℕ} {a : Ty} {xs : List ℕ} {tys : List Ty} {ms : List Member}
      → slice_get names x ≡ Some spelling → AreFields names xs tys ms → AreFields names (x ∷ xs) (a ∷ tys) ((spelling, a) ∷ ms)

-- a form over types of the table is as deep as a type
pub record IsOfDepth (forms : List Form) (f : Form) (t : Ty) : Type 0 where
  pub over : IsOver (length forms) f
  pub deep : form_depth (depths forms) f ≡ depth_of t

-- a type is as deep as what is made
abbrev pub IsAsDeep : List Form → Sort → Ty → Type 0
IsAsDeep forms (sort.There n) t = IsShallow t
IsAsDeep forms (sort.Made f) t = IsOfDepth forms f t

module _ (forms : List Form) (names : List (List ℕ)) where
  -- with or without the name of a type
  abbrev pub IsNamedBy : Option ℕ → Ty → Type 0
  IsNamedBy None t = Unit {0}
  IsNamedBy (Some n) t = IsNumber forms names n t

  -- a form over operands of these types has this operation and this type
  pub data IsForm : Head → List Ty → Operation → Ty → Type 0 where
    error_of : {n : ℕ} {a : Ty} → IsNumber forms names n a → IsForm (head.ErrorOf n) [] operation.Error a
    convert : {c : Scalar} {a : Ty} → IsConverted c a → IsForm (head.Convert c) (a ∷ []) (convert_operation c) (scalar_type c)
    is_error : {a : Ty} → IsForm head.IsError (a ∷ []) (operation.Unary unary.IsError) ty.Bool
    is_tag : {x place : ℕ} {content : Ty} {ms : List Member} → Has names ms x place content → IsForm (head.IsTag x) (ty.Uni ms ∷ []) (operation.IsTag place) ty.Bool
    prefix : {o : PrefixOperator} → IsForm (head.Prefix o) (prefix_type o ∷ []) (prefix_operation o) (prefix_type o)
    binary : {o : BinaryOperator} {a : Ty} → AreOperands o a → IsForm (head.Binary o) (a ∷ a ∷ []) (binary_operation o) (binary_type o a)
    select : (a : Ty) → IsForm head.Select (ty.Arr a ∷ ty.Int ∷ []) operation.Element a
    update : (a : Ty) → IsForm head.Update (ty.Arr a ∷ ty.Int ∷ a ∷ []) operation.Update (ty.Arr a)
    field : {x place : ℕ} {content : Ty} {ms : List Member} → Has names ms x place content → IsForm (head.Field x) (ty.Rec ms ∷ []) (operation.Field place) content
    replace : {ms : List Member} {xs places : List ℕ} {tys : List Ty} → AreChanged names ms xs tys places → AreDistinct xs
        → IsForm (head.Replace xs) (ty.Rec ms ∷ tys) (operation.Change places) (ty.Rec ms)
    empty_array : {n : ℕ} (a : Ty) → IsNumber forms names n (ty.Arr a) → IsForm (head.EmptyArray (Some n)) [] operation.EmptyArray (ty.Arr a)
    array : {named : Option ℕ} {a : Ty} {tys : List Ty} → All (λ b. b ≡ a) tys → IsNamedBy named (ty.Arr a)
        → IsForm (head.Array named) (ty.Int ∷ a ∷ tys) operation.Array (ty.Arr a)
    empty_stream : {n : ℕ} (a : Ty) → IsNumber forms names n (ty.Stream a) → IsForm (head.Stream (Some n)) [] operation.Stream (ty.Stream a)
    stream : {named : Option ℕ} {a : Ty} {tys : List Ty} → All (λ b. b ≡ a) tys → IsNamedBy named (ty.Stream a)
        → IsForm (head.Stream named) (a ∷ tys) operation.Stream (ty.Stream a)
    a_record : {named : Option ℕ} {xs : List ℕ} {tys : List Ty} {ms : List Member} → AreFields names xs tys ms → AreDistinct xs → IsNamedBy named (ty.Rec ms)
        → IsForm (head.Record named xs) tys operation.Record (ty.Rec ms)
    union : {n x place : ℕ} {content : Ty} {ms : List Member} → IsNumber forms names n (ty.Uni ms) → Has names ms x place content
        → IsForm (head.Union n x) (content ∷ []) (operation.Union place) (ty.Uni ms)
    built_in : {b : BuiltIn} {tys : List Ty} {a : Ty} → Gives b tys a → IsForm (head.BuiltIn b) tys (built_in_operation b) a

  -- a table of types in which no field or tag stands twice; each name is spelled in its own way
  pub record IsKnown : Type 0 where
    pub table : IsTable forms
    pub spelled : AreSpelledOnce names
    pub stands : (n : ℕ) (f : Form) → slice_get forms n ≡ Some f → (t : Ty) × IsNumber forms names n t
    pub fields : (n : ℕ) (ms : List NumberedMember) → slice_get forms n ≡ Some (form.Record ms) → are_distinct (map (λ m. m.name) ms) ≡ true
    pub tags : (n : ℕ) (ms : List NumberedMember) → slice_get forms n ≡ Some (form.Union ms) → are_distinct (map (λ m. m.name) ms) ≡ true

  -- the form's own types are in the table, and its names are spelled
  abbrev pub IsKnownHead : Head → Type 0
  IsKnownHead (head.ErrorOf n) = n < length forms
  IsKnownHead (head.Record named xs) = All (λ x. x < length names) xs
  IsKnownHead _ = Unit {0}

  -- where a table with more types has the number of what is made, it stands for this type
  abbrev pub IsSortOf : Sort → Ty → Type 0
  IsSortOf s t = (after : List Form) (n : ℕ) → Grows forms after → IsSorted after s n → IsNumber after names n t

  -- what a form makes by number it makes by type, and where it makes nothing it is not typed
  abbrev pub FitsTypes : Head → List Ty → Option Outcome → Type 0
  FitsTypes h ts None = (o : Operation) (t : Ty) → IsForm h ts o t → ⊥
  FitsTypes h ts (Some o) = (t : Ty) × IsForm h ts o.operation t × IsSortOf o.sort t × IsAsDeep forms o.sort t

-- the numbers of types give what the typing rules say
abbrev pub FormsByType : Type 0
FormsByType = (forms : List Form) (names : List (List ℕ)) → IsKnown forms names → (h : Head) → IsKnownHead forms names h
    → (ns : List ℕ) (ts : List Ty) → AreNumbers forms names ns ts → FitsTypes forms names h ts (applies forms h ns)

-- what a clause makes by number it makes by type, and where it makes nothing it is not typed
abbrev pub FitsClause : List Form → List (List ℕ) → ClauseKind → Ty → Option Folded → Type 0
FitsClause forms names kind t None = (made : Ty) → Makes kind t made → ⊥
FitsClause forms names kind t (Some f) = (made : Ty) × Makes kind t made × (f.folding ≡ folding_of kind t) × IsSortOf forms names f.sort made × IsAsDeep forms f.sort made

abbrev pub ClausesByType : Type 0
ClausesByType = (forms : List Form) (names : List (List ℕ)) → IsTable forms → (kind : ClauseKind) (n : ℕ) (t : Ty) → IsNumber forms names n t
    → FitsClause forms names kind t (makes_of forms kind n)
