-- A form that is refused by number makes nothing by type, or a type that is too deep.
use Rattle.std.proofs.Common.{◌≡◌, inl, inr, ℕ, Bool, true, false, nat_eq, List, [], ◌∷◌, length, Option, Some, None, refl, subst, arith}
use Rattle.std.specs.Option.{is_some, option_map}
use Rattle.std.specs.Prelude.{if◌then◌else◌}
use Rattle.flow_value.specs.declared.ty.Ty.{Ty}
use Rattle.value_ops.specs.declared.operation.Operation.{Operation}
use Rattle.value_ops.specs.declared.operation.Operation.TheVariants as operation
use Rattle.type_table.specs.declared.form.Form.{Form}
use Rattle.sisal_tree.specs.declared.expr.BinaryOperator.{BinaryOperator}
use Rattle.sisal_tree.specs.declared.expr.PrefixOperator.{PrefixOperator}
use Rattle.sisal_tree.specs.declared.expr.Scalar.{Scalar}
use Rattle.typed_tree.specs.Types.{AreNumbers, IsShallow}
use Rattle.typed_tree.specs.Operations.{convert_operation, prefix_operation, binary_operation}
use Rattle.type_rules.specs.declared.fault.Refused.TheVariants as refused
use Rattle.type_rules.specs.declared.head.Head.{Head}
use Rattle.type_rules.specs.declared.head.Head.TheVariants as head
use Rattle.type_rules.specs.declared.head.Outcome.{Outcome}
use Rattle.type_rules.specs.declared.head.Sort.{Sort}
use Rattle.type_rules.specs.declared.head.Sort.TheVariants as sort
use Rattle.type_rules.specs.declared.head.Container.TheVariants as container
use Rattle.type_rules.specs.Parts.{array_at, field_at, tag_at, is_record_at, is_part, element_in, there, outcome_of, sort_if}
use Rattle.type_rules.specs.Scalars.{error_of, errs, is_converted, converts, scalar_number, prefix_number, prefixed, are_operands, binary_number, combines}
use Rattle.type_rules.specs.Sequences.{selects, updates, empties}
use Rattle.type_rules.specs.Records.{are_distinct, field_outcome, fields, union_outcome, unites, test_outcome, tests, all_places, change_outcome, replaces}
use Rattle.type_rules.specs.Applies.{applies, rule_of, IsTooDeep, IsRefused}
use Rattle.type_rules.specs.Typed.{IsForm, IsKnown, IsKnownHead, FitsTypes, IsAsDeep}
use Rattle.type_rules.proofs.Forming.{forms_by_type}

-- the forms that may make a new type
abbrev pub MakesType : Head → Type 0
MakesType (head.Array x) = Unit {0}
MakesType (head.Stream x) = Unit {0}
MakesType (head.Record x xs) = Unit {0}
MakesType (head.BuiltIn b) = Unit {0}
MakesType _ = ⊥

-- a form over operands of these types is refused by this rule
pub data IsVerdict (forms : List Form) (names : List (List ℕ)) (h : Head) (ts : List Ty) (rule : ℕ) : Type 0 where
  none : rule ≡ rule_of h → ((o : Operation) (t : Ty) → IsForm forms names h ts o t → ⊥) → IsVerdict forms names h ts rule
  deep : rule ≡ 4 → MakesType h → (o : Operation) (t : Ty) → IsForm forms names h ts o t → (IsShallow t → ⊥) → IsVerdict forms names h ts rule

-- ---- forms that give a type that is there

abbrev IsThere : Option Outcome → Type 0
IsThere None = Unit {0}
IsThere (Some o) = (n : ℕ) × (o.sort ≡ sort.There n)

if_there : (b : Bool) (p q : Option Outcome) → IsThere p → IsThere q → IsThere (if b then p else q)
if_there true p q x y = x
if_there false p q x y = y

-- where a test is passed a type that is there, else none
when_there : (b : Bool) (o : Operation) (n : ℕ) → IsThere (if b then Some (there o n) else None)
when_there true o n = (n, refl)
when_there false o n = tt

map_there : (o : Operation) (p : Option ℕ) → IsThere (option_map (there o) p)
map_there o None = tt
map_there o (Some n) = (n, refl)

sort_there : (o : Operation) (b : Bool) (n : ℕ) → IsThere (outcome_of o (sort_if b n))
sort_there o true n = (n, refl)
sort_there o false n = tt

module _ (forms : List Form) where
  error_there : (n : ℕ) (ns : List ℕ) → IsThere (error_of n ns)
  error_there n [] = (n, refl)
  error_there n (m ∷ ns) = tt

  convert_there : (c : Scalar) (ns : List ℕ) → IsThere (converts c ns)
  convert_there c [] = tt
  convert_there c (n ∷ []) = when_there (is_converted c n) (convert_operation c) (scalar_number c)
  convert_there c (n ∷ m ∷ ns) = tt

  errs_there : (ns : List ℕ) → IsThere (errs ns)
  errs_there [] = tt
  errs_there (n ∷ []) = (0, refl)
  errs_there (n ∷ m ∷ ns) = tt

  test_there : (o : Option (ℕ × ℕ)) → IsThere (test_outcome o)
  test_there None = tt
  test_there (Some m) = (0, refl)

  tests_there : (x : ℕ) (ns : List ℕ) → IsThere (tests forms x ns)
  tests_there x [] = tt
  tests_there x (n ∷ []) = test_there (tag_at forms n x)
  tests_there x (n ∷ m ∷ ns) = tt

  prefix_there : (o : PrefixOperator) (ns : List ℕ) → IsThere (prefixed o ns)
  prefix_there o [] = tt
  prefix_there o (n ∷ []) = when_there (nat_eq n (prefix_number o)) (prefix_operation o) (prefix_number o)
  prefix_there o (n ∷ m ∷ ns) = tt

  binary_there : (o : BinaryOperator) (ns : List ℕ) → IsThere (combines forms o ns)
  binary_there o [] = tt
  binary_there o (n ∷ []) = tt
  binary_there o (n ∷ m ∷ []) = if_there (nat_eq n m) _ None (when_there (are_operands forms o n) (binary_operation o) (binary_number o n)) tt
  binary_there o (n ∷ m ∷ j ∷ ns) = tt

  select_there : (ns : List ℕ) → IsThere (selects forms ns)
  select_there [] = tt
  select_there (n ∷ []) = tt
  select_there (n ∷ m ∷ []) = if_there (nat_eq m 2) _ None (map_there operation.Element (array_at forms n)) tt
  select_there (n ∷ m ∷ j ∷ ns) = tt

  update_there : (ns : List ℕ) → IsThere (updates forms ns)
  update_there [] = tt
  update_there (n ∷ []) = tt
  update_there (n ∷ m ∷ []) = tt
  update_there (n ∷ m ∷ j ∷ []) = if_there (nat_eq m 2) _ None (when_there (is_part (array_at forms n) j) operation.Update n) tt
  update_there (n ∷ m ∷ j ∷ i ∷ ns) = tt

  field_there : (o : Option (ℕ × ℕ)) → IsThere (field_outcome o)
  field_there None = tt
  field_there (Some m) = (m.1, refl)

  fields_there : (x : ℕ) (ns : List ℕ) → IsThere (fields forms x ns)
  fields_there x [] = tt
  fields_there x (n ∷ []) = field_there (field_at forms n x)
  fields_there x (n ∷ m ∷ ns) = tt

  change_there : (n : ℕ) (o : Option (List ℕ)) → IsThere (change_outcome n o)
  change_there n None = tt
  change_there n (Some ps) = (n, refl)

  replace_there : (xs ns : List ℕ) → IsThere (replaces forms xs ns)
  replace_there xs [] = tt
  replace_there xs (n ∷ ns) =
      if_there (nat_eq (length xs) (length ns)) _ None
      (if_there (is_record_at forms n) _ None (if_there (are_distinct xs) _ None (change_there n (all_places forms n xs ns)) tt) tt) tt

  empty_there : (x : Option ℕ) (ns : List ℕ) → IsThere (empties forms x ns)
  empty_there None [] = tt
  empty_there (Some n) [] = sort_there operation.EmptyArray (is_some (element_in forms container.Array n)) n
  empty_there x (m ∷ ns) = tt

  unite_there : (n v : ℕ) (o : Option (ℕ × ℕ)) → IsThere (union_outcome n v o)
  unite_there n v None = tt
  unite_there n v (Some m) = when_there (nat_eq m.1 v) (operation.Union m.0) n

  unites_there : (n x : ℕ) (ns : List ℕ) → IsThere (unites forms n x ns)
  unites_there n x [] = tt
  unites_there n x (v ∷ []) = unite_there n v (tag_at forms n x)
  unites_there n x (v ∷ m ∷ ns) = tt

  -- ---- verdicts

  not_deep : (rule : ℕ) (p : Option Outcome) → IsThere p → (o : Outcome) → p ≡ Some o → IsTooDeep forms o.sort (refused.Rule rule) → ⊥
  not_deep rule p is o e d =
      let n = subst IsThere e is in subst (λ s. IsTooDeep forms s (refused.Rule rule)) n.1 d

  makes_type : (h : Head) (ns : List ℕ) (o : Outcome) (rule : ℕ) → applies forms h ns ≡ Some o → IsTooDeep forms o.sort (refused.Rule rule) → MakesType h
  makes_type (head.ErrorOf n) ns o rule e d = not_deep rule (error_of n ns) (error_there n ns) o e d
  makes_type (head.Convert c) ns o rule e d = not_deep rule (converts c ns) (convert_there c ns) o e d
  makes_type head.IsError ns o rule e d = not_deep rule (errs ns) (errs_there ns) o e d
  makes_type (head.IsTag x) ns o rule e d = not_deep rule (tests forms x ns) (tests_there x ns) o e d
  makes_type (head.Prefix c) ns o rule e d = not_deep rule (prefixed c ns) (prefix_there c ns) o e d
  makes_type (head.Binary c) ns o rule e d = not_deep rule (combines forms c ns) (binary_there c ns) o e d
  makes_type head.Select ns o rule e d = not_deep rule (selects forms ns) (select_there ns) o e d
  makes_type head.Update ns o rule e d = not_deep rule (updates forms ns) (update_there ns) o e d
  makes_type (head.Field x) ns o rule e d = not_deep rule (fields forms x ns) (fields_there x ns) o e d
  makes_type (head.Replace xs) ns o rule e d = not_deep rule (replaces forms xs ns) (replace_there xs ns) o e d
  makes_type (head.Array x) ns o rule e d = tt
  makes_type (head.EmptyArray x) ns o rule e d = not_deep rule (empties forms x ns) (empty_there x ns) o e d
  makes_type (head.Stream x) ns o rule e d = tt
  makes_type (head.Record x xs) ns o rule e d = tt
  makes_type (head.Union n x) ns o rule e d = not_deep rule (unites forms n x ns) (unites_there n x ns) o e d
  makes_type (head.BuiltIn b) ns o rule e d = tt

  too_deep : (s : Sort) (rule : ℕ) (t : Ty) → IsTooDeep forms s (refused.Rule rule) → IsAsDeep forms s t → (rule ≡ 4) × (IsShallow t → ⊥)
  too_deep (sort.There n) rule t d same = absurd d
  too_deep (sort.Made f) rule t d same = (d.0, λ shallow. let more = d.1 same.over in let as_deep = same.deep in omega (arith, more, as_deep, shallow))

pub verdict : (forms : List Form) (names : List (List ℕ)) → IsKnown forms names → (h : Head) → IsKnownHead forms names h → (ns : List ℕ) (ts : List Ty) → AreNumbers forms names ns ts
    → (rule : ℕ) → IsRefused forms h ns (refused.Rule rule) → IsVerdict forms names h ts rule
verdict forms names known h said ns ts number rule (inl p) = none p.1 (subst (FitsTypes forms names h ts) p.0 (forms_by_type forms names known h said ns ts number))
verdict forms names known h said ns ts number rule (inr p) =
    let v = subst (FitsTypes forms names h ts) p.1 (forms_by_type forms names known h said ns ts number) in
    let d = too_deep forms p.0.sort rule v.0 p.2 v.3 in
    deep d.0 (makes_type forms h ns p.0 rule p.1 p.2) p.0.operation v.0 v.1 d.1
