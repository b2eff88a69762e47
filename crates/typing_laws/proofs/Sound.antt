-- What a form over operands makes by the numbers of types it makes by the types.
use Rattle.std.proofs.Common.{◌≡◌, ℕ, ◌<◌, Bool, true, false, ◌&&◌, nat_eq, List, [], ◌∷◌, length, All, Option, Some, None, slice_get, refl, sym, ap, subst, ◌∙◌, arith, get_or}
use Rattle.std.specs.Option.{is_some, option_map}
use Rattle.std.specs.Prelude.{if◌then◌else◌}
use Rattle.std.proofs.lemmas.Bool.{eqb-true}
use Rattle.std.proofs.lemmas.Option.{slice_get-get_or, same_Some}
use Rattle.std.proofs.lemmas.List.Elements.{All-cons, All-nil, All-head, All-tail}
use Rattle.flow_value.specs.declared.ty.Ty.{Ty}
use Rattle.flow_value.specs.declared.ty.Ty.TheVariants as ty
use Rattle.sisal_tree.specs.declared.expr.Scalar.{Scalar}
use Rattle.sisal_tree.specs.declared.expr.Scalar.TheVariants as scalar
use Rattle.sisal_tree.specs.declared.expr.PrefixOperator.{PrefixOperator}
use Rattle.sisal_tree.specs.declared.expr.PrefixOperator.TheVariants as sign
use Rattle.sisal_tree.specs.declared.expr.BinaryOperator.{BinaryOperator}
use Rattle.sisal_tree.specs.declared.expr.BinaryOperator.TheVariants as operator
use Rattle.value_ops.specs.declared.operation.Operation.{Operation}
use Rattle.value_ops.specs.declared.operation.Operation.TheVariants as operation
use Rattle.type_table.specs.declared.form.Form.{Form}
use Rattle.type_table.specs.declared.form.Form.TheVariants as form
use Rattle.type_table.specs.declared.form.Member.{Member as NumberedMember}
use Rattle.type_table.specs.Tables.{IsTable}
use Rattle.typed_tree.specs.declared.built_in.BuiltIn.{BuiltIn}
use Rattle.typed_tree.specs.Scopes.{AreDistinct}
use Rattle.typed_tree.specs.Types.{Member, IsNumber, array, stream, a_record, AreMembers, no_member, a_member, AreNumbers, scalar_type, prefix_type, binary_type}
use Rattle.typed_tree.specs.Operations.{prefix_operation, binary_operation, built_in_operation}
use Rattle.type_rules.specs.declared.head.Head.{Head}
use Rattle.type_rules.specs.declared.head.Head.TheVariants as head
use Rattle.type_rules.specs.declared.head.Sort.{Sort}
use Rattle.type_rules.specs.declared.head.Sort.TheVariants as sort
use Rattle.type_rules.specs.declared.head.Outcome.{Outcome}
use Rattle.type_rules.specs.declared.head.Container.{Container}
use Rattle.type_rules.specs.declared.head.Container.TheVariants as container
use Rattle.type_table.proofs.Lists.{left}
use Rattle.typed_tree.specs.declared.built_in.BuiltIn.TheVariants as call
use Rattle.type_rules.specs.Applies.{Grows, applies}
use Rattle.type_rules.specs.Parts.{array_at, element_in, form_in, is_part, part_if, array_part, stream_part, sequence_part, sequence_at, field_part, tag_part, holds_if, field_at, tag_at, is_record, is_record_at, there, outcome_of, sort_if}
use Rattle.type_rules.specs.Scalars.{error_of, errs, scalar_number, is_converted, converts, prefix_number, prefixed, are_operands, binary_number, combines}
use Rattle.type_rules.specs.Calls.{grown, shrunk, based, adjusted, measured, firsts, gives_of, called}
use Rattle.type_rules.specs.Sequences.{selects, updates, all_are, named_sort, empty_sort, arrays, empties, streams}
use Rattle.type_rules.specs.Records.{are_distinct, field_outcome, fields, union_outcome, unites, test_outcome, tests, paired, is_member, are_members, has_fields, are_fields_at, record_sort, records, place_if, field_place, first_then, all_places, change_outcome, replaces}
use Rattle.type_rules.specs.Typed as typed
use Rattle.type_rules.specs.Typed.{Has, AreChanged, no_change, a_change, AreFields, no_field, a_field, IsForm, IsNamedBy}
use Rattle.type_rules.proofs.Standing.{HasFields, standing_at, one_type}
use Rattle.type_rules.proofs.Grown.{boolean_is, character_is, integer_is}
use Rattle.type_rules.proofs.Sorted.{StandsFor}
use Rattle.type_rules.proofs.Telling.{operands_tell, converted_tells, prefixed_tells, integer_tells, array_is}
use Rattle.typing_laws.proofs.Rows.{made, element_is, call_gives}
use Rattle.typing_laws.proofs.Tagged.{field_found, field_in, tag_found}
use Rattle.type_rules.proofs.Fielded.{distinct_tells}
use Rattle.typing_laws.specs.Said.{IsThere, IsThereIf, IsSaid}

-- a form over operands of these types has a type, which is that of what is made by number
abbrev pub Verdict : List Form → List (List ℕ) → Head → List Ty → Option Outcome → Type 0
Verdict forms names h ts None = Unit {0}
Verdict forms names h ts (Some o) = (t : Ty) × IsForm forms names h ts o.operation t × StandsFor forms names o.sort t

-- ---- what a table has a larger one has

module _ (old forms : List Form) (grows : Grows old forms) where
  there_later : (n : ℕ) (f : Form) → slice_get old n ≡ Some f → slice_get forms n ≡ Some f
  there_later n f e = subst (λ l. slice_get l n ≡ Some f) (sym grows.1) (left old grows.0 n f e)

  pub part_later : {A : Type 0} (part : Form → Option A) (n : ℕ) (r : A) → part_if part (slice_get old n) ≡ Some r → part_if part (slice_get forms n) ≡ Some r
  part_later part n r e = by (slice_get old n) refl e
    where
      by : (o : Option Form) → slice_get old n ≡ o → part_if part o ≡ Some r → part_if part (slice_get forms n) ≡ Some r
      by None h e = absurd cc
      by (Some f) h e = ap (part_if part) (there_later n f h) ∙ e

  holds_later : (test : Form → Bool) (n : ℕ) → holds_if test (slice_get old n) ≡ true → holds_if test (slice_get forms n) ≡ true
  holds_later test n e = by (slice_get old n) refl e
    where
      by : (o : Option Form) → slice_get old n ≡ o → holds_if test o ≡ true → holds_if test (slice_get forms n) ≡ true
      by None h e = absurd cc
      by (Some f) h e = ap (holds_if test) (there_later n f h) ∙ e

  element_later : (c : Container) (n m : ℕ) → element_in old c n ≡ Some m → element_in forms c n ≡ Some m
  element_later container.Array n m e = part_later array_part n m e
  element_later container.Stream n m e = part_later stream_part n m e

  is_part_later : (c : Container) (n v : ℕ) → is_part (element_in old c n) v ≡ true → is_part (element_in forms c n) v ≡ true
  is_part_later c n v e = by (element_in old c n) refl e
    where
      by : (o : Option ℕ) → element_in old c n ≡ o → is_part o v ≡ true → is_part (element_in forms c n) v ≡ true
      by None h e = absurd cc
      by (Some m) h e = ap (λ o. is_part o v) (element_later c n m h) ∙ e

  has_later : (c : Container) (n : ℕ) → is_some (element_in old c n) ≡ true → is_some (element_in forms c n) ≡ true
  has_later c n e = by (element_in old c n) refl e
    where
      by : (o : Option ℕ) → element_in old c n ≡ o → is_some o ≡ true → is_some (element_in forms c n) ≡ true
      by None h e = absurd cc
      by (Some m) h e = ap is_some (element_later c n m h)

  sequence_later : (n : ℕ) → is_some (sequence_at old n) ≡ true → is_some (sequence_at forms n) ≡ true
  sequence_later n e = by (sequence_at old n) refl e
    where
      by : (o : Option ℕ) → sequence_at old n ≡ o → is_some o ≡ true → is_some (sequence_at forms n) ≡ true
      by None h e = absurd cc
      by (Some m) h e = ap is_some (part_later sequence_part n m h)

  operands_later : (o : BinaryOperator) (n : ℕ) → are_operands old o n ≡ true → are_operands forms o n ≡ true
  operands_later operator.Catenate n e = sequence_later n e
  operands_later operator.Or n e = e
  operands_later operator.And n e = e
  operands_later operator.Equal n e = e
  operands_later operator.NotEqual n e = e
  operands_later operator.Less n e = e
  operands_later operator.LessEqual n e = e
  operands_later operator.Greater n e = e
  operands_later operator.GreaterEqual n e = e
  operands_later operator.Plus n e = e
  operands_later operator.Minus n e = e
  operands_later operator.Times n e = e
  operands_later operator.Divide n e = e

  sort_later : (b c : Bool) (n : ℕ) (s : Sort) → (b ≡ true → c ≡ true) → sort_if b n ≡ Some s → sort_if c n ≡ Some s
  sort_later true c n s f e = ap (λ b. sort_if b n) (f refl) ∙ e
  sort_later false c n s f e = absurd cc

  and_later : (b c d : Bool) → (b ≡ true → c ≡ true) → (b && d) ≡ true → (c && d) ≡ true
  and_later true c d f e = ap (λ b. b && d) (f refl) ∙ e
  and_later false c d f e = absurd cc

  grown_later : (c : Container) (ns : List ℕ) (s : Sort) → grown old c ns ≡ Some s → grown forms c ns ≡ Some s
  grown_later c [] s e = absurd cc
  grown_later c (a ∷ []) s e = absurd cc
  grown_later c (a ∷ v ∷ []) s e = sort_later (is_part (element_in old c a) v) (is_part (element_in forms c a) v) a s (is_part_later c a v) e
  grown_later c (a ∷ v ∷ w ∷ ns) s e = absurd cc

  shrunk_later : (c : Container) (ns : List ℕ) (s : Sort) → shrunk old c ns ≡ Some s → shrunk forms c ns ≡ Some s
  shrunk_later c [] s e = absurd cc
  shrunk_later c (a ∷ []) s e = sort_later (is_some (element_in old c a)) (is_some (element_in forms c a)) a s (has_later c a) e
  shrunk_later c (a ∷ v ∷ ns) s e = absurd cc

  measured_later : (c : Container) (n : ℕ) (ns : List ℕ) (s : Sort) → measured old c n ns ≡ Some s → measured forms c n ns ≡ Some s
  measured_later c n [] s e = absurd cc
  measured_later c n (a ∷ []) s e = sort_later (is_some (element_in old c a)) (is_some (element_in forms c a)) n s (has_later c a) e
  measured_later c n (a ∷ v ∷ ns) s e = absurd cc

  based_later : (ns : List ℕ) (s : Sort) → based old ns ≡ Some s → based forms ns ≡ Some s
  based_later [] s e = absurd cc
  based_later (a ∷ []) s e = absurd cc
  based_later (a ∷ l ∷ []) s e =
      sort_later (is_some (element_in old container.Array a) && nat_eq l 2) (is_some (element_in forms container.Array a) && nat_eq l 2) a s
      (and_later (is_some (element_in old container.Array a)) (is_some (element_in forms container.Array a)) (nat_eq l 2) (has_later container.Array a)) e
  based_later (a ∷ l ∷ m ∷ ns) s e = absurd cc

  adjusted_later : (ns : List ℕ) (s : Sort) → adjusted old ns ≡ Some s → adjusted forms ns ≡ Some s
  adjusted_later [] s e = absurd cc
  adjusted_later (a ∷ []) s e = absurd cc
  adjusted_later (a ∷ l ∷ []) s e = absurd cc
  adjusted_later (a ∷ l ∷ h ∷ []) s e =
      sort_later (is_some (element_in old container.Array a) && (nat_eq l 2 && nat_eq h 2)) (is_some (element_in forms container.Array a) && (nat_eq l 2 && nat_eq h 2)) a s
      (and_later (is_some (element_in old container.Array a)) (is_some (element_in forms container.Array a)) (nat_eq l 2 && nat_eq h 2) (has_later container.Array a)) e
  adjusted_later (a ∷ l ∷ h ∷ m ∷ ns) s e = absurd cc

  firsts_later : (ns : List ℕ) (s : Sort) → firsts old ns ≡ Some s → firsts forms ns ≡ Some s
  firsts_later [] s e = absurd cc
  firsts_later (a ∷ []) s e = by (element_in old container.Stream a) refl e
    where
      by : (o : Option ℕ) → element_in old container.Stream a ≡ o → option_map sort.There o ≡ Some s → option_map sort.There (element_in forms container.Stream a) ≡ Some s
      by None h e = absurd cc
      by (Some m) h e = ap (option_map sort.There) (element_later container.Stream a m h) ∙ e
  firsts_later (a ∷ b ∷ ns) s e = absurd cc

  gives_later : (b : BuiltIn) (ns : List ℕ) (s : Sort) → gives_of old b ns ≡ Some s → gives_of forms b ns ≡ Some s
  gives_later call.Mod ns s e = e
  gives_later call.Abs ns s e = e
  gives_later call.Max ns s e = e
  gives_later call.Min ns s e = e
  gives_later call.ArrayFill ns s e = e
  gives_later call.ArrayAddHigh ns s e = grown_later container.Array ns s e
  gives_later call.ArrayAddLow ns s e = grown_later container.Array ns s e
  gives_later call.ArrayRemoveHigh ns s e = shrunk_later container.Array ns s e
  gives_later call.ArrayRemoveLow ns s e = shrunk_later container.Array ns s e
  gives_later call.ArraySetLow ns s e = based_later ns s e
  gives_later call.ArrayAdjust ns s e = adjusted_later ns s e
  gives_later call.ArrayLimitLow ns s e = measured_later container.Array 2 ns s e
  gives_later call.ArrayLimitHigh ns s e = measured_later container.Array 2 ns s e
  gives_later call.ArraySize ns s e = measured_later container.Array 2 ns s e
  gives_later call.StreamAppend ns s e = grown_later container.Stream ns s e
  gives_later call.StreamSize ns s e = measured_later container.Stream 2 ns s e
  gives_later call.StreamEmpty ns s e = measured_later container.Stream 0 ns s e
  gives_later call.StreamFirst ns s e = firsts_later ns s e
  gives_later call.StreamRest ns s e = shrunk_later container.Stream ns s e

-- ---- forms

module _ (old forms : List Form) (grows : Grows old forms) (names : List (List ℕ)) (table : IsTable forms) where
  abbrev Made : Head → List Ty → Option Outcome → Type 0
  Made h ts o = Verdict forms names h ts o

  only_if : (h : Head) (ts : List Ty) (b : Bool) (x : Option Outcome) → (b ≡ true → Made h ts x) → Made h ts (if b then x else None)
  only_if h ts true x f = f refl
  only_if h ts false x f = tt

  v_error : (n : ℕ) → IsThere forms names n → (ns : List ℕ) (ts : List Ty) → AreNumbers forms names ns ts → Made (head.ErrorOf n) ts (error_of n ns)
  v_error n s [] [] p = (s.0, typed.error_of s.1, s.1)
  v_error n s [] (t ∷ ts) p = absurd p
  v_error n s (a ∷ ns) ts p = tt

  v_errs : (ns : List ℕ) (ts : List Ty) → AreNumbers forms names ns ts → Made head.IsError ts (errs ns)
  v_errs [] ts p = tt
  v_errs (a ∷ []) [] p = absurd p
  v_errs (a ∷ []) (t ∷ []) p = (ty.Bool, typed.is_error, boolean_is forms names table)
  v_errs (a ∷ []) (t ∷ u ∷ ts) p = absurd p.1
  v_errs (a ∷ b ∷ ns) ts p = tt

  scalar_is : (c : Scalar) → IsNumber forms names (scalar_number c) (scalar_type c)
  scalar_is scalar.Integer = integer_is forms names table
  scalar_is scalar.Boolean = boolean_is forms names table
  scalar_is scalar.Character = character_is forms names table

  v_convert : (c : Scalar) (ns : List ℕ) (ts : List Ty) → AreNumbers forms names ns ts → Made (head.Convert c) ts (converts c ns)
  v_convert c [] ts p = tt
  v_convert c (n ∷ []) [] p = absurd p
  v_convert c (n ∷ []) (a ∷ []) p =
      only_if (head.Convert c) (a ∷ []) (is_converted c n) _ (λ e. (scalar_type c, typed.convert ((converted_tells forms names table c n a p.0).yes e), scalar_is c))
  v_convert c (n ∷ []) (a ∷ b ∷ ts) p = absurd p.1
  v_convert c (n ∷ m ∷ ns) ts p = tt

  prefix_is : (o : PrefixOperator) → IsNumber forms names (prefix_number o) (prefix_type o)
  prefix_is sign.Negate = integer_is forms names table
  prefix_is sign.Not = boolean_is forms names table

  v_prefix : (o : PrefixOperator) (ns : List ℕ) (ts : List Ty) → AreNumbers forms names ns ts → Made (head.Prefix o) ts (prefixed o ns)
  v_prefix o [] ts p = tt
  v_prefix o (n ∷ []) [] p = absurd p
  v_prefix o (n ∷ []) (a ∷ []) p =
      only_if (head.Prefix o) (a ∷ []) (nat_eq n (prefix_number o)) _
      (λ e. subst (λ x. Made (head.Prefix o) (x ∷ []) (Some (there (prefix_operation o) (prefix_number o)))) (sym ((prefixed_tells forms names table o n a p.0).yes e)) (prefix_type o, typed.prefix, prefix_is o))
  v_prefix o (n ∷ []) (a ∷ b ∷ ts) p = absurd p.1
  v_prefix o (n ∷ m ∷ ns) ts p = tt

  binary_is : (o : BinaryOperator) (n : ℕ) (a : Ty) → IsNumber forms names n a → IsNumber forms names (binary_number o n) (binary_type o a)
  binary_is operator.Catenate n a p = p
  binary_is operator.Plus n a p = integer_is forms names table
  binary_is operator.Minus n a p = integer_is forms names table
  binary_is operator.Times n a p = integer_is forms names table
  binary_is operator.Divide n a p = integer_is forms names table
  binary_is operator.Or n a p = boolean_is forms names table
  binary_is operator.And n a p = boolean_is forms names table
  binary_is operator.Equal n a p = boolean_is forms names table
  binary_is operator.NotEqual n a p = boolean_is forms names table
  binary_is operator.Less n a p = boolean_is forms names table
  binary_is operator.LessEqual n a p = boolean_is forms names table
  binary_is operator.Greater n a p = boolean_is forms names table
  binary_is operator.GreaterEqual n a p = boolean_is forms names table

  -- equal numbers are of equal types
  same : (n m : ℕ) (a b : Ty) → IsNumber forms names n a → IsNumber forms names m b → nat_eq n m ≡ true → a ≡ b
  same n m a b p q e = one_type forms names n a b p (subst (λ k. IsNumber forms names k b) (sym (eqb-true n m e)) q)

  v_binary : (o : BinaryOperator) (ns : List ℕ) (ts : List Ty) → AreNumbers forms names ns ts → Made (head.Binary o) ts (combines old o ns)
  v_binary o [] ts p = tt
  v_binary o (n ∷ []) ts p = tt
  v_binary o (n ∷ m ∷ []) [] p = absurd p
  v_binary o (n ∷ m ∷ []) (a ∷ []) p = absurd p.1
  v_binary o (n ∷ m ∷ []) (a ∷ b ∷ []) p =
      let x = Some (there (binary_operation o) (binary_number o n)) in
      only_if (head.Binary o) (a ∷ b ∷ []) (nat_eq n m) _
      (λ e. only_if (head.Binary o) (a ∷ b ∷ []) (are_operands old o n) _
      (λ g. subst (λ c. Made (head.Binary o) (a ∷ c ∷ []) x) (same n m a b p.0 p.1.0 e) (binary_type o a, typed.binary ((operands_tell forms names table o n a p.0).yes (operands_later old forms grows o n g)), binary_is o n a p.0)))
  v_binary o (n ∷ m ∷ []) (a ∷ b ∷ c ∷ ts) p = absurd p.1.1
  v_binary o (n ∷ m ∷ k ∷ ns) ts p = tt

  -- ---- arrays and streams

  int_if : (n : ℕ) (a : Ty) → IsNumber forms names n a → nat_eq n 2 ≡ true → a ≡ ty.Int
  int_if n a p e = (integer_tells forms names table n a p).yes e

  v_select : (ns : List ℕ) (ts : List Ty) → AreNumbers forms names ns ts → Made head.Select ts (selects old ns)
  v_select [] ts p = tt
  v_select (n ∷ []) ts p = tt
  v_select (n ∷ i ∷ []) [] p = absurd p
  v_select (n ∷ i ∷ []) (a ∷ []) p = absurd p.1
  v_select (n ∷ i ∷ []) (a ∷ b ∷ []) p = only_if head.Select (a ∷ b ∷ []) (nat_eq i 2) _ (λ e. by (array_at old n) refl (int_if i b p.1.0 e))
    where
      by : (m : Option ℕ) → array_at old n ≡ m → b ≡ ty.Int → Made head.Select (a ∷ b ∷ []) (option_map (there operation.Element) m)
      by (Some m) h e =
          let s = array_is forms names table n a p.0 m (part_later old forms grows array_part n m h) in
          subst (λ x. Made head.Select (x ∷ b ∷ []) (Some (there operation.Element m))) (sym s.is)
          (subst (λ y. Made head.Select (ty.Arr s.part ∷ y ∷ []) (Some (there operation.Element m))) (sym e) (s.part, typed.select s.part, s.stands))
      by None h e = tt
  v_select (n ∷ i ∷ []) (a ∷ b ∷ c ∷ ts) p = absurd p.1.1
  v_select (n ∷ i ∷ k ∷ ns) ts p = tt

  -- a container has elements of a type
  part_if_is : (c : Container) (n v : ℕ) (a b : Ty) → IsNumber forms names n a → IsNumber forms names v b → (m : Option ℕ) → element_in forms c n ≡ m → is_part m v ≡ true → a ≡ made c b
  part_if_is c n v a b p q (Some m) h e = let s = element_is forms names table c n a p m h in s.is ∙ ap (made c) (same m v s.part b s.stands q e)
  part_if_is c n v a b p q None h e = absurd cc

  v_update : (ns : List ℕ) (ts : List Ty) → AreNumbers forms names ns ts → Made head.Update ts (updates old ns)
  v_update [] ts p = tt
  v_update (n ∷ []) ts p = tt
  v_update (n ∷ i ∷ []) ts p = tt
  v_update (n ∷ i ∷ v ∷ []) [] p = absurd p
  v_update (n ∷ i ∷ v ∷ []) (a ∷ []) p = absurd p.1
  v_update (n ∷ i ∷ v ∷ []) (a ∷ b ∷ []) p = absurd p.1.1
  v_update (n ∷ i ∷ v ∷ []) (a ∷ b ∷ c ∷ []) p =
      only_if head.Update (a ∷ b ∷ c ∷ []) (nat_eq i 2) _
      (λ e. only_if head.Update (a ∷ b ∷ c ∷ []) (is_part (array_at old n) v) _
      (λ g.
      let is : a ≡ ty.Arr c = part_if_is container.Array n v a c p.0 p.1.1.0 (array_at forms n) refl (is_part_later old forms grows container.Array n v g) in
      subst (λ x. Made head.Update (x ∷ b ∷ c ∷ []) (Some (there operation.Update n))) (sym is)
      (subst (λ y. Made head.Update (ty.Arr c ∷ y ∷ c ∷ []) (Some (there operation.Update n))) (sym (int_if i b p.1.0 e))
      (ty.Arr c, typed.update c, subst (IsNumber forms names n) is p.0))))
  v_update (n ∷ i ∷ v ∷ []) (a ∷ b ∷ c ∷ d ∷ ts) p = absurd p.1.1.1
  v_update (n ∷ i ∷ v ∷ k ∷ ns) ts p = tt

  two_true : (a b : Bool) → (a && b) ≡ true → (a ≡ true) × (b ≡ true)
  two_true true b e = (refl, e)
  two_true false b e = absurd cc

  all_same : (n : ℕ) (a : Ty) → IsNumber forms names n a → (ns : List ℕ) (ts : List Ty) → AreNumbers forms names ns ts → all_are n ns ≡ true → All (λ b. b ≡ a) ts
  all_same n a q [] [] p e = All-nil (λ b. b ≡ a)
  all_same n a q [] (t ∷ ts) p e = absurd p
  all_same n a q (m ∷ ns) [] p e = absurd p
  all_same n a q (m ∷ ns) (b ∷ ts) p e =
      let both = two_true (nat_eq m n) (all_are n ns) e in
      All-cons (λ b. b ≡ a) b ts (same m n b a p.0 q both.0) (all_same n a q ns ts p.1 both.1)

  container_made : (c : Container) (n : ℕ) (a : Ty) → IsNumber forms names n a → StandsFor forms names (sort.Made (form_in c n)) (made c a)
  container_made container.Array n a p = record { part = a; is = refl; stands = p }
  container_made container.Stream n a p = record { part = a; is = refl; stands = p }

  is_array : (k n : ℕ) (a : Ty) → IsNumber forms names n a → (o : Option Form) → slice_get forms k ≡ o → is_part (part_if array_part o) n ≡ true → IsNumber forms names k (ty.Arr a)
  is_array k n a p (Some (form.Array m)) h e = array h (subst (λ j. IsNumber forms names j a) (sym (eqb-true m n e)) p)
  is_array k n a p None h e = absurd cc
  is_array k n a p (Some form.Boolean) h e = absurd cc
  is_array k n a p (Some form.Character) h e = absurd cc
  is_array k n a p (Some form.Integer) h e = absurd cc
  is_array k n a p (Some form.Null) h e = absurd cc
  is_array k n a p (Some (form.Stream m)) h e = absurd cc
  is_array k n a p (Some (form.Record ms)) h e = absurd cc
  is_array k n a p (Some (form.Union ms)) h e = absurd cc

  is_stream : (k n : ℕ) (a : Ty) → IsNumber forms names n a → (o : Option Form) → slice_get forms k ≡ o → is_part (part_if stream_part o) n ≡ true → IsNumber forms names k (ty.Stream a)
  is_stream k n a p (Some (form.Stream m)) h e = stream h (subst (λ j. IsNumber forms names j a) (sym (eqb-true m n e)) p)
  is_stream k n a p None h e = absurd cc
  is_stream k n a p (Some form.Boolean) h e = absurd cc
  is_stream k n a p (Some form.Character) h e = absurd cc
  is_stream k n a p (Some form.Integer) h e = absurd cc
  is_stream k n a p (Some form.Null) h e = absurd cc
  is_stream k n a p (Some (form.Array m)) h e = absurd cc
  is_stream k n a p (Some (form.Record ms)) h e = absurd cc
  is_stream k n a p (Some (form.Union ms)) h e = absurd cc

  is_container : (c : Container) (k n : ℕ) (a : Ty) → IsNumber forms names n a → is_part (element_in forms c k) n ≡ true → IsNumber forms names k (made c a)
  is_container container.Array k n a p e = is_array k n a p (slice_get forms k) refl e
  is_container container.Stream k n a p e = is_stream k n a p (slice_get forms k) refl e

  container_at : (c : Container) (k m : ℕ) → IsThere forms names k → element_in forms c k ≡ Some m → (a : Ty) × IsNumber forms names k (made c a)
  container_at c k m q e = let s = element_is forms names table c k q.0 q.1 m e in (s.part, subst (IsNumber forms names k) s.is q.1)

  -- the container of elements of a type, by the type that is named
  named : (h : Head) (ts : List Ty) (op : Operation) (c : Container) (x : Option ℕ) (n : ℕ) (a : Ty) → IsNumber forms names n a
      → (IsNamedBy forms names x (made c a) → IsForm forms names h ts op (made c a)) → Made h ts (outcome_of op (named_sort old c x n))
  named h ts op c None n a p makes = (made c a, makes tt, container_made c n a p)
  named h ts op c (Some k) n a p makes = by (is_part (element_in old c k) n) refl
    where
      by : (b : Bool) → is_part (element_in old c k) n ≡ b → Made h ts (outcome_of op (sort_if b k))
      by true g = let is = is_container c k n a p (is_part_later old forms grows c k n g) in (made c a, makes is, is)
      by false g = tt

  v_array : (x : Option ℕ) (ns : List ℕ) (ts : List Ty) → AreNumbers forms names ns ts → Made (head.Array x) ts (arrays old x ns)
  v_array x [] ts p = tt
  v_array x (l ∷ []) ts p = tt
  v_array x (l ∷ n ∷ ns) [] p = absurd p
  v_array x (l ∷ n ∷ ns) (b ∷ []) p = absurd p.1
  v_array x (l ∷ n ∷ ns) (b ∷ a ∷ ts) p =
      only_if (head.Array x) (b ∷ a ∷ ts) (nat_eq l 2) _
      (λ e. only_if (head.Array x) (b ∷ a ∷ ts) (all_are n ns) _
      (λ g. named (head.Array x) (b ∷ a ∷ ts) operation.Array container.Array x n a p.1.0
      (λ q. subst (λ y. IsForm forms names (head.Array x) (y ∷ a ∷ ts) operation.Array (ty.Arr a)) (sym (int_if l b p.0 e)) (typed.array (all_same n a p.1.0 ns ts p.1.1 g) q))))

  -- a container without elements, by the type that is named
  nothing_named : (h : Head) (ts : List Ty) (op : Operation) (c : Container) (x : Option ℕ) → IsThereIf forms names x
      → ((n : ℕ) (e : Ty) → x ≡ Some n → IsNumber forms names n (made c e) → IsForm forms names h ts op (made c e)) → Made h ts (outcome_of op (empty_sort old c x))
  nothing_named h ts op c None said makes = tt
  nothing_named h ts op c (Some k) said makes = by (element_in old c k) refl
    where
      by : (m : Option ℕ) → element_in old c k ≡ m → Made h ts (outcome_of op (sort_if (is_some m) k))
      by (Some m) e = let q = container_at c k m said (element_later old forms grows c k m e) in (made c q.0, makes k q.0 refl q.1, q.1)
      by None e = tt

  v_empty : (x : Option ℕ) → IsThereIf forms names x → (ns : List ℕ) (ts : List Ty) → AreNumbers forms names ns ts → Made (head.EmptyArray x) ts (empties old x ns)
  v_empty x said [] [] p = nothing_named (head.EmptyArray x) [] operation.EmptyArray container.Array x said
      (λ n e is q. subst (λ y. IsForm forms names (head.EmptyArray y) [] operation.EmptyArray (ty.Arr e)) (sym is) (typed.empty_array e q))
  v_empty x said [] (t ∷ ts) p = absurd p
  v_empty x said (n ∷ ns) ts p = tt

  v_stream : (x : Option ℕ) → IsThereIf forms names x → (ns : List ℕ) (ts : List Ty) → AreNumbers forms names ns ts → Made (head.Stream x) ts (streams old x ns)
  v_stream x said [] [] p = nothing_named (head.Stream x) [] operation.Stream container.Stream x said
      (λ n e is q. subst (λ y. IsForm forms names (head.Stream y) [] operation.Stream (ty.Stream e)) (sym is) (typed.empty_stream e q))
  v_stream x said [] (t ∷ ts) p = absurd p
  v_stream x said (n ∷ ns) [] p = absurd p
  v_stream x said (n ∷ ns) (a ∷ ts) p =
      only_if (head.Stream x) (a ∷ ts) (all_are n ns) _
      (λ g. named (head.Stream x) (a ∷ ts) operation.Stream container.Stream x n a p.0 (λ q. typed.stream (all_same n a p.0 ns ts p.1 g) q))

  v_call : (b : BuiltIn) (ns : List ℕ) (ts : List Ty) → AreNumbers forms names ns ts → Made (head.BuiltIn b) ts (called old b ns)
  v_call b ns ts p = by (gives_of old b ns) refl
    where
      by : (s : Option Sort) → gives_of old b ns ≡ s → Made (head.BuiltIn b) ts (outcome_of (built_in_operation b) s)
      by (Some s) e = let q = call_gives forms names table b ns ts s p (gives_later old forms grows b ns s e) in (q.0, typed.built_in q.1, q.2)
      by None e = tt

  -- ---- records and unions

  v_tag : (x : ℕ) (ns : List ℕ) (ts : List Ty) → AreNumbers forms names ns ts → Made (head.IsTag x) ts (tests old x ns)
  v_tag x [] ts p = tt
  v_tag x (n ∷ []) [] p = absurd p
  v_tag x (n ∷ []) (a ∷ []) p = by (tag_at old n x) refl
    where
      by : (r : Option (ℕ × ℕ)) → tag_at old n x ≡ r → Made (head.IsTag x) (a ∷ []) (test_outcome r)
      by (Some r) e =
          let q = tag_found forms names n a p.0 x r (part_later old forms grows (tag_part x) n r e) in
          subst (λ y. Made (head.IsTag x) (y ∷ []) (Some (there (operation.IsTag r.0) 0))) (sym q.2) (ty.Bool, typed.is_tag q.3, boolean_is forms names table)
      by None e = tt
  v_tag x (n ∷ []) (a ∷ b ∷ ts) p = absurd p.1
  v_tag x (n ∷ m ∷ ns) ts p = tt

  v_field : (x : ℕ) (ns : List ℕ) (ts : List Ty) → AreNumbers forms names ns ts → Made (head.Field x) ts (fields old x ns)
  v_field x [] ts p = tt
  v_field x (n ∷ []) [] p = absurd p
  v_field x (n ∷ []) (a ∷ []) p = by (field_at old n x) refl
    where
      by : (r : Option (ℕ × ℕ)) → field_at old n x ≡ r → Made (head.Field x) (a ∷ []) (field_outcome r)
      by (Some r) e =
          let q = field_found forms names n a p.0 x r (part_later old forms grows (field_part x) n r e) in
          subst (λ y. Made (head.Field x) (y ∷ []) (Some (there (operation.Field r.0) r.1))) (sym q.2) (q.1, typed.field q.3, q.4)
      by None e = tt
  v_field x (n ∷ []) (a ∷ b ∷ ts) p = absurd p.1
  v_field x (n ∷ m ∷ ns) ts p = tt

  v_union : (k x : ℕ) → IsThere forms names k → (ns : List ℕ) (ts : List Ty) → AreNumbers forms names ns ts → Made (head.Union k x) ts (unites old k x ns)
  v_union k x u [] ts p = tt
  v_union k x u (v ∷ []) [] p = absurd p
  v_union k x u (v ∷ []) (a ∷ []) p = by (tag_at old k x) refl
    where
      by : (r : Option (ℕ × ℕ)) → tag_at old k x ≡ r → Made (head.Union k x) (a ∷ []) (union_outcome k v r)
      by (Some r) e =
          let q = tag_found forms names k u.0 u.1 x r (part_later old forms grows (tag_part x) k r e) in
          let is : IsNumber forms names k (ty.Uni q.0) = subst (IsNumber forms names k) q.2 u.1 in
          only_if (head.Union k x) (a ∷ []) (nat_eq r.1 v) _ (λ g. (ty.Uni q.0, typed.union is (subst (Has names q.0 x r.0) (same r.1 v q.1 a q.4 p.0 g) q.3), is))
      by None e = tt
  v_union k x u (v ∷ []) (a ∷ b ∷ ts) p = absurd p.1
  v_union k x u (v ∷ m ∷ ns) ts p = tt

  spelled_at : (x : ℕ) → x < length names → (s : List ℕ) × (slice_get names x ≡ Some s)
  spelled_at x h = (get_or names x [], slice_get-get_or names x [] h)

  fields_made : (xs ns : List ℕ) (ts : List Ty) → All (λ x. x < length names) xs → length xs ≡ length ns → AreNumbers forms names ns ts
      → (ms : List Member) × AreFields names xs ts ms × AreMembers forms names (paired xs ns) ms
  fields_made [] [] [] h e p = ([], no_field, no_member)
  fields_made [] [] (t ∷ ts) h e p = absurd p
  fields_made [] (n ∷ ns) ts h e p = absurd (omega (arith, e))
  fields_made (x ∷ xs) [] ts h e p = absurd (omega (arith, e))
  fields_made (x ∷ xs) (n ∷ ns) [] h e p = absurd p
  fields_made (x ∷ xs) (n ∷ ns) (t ∷ ts) h e p =
      let s = spelled_at x (All-head (λ x. x < length names) x xs h) in
      let q = fields_made xs ns ts (All-tail (λ x. x < length names) x xs h) (omega (arith, e)) p.1 in
      ((s.0, t) ∷ q.0, a_field s.1 q.1, a_member s.1 p.0 q.2)

  member_same : (m o : NumberedMember) → is_member m o ≡ true → m ≡ o
  member_same m o e =
      let both = two_true (nat_eq m.name o.name) (nat_eq m.ty o.ty) e in
      ap (λ n. record { name = n; ty = m.ty }) (eqb-true m.name o.name both.0) ∙ ap (λ t. record { name = o.name; ty = t }) (eqb-true m.ty o.ty both.1)

  members_same : (ms os : List NumberedMember) → are_members ms os ≡ true → ms ≡ os
  members_same [] [] e = refl
  members_same [] (o ∷ os) e = absurd cc
  members_same (m ∷ ms) [] e = absurd cc
  members_same (m ∷ ms) (o ∷ os) e =
      let both = two_true (is_member m o) (are_members ms os) e in
      ap (λ x. x ∷ ms) (member_same m o both.0) ∙ ap (λ l. o ∷ l) (members_same ms os both.1)

  record_by : (k : ℕ) (ms : List NumberedMember) (fs : List Member) → AreMembers forms names ms fs → (o : Option Form) → slice_get forms k ≡ o → holds_if (has_fields ms) o ≡ true → IsNumber forms names k (ty.Rec fs)
  record_by k ms fs p (Some (form.Record os)) h e =
      let is = members_same os ms (two_true (nat_eq (length os) (length ms)) (are_members os ms) e).1 in
      a_record (h ∙ ap (λ l. Some (form.Record l)) is) p
  record_by k ms fs p None h e = absurd cc
  record_by k ms fs p (Some form.Boolean) h e = absurd cc
  record_by k ms fs p (Some form.Character) h e = absurd cc
  record_by k ms fs p (Some form.Integer) h e = absurd cc
  record_by k ms fs p (Some form.Null) h e = absurd cc
  record_by k ms fs p (Some (form.Array m)) h e = absurd cc
  record_by k ms fs p (Some (form.Stream m)) h e = absurd cc
  record_by k ms fs p (Some (form.Union os)) h e = absurd cc

  record_named : (x : Option ℕ) (xs : List ℕ) (ts : List Ty) (ms : List NumberedMember) (fs : List Member) → AreMembers forms names ms fs → AreFields names xs ts fs → AreDistinct xs
      → Made (head.Record x xs) ts (outcome_of operation.Record (record_sort old x ms))
  record_named None xs ts ms fs p q d = (ty.Rec fs, typed.a_record q d tt, record { fields = fs; is = refl; stand = p })
  record_named (Some k) xs ts ms fs p q d = by (are_fields_at old k ms) refl
    where
      by : (b : Bool) → are_fields_at old k ms ≡ b → Made (head.Record (Some k) xs) ts (outcome_of operation.Record (sort_if b k))
      by true e = let is = record_by k ms fs p (slice_get forms k) refl (holds_later old forms grows (has_fields ms) k e) in (ty.Rec fs, typed.a_record q d is, is)
      by false e = tt

  v_record : (x : Option ℕ) (xs : List ℕ) → All (λ x. x < length names) xs → (ns : List ℕ) (ts : List Ty) → AreNumbers forms names ns ts → Made (head.Record x xs) ts (records old x xs ns)
  v_record x xs h ns ts p =
      only_if (head.Record x xs) ts (nat_eq (length xs) (length ns)) _
      (λ e. only_if (head.Record x xs) ts (are_distinct xs) _
      (λ d.
      let q = fields_made xs ns ts h (eqb-true (length xs) (length ns) e) p in
      record_named x xs ts (paired xs ns) q.0 q.2 q.1 ((distinct_tells xs).yes d)))

  place_found : (n : ℕ) (ms : List Member) → IsNumber forms names n (ty.Rec ms) → (x v : ℕ) (a : Ty) → IsNumber forms names v a → (r : Option (ℕ × ℕ)) → field_at old n x ≡ r
      → (place : ℕ) → place_if v r ≡ Some place → Has names ms x place a
  place_found n ms p x v a q (Some r) h place e = by (nat_eq r.1 v) refl e
    where
      by : (b : Bool) → nat_eq r.1 v ≡ b → (if b then Some r.0 else None) ≡ Some place → Has names ms x place a
      by true g e =
          let f = field_in forms names n ms p x r (part_later old forms grows (field_part x) n r h) in
          subst (λ k. Has names ms x k a) (same_Some r.0 place e) (subst (Has names ms x r.0) (same r.1 v f.0 a f.2 q g) f.1)
      by false g e = absurd cc
  place_found n ms p x v a q None h place e = absurd cc

  all_found : (n : ℕ) (ms : List Member) → IsNumber forms names n (ty.Rec ms) → (xs vs : List ℕ) (ts : List Ty) → length xs ≡ length vs → AreNumbers forms names vs ts
      → (places : List ℕ) → all_places old n xs vs ≡ Some places → AreChanged names ms xs ts places
  all_found n ms p [] [] [] l q places e = subst (AreChanged names ms [] []) (same_Some [] places e) no_change
  all_found n ms p [] [] (t ∷ ts) l q places e = absurd q
  all_found n ms p [] (v ∷ vs) ts l q places e = absurd (omega (arith, l))
  all_found n ms p (x ∷ xs) [] ts l q places e = absurd (omega (arith, l))
  all_found n ms p (x ∷ xs) (v ∷ vs) [] l q places e = absurd q
  all_found n ms p (x ∷ xs) (v ∷ vs) (a ∷ ts) l q places e = by (all_found n ms p xs vs ts (omega (arith, l)) q.1) (field_place old n x v) refl (all_places old n xs vs) refl e
    where
      by : ((rest : List ℕ) → all_places old n xs vs ≡ Some rest → AreChanged names ms xs ts rest) → (o : Option ℕ) → field_place old n x v ≡ o → (r : Option (List ℕ)) → all_places old n xs vs ≡ r → first_then o r ≡ Some places → AreChanged names ms (x ∷ xs) (a ∷ ts) places
      by again (Some place) h (Some rest) g e =
          subst (AreChanged names ms (x ∷ xs) (a ∷ ts)) (same_Some (place ∷ rest) places e)
          (a_change (place_found n ms p x v a q.0 (field_at old n x) refl place h) (again rest g))
      by again (Some place) h None g e = absurd cc
      by again None h r g e = absurd cc

  record_there : (n : ℕ) (a : Ty) → IsNumber forms names n a → (o : Option Form) → slice_get forms n ≡ o → holds_if is_record o ≡ true → (ms : List Member) × (a ≡ ty.Rec ms)
  record_there n a p (Some (form.Record ms)) h e =
      let s : HasFields forms names ty.Rec ms a = standing_at forms names n (Some (form.Record ms)) h a p in (s.fields, s.is)
  record_there n a p None h e = absurd cc
  record_there n a p (Some form.Boolean) h e = absurd cc
  record_there n a p (Some form.Character) h e = absurd cc
  record_there n a p (Some form.Integer) h e = absurd cc
  record_there n a p (Some form.Null) h e = absurd cc
  record_there n a p (Some (form.Array m)) h e = absurd cc
  record_there n a p (Some (form.Stream m)) h e = absurd cc
  record_there n a p (Some (form.Union ms)) h e = absurd cc

  v_replace : (xs ns : List ℕ) (ts : List Ty) → AreNumbers forms names ns ts → Made (head.Replace xs) ts (replaces old xs ns)
  v_replace xs [] ts p = tt
  v_replace xs (n ∷ vs) [] p = absurd p
  v_replace xs (n ∷ vs) (a ∷ ts) p =
      only_if (head.Replace xs) (a ∷ ts) (nat_eq (length xs) (length vs)) _
      (λ l. only_if (head.Replace xs) (a ∷ ts) (is_record_at old n) _
      (λ r. only_if (head.Replace xs) (a ∷ ts) (are_distinct xs) _
      (λ d. by (eqb-true (length xs) (length vs) l) (record_there n a p.0 (slice_get forms n) refl (holds_later old forms grows is_record n r)) ((distinct_tells xs).yes d) (all_places old n xs vs) refl)))
    where
      by : length xs ≡ length vs → (ms : List Member) × (a ≡ ty.Rec ms) → AreDistinct xs → (o : Option (List ℕ)) → all_places old n xs vs ≡ o
          → Made (head.Replace xs) (a ∷ ts) (change_outcome n o)
      by l s d (Some places) e =
          let is = subst (IsNumber forms names n) s.1 p.0 in
          subst (λ y. Made (head.Replace xs) (y ∷ ts) (Some (there (operation.Change places) n))) (sym s.1)
          (ty.Rec s.0, typed.replace (all_found n s.0 is xs vs ts l p.1 places e) d, is)
      by l s d None e = tt

  -- ---- all forms

  verdict : (h : Head) → IsSaid forms names h → (ns : List ℕ) (ts : List Ty) → AreNumbers forms names ns ts → Made h ts (applies old h ns)
  verdict (head.ErrorOf n) k ns ts p = v_error n k ns ts p
  verdict (head.Convert c) k ns ts p = v_convert c ns ts p
  verdict head.IsError k ns ts p = v_errs ns ts p
  verdict (head.IsTag x) k ns ts p = v_tag x ns ts p
  verdict (head.Prefix o) k ns ts p = v_prefix o ns ts p
  verdict (head.Binary o) k ns ts p = v_binary o ns ts p
  verdict head.Select k ns ts p = v_select ns ts p
  verdict head.Update k ns ts p = v_update ns ts p
  verdict (head.Field x) k ns ts p = v_field x ns ts p
  verdict (head.Replace xs) k ns ts p = v_replace xs ns ts p
  verdict (head.Array x) k ns ts p = v_array x ns ts p
  verdict (head.EmptyArray x) k ns ts p = v_empty x k ns ts p
  verdict (head.Stream x) k ns ts p = v_stream x k ns ts p
  verdict (head.Record x xs) k ns ts p = v_record x xs k.1 ns ts p
  verdict (head.Union n x) k ns ts p = v_union n x k ns ts p
  verdict (head.BuiltIn b) k ns ts p = v_call b ns ts p

  pub sound : (h : Head) → IsSaid forms names h → (ns : List ℕ) (ts : List Ty) → AreNumbers forms names ns ts → (o : Outcome) → applies old h ns ≡ Some o
      → (t : Ty) × IsForm forms names h ts o.operation t × StandsFor forms names o.sort t
  sound h k ns ts p o e = subst (Verdict forms names h ts) e (verdict h k ns ts p)
