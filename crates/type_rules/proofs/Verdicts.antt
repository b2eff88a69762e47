-- Forms of basic types, arrays and streams, and calls that are built in: what they make by number they make by type.
use Rattle.std.proofs.Common.{◌≡◌, ℕ, suc, zero, ◌<◌, Bool, true, false, ◌&&◌, nat_eq, List, [], ◌∷◌, length, All, Option, Some, None, slice_get, refl, sym, ap, subst, ◌∙◌, arith, get_or}
use Rattle.std.specs.Option.{is_some, option_map}
use Rattle.std.specs.Prelude.{if◌then◌else◌}
use Rattle.std.proofs.lemmas.Bool.{eqb-true, eq-eqb}
use Rattle.std.proofs.lemmas.Option.{slice_get-get_or, same_Some}
use Rattle.std.proofs.lemmas.List.Elements.{All-cons, All-nil, All-head, All-tail}
use Rattle.flow_value.specs.declared.ty.Ty.{Ty}
use Rattle.flow_value.specs.declared.ty.Ty.TheVariants as ty
use Rattle.sisal_tree.specs.declared.expr.Scalar.{Scalar}
use Rattle.sisal_tree.specs.declared.expr.Scalar.TheVariants as scalar
use Rattle.sisal_tree.specs.declared.expr.PrefixOperator.{PrefixOperator}
use Rattle.sisal_tree.specs.declared.expr.PrefixOperator.TheVariants as sign
use Rattle.sisal_tree.specs.declared.expr.BinaryOperator.{BinaryOperator}
use Rattle.sisal_tree.specs.declared.expr.BinaryOperator.TheVariants as operator
use Rattle.value_ops.specs.declared.operation.Operation.{Operation}
use Rattle.value_ops.specs.declared.operation.Operation.TheVariants as operation
use Rattle.type_table.specs.declared.form.Form.{Form}
use Rattle.type_table.specs.declared.form.Form.TheVariants as form
use Rattle.typed_tree.specs.declared.built_in.BuiltIn.{BuiltIn}
use Rattle.typed_tree.specs.Types.{IsNumber, array, stream, AreNumbers, scalar_type, IsConverted, prefix_type, AreOperands, binary_type, Gives}
use Rattle.typed_tree.specs.Operations.{prefix_operation, binary_operation, built_in_operation}
use Rattle.type_rules.specs.declared.head.Head.{Head}
use Rattle.type_rules.specs.declared.head.Head.TheVariants as head
use Rattle.type_rules.specs.declared.head.Sort.{Sort}
use Rattle.type_rules.specs.declared.head.Sort.TheVariants as sort
use Rattle.type_rules.specs.declared.head.Outcome.{Outcome}
use Rattle.type_rules.specs.declared.head.Container.{Container}
use Rattle.type_rules.specs.declared.head.Container.TheVariants as container
use Rattle.type_rules.specs.Parts.{array_part, stream_part, part_if, array_at, element_in, form_in, is_part, there, outcome_of, sort_if}
use Rattle.type_rules.specs.Scalars.{error_of, errs, scalar_number, is_converted, converts, prefix_number, prefixed, are_operands, binary_number, combines}
use Rattle.type_rules.specs.Calls.{gives_of, called}
use Rattle.type_rules.specs.Sequences.{selects, updates, all_are, named_sort, empty_sort, arrays, empties, streams}
use Rattle.type_rules.specs.Typed as typed
use Rattle.type_rules.specs.Typed.{IsForm, IsNamedBy, IsKnown}
use Rattle.type_rules.proofs.Standing.{one_number, one_type}
use Rattle.type_rules.proofs.Grown.{boolean_is, character_is, integer_is}
use Rattle.type_rules.proofs.Sorted.{StandsFor}
use Rattle.type_rules.proofs.Telling.{Tells, operands_tell, converted_tells, prefixed_tells, integer_tells, array_is, array_has}
use Rattle.type_rules.proofs.Calling.{made, element_is, element_has, call_gives, call_given}

-- what a form makes by number it makes by type, and where it makes nothing it is not typed
abbrev pub Verdict : List Form → List (List ℕ) → Head → List Ty → Option Outcome → Type 0
Verdict forms names h ts None = (o : Operation) (t : Ty) → IsForm forms names h ts o t → ⊥
Verdict forms names h ts (Some o) = (t : Ty) × IsForm forms names h ts o.operation t × StandsFor forms names o.sort t

pub some_none : {A : Type 0} (x : A) (o : Option A) → o ≡ Some x → o ≡ None → ⊥
some_none x (Some y) e f = cc
some_none x None e f = cc

pub both_truths : (b : Bool) → b ≡ true → b ≡ false → ⊥
both_truths true e f = cc
both_truths false e f = cc

pub as_many : (forms : List Form) (names : List (List ℕ)) (ns : List ℕ) (ts : List Ty) → AreNumbers forms names ns ts → length ns ≡ length ts
as_many forms names [] [] p = refl
as_many forms names [] (t ∷ ts) p = absurd p
as_many forms names (n ∷ ns) [] p = absurd p
as_many forms names (n ∷ ns) (t ∷ ts) p = ap suc (as_many forms names ns ts p.1)

-- ---- what the rules want of each form

module _ (forms : List Form) (names : List (List ℕ)) where
  abbrev pub Says : Head → List Ty → Type 0 → Type 0
  Says h ts P = (o : Operation) (t : Ty) → IsForm forms names h ts o t → P

  error_wants : {n : ℕ} {ts : List Ty} → Says (head.ErrorOf n) ts (length ts ≡ 0)
  error_wants _ _ (typed.error_of p) = refl

  errs_wants : {ts : List Ty} → Says head.IsError ts (length ts ≡ 1)
  errs_wants _ _ typed.is_error = refl

  convert_long : {c : Scalar} {ts : List Ty} → Says (head.Convert c) ts (length ts ≡ 1)
  convert_long _ _ (typed.convert p) = refl

  convert_wants : {c : Scalar} {a : Ty} → Says (head.Convert c) (a ∷ []) (IsConverted c a)
  convert_wants _ _ (typed.convert p) = p

  prefix_long : {o : PrefixOperator} {ts : List Ty} → Says (head.Prefix o) ts (length ts ≡ 1)
  prefix_long _ _ typed.prefix = refl

  prefix_wants : {o : PrefixOperator} {a : Ty} → Says (head.Prefix o) (a ∷ []) (a ≡ prefix_type o)
  prefix_wants _ _ typed.prefix = refl

  binary_long : {o : BinaryOperator} {ts : List Ty} → Says (head.Binary o) ts (length ts ≡ 2)
  binary_long _ _ (typed.binary p) = refl

  binary_wants : {o : BinaryOperator} {a b : Ty} → Says (head.Binary o) (a ∷ b ∷ []) ((a ≡ b) × AreOperands o a)
  binary_wants _ _ (typed.binary p) = (refl, p)

  select_long : {ts : List Ty} → Says head.Select ts (length ts ≡ 2)
  select_long _ _ (typed.select a) = refl

  select_wants : {a b : Ty} → Says head.Select (a ∷ b ∷ []) ((e : Ty) × (a ≡ ty.Arr e) × (b ≡ ty.Int))
  select_wants _ _ (typed.select e) = (e, refl, refl)

  update_long : {ts : List Ty} → Says head.Update ts (length ts ≡ 3)
  update_long _ _ (typed.update a) = refl

  update_wants : {a b v : Ty} → Says head.Update (a ∷ b ∷ v ∷ []) ((a ≡ ty.Arr v) × (b ≡ ty.Int))
  update_wants _ _ (typed.update e) = (refl, refl)

  empty_long : {named : Option ℕ} {ts : List Ty} → Says (head.EmptyArray named) ts (length ts ≡ 0)
  empty_long _ _ (typed.empty_array a p) = refl

  empty_wants : {named : Option ℕ} {ts : List Ty} → Says (head.EmptyArray named) ts ((n : ℕ) × (e : Ty) × (named ≡ Some n) × IsNumber forms names n (ty.Arr e))
  empty_wants _ _ (typed.empty_array {n = n} e p) = (n, e, refl, p)

  array_long : {named : Option ℕ} {ts : List Ty} → Says (head.Array named) ts ((k : ℕ) × (length ts ≡ suc (suc k)))
  array_long _ _ (typed.array {tys = tys} p q) = (length tys, refl)

  array_wants : {named : Option ℕ} {l a : Ty} {tys : List Ty} → Says (head.Array named) (l ∷ a ∷ tys) ((l ≡ ty.Int) × All (λ b. b ≡ a) tys × IsNamedBy forms names named (ty.Arr a))
  array_wants _ _ (typed.array p q) = (refl, p, q)

  streams_want_name : {named : Option ℕ} → Says (head.Stream named) [] ((n : ℕ) × (e : Ty) × (named ≡ Some n) × IsNumber forms names n (ty.Stream e))
  streams_want_name _ _ (typed.empty_stream {n = n} e p) = (n, e, refl, p)

  streams_want : {named : Option ℕ} {a : Ty} {tys : List Ty} → Says (head.Stream named) (a ∷ tys) (All (λ b. b ≡ a) tys × IsNamedBy forms names named (ty.Stream a))
  streams_want _ _ (typed.stream p q) = (p, q)

  built_in_wants : {b : BuiltIn} {ts : List Ty} (o : Operation) (t : Ty) → IsForm forms names (head.BuiltIn b) ts o t → Gives b ts t
  built_in_wants _ _ (typed.built_in p) = p

-- ---- forms

module _ (forms : List Form) (names : List (List ℕ)) (known : IsKnown forms names) where
  abbrev pub Made : Head → List Ty → Option Outcome → Type 0
  Made h ts o = Verdict forms names h ts o

  pub either : (h : Head) (ts : List Ty) (b : Bool) (x y : Option Outcome) → (b ≡ true → Made h ts x) → (b ≡ false → Made h ts y) → Made h ts (if b then x else y)
  either h ts true x y f g = f refl
  either h ts false x y f g = g refl

  pub unless_told : {h : Head} {ts : List Ty} {P : Type 0} (b : Bool) → Tells b P → Says forms names h ts P → b ≡ false → Made h ts None
  unless_told b tells wants e = λ o t f. both_truths b (tells.back (wants o t f)) e

  -- operands of another number
  pub off : {h : Head} {ts : List Ty} (ns : List ℕ) (m : ℕ) → AreNumbers forms names ns ts → Says forms names h ts (length ts ≡ m) → (length ns ≡ m → ⊥) → Made h ts None
  off {h} {ts} ns m p wants other = λ o t f. other (as_many forms names ns ts p ∙ wants o t f)

  pub v_error : (n : ℕ) → n < length forms → (ns : List ℕ) (ts : List Ty) → AreNumbers forms names ns ts → Made (head.ErrorOf n) ts (error_of n ns)
  v_error n there [] [] p = let s = known.stands n (get_or forms n form.Null) (slice_get-get_or forms n form.Null there) in (s.0, typed.error_of s.1, s.1)
  v_error n there [] (t ∷ ts) p = absurd p
  v_error n there (a ∷ ns) ts p = off (a ∷ ns) 0 p (error_wants forms names) (λ e. omega (arith, e))

  pub v_errs : (ns : List ℕ) (ts : List Ty) → AreNumbers forms names ns ts → Made head.IsError ts (errs ns)
  v_errs [] ts p = off [] 1 p (errs_wants forms names) (λ e. omega (arith, e))
  v_errs (a ∷ []) [] p = absurd p
  v_errs (a ∷ []) (t ∷ []) p = (ty.Bool, typed.is_error, boolean_is forms names known.table)
  v_errs (a ∷ []) (t ∷ u ∷ ts) p = absurd p.1
  v_errs (a ∷ b ∷ ns) ts p = off (a ∷ b ∷ ns) 1 p (errs_wants forms names) (λ e. omega (arith, e))

  scalar_is : (c : Scalar) → IsNumber forms names (scalar_number c) (scalar_type c)
  scalar_is scalar.Integer = integer_is forms names known.table
  scalar_is scalar.Boolean = boolean_is forms names known.table
  scalar_is scalar.Character = character_is forms names known.table

  pub v_convert : (c : Scalar) (ns : List ℕ) (ts : List Ty) → AreNumbers forms names ns ts → Made (head.Convert c) ts (converts c ns)
  v_convert c [] ts p = off [] 1 p (convert_long forms names) (λ e. omega (arith, e))
  v_convert c (n ∷ []) [] p = absurd p
  v_convert c (n ∷ []) (a ∷ []) p =
      let tells = converted_tells forms names known.table c n a p.0 in
      either (head.Convert c) (a ∷ []) (is_converted c n) _ _ (λ e. (scalar_type c, typed.convert (tells.yes e), scalar_is c)) (unless_told (is_converted c n) tells (convert_wants forms names))
  v_convert c (n ∷ []) (a ∷ b ∷ ts) p = absurd p.1
  v_convert c (n ∷ m ∷ ns) ts p = off (n ∷ m ∷ ns) 1 p (convert_long forms names) (λ e. omega (arith, e))

  prefix_is : (o : PrefixOperator) → IsNumber forms names (prefix_number o) (prefix_type o)
  prefix_is sign.Negate = integer_is forms names known.table
  prefix_is sign.Not = boolean_is forms names known.table

  pub v_prefix : (o : PrefixOperator) (ns : List ℕ) (ts : List Ty) → AreNumbers forms names ns ts → Made (head.Prefix o) ts (prefixed o ns)
  v_prefix o [] ts p = off [] 1 p (prefix_long forms names) (λ e. omega (arith, e))
  v_prefix o (n ∷ []) [] p = absurd p
  v_prefix o (n ∷ []) (a ∷ []) p =
      let tells = prefixed_tells forms names known.table o n a p.0 in
      either (head.Prefix o) (a ∷ []) (nat_eq n (prefix_number o)) _ _
      (λ e. subst (λ x. Made (head.Prefix o) (x ∷ []) (Some (there (prefix_operation o) (prefix_number o)))) (sym (tells.yes e)) (prefix_type o, typed.prefix, prefix_is o))
      (unless_told (nat_eq n (prefix_number o)) tells (prefix_wants forms names))
  v_prefix o (n ∷ []) (a ∷ b ∷ ts) p = absurd p.1
  v_prefix o (n ∷ m ∷ ns) ts p = off (n ∷ m ∷ ns) 1 p (prefix_long forms names) (λ e. omega (arith, e))

  binary_is : (o : BinaryOperator) (n : ℕ) (a : Ty) → IsNumber forms names n a → IsNumber forms names (binary_number o n) (binary_type o a)
  binary_is operator.Catenate n a p = p
  binary_is operator.Plus n a p = integer_is forms names known.table
  binary_is operator.Minus n a p = integer_is forms names known.table
  binary_is operator.Times n a p = integer_is forms names known.table
  binary_is operator.Divide n a p = integer_is forms names known.table
  binary_is operator.Or n a p = boolean_is forms names known.table
  binary_is operator.And n a p = boolean_is forms names known.table
  binary_is operator.Equal n a p = boolean_is forms names known.table
  binary_is operator.NotEqual n a p = boolean_is forms names known.table
  binary_is operator.Less n a p = boolean_is forms names known.table
  binary_is operator.LessEqual n a p = boolean_is forms names known.table
  binary_is operator.Greater n a p = boolean_is forms names known.table
  binary_is operator.GreaterEqual n a p = boolean_is forms names known.table

  -- numbers are equal where the types are
  pub same_tells : (n m : ℕ) (a b : Ty) → IsNumber forms names n a → IsNumber forms names m b → Tells (nat_eq n m) (a ≡ b)
  same_tells n m a b p q = record {
    yes = λ e. one_type forms names n a b p (subst (λ k. IsNumber forms names k b) (sym (eqb-true n m e)) q);
    back = λ e. eq-eqb n m (one_number forms names known.table.well known.spelled n m b (subst (IsNumber forms names n) e p) q);
  }

  pub v_binary : (o : BinaryOperator) (ns : List ℕ) (ts : List Ty) → AreNumbers forms names ns ts → Made (head.Binary o) ts (combines forms o ns)
  v_binary o [] ts p = off [] 2 p (binary_long forms names) (λ e. omega (arith, e))
  v_binary o (n ∷ []) ts p = off (n ∷ []) 2 p (binary_long forms names) (λ e. omega (arith, e))
  v_binary o (n ∷ m ∷ []) [] p = absurd p
  v_binary o (n ∷ m ∷ []) (a ∷ []) p = absurd p.1
  v_binary o (n ∷ m ∷ []) (a ∷ b ∷ []) p =
      let same = same_tells n m a b p.0 p.1.0 in
      let tells = operands_tell forms names known.table o n a p.0 in
      let x = Some (there (binary_operation o) (binary_number o n)) in
      either (head.Binary o) (a ∷ b ∷ []) (nat_eq n m) _ _
      (λ e. either (head.Binary o) (a ∷ b ∷ []) (are_operands forms o n) _ _
      (λ g. subst (λ c. Made (head.Binary o) (a ∷ c ∷ []) x) (same.yes e) (binary_type o a, typed.binary (tells.yes g), binary_is o n a p.0))
      (unless_told (are_operands forms o n) tells (λ o t f. (binary_wants forms names o t f).1)))
      (unless_told (nat_eq n m) same (λ o t f. (binary_wants forms names o t f).0))
  v_binary o (n ∷ m ∷ []) (a ∷ b ∷ c ∷ ts) p = absurd p.1.1
  v_binary o (n ∷ m ∷ k ∷ ns) ts p = off (n ∷ m ∷ k ∷ ns) 2 p (binary_long forms names) (λ e. omega (arith, e))

  -- ---- arrays and streams

  int_tells : (n : ℕ) (a : Ty) → IsNumber forms names n a → Tells (nat_eq n 2) (a ≡ ty.Int)
  int_tells n a p = integer_tells forms names known.table n a p

  pub v_select : (ns : List ℕ) (ts : List Ty) → AreNumbers forms names ns ts → Made head.Select ts (selects forms ns)
  v_select [] ts p = off [] 2 p (select_long forms names) (λ e. omega (arith, e))
  v_select (n ∷ []) ts p = off (n ∷ []) 2 p (select_long forms names) (λ e. omega (arith, e))
  v_select (n ∷ i ∷ []) [] p = absurd p
  v_select (n ∷ i ∷ []) (a ∷ []) p = absurd p.1
  v_select (n ∷ i ∷ []) (a ∷ b ∷ []) p =
      let tells = int_tells i b p.1.0 in
      either head.Select (a ∷ b ∷ []) (nat_eq i 2) _ _
      (λ e. by (array_at forms n) refl (tells.yes e))
      (unless_told (nat_eq i 2) tells (λ o t f. (select_wants forms names o t f).2))
    where
      by : (m : Option ℕ) → array_at forms n ≡ m → b ≡ ty.Int → Made head.Select (a ∷ b ∷ []) (option_map (there operation.Element) m)
      by (Some m) h e =
          let s = array_is forms names known.table n a p.0 m h in
          subst (λ x. Made head.Select (x ∷ b ∷ []) (Some (there operation.Element m))) (sym s.is)
          (subst (λ y. Made head.Select (ty.Arr s.part ∷ y ∷ []) (Some (there operation.Element m))) (sym e) (s.part, typed.select s.part, s.stands))
      by None h e = λ o t f.
          let w = select_wants forms names o t f in
          let q = array_has forms names known.table n w.0 (subst (IsNumber forms names n) w.1 p.0) in
          some_none q.0 (array_at forms n) q.1 h
  v_select (n ∷ i ∷ []) (a ∷ b ∷ c ∷ ts) p = absurd p.1.1
  v_select (n ∷ i ∷ k ∷ ns) ts p = off (n ∷ i ∷ k ∷ ns) 2 p (select_long forms names) (λ e. omega (arith, e))

  -- a container has elements of a type
  part_tells : (c : Container) (n v : ℕ) (a b : Ty) → IsNumber forms names n a → IsNumber forms names v b → Tells (is_part (element_in forms c n) v) (a ≡ made c b)
  part_tells c n v a b p q = record { yes = yes (element_in forms c n) refl; back = back }
    where
      yes : (m : Option ℕ) → element_in forms c n ≡ m → is_part m v ≡ true → a ≡ made c b
      yes (Some m) h e =
          let s = element_is forms names known.table known.spelled c n a p m h in
          s.is ∙ ap (made c) ((same_tells m v s.part b s.stands q).yes e)
      yes None h e = absurd cc

      back : a ≡ made c b → is_part (element_in forms c n) v ≡ true
      back e =
          let s = element_has forms names known.table known.spelled c n b (subst (IsNumber forms names n) e p) in
          ap (λ m. is_part m v) s.1 ∙ (same_tells s.0 v b b s.2 q).back refl

  pub v_update : (ns : List ℕ) (ts : List Ty) → AreNumbers forms names ns ts → Made head.Update ts (updates forms ns)
  v_update [] ts p = off [] 3 p (update_long forms names) (λ e. omega (arith, e))
  v_update (n ∷ []) ts p = off (n ∷ []) 3 p (update_long forms names) (λ e. omega (arith, e))
  v_update (n ∷ i ∷ []) ts p = off (n ∷ i ∷ []) 3 p (update_long forms names) (λ e. omega (arith, e))
  v_update (n ∷ i ∷ v ∷ []) [] p = absurd p
  v_update (n ∷ i ∷ v ∷ []) (a ∷ []) p = absurd p.1
  v_update (n ∷ i ∷ v ∷ []) (a ∷ b ∷ []) p = absurd p.1.1
  v_update (n ∷ i ∷ v ∷ []) (a ∷ b ∷ c ∷ []) p =
      let tells = int_tells i b p.1.0 in
      let parts = part_tells container.Array n v a c p.0 p.1.1.0 in
      either head.Update (a ∷ b ∷ c ∷ []) (nat_eq i 2) _ _
      (λ e. either head.Update (a ∷ b ∷ c ∷ []) (is_part (array_at forms n) v) _ _
      (λ g. subst (λ x. Made head.Update (x ∷ b ∷ c ∷ []) (Some (there operation.Update n))) (sym (parts.yes g))
      (subst (λ y. Made head.Update (ty.Arr c ∷ y ∷ c ∷ []) (Some (there operation.Update n))) (sym (tells.yes e))
      (ty.Arr c, typed.update c, subst (IsNumber forms names n) (parts.yes g) p.0)))
      (unless_told (is_part (array_at forms n) v) parts (λ o t f. (update_wants forms names o t f).0)))
      (unless_told (nat_eq i 2) tells (λ o t f. (update_wants forms names o t f).1))
  v_update (n ∷ i ∷ v ∷ []) (a ∷ b ∷ c ∷ d ∷ ts) p = absurd p.1.1.1
  v_update (n ∷ i ∷ v ∷ k ∷ ns) ts p = off (n ∷ i ∷ v ∷ k ∷ ns) 3 p (update_long forms names) (λ e. omega (arith, e))

  all_tell : (n : ℕ) (a : Ty) → IsNumber forms names n a → (ns : List ℕ) (ts : List Ty) → AreNumbers forms names ns ts → Tells (all_are n ns) (All (λ b. b ≡ a) ts)
  all_tell n a q [] [] p = record { yes = λ e. All-nil (λ b. b ≡ a); back = λ h. refl }
  all_tell n a q [] (t ∷ ts) p = absurd p
  all_tell n a q (m ∷ ns) [] p = absurd p
  all_tell n a q (m ∷ ns) (b ∷ ts) p =
      let one = same_tells m n b a p.0 q in
      let rest = all_tell n a q ns ts p.1 in
      by (nat_eq m n) one (all_are n ns) rest
    where
      by : (x : Bool) → Tells x (b ≡ a) → (y : Bool) → Tells y (All (λ b. b ≡ a) ts) → Tells (x && y) (All (λ b. b ≡ a) (b ∷ ts))
      by true one y rest = record {
        yes = λ e. All-cons (λ b. b ≡ a) b ts (one.yes refl) (rest.yes e);
        back = λ h. rest.back (All-tail (λ b. b ≡ a) b ts h);
      }
      by false one y rest = record { yes = λ e. absurd cc; back = λ h. one.back (All-head (λ b. b ≡ a) b ts h) }

  container_made : (c : Container) (n : ℕ) (a : Ty) → IsNumber forms names n a → StandsFor forms names (sort.Made (form_in c n)) (made c a)
  container_made container.Array n a p = record { part = a; is = refl; stands = p }
  container_made container.Stream n a p = record { part = a; is = refl; stands = p }

  -- a type that is a container by number is one by type
  is_array : (k n : ℕ) (a : Ty) → IsNumber forms names n a → (o : Option Form) → slice_get forms k ≡ o → is_part (part_if array_part o) n ≡ true → IsNumber forms names k (ty.Arr a)
  is_array k n a p (Some (form.Array m)) h e = array h (subst (λ j. IsNumber forms names j a) (sym (eqb-true m n e)) p)
  is_array k n a p None h e = absurd cc
  is_array k n a p (Some form.Boolean) h e = absurd cc
  is_array k n a p (Some form.Character) h e = absurd cc
  is_array k n a p (Some form.Integer) h e = absurd cc
  is_array k n a p (Some form.Null) h e = absurd cc
  is_array k n a p (Some (form.Stream m)) h e = absurd cc
  is_array k n a p (Some (form.Record ms)) h e = absurd cc
  is_array k n a p (Some (form.Union ms)) h e = absurd cc

  is_stream : (k n : ℕ) (a : Ty) → IsNumber forms names n a → (o : Option Form) → slice_get forms k ≡ o → is_part (part_if stream_part o) n ≡ true → IsNumber forms names k (ty.Stream a)
  is_stream k n a p (Some (form.Stream m)) h e = stream h (subst (λ j. IsNumber forms names j a) (sym (eqb-true m n e)) p)
  is_stream k n a p None h e = absurd cc
  is_stream k n a p (Some form.Boolean) h e = absurd cc
  is_stream k n a p (Some form.Character) h e = absurd cc
  is_stream k n a p (Some form.Integer) h e = absurd cc
  is_stream k n a p (Some form.Null) h e = absurd cc
  is_stream k n a p (Some (form.Array m)) h e = absurd cc
  is_stream k n a p (Some (form.Record ms)) h e = absurd cc
  is_stream k n a p (Some (form.Union ms)) h e = absurd cc

  is_container : (c : Container) (k n : ℕ) (a : Ty) → IsNumber forms names n a → is_part (element_in forms c k) n ≡ true → IsNumber forms names k (made c a)
  is_container container.Array k n a p e = is_array k n a p (slice_get forms k) refl e
  is_container container.Stream k n a p e = is_stream k n a p (slice_get forms k) refl e

  -- each number in the table is of some type
  pub some_type : (k : ℕ) (o : Option Form) → slice_get forms k ≡ o → is_some o ≡ true → (t : Ty) × IsNumber forms names k t
  some_type k (Some f) h e = known.stands k f h
  some_type k None h e = absurd cc

  part_there : (part : Form → Option ℕ) (o : Option Form) (m : ℕ) → part_if part o ≡ Some m → is_some o ≡ true
  part_there part (Some f) m e = refl
  part_there part None m e = absurd cc

  container_at : (c : Container) (k m : ℕ) → element_in forms c k ≡ Some m → (a : Ty) × IsNumber forms names k (made c a)
  container_at container.Array k m e =
      let q = some_type k (slice_get forms k) refl (part_there array_part (slice_get forms k) m e) in
      let s = element_is forms names known.table known.spelled container.Array k q.0 q.1 m e in
      (s.part, subst (IsNumber forms names k) s.is q.1)
  container_at container.Stream k m e =
      let q = some_type k (slice_get forms k) refl (part_there stream_part (slice_get forms k) m e) in
      let s = element_is forms names known.table known.spelled container.Stream k q.0 q.1 m e in
      (s.part, subst (IsNumber forms names k) s.is q.1)

  -- the container of elements of a type, by the type that is named
  named : (h : Head) (ts : List Ty) (op : Operation) (c : Container) (x : Option ℕ) (n : ℕ) (a : Ty) → IsNumber forms names n a
      → (IsNamedBy forms names x (made c a) → IsForm forms names h ts op (made c a)) → Says forms names h ts (IsNamedBy forms names x (made c a))
      → Made h ts (outcome_of op (named_sort forms c x n))
  named h ts op c None n a p makes wants = (made c a, makes tt, container_made c n a p)
  named h ts op c (Some k) n a p makes wants = by (is_part (element_in forms c k) n) refl
    where
      by : (b : Bool) → is_part (element_in forms c k) n ≡ b → Made h ts (outcome_of op (sort_if b k))
      by true g = let is = is_container c k n a p g in (made c a, makes is, is)
      by false g = λ o t f.
          let q = element_has forms names known.table known.spelled c k a (wants o t f) in
          both_truths (is_part (element_in forms c k) n) (ap (λ m. is_part m n) q.1 ∙ (same_tells q.0 n a a q.2 p).back refl) g

  pub v_array : (x : Option ℕ) (ns : List ℕ) (ts : List Ty) → AreNumbers forms names ns ts → Made (head.Array x) ts (arrays forms x ns)
  v_array x [] ts p = λ o t f. let k = array_long forms names o t f in let e : zero ≡ suc (suc k.0) = as_many forms names [] ts p ∙ k.1 in omega (arith, e)
  v_array x (l ∷ []) ts p = λ o t f. let k = array_long forms names o t f in let e : suc zero ≡ suc (suc k.0) = as_many forms names (l ∷ []) ts p ∙ k.1 in omega (arith, e)
  v_array x (l ∷ n ∷ ns) [] p = absurd p
  v_array x (l ∷ n ∷ ns) (b ∷ []) p = absurd p.1
  v_array x (l ∷ n ∷ ns) (b ∷ a ∷ ts) p =
      let tells = int_tells l b p.0 in
      let all = all_tell n a p.1.0 ns ts p.1.1 in
      either (head.Array x) (b ∷ a ∷ ts) (nat_eq l 2) _ _
      (λ e. either (head.Array x) (b ∷ a ∷ ts) (all_are n ns) _ _
      (λ g. named (head.Array x) (b ∷ a ∷ ts) operation.Array container.Array x n a p.1.0
      (λ q. subst (λ y. IsForm forms names (head.Array x) (y ∷ a ∷ ts) operation.Array (ty.Arr a)) (sym (tells.yes e)) (typed.array (all.yes g) q))
      (λ o t f. (array_wants forms names o t f).2))
      (unless_told (all_are n ns) all (λ o t f. (array_wants forms names o t f).1)))
      (unless_told (nat_eq l 2) tells (λ o t f. (array_wants forms names o t f).0))

  -- a container without elements, by the type that is named
  nothing_named : (h : Head) (ts : List Ty) (op : Operation) (c : Container) (x : Option ℕ)
      → ((n : ℕ) (e : Ty) → x ≡ Some n → IsNumber forms names n (made c e) → IsForm forms names h ts op (made c e))
      → Says forms names h ts ((n : ℕ) × (e : Ty) × (x ≡ Some n) × IsNumber forms names n (made c e)) → Made h ts (outcome_of op (empty_sort forms c x))
  nothing_named h ts op c None makes wants = λ o t f. let w = wants o t f in some_none w.0 None w.2 refl
  nothing_named h ts op c (Some k) makes wants = by (element_in forms c k) refl
    where
      by : (m : Option ℕ) → element_in forms c k ≡ m → Made h ts (outcome_of op (sort_if (is_some m) k))
      by (Some m) e = let q = container_at c k m e in (made c q.0, makes k q.0 refl q.1, q.1)
      by None e = λ o t f.
          let w = wants o t f in
          let same : k ≡ w.0 = same_Some k w.0 w.2 in
          let q = element_has forms names known.table known.spelled c k w.1 (subst (λ j. IsNumber forms names j (made c w.1)) (sym same) w.3) in
          some_none q.0 (element_in forms c k) q.1 e

  pub v_empty : (x : Option ℕ) (ns : List ℕ) (ts : List Ty) → AreNumbers forms names ns ts → Made (head.EmptyArray x) ts (empties forms x ns)
  v_empty x [] [] p = nothing_named (head.EmptyArray x) [] operation.EmptyArray container.Array x
      (λ n e same q. subst (λ y. IsForm forms names (head.EmptyArray y) [] operation.EmptyArray (ty.Arr e)) (sym same) (typed.empty_array e q))
      (empty_wants forms names)
  v_empty x [] (t ∷ ts) p = absurd p
  v_empty x (n ∷ ns) ts p = off (n ∷ ns) 0 p (empty_long forms names) (λ e. omega (arith, e))

  pub v_stream : (x : Option ℕ) (ns : List ℕ) (ts : List Ty) → AreNumbers forms names ns ts → Made (head.Stream x) ts (streams forms x ns)
  v_stream x [] [] p = nothing_named (head.Stream x) [] operation.Stream container.Stream x
      (λ n e same q. subst (λ y. IsForm forms names (head.Stream y) [] operation.Stream (ty.Stream e)) (sym same) (typed.empty_stream e q))
      (streams_want_name forms names)
  v_stream x [] (t ∷ ts) p = absurd p
  v_stream x (n ∷ ns) [] p = absurd p
  v_stream x (n ∷ ns) (a ∷ ts) p =
      let all = all_tell n a p.0 ns ts p.1 in
      either (head.Stream x) (a ∷ ts) (all_are n ns) _ _
      (λ g. named (head.Stream x) (a ∷ ts) operation.Stream container.Stream x n a p.0 (λ q. typed.stream (all.yes g) q) (λ o t f. (streams_want forms names o t f).1))
      (unless_told (all_are n ns) all (λ o t f. (streams_want forms names o t f).0))

  -- ---- calls that are built in

  pub v_call : (b : BuiltIn) (ns : List ℕ) (ts : List Ty) → AreNumbers forms names ns ts → Made (head.BuiltIn b) ts (called forms b ns)
  v_call b ns ts p = by (gives_of forms b ns) refl
    where
      by : (s : Option Sort) → gives_of forms b ns ≡ s → Made (head.BuiltIn b) ts (outcome_of (built_in_operation b) s)
      by (Some s) e = let q = call_gives forms names known.table known.spelled b ns ts s p e in (q.0, typed.built_in q.1, q.2)
      by None e = λ o t f.
          let q = call_given forms names known.table known.spelled b ns ts t p (built_in_wants forms names o t f) in
          some_none q.0 (gives_of forms b ns) q.1 e
