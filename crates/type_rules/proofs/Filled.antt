-- What forms over operands make has a member, where a record has a field.
use Rattle.std.proofs.Common.{◌≡◌, ◌<◌, ◌≤◌, ◌^◌, ℕ, suc, All, Bool, true, false, ◌&&◌, nat_eq, List, [], ◌∷◌, length, Option, Some, None, refl, ap, subst, arith}
use Rattle.std.specs.Option.{is_some, option_map}
use Rattle.std.specs.Prelude.{if◌then◌else◌}
use Rattle.std.proofs.lemmas.Bool.{eqb-true}
use Rattle.sisal_tree.specs.declared.expr.Scalar.{Scalar}
use Rattle.sisal_tree.specs.declared.expr.PrefixOperator.{PrefixOperator}
use Rattle.sisal_tree.specs.declared.expr.BinaryOperator.{BinaryOperator}
use Rattle.value_ops.specs.declared.operation.Operation.{Operation}
use Rattle.value_ops.specs.declared.operation.Operation.TheVariants as operation
use Rattle.type_table.specs.declared.form.Form.{Form}
use Rattle.type_table.specs.declared.form.Form.TheVariants as form
use Rattle.type_table.specs.Tables.{HasFew, HasMember}
use Rattle.typed_tree.specs.declared.built_in.BuiltIn.{BuiltIn}
use Rattle.typed_tree.specs.declared.built_in.BuiltIn.TheVariants as call
use Rattle.typed_tree.specs.Operations.{prefix_operation, binary_operation, convert_operation, built_in_operation}
use Rattle.type_rules.specs.declared.head.Head.{Head}
use Rattle.type_rules.specs.declared.head.Head.TheVariants as head
use Rattle.type_rules.specs.declared.head.Sort.{Sort}
use Rattle.type_rules.specs.declared.head.Sort.TheVariants as sort
use Rattle.type_rules.specs.declared.head.Outcome.{Outcome}
use Rattle.type_rules.specs.declared.head.Container.{Container}
use Rattle.type_rules.specs.declared.head.Container.TheVariants as container
use Rattle.type_rules.specs.Parts.{array_at, element_in, field_at, form_in, is_part, is_record_at, outcome_of, sort_if, tag_at, there}
use Rattle.type_rules.specs.Scalars.{are_operands, binary_number, combines, converts, error_of, errs, is_converted, prefix_number, prefixed, scalar_number}
use Rattle.type_rules.specs.Calls.{integer_pair, integer, filled, grown, shrunk, based, adjusted, measured, firsts, gives_of}
use Rattle.type_rules.specs.Sequences.{all_are, arrays, empties, empty_sort, named_sort, selects, streams, updates}
use Rattle.type_rules.specs.Records.{all_places, are_distinct, are_fields_at, change_outcome, field_outcome, fields, paired, record_sort, records, replaces, test_outcome, tests, union_outcome, unites}
use Rattle.type_rules.specs.Applies.{applies, HasField, IsFilled}
use Rattle.type_rules.specs.declared.folds.Folded.{Folded}
use Rattle.loop_folds.specs.declared.folding.Folding.{Folding}
use Rattle.loop_folds.specs.declared.folding.Folding.TheVariants as folding
use Rattle.sisal_tree.specs.declared.expr.ClauseKind.{ClauseKind}
use Rattle.sisal_tree.specs.declared.expr.ClauseKind.TheVariants as made
use Rattle.type_rules.specs.Folds.{kept, makes_of, reduced}
use Rattle.type_rules.proofs.Few.{names_few}

abbrev Filled : Option Outcome → Type 0
Filled None = Unit {0}
Filled (Some o) = IsFilled o.sort

abbrev FilledSort : Option Sort → Type 0
FilledSort None = Unit {0}
FilledSort (Some s) = IsFilled s

-- ---- outcomes and types where a test holds

if_filled : (b : Bool) (o : Option Outcome) → Filled o → Filled (if b then o else None)
if_filled true o h = h
if_filled false o h = tt

if_filled_by : (b : Bool) (o : Option Outcome) → (b ≡ true → Filled o) → Filled (if b then o else None)
if_filled_by true o h = h refl
if_filled_by false o h = tt

of_filled : (op : Operation) (s : Option Sort) → FilledSort s → Filled (outcome_of op s)
of_filled op None h = tt
of_filled op (Some s) h = h

there_filled : (b : Bool) (n : ℕ) → FilledSort (sort_if b n)
there_filled true n = tt
there_filled false n = tt

mapped_filled : (o : Option ℕ) → Filled (option_map (there operation.Element) o)
mapped_filled None = tt
mapped_filled (Some n) = tt

-- ---- scalars

error_filled : (n : ℕ) (ns : List ℕ) → Filled (error_of n ns)
error_filled n [] = tt
error_filled n (a ∷ ns) = tt

errs_filled : (ns : List ℕ) → Filled (errs ns)
errs_filled [] = tt
errs_filled (a ∷ []) = tt
errs_filled (a ∷ b ∷ ns) = tt

converts_filled : (to : Scalar) (ns : List ℕ) → Filled (converts to ns)
converts_filled to [] = tt
converts_filled to (a ∷ []) = if_filled (is_converted to a) (Some (there (convert_operation to) (scalar_number to))) tt
converts_filled to (a ∷ b ∷ ns) = tt

prefixed_filled : (o : PrefixOperator) (ns : List ℕ) → Filled (prefixed o ns)
prefixed_filled o [] = tt
prefixed_filled o (a ∷ []) = if_filled (nat_eq a (prefix_number o)) (Some (there (prefix_operation o) (prefix_number o))) tt
prefixed_filled o (a ∷ b ∷ ns) = tt

combines_filled : (forms : List Form) (o : BinaryOperator) (ns : List ℕ) → Filled (combines forms o ns)
combines_filled forms o [] = tt
combines_filled forms o (a ∷ []) = tt
combines_filled forms o (a ∷ b ∷ []) =
    let there_is : Outcome = there (binary_operation o) (binary_number o a) in
    if_filled (nat_eq a b) (if are_operands forms o a then Some there_is else None) (if_filled (are_operands forms o a) (Some there_is) tt)
combines_filled forms o (a ∷ b ∷ c ∷ ns) = tt

-- ---- arrays and streams

selects_filled : (forms : List Form) (ns : List ℕ) → Filled (selects forms ns)
selects_filled forms [] = tt
selects_filled forms (a ∷ []) = tt
selects_filled forms (a ∷ i ∷ []) = if_filled (nat_eq i 2) (option_map (there operation.Element) (array_at forms a)) (mapped_filled (array_at forms a))
selects_filled forms (a ∷ i ∷ c ∷ ns) = tt

updates_filled : (forms : List Form) (ns : List ℕ) → Filled (updates forms ns)
updates_filled forms [] = tt
updates_filled forms (a ∷ []) = tt
updates_filled forms (a ∷ i ∷ []) = tt
updates_filled forms (a ∷ i ∷ v ∷ []) =
    let there_is : Outcome = there operation.Update a in
    if_filled (nat_eq i 2) (if is_part (array_at forms a) v then Some there_is else None) (if_filled (is_part (array_at forms a) v) (Some there_is) tt)
updates_filled forms (a ∷ i ∷ v ∷ d ∷ ns) = tt

formed : (c : Container) (e : ℕ) → HasMember (form_in c e) × HasFew (form_in c e)
formed container.Array e = (tt, omega arith)
formed container.Stream e = (tt, omega arith)

named_filled : (forms : List Form) (c : Container) (named : Option ℕ) (e : ℕ) → FilledSort (named_sort forms c named e)
named_filled forms c None e = formed c e
named_filled forms c (Some n) e = there_filled (is_part (element_in forms c n) e) n

empty_filled : (forms : List Form) (c : Container) (named : Option ℕ) → FilledSort (empty_sort forms c named)
empty_filled forms c None = tt
empty_filled forms c (Some n) = there_filled (is_some (element_in forms c n)) n

arrays_filled : (forms : List Form) (named : Option ℕ) (ns : List ℕ) → Filled (arrays forms named ns)
arrays_filled forms named [] = tt
arrays_filled forms named (low ∷ []) = tt
arrays_filled forms named (low ∷ e ∷ es) =
    let s : Option Sort = named_sort forms container.Array named e in
    let one : Option Outcome = outcome_of operation.Array s in
    if_filled (nat_eq low 2) (if all_are e es then one else None) (if_filled (all_are e es) one (of_filled operation.Array s (named_filled forms container.Array named e)))

empties_filled : (forms : List Form) (named : Option ℕ) (ns : List ℕ) → Filled (empties forms named ns)
empties_filled forms named [] = of_filled operation.EmptyArray (empty_sort forms container.Array named) (empty_filled forms container.Array named)
empties_filled forms named (a ∷ ns) = tt

streams_filled : (forms : List Form) (named : Option ℕ) (ns : List ℕ) → Filled (streams forms named ns)
streams_filled forms named [] = of_filled operation.Stream (empty_sort forms container.Stream named) (empty_filled forms container.Stream named)
streams_filled forms named (e ∷ es) =
    let s : Option Sort = named_sort forms container.Stream named e in
    if_filled (all_are e es) (outcome_of operation.Stream s) (of_filled operation.Stream s (named_filled forms container.Stream named e))

-- ---- records and unions

fields_filled : (forms : List Form) (x : ℕ) (ns : List ℕ) → Filled (fields forms x ns)
fields_filled forms x [] = tt
fields_filled forms x (r ∷ []) = by (field_at forms r x)
  where
    by : (o : Option (ℕ × ℕ)) → Filled (field_outcome o)
    by None = tt
    by (Some m) = tt
fields_filled forms x (r ∷ s ∷ ns) = tt

unites_filled : (forms : List Form) (n x : ℕ) (ns : List ℕ) → Filled (unites forms n x ns)
unites_filled forms n x [] = tt
unites_filled forms n x (v ∷ []) = by (tag_at forms n x)
  where
    by : (o : Option (ℕ × ℕ)) → Filled (union_outcome n v o)
    by None = tt
    by (Some m) = if_filled (nat_eq m.1 v) (Some (there (operation.Union m.0) n)) tt
unites_filled forms n x (v ∷ w ∷ ns) = tt

tests_filled : (forms : List Form) (x : ℕ) (ns : List ℕ) → Filled (tests forms x ns)
tests_filled forms x [] = tt
tests_filled forms x (u ∷ []) = by (tag_at forms u x)
  where
    by : (o : Option (ℕ × ℕ)) → Filled (test_outcome o)
    by None = tt
    by (Some m) = tt
tests_filled forms x (u ∷ v ∷ ns) = tt

replaces_filled : (forms : List Form) (xs ns : List ℕ) → Filled (replaces forms xs ns)
replaces_filled forms xs [] = tt
replaces_filled forms xs (r ∷ vs) =
    let change : Option Outcome = change_outcome r (all_places forms r xs vs) in
    let once : Option Outcome = if are_distinct xs then change else None in
    let there_is : Option Outcome = if is_record_at forms r then once else None in
    if_filled (nat_eq (length xs) (length vs)) there_is (if_filled (is_record_at forms r) once (if_filled (are_distinct xs) change (by (all_places forms r xs vs))))
  where
    by : (o : Option (List ℕ)) → Filled (change_outcome r o)
    by None = tt
    by (Some ps) = tt

paired_length : (xs ns : List ℕ) → length xs ≡ length ns → length (paired xs ns) ≡ length xs
paired_length [] ns e = refl
paired_length (x ∷ xs) [] e = absurd (omega (arith, e))
paired_length (x ∷ xs) (n ∷ ns) e = ap suc (paired_length xs ns (omega (arith, e)))

-- as many names as types, there is a name, and none of these of 32 bits stands twice
record_filled : (forms : List Form) (named : Option ℕ) (xs ns : List ℕ) → 1 ≤ length xs → All (λ x. x < 2 ^ 32) xs → are_distinct xs ≡ true → length xs ≡ length ns → FilledSort (record_sort forms named (paired xs ns))
record_filled forms None xs ns h small once e =
    let same = paired_length xs ns e in
    let few = names_few xs once small in
    (omega (arith, same, h), omega (arith, same, few))
record_filled forms (Some n) xs ns h small once e = there_filled (are_fields_at forms n (paired xs ns)) n

records_filled : (forms : List Form) (named : Option ℕ) (xs ns : List ℕ) → (1 ≤ length xs) × All (λ x. x < 2 ^ 32) xs → Filled (records forms named xs ns)
records_filled forms named xs ns h = by (nat_eq (length xs) (length ns)) refl
  where
    one : Option Outcome
    one = outcome_of operation.Record (record_sort forms named (paired xs ns))

    by : (b : Bool) → nat_eq (length xs) (length ns) ≡ b → Filled (if b then (if are_distinct xs then one else None) else None)
    by true e = if_filled_by (are_distinct xs) one (λ once.
        of_filled operation.Record (record_sort forms named (paired xs ns)) (record_filled forms named xs ns h.0 h.1 once (eqb-true (length xs) (length ns) e)))
    by false e = tt

-- ---- calls that are built in

pair_filled : (ns : List ℕ) → FilledSort (integer_pair ns)
pair_filled [] = tt
pair_filled (a ∷ []) = tt
pair_filled (a ∷ b ∷ []) = there_filled (nat_eq a 2 && nat_eq b 2) 2
pair_filled (a ∷ b ∷ c ∷ ns) = tt

integer_filled : (ns : List ℕ) → FilledSort (integer ns)
integer_filled [] = tt
integer_filled (a ∷ []) = there_filled (nat_eq a 2) 2
integer_filled (a ∷ b ∷ ns) = tt

array_filled : (ns : List ℕ) → FilledSort (filled ns)
array_filled [] = tt
array_filled (low ∷ []) = tt
array_filled (low ∷ high ∷ []) = tt
array_filled (low ∷ high ∷ v ∷ []) = by (nat_eq low 2 && nat_eq high 2)
  where
    by : (b : Bool) → FilledSort (if b then Some (sort.Made (form.Array v)) else None)
    by true = (tt, omega arith)
    by false = tt
array_filled (low ∷ high ∷ v ∷ w ∷ ns) = tt

grown_filled : (forms : List Form) (c : Container) (ns : List ℕ) → FilledSort (grown forms c ns)
grown_filled forms c [] = tt
grown_filled forms c (a ∷ []) = tt
grown_filled forms c (a ∷ v ∷ []) = there_filled (is_part (element_in forms c a) v) a
grown_filled forms c (a ∷ v ∷ w ∷ ns) = tt

shrunk_filled : (forms : List Form) (c : Container) (ns : List ℕ) → FilledSort (shrunk forms c ns)
shrunk_filled forms c [] = tt
shrunk_filled forms c (a ∷ []) = there_filled (is_some (element_in forms c a)) a
shrunk_filled forms c (a ∷ b ∷ ns) = tt

based_filled : (forms : List Form) (ns : List ℕ) → FilledSort (based forms ns)
based_filled forms [] = tt
based_filled forms (a ∷ []) = tt
based_filled forms (a ∷ low ∷ []) = there_filled (is_some (element_in forms container.Array a) && nat_eq low 2) a
based_filled forms (a ∷ low ∷ c ∷ ns) = tt

adjusted_filled : (forms : List Form) (ns : List ℕ) → FilledSort (adjusted forms ns)
adjusted_filled forms [] = tt
adjusted_filled forms (a ∷ []) = tt
adjusted_filled forms (a ∷ low ∷ []) = tt
adjusted_filled forms (a ∷ low ∷ high ∷ []) = there_filled (is_some (element_in forms container.Array a) && (nat_eq low 2 && nat_eq high 2)) a
adjusted_filled forms (a ∷ low ∷ high ∷ d ∷ ns) = tt

measured_filled : (forms : List Form) (c : Container) (n : ℕ) (ns : List ℕ) → FilledSort (measured forms c n ns)
measured_filled forms c n [] = tt
measured_filled forms c n (a ∷ []) = there_filled (is_some (element_in forms c a)) n
measured_filled forms c n (a ∷ b ∷ ns) = tt

firsts_filled : (forms : List Form) (ns : List ℕ) → FilledSort (firsts forms ns)
firsts_filled forms [] = tt
firsts_filled forms (a ∷ []) = by (element_in forms container.Stream a)
  where
    by : (o : Option ℕ) → FilledSort (option_map sort.There o)
    by None = tt
    by (Some n) = tt
firsts_filled forms (a ∷ b ∷ ns) = tt

gives_filled : (forms : List Form) (b : BuiltIn) (ns : List ℕ) → FilledSort (gives_of forms b ns)
gives_filled forms call.Mod ns = pair_filled ns
gives_filled forms call.Abs ns = integer_filled ns
gives_filled forms call.Max ns = pair_filled ns
gives_filled forms call.Min ns = pair_filled ns
gives_filled forms call.ArrayFill ns = array_filled ns
gives_filled forms call.ArrayAddHigh ns = grown_filled forms container.Array ns
gives_filled forms call.ArrayAddLow ns = grown_filled forms container.Array ns
gives_filled forms call.ArrayRemoveHigh ns = shrunk_filled forms container.Array ns
gives_filled forms call.ArrayRemoveLow ns = shrunk_filled forms container.Array ns
gives_filled forms call.ArraySetLow ns = based_filled forms ns
gives_filled forms call.ArrayAdjust ns = adjusted_filled forms ns
gives_filled forms call.ArrayLimitLow ns = measured_filled forms container.Array 2 ns
gives_filled forms call.ArrayLimitHigh ns = measured_filled forms container.Array 2 ns
gives_filled forms call.ArraySize ns = measured_filled forms container.Array 2 ns
gives_filled forms call.StreamAppend ns = grown_filled forms container.Stream ns
gives_filled forms call.StreamSize ns = measured_filled forms container.Stream 2 ns
gives_filled forms call.StreamEmpty ns = measured_filled forms container.Stream 0 ns
gives_filled forms call.StreamFirst ns = firsts_filled forms ns
gives_filled forms call.StreamRest ns = shrunk_filled forms container.Stream ns

-- ---- forms

all_filled : (forms : List Form) (h : Head) (ns : List ℕ) → HasField h → Filled (applies forms h ns)
all_filled forms (head.ErrorOf n) ns h = error_filled n ns
all_filled forms (head.Convert to) ns h = converts_filled to ns
all_filled forms head.IsError ns h = errs_filled ns
all_filled forms (head.IsTag x) ns h = tests_filled forms x ns
all_filled forms (head.Prefix o) ns h = prefixed_filled o ns
all_filled forms (head.Binary o) ns h = combines_filled forms o ns
all_filled forms head.Select ns h = selects_filled forms ns
all_filled forms head.Update ns h = updates_filled forms ns
all_filled forms (head.Field x) ns h = fields_filled forms x ns
all_filled forms (head.Replace xs) ns h = replaces_filled forms xs ns
all_filled forms (head.Array named) ns h = arrays_filled forms named ns
all_filled forms (head.EmptyArray named) ns h = empties_filled forms named ns
all_filled forms (head.Stream named) ns h = streams_filled forms named ns
all_filled forms (head.Record named xs) ns h = records_filled forms named xs ns h
all_filled forms (head.Union n x) ns h = unites_filled forms n x ns
all_filled forms (head.BuiltIn b) ns h = of_filled (built_in_operation b) (gives_of forms b ns) (gives_filled forms b ns)

pub has_member : (forms : List Form) (h : Head) (ns : List ℕ) (o : Outcome) → HasField h → applies forms h ns ≡ Some o → IsFilled o.sort
has_member forms h ns o field is = subst Filled is (all_filled forms h ns field)

-- ---- clauses

kept_filled : (o : Option Folding) (n : ℕ) (f : Folded) → kept o n ≡ Some f → IsFilled f.sort
kept_filled None n f e = cc
kept_filled (Some g) n f e = let same : sort.There n ≡ f.sort = cc in subst IsFilled same tt

pub clause_filled : (forms : List Form) (kind : ClauseKind) (n : ℕ) (f : Folded) → makes_of forms kind n ≡ Some f → IsFilled f.sort
clause_filled forms made.Array n f e = let same : sort.Made (form.Array n) ≡ f.sort = cc in subst IsFilled same (tt, omega arith)
clause_filled forms made.Stream n f e = let same : sort.Made (form.Stream n) ≡ f.sort = cc in subst IsFilled same (tt, omega arith)
clause_filled forms made.Last n f e = kept_filled (Some folding.Last) n f e
clause_filled forms (made.Reduce d r) n f e = kept_filled (reduced forms r n) n f e
