-- Where a form or a clause makes a type, each number of the table stands for one as before.
use Rattle.std.proofs.Common.{◌≡◌, inl, inr, ℕ, ◌<◌, Bool, true, false, List, [], ◌∷◌, ◌&&◌, map, length, All, Option, Some, None, nat_eq, refl, sym, ap, subst, arith}
use Rattle.std.specs.Option.{option_map}
use Rattle.std.specs.Prelude.{if◌then◌else◌}
use Rattle.std.proofs.lemmas.Bool.{eqb-true}
use Rattle.type_table.specs.declared.form.Form.{Form}
use Rattle.type_table.specs.declared.form.Form.TheVariants as form
use Rattle.type_table.specs.Tables.{IsOver, AddsAtMost}
use Rattle.sisal_tree.specs.declared.expr.ClauseKind.{ClauseKind}
use Rattle.sisal_tree.specs.declared.expr.ClauseKind.TheVariants as clause
use Rattle.sisal_tree.specs.declared.expr.Reduction.{Reduction}
use Rattle.value_ops.specs.declared.operation.Operation.{Operation}
use Rattle.value_ops.specs.declared.operation.Operation.TheVariants as operation
use Rattle.typed_tree.specs.declared.built_in.BuiltIn.{BuiltIn}
use Rattle.typed_tree.specs.declared.built_in.BuiltIn.TheVariants as call
use Rattle.loop_folds.specs.declared.folding.Folding.{Folding}
use Rattle.type_rules.specs.declared.folds.Folded.{Folded}
use Rattle.type_rules.specs.declared.folds.Made.{Made}
use Rattle.type_rules.specs.declared.head.Applied.{Applied}
use Rattle.type_rules.specs.declared.head.Container.{Container}
use Rattle.type_rules.specs.declared.head.Container.TheVariants as container
use Rattle.type_rules.specs.declared.head.Head.{Head}
use Rattle.type_rules.specs.declared.head.Head.TheVariants as head
use Rattle.type_rules.specs.declared.head.Outcome.{Outcome}
use Rattle.type_rules.specs.declared.head.Sort.{Sort}
use Rattle.type_rules.specs.declared.head.Sort.TheVariants as sort
use Rattle.type_rules.specs.Applies.{Grows, Adds, IsApplied, applies}
use Rattle.type_rules.specs.Calls.{gives_of}
use Rattle.type_rules.specs.Folds.{IsMade, kept, makes_of}
use Rattle.type_rules.specs.Parts.{there, outcome_of, sort_if, array_at, tag_at, field_at, element_in, is_part, is_record_at}
use Rattle.type_rules.specs.Records.{are_distinct, field_outcome, union_outcome, test_outcome, change_outcome, paired, all_places, record_sort, are_fields_at}
use Rattle.type_rules.specs.Scalars.{is_converted, prefix_number, are_operands}
use Rattle.type_rules.specs.Sequences.{named_sort, empty_sort, all_are}
use Rattle.unit_types.specs.Rests.{HasEachOnce, AreStanding}
use Rattle.typing_laws.specs.Given.{Given}
use Rattle.typing_laws.specs.Judged.{IsUsedIn}
use Rattle.typing_laws.specs.Said.{IsFormSpelled}
use Rattle.typing_laws.proofs.Kept.{standing_kept}
use Rattle.typing_laws.proofs.Later.{grows_same}

module _ (names : List (List ℕ)) where
  -- what is made has names that are spelled, each once
  abbrev Fits : Sort → Type 0
  Fits (sort.There n) = Unit {0}
  Fits (sort.Made f) = IsFormSpelled names f × HasEachOnce f

  abbrev SortFits : Option Sort → Type 0
  SortFits None = Unit {0}
  SortFits (Some s) = Fits s

  abbrev OutcomeFits : Option Outcome → Type 0
  OutcomeFits None = Unit {0}
  OutcomeFits (Some o) = Fits o.sort

  if_fits : (b : Bool) (o : Option Outcome) → (b ≡ true → OutcomeFits o) → OutcomeFits (if b then o else None)
  if_fits true o h = h refl
  if_fits false o h = tt

  there_if : (b : Bool) (o : Operation) (n : ℕ) → OutcomeFits (if b then Some (there o n) else None)
  there_if true o n = tt
  there_if false o n = tt

  of_sort : (o : Operation) (s : Option Sort) → SortFits s → OutcomeFits (outcome_of o s)
  of_sort o None h = tt
  of_sort o (Some s) h = h

  sort_fits_if : (b : Bool) (n : ℕ) → SortFits (sort_if b n)
  sort_fits_if true n = tt
  sort_fits_if false n = tt

  array_fits : (b : Bool) (v : ℕ) → SortFits (if b then Some (sort.Made (form.Array v)) else None)
  array_fits true v = (tt, tt)
  array_fits false v = tt

  part_fits : (r : Option ℕ) → SortFits (option_map sort.There r)
  part_fits None = tt
  part_fits (Some n) = tt

  map_fits : (o : Operation) (r : Option ℕ) → OutcomeFits (option_map (there o) r)
  map_fits o None = tt
  map_fits o (Some n) = tt

  test_fits : (r : Option (ℕ × ℕ)) → OutcomeFits (test_outcome r)
  test_fits None = tt
  test_fits (Some m) = tt

  field_fits : (r : Option (ℕ × ℕ)) → OutcomeFits (field_outcome r)
  field_fits None = tt
  field_fits (Some m) = tt

  union_fits : (n v : ℕ) (r : Option (ℕ × ℕ)) → OutcomeFits (union_outcome n v r)
  union_fits n v None = tt
  union_fits n v (Some m) = there_if (nat_eq m.1 v) (operation.Union m.0) n

  change_fits : (n : ℕ) (r : Option (List ℕ)) → OutcomeFits (change_outcome n r)
  change_fits n None = tt
  change_fits n (Some ps) = tt

  named_fits : (forms : List Form) (c : Container) (named : Option ℕ) (e : ℕ) → SortFits (named_sort forms c named e)
  named_fits forms container.Array None e = (tt, tt)
  named_fits forms container.Stream None e = (tt, tt)
  named_fits forms c (Some n) e = sort_fits_if (is_part (element_in forms c n) e) n

  empty_fits : (forms : List Form) (c : Container) (named : Option ℕ) → SortFits (empty_sort forms c named)
  empty_fits forms c None = tt
  empty_fits forms c (Some n) = sort_fits_if _ n

  paired_names : (xs ns : List ℕ) → length xs ≡ length ns → map (λ m. m.name) (paired xs ns) ≡ xs
  paired_names [] ns e = refl
  paired_names (x ∷ xs) [] e = absurd (omega (arith, e))
  paired_names (x ∷ xs) (n ∷ ns) e = ap (λ l. x ∷ l) (paired_names xs ns (omega (arith, e)))

  record_fits : (forms : List Form) (named : Option ℕ) (xs ns : List ℕ) → All (λ x. x < length names) xs → length xs ≡ length ns → are_distinct xs ≡ true → SortFits (record_sort forms named (paired xs ns))
  record_fits forms None xs ns s e d =
      let same = sym (paired_names xs ns e) in
      (subst (All (λ x. x < length names)) same s, subst (λ l. are_distinct l ≡ true) same d)
  record_fits forms (Some n) xs ns s e d = sort_fits_if (are_fields_at forms n (paired xs ns)) n

  pair_fits : (ns : List ℕ) → SortFits (gives_of [] call.Mod ns)
  pair_fits [] = tt
  pair_fits (a ∷ []) = tt
  pair_fits (a ∷ b ∷ []) = sort_fits_if _ 2
  pair_fits (a ∷ b ∷ c ∷ ns) = tt

  one_fits : (ns : List ℕ) → SortFits (gives_of [] call.Abs ns)
  one_fits [] = tt
  one_fits (a ∷ []) = sort_fits_if _ 2
  one_fits (a ∷ b ∷ ns) = tt

  filled_fits : (ns : List ℕ) → SortFits (gives_of [] call.ArrayFill ns)
  filled_fits [] = tt
  filled_fits (a ∷ []) = tt
  filled_fits (a ∷ b ∷ []) = tt
  filled_fits (a ∷ b ∷ v ∷ []) = array_fits _ v
  filled_fits (a ∷ b ∷ v ∷ c ∷ ns) = tt

  grown_fits : (forms : List Form) (ns : List ℕ) → SortFits (gives_of forms call.ArrayAddHigh ns)
  grown_fits forms [] = tt
  grown_fits forms (a ∷ []) = tt
  grown_fits forms (a ∷ v ∷ []) = sort_fits_if _ a
  grown_fits forms (a ∷ v ∷ b ∷ ns) = tt

  appended_fits : (forms : List Form) (ns : List ℕ) → SortFits (gives_of forms call.StreamAppend ns)
  appended_fits forms [] = tt
  appended_fits forms (a ∷ []) = tt
  appended_fits forms (a ∷ v ∷ []) = sort_fits_if _ a
  appended_fits forms (a ∷ v ∷ b ∷ ns) = tt

  shrunk_fits : (forms : List Form) (ns : List ℕ) → SortFits (gives_of forms call.ArrayRemoveHigh ns)
  shrunk_fits forms [] = tt
  shrunk_fits forms (a ∷ []) = sort_fits_if _ a
  shrunk_fits forms (a ∷ v ∷ ns) = tt

  rest_fits : (forms : List Form) (ns : List ℕ) → SortFits (gives_of forms call.StreamRest ns)
  rest_fits forms [] = tt
  rest_fits forms (a ∷ []) = sort_fits_if _ a
  rest_fits forms (a ∷ v ∷ ns) = tt

  based_fits : (forms : List Form) (ns : List ℕ) → SortFits (gives_of forms call.ArraySetLow ns)
  based_fits forms [] = tt
  based_fits forms (a ∷ []) = tt
  based_fits forms (a ∷ v ∷ []) = sort_fits_if _ a
  based_fits forms (a ∷ v ∷ b ∷ ns) = tt

  adjusted_fits : (forms : List Form) (ns : List ℕ) → SortFits (gives_of forms call.ArrayAdjust ns)
  adjusted_fits forms [] = tt
  adjusted_fits forms (a ∷ []) = tt
  adjusted_fits forms (a ∷ v ∷ []) = tt
  adjusted_fits forms (a ∷ v ∷ b ∷ []) = sort_fits_if _ a
  adjusted_fits forms (a ∷ v ∷ b ∷ c ∷ ns) = tt

  sized_fits : (forms : List Form) (ns : List ℕ) → SortFits (gives_of forms call.ArraySize ns)
  sized_fits forms [] = tt
  sized_fits forms (a ∷ []) = sort_fits_if _ 2
  sized_fits forms (a ∷ v ∷ ns) = tt

  counted_fits : (forms : List Form) (ns : List ℕ) → SortFits (gives_of forms call.StreamSize ns)
  counted_fits forms [] = tt
  counted_fits forms (a ∷ []) = sort_fits_if _ 2
  counted_fits forms (a ∷ v ∷ ns) = tt

  tested_fits : (forms : List Form) (ns : List ℕ) → SortFits (gives_of forms call.StreamEmpty ns)
  tested_fits forms [] = tt
  tested_fits forms (a ∷ []) = sort_fits_if _ 0
  tested_fits forms (a ∷ v ∷ ns) = tt

  first_fits : (forms : List Form) (ns : List ℕ) → SortFits (gives_of forms call.StreamFirst ns)
  first_fits forms [] = tt
  first_fits forms (a ∷ []) = part_fits _
  first_fits forms (a ∷ v ∷ ns) = tt

  call_fits : (forms : List Form) (b : BuiltIn) (ns : List ℕ) → SortFits (gives_of forms b ns)
  call_fits forms call.Mod ns = pair_fits ns
  call_fits forms call.Abs ns = one_fits ns
  call_fits forms call.Max ns = pair_fits ns
  call_fits forms call.Min ns = pair_fits ns
  call_fits forms call.ArrayFill ns = filled_fits ns
  call_fits forms call.ArrayAddHigh ns = grown_fits forms ns
  call_fits forms call.ArrayAddLow ns = grown_fits forms ns
  call_fits forms call.ArrayRemoveHigh ns = shrunk_fits forms ns
  call_fits forms call.ArrayRemoveLow ns = shrunk_fits forms ns
  call_fits forms call.ArraySetLow ns = based_fits forms ns
  call_fits forms call.ArrayAdjust ns = adjusted_fits forms ns
  call_fits forms call.ArrayLimitLow ns = sized_fits forms ns
  call_fits forms call.ArrayLimitHigh ns = sized_fits forms ns
  call_fits forms call.ArraySize ns = sized_fits forms ns
  call_fits forms call.StreamAppend ns = appended_fits forms ns
  call_fits forms call.StreamSize ns = counted_fits forms ns
  call_fits forms call.StreamEmpty ns = tested_fits forms ns
  call_fits forms call.StreamFirst ns = first_fits forms ns
  call_fits forms call.StreamRest ns = rest_fits forms ns

  -- the names of the fields of a record are spelled
  abbrev pub HeadFits : Head → Type 0
  HeadFits (head.Record named xs) = All (λ x. x < length names) xs
  HeadFits _ = Unit {0}

  fits : (forms : List Form) (h : Head) → HeadFits h → (ns : List ℕ) → OutcomeFits (applies forms h ns)
  fits forms (head.ErrorOf n) s [] = tt
  fits forms (head.ErrorOf n) s (a ∷ ns) = tt
  fits forms (head.Convert c) s [] = tt
  fits forms (head.Convert c) s (a ∷ []) = there_if (is_converted c a) _ _
  fits forms (head.Convert c) s (a ∷ b ∷ ns) = tt
  fits forms head.IsError s [] = tt
  fits forms head.IsError s (a ∷ []) = tt
  fits forms head.IsError s (a ∷ b ∷ ns) = tt
  fits forms (head.IsTag x) s [] = tt
  fits forms (head.IsTag x) s (a ∷ []) = test_fits (tag_at forms a x)
  fits forms (head.IsTag x) s (a ∷ b ∷ ns) = tt
  fits forms (head.Prefix o) s [] = tt
  fits forms (head.Prefix o) s (a ∷ []) = there_if (nat_eq a (prefix_number o)) _ _
  fits forms (head.Prefix o) s (a ∷ b ∷ ns) = tt
  fits forms (head.Binary o) s [] = tt
  fits forms (head.Binary o) s (a ∷ []) = tt
  fits forms (head.Binary o) s (a ∷ b ∷ []) = if_fits (nat_eq a b) _ (λ e. there_if (are_operands forms o a) _ _)
  fits forms (head.Binary o) s (a ∷ b ∷ c ∷ ns) = tt
  fits forms head.Select s [] = tt
  fits forms head.Select s (a ∷ []) = tt
  fits forms head.Select s (a ∷ i ∷ []) = if_fits (nat_eq i 2) _ (λ e. map_fits operation.Element (array_at forms a))
  fits forms head.Select s (a ∷ i ∷ b ∷ ns) = tt
  fits forms head.Update s [] = tt
  fits forms head.Update s (a ∷ []) = tt
  fits forms head.Update s (a ∷ i ∷ []) = tt
  fits forms head.Update s (a ∷ i ∷ v ∷ []) = if_fits (nat_eq i 2) _ (λ e. there_if (is_part (array_at forms a) v) _ _)
  fits forms head.Update s (a ∷ i ∷ v ∷ b ∷ ns) = tt
  fits forms (head.Field x) s [] = tt
  fits forms (head.Field x) s (a ∷ []) = field_fits (field_at forms a x)
  fits forms (head.Field x) s (a ∷ b ∷ ns) = tt
  fits forms (head.Replace xs) s [] = tt
  fits forms (head.Replace xs) s (r ∷ vs) = if_fits (nat_eq (length xs) (length vs)) _ (λ e. if_fits (is_record_at forms r) _ (λ i. if_fits (are_distinct xs) _ (λ d. change_fits r (all_places forms r xs vs))))
  fits forms (head.Array named) s [] = tt
  fits forms (head.Array named) s (l ∷ []) = tt
  fits forms (head.Array named) s (l ∷ e ∷ es) = if_fits (nat_eq l 2) _ (λ i. if_fits (all_are e es) _ (λ a. of_sort operation.Array _ (named_fits forms container.Array named e)))
  fits forms (head.EmptyArray named) s [] = of_sort operation.EmptyArray _ (empty_fits forms container.Array named)
  fits forms (head.EmptyArray named) s (a ∷ ns) = tt
  fits forms (head.Stream named) s [] = of_sort operation.Stream _ (empty_fits forms container.Stream named)
  fits forms (head.Stream named) s (e ∷ es) = if_fits (all_are e es) _ (λ a. of_sort operation.Stream _ (named_fits forms container.Stream named e))
  fits forms (head.Record named xs) s ns =
      if_fits (nat_eq (length xs) (length ns)) _ (λ e. if_fits (are_distinct xs) _ (λ d. of_sort operation.Record _ (record_fits forms named xs ns s (eqb-true (length xs) (length ns) e) d)))
  fits forms (head.Union n x) s [] = tt
  fits forms (head.Union n x) s (v ∷ []) = union_fits n v (tag_at forms n x)
  fits forms (head.Union n x) s (v ∷ b ∷ ns) = tt
  fits forms (head.BuiltIn b) s ns = of_sort _ _ (call_fits forms b ns)

  stands_after : (old new : List Form) (s : Sort) → Adds old s new → Fits s → AreStanding names old → AreStanding names new
  stands_after old new (sort.There n) e f st = subst (AreStanding names) (sym e) st
  stands_after old new (sort.Made g) e f st = standing_kept names old new g st e.1 f.0 f.1 e.0

grows_after : (old new : List Form) (s : Sort) → Adds old s new → Grows old new
grows_after old new (sort.There n) e = grows_same old new e
grows_after old new (sort.Made g) e = elim e.0 [ inl same ↦ grows_same old new same | inr more ↦ (g ∷ [], more) ]

pub applied_used : (g : Given) (old new : List Form) (h : Head) (ns : List ℕ) (a : Applied) → HeadFits g.spellings h → IsApplied old h ns a new → IsUsedIn g old new
applied_used g old new h ns a s p = record {
  grows = grows_after old new p.made p.adds;
  standing = λ t st. stands_after g.spellings old new p.made p.adds (subst (OutcomeFits g.spellings) p.outcome (fits g.spellings old h s ns)) st;
}

-- ---- clauses

abbrev FoldFits : List (List ℕ) → Option Folded → Type 0
FoldFits names None = Unit {0}
FoldFits names (Some f) = Fits names f.sort

kept_fits : (names : List (List ℕ)) (f : Option Folding) (n : ℕ) → FoldFits names (kept f n)
kept_fits names None n = tt
kept_fits names (Some f) n = tt

fold_fits : (names : List (List ℕ)) (forms : List Form) (kind : ClauseKind) (n : ℕ) → FoldFits names (makes_of forms kind n)
fold_fits names forms clause.Array n = (tt, tt)
fold_fits names forms clause.Stream n = (tt, tt)
fold_fits names forms clause.Last n = tt
fold_fits names forms (clause.Reduce d r) n = kept_fits names _ n

pub made_used : (g : Given) (old new : List Form) (kind : ClauseKind) (mask : Option Bool) (n : ℕ) (m : Made) → IsMade old kind mask n m new → IsUsedIn g old new
made_used g old new kind mask n m p = record {
  grows = grows_after old new p.result p.adds;
  standing = λ t st. stands_after g.spellings old new p.result p.adds (subst (FoldFits g.spellings) p.folded (fold_fits g.spellings old kind n)) st;
}
