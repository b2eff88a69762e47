-- What a clause makes by number it makes by type.
use Rattle.std.proofs.Common.{◌≡◌, ℕ, Bool, true, false, nat_eq, List, Option, Some, None, slice_get, refl, sym, ap, subst, ◌∙◌}
use Rattle.std.specs.Prelude.{if◌then◌else◌}
use Rattle.std.proofs.lemmas.Option.{same_Some}
use Rattle.flow_value.specs.declared.ty.Ty.{Ty}
use Rattle.flow_value.specs.declared.ty.Ty.TheVariants as ty
use Rattle.sisal_tree.specs.declared.expr.ClauseKind.{ClauseKind}
use Rattle.sisal_tree.specs.declared.expr.ClauseKind.TheVariants as made
use Rattle.sisal_tree.specs.declared.expr.Direction.{Direction}
use Rattle.sisal_tree.specs.declared.expr.Reduction.TheVariants as reduction
use Rattle.loop_folds.specs.declared.folding.Folding.{Folding}
use Rattle.loop_folds.specs.declared.folding.Folding.TheVariants as folding
use Rattle.type_table.specs.declared.form.Form.{Form}
use Rattle.type_table.specs.declared.form.Form.TheVariants as form
use Rattle.type_table.specs.Tables.{IsTable}
use Rattle.typed_tree.specs.Types.{IsNumber, Makes, array_of, stream_of, value_of, sum, product, least, greatest, catenate_arrays, catenate_streams}
use Rattle.typed_tree.specs.Operations.{folding_of, catenation_of}
use Rattle.type_rules.specs.declared.head.Sort.TheVariants as sort
use Rattle.type_rules.specs.declared.folds.Folded.{Folded}
use Rattle.type_rules.specs.Parts.{part_if}
use Rattle.type_rules.specs.Folds.{catenation, catenated, summed, kept, makes_of}
use Rattle.type_rules.specs.Typed as typed
use Rattle.type_rules.specs.Typed.{FitsClause}
use Rattle.type_rules.proofs.Standing.{HasPart, standing_at, at_array, at_stream, out_array, out_stream}
use Rattle.type_rules.proofs.Sorted.{StandsFor, sorted_number}
use Rattle.type_rules.proofs.Telling.{Tells, integer_tells}
use Rattle.type_rules.proofs.Deep.{as_deep}

abbrev Verdict : List Form → List (List ℕ) → ClauseKind → Ty → Option Folded → Type 0
Verdict forms names kind t None = (m : Ty) → Makes kind t m → ⊥
Verdict forms names kind t (Some f) = (m : Ty) × Makes kind t m × (f.folding ≡ folding_of kind t) × StandsFor forms names f.sort m

both_truths : (b : Bool) → b ≡ true → b ≡ false → ⊥
both_truths true e f = cc
both_truths false e f = cc

some_none : {A : Type 0} (x : A) (o : Option A) → o ≡ Some x → o ≡ None → ⊥
some_none x (Some y) e f = cc
some_none x None e f = cc

module _ (forms : List Form) (names : List (List ℕ)) (table : IsTable forms) where
  -- reductions of integers
  summed_by : (kind : ClauseKind) (f : Folding) (n : ℕ) (t : Ty) → IsNumber forms names n t → Makes kind ty.Int ty.Int → f ≡ folding_of kind ty.Int → ((m : Ty) → Makes kind t m → t ≡ ty.Int)
      → Verdict forms names kind t (kept (summed f n) n)
  summed_by kind f n t p makes is wants = by (nat_eq n 2) refl
    where
      tells : Tells (nat_eq n 2) (t ≡ ty.Int)
      tells = integer_tells forms names table n t p

      by : (b : Bool) → nat_eq n 2 ≡ b → Verdict forms names kind t (kept (if b then Some f else None) n)
      by true e =
          subst (λ y. Verdict forms names kind y (Some (record { folding = f; sort = sort.There n }))) (sym (tells.yes e))
          (ty.Int, makes, is, subst (IsNumber forms names n) (tells.yes e) p)
      by false e = λ m q. both_truths (nat_eq n 2) (tells.back (wants m q)) e

  sum_wants : {d : Direction} {t : Ty} (m : Ty) → Makes (made.Reduce d reduction.Sum) t m → t ≡ ty.Int
  sum_wants _ sum = refl

  product_wants : {d : Direction} {t : Ty} (m : Ty) → Makes (made.Reduce d reduction.Product) t m → t ≡ ty.Int
  product_wants _ product = refl

  least_wants : {d : Direction} {t : Ty} (m : Ty) → Makes (made.Reduce d reduction.Least) t m → t ≡ ty.Int
  least_wants _ least = refl

  greatest_wants : {d : Direction} {t : Ty} (m : Ty) → Makes (made.Reduce d reduction.Greatest) t m → t ≡ ty.Int
  greatest_wants _ greatest = refl

  -- catenations
  catenated_by : (d : Direction) (n : ℕ) (t : Ty) → IsNumber forms names n t → (f : Folding) (o : Option Form) → slice_get forms n ≡ o → part_if catenation o ≡ Some f
      → Verdict forms names (made.Reduce d reduction.Catenate) t (Some (record { folding = f; sort = sort.There n }))
  catenated_by d n t p f (Some (form.Array m)) h e =
      let s : HasPart forms names ty.Arr m t = standing_at forms names n (Some (form.Array m)) h t p in
      subst (λ y. Verdict forms names (made.Reduce d reduction.Catenate) y (Some (record { folding = f; sort = sort.There n }))) (sym s.is)
      (ty.Arr s.part, catenate_arrays s.part, sym (same_Some folding.CatenateArrays f e) ∙ sym (ap catenation_of (out_array s.part)), subst (IsNumber forms names n) s.is p)
  catenated_by d n t p f (Some (form.Stream m)) h e =
      let s : HasPart forms names ty.Stream m t = standing_at forms names n (Some (form.Stream m)) h t p in
      subst (λ y. Verdict forms names (made.Reduce d reduction.Catenate) y (Some (record { folding = f; sort = sort.There n }))) (sym s.is)
      (ty.Stream s.part, catenate_streams s.part, sym (same_Some folding.CatenateStreams f e) ∙ sym (ap catenation_of (out_stream s.part)), subst (IsNumber forms names n) s.is p)
  catenated_by d n t p f None h e = absurd cc
  catenated_by d n t p f (Some form.Boolean) h e = absurd cc
  catenated_by d n t p f (Some form.Character) h e = absurd cc
  catenated_by d n t p f (Some form.Integer) h e = absurd cc
  catenated_by d n t p f (Some form.Null) h e = absurd cc
  catenated_by d n t p f (Some (form.Record ms)) h e = absurd cc
  catenated_by d n t p f (Some (form.Union ms)) h e = absurd cc

  catenated_not : (d : Direction) (n : ℕ) (t : Ty) → IsNumber forms names n t → catenated forms n ≡ None → (m : Ty) → Makes (made.Reduce d reduction.Catenate) t m → ⊥
  catenated_not d n _ p e _ (catenate_arrays a) = some_none folding.CatenateArrays (catenated forms n) (ap (part_if catenation) (at_array forms names n a p).1) e
  catenated_not d n _ p e _ (catenate_streams a) = some_none folding.CatenateStreams (catenated forms n) (ap (part_if catenation) (at_stream forms names n a p).1) e

  catenates : (d : Direction) (n : ℕ) (t : Ty) → IsNumber forms names n t → Verdict forms names (made.Reduce d reduction.Catenate) t (kept (catenated forms n) n)
  catenates d n t p = by (catenated forms n) refl
    where
      by : (f : Option Folding) → catenated forms n ≡ f → Verdict forms names (made.Reduce d reduction.Catenate) t (kept f n)
      by (Some f) e = catenated_by d n t p f (slice_get forms n) refl e
      by None e = catenated_not d n t p e

  verdict : (kind : ClauseKind) (n : ℕ) (t : Ty) → IsNumber forms names n t → Verdict forms names kind t (makes_of forms kind n)
  verdict made.Array n t p = (ty.Arr t, array_of t, refl, record { part = t; is = refl; stands = p })
  verdict made.Stream n t p = (ty.Stream t, stream_of t, refl, record { part = t; is = refl; stands = p })
  verdict made.Last n t p = (t, value_of, refl, p)
  verdict (made.Reduce d reduction.Sum) n t p = summed_by (made.Reduce d reduction.Sum) folding.Sum n t p sum refl sum_wants
  verdict (made.Reduce d reduction.Product) n t p = summed_by (made.Reduce d reduction.Product) folding.Product n t p product refl product_wants
  verdict (made.Reduce d reduction.Least) n t p = summed_by (made.Reduce d reduction.Least) folding.Least n t p least refl least_wants
  verdict (made.Reduce d reduction.Greatest) n t p = summed_by (made.Reduce d reduction.Greatest) folding.Greatest n t p greatest refl greatest_wants
  verdict (made.Reduce d reduction.Catenate) n t p = catenates d n t p

fits : (forms : List Form) (names : List (List ℕ)) (table : IsTable forms) (kind : ClauseKind) (t : Ty) (o : Option Folded) → Verdict forms names kind t o → FitsClause forms names kind t o
fits forms names table kind t None v = v
fits forms names table kind t (Some f) v = (v.0, v.1, v.2, λ after n grows is. sorted_number forms after names grows f.sort n v.0 is v.3, as_deep forms names table f.sort v.0 v.3)

pub clauses_by_type : typed.ClausesByType
clauses_by_type forms names table kind n t p = fits forms names table kind t (makes_of forms kind n) (verdict forms names table kind n t p)
