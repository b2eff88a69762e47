-- What a form over operands makes by number it makes by type.
use Rattle.std.proofs.Common.{◌≡◌, ℕ, List, Option, Some, None, slice_get, refl, sym, ap, subst, ◌∙◌}
use Rattle.flow_value.specs.declared.ty.Ty.{Ty}
use Rattle.type_table.specs.declared.form.Form.{Form}
use Rattle.type_table.specs.Tables.{IsTable}
use Rattle.typed_tree.specs.Types.{IsNumber, IsShallow}
use Rattle.typed_tree.specs.Typing.{Known, Number}
use Rattle.type_rules.specs.declared.head.Applied.{Applied}
use Rattle.type_rules.specs.declared.head.Head.{Head}
use Rattle.type_rules.specs.Applies.{Grows, IsSorted, IsApplied}
use Rattle.type_rules.specs.Typed.{IsForm, FitsClause}
use Rattle.typing_laws.specs.Said.{IsSaid}
use Rattle.sisal_tree.specs.declared.expr.ClauseKind.{ClauseKind}
use Rattle.sisal_tree.specs.declared.expr.ClauseKind.TheVariants as made
use Rattle.sisal_tree.specs.declared.expr.Reduction.TheVariants as reduction
use Rattle.loop_folds.specs.declared.folding.Folding.{Folding}
use Rattle.type_table.proofs.Lists.{left}
use Rattle.type_rules.specs.declared.head.Sort.{Sort}
use Rattle.type_rules.specs.declared.head.Sort.TheVariants as sort
use Rattle.type_rules.specs.declared.folds.Folded.{Folded}
use Rattle.type_rules.specs.Parts.{part_if}
use Rattle.type_rules.proofs.Sorted.{sorted_number}
use Rattle.type_rules.proofs.Clauses.{clauses_by_type}
use Rattle.type_rules.proofs.Deep.{as_deep}
use Rattle.typing_laws.proofs.Later.{grows_on, grows_same}
use Rattle.typing_laws.proofs.Sound.{sound}
use Rattle.sisal_tree.specs.declared.expr.Mask.{Mask}
use Rattle.typed_tree.specs.Types.{Makes}
use Rattle.typed_tree.specs.Operations.{clause_form, folding_of, direction_of, masking_of}
use Rattle.type_rules.specs.declared.folds.Made.{Made}
use Rattle.type_rules.specs.Folds.{IsMade, masking_by, catenation, catenated, kept, makes_of}
use Rattle.typing_laws.specs.Looping.{unless_of}

-- what is made, by type
pub record IsTypedForm (k : Known) (h : Head) (tys : List Ty) (a : Applied) : Type 0 where
  pub type : Ty
  pub form : IsForm k.forms k.spellings h tys a.operation type
  pub shallow : IsShallow type
  pub number : IsNumber k.forms k.spellings a.ty type

sorted_later : (old new : List Form) → Grows old new → (s : Sort) (n : ℕ) → IsSorted old s n → IsSorted new s n
sorted_later old new grows (sort.There m) n p = p
sorted_later old new grows (sort.Made f) n p = subst (λ l. slice_get l n ≡ Some f) (sym grows.1) (left old grows.0 n f p)

pub applied_typed : (k : Known) (old new : List Form) → IsTable k.forms → Grows old new → Grows new k.forms → (h : Head) → IsSaid k.forms k.spellings h
    → (ns : List ℕ) (tys : List Ty) → Number k ns tys → (a : Applied) → IsApplied old h ns a new → IsTypedForm k h tys a
applied_typed k old new table before after h said ns tys number a applied =
    let all : Grows old k.forms = grows_on old new k.forms before after in
    let s = sound old k.forms all k.spellings table h said ns tys number.each (record { operation = a.operation; sort = applied.made }) applied.outcome in
    let n : IsNumber k.forms k.spellings a.ty s.0 = sorted_number k.forms k.forms k.spellings (grows_same k.forms k.forms refl) applied.made a.ty s.0 (sorted_later new k.forms after applied.made a.ty applied.typed) s.2 in
    record { type = s.0; form = s.1; shallow = as_deep k.forms k.spellings table (sort.There a.ty) s.0 n; number = n }

-- what a clause makes, by type
pub record IsTypedClause (k : Known) (kind : ClauseKind) (mask : Option Mask) (t : Ty) (m : Made) : Type 0 where
  pub type : Ty
  pub makes : Makes kind t type
  pub shallow : IsShallow type
  pub form : m.form ≡ clause_form kind t mask
  pub number : IsNumber k.forms k.spellings m.ty type

same_mask : (mask : Option Mask) → masking_by (unless_of mask) ≡ masking_of mask
same_mask None = refl
same_mask (Some m) = refl

catenated_later : (old new : List Form) → Grows old new → (n : ℕ) (f : Folding) → catenated old n ≡ Some f → catenated new n ≡ Some f
catenated_later old new grows n f e = by (slice_get old n) refl e
  where
    by : (o : Option Form) → slice_get old n ≡ o → part_if catenation o ≡ Some f → catenated new n ≡ Some f
    by None h e = absurd cc
    by (Some g) h e = ap (part_if catenation) (subst (λ l. slice_get l n ≡ Some g) (sym grows.1) (left old grows.0 n g h)) ∙ e

kept_later : (o p : Option Folding) (n : ℕ) (r : Folded) → ((f : Folding) → o ≡ Some f → p ≡ Some f) → kept o n ≡ Some r → kept p n ≡ Some r
kept_later None p n r later e = absurd cc
kept_later (Some f) p n r later e = ap (λ o. kept o n) (later f refl) ∙ e

clause_later : (old new : List Form) → Grows old new → (kind : ClauseKind) (n : ℕ) (r : Folded) → makes_of old kind n ≡ Some r → makes_of new kind n ≡ Some r
clause_later old new grows made.Array n r e = e
clause_later old new grows made.Stream n r e = e
clause_later old new grows made.Last n r e = e
clause_later old new grows (made.Reduce d reduction.Sum) n r e = e
clause_later old new grows (made.Reduce d reduction.Product) n r e = e
clause_later old new grows (made.Reduce d reduction.Least) n r e = e
clause_later old new grows (made.Reduce d reduction.Greatest) n r e = e
clause_later old new grows (made.Reduce d reduction.Catenate) n r e = kept_later (catenated old n) (catenated new n) n r (catenated_later old new grows n) e

pub made_typed : (k : Known) (old new : List Form) → IsTable k.forms → Grows old new → Grows new k.forms → (kind : ClauseKind) (mask : Option Mask) (n : ℕ) (t : Ty) → IsNumber k.forms k.spellings n t
    → (m : Made) → IsMade old kind (unless_of mask) n m new → IsTypedClause k kind mask t m
made_typed k old new table before after kind mask n t number m made =
    let s = clause_later old k.forms (grows_on old new k.forms before after) kind n (record { folding = m.form.folding; sort = made.result }) made.folded in
    let v = subst (λ o. FitsClause k.forms k.spellings kind t o) s (clauses_by_type k.forms k.spellings table kind n t number) in
    let i : IsNumber k.forms k.spellings m.ty v.0 = v.3 k.forms m.ty (grows_same k.forms k.forms refl) (sorted_later new k.forms after made.result m.ty made.typed) in
    record {
      type = v.0;
      makes = v.1;
      shallow = as_deep k.forms k.spellings table (sort.There m.ty) v.0 i;
      form = ap (λ f. record { folding = f; direction = m.form.direction; masking = m.form.masking }) v.2
          ∙ ap (λ d. record { folding = folding_of kind t; direction = d; masking = m.form.masking }) made.direction
          ∙ ap (λ d. record { folding = folding_of kind t; direction = direction_of kind; masking = d }) (made.masking ∙ same_mask mask);
      number = i;
    }
