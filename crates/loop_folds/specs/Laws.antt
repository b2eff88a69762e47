-- The laws of reductions. They speak of the reductions that stand for some list.
use Rattle.std.specs.Prelude.{◌≡◌, List, [], ◌++◌, refl}
use Rattle.std.proofs.Common.{sym, ◌∙◌, ap, append_assoc, append-nil}
use Rattle.flow_value.specs.declared.value.Val.{Val}

pub record JoinLaws {M : Type 0} (Stands : M → List Val → Type 0) (empty : M) (joined : M → M → M) : Type 0 where
  pub determined : (x y : M) (xs : List Val) → Stands x xs → Stands y xs → x ≡ y
  pub left_unit : (x : M) (xs : List Val) → Stands x xs → joined empty x ≡ x
  pub right_unit : (x : M) (xs : List Val) → Stands x xs → joined x empty ≡ x
  pub associative : (x y z : M) (xs ys zs : List Val) → Stands x xs → Stands y ys → Stands z zs → joined (joined x y) z ≡ joined x (joined y z)

-- They hold where the reduction is computed from the list, and that of two lists in a row is the
-- joined one.
pub laws_by : {M : Type 0} (of : List Val → M) (joined : M → M → M) → ((xs ys : List Val) → of (xs ++ ys) ≡ joined (of xs) (of ys)) → JoinLaws (λ x xs. x ≡ of xs) (of []) joined
laws_by of joined append = record {
  determined = λ x y xs e f. e ∙ sym f;
  left_unit = λ x xs e. ap (λ s. joined (of []) s) e ∙ sym (append [] xs) ∙ sym e;
  right_unit = λ x xs e. ap (λ s. joined s (of [])) e ∙ sym (append xs []) ∙ ap of (append-nil xs) ∙ sym e;
  associative = λ x y z xs ys zs e f g.
      (λ i. joined (joined (e i) (f i)) (g i))
      ∙ ap (λ s. joined s (of zs)) (sym (append xs ys)) ∙ sym (append (xs ++ ys) zs)
      ∙ ap of (append_assoc xs ys zs)
      ∙ append xs (ys ++ zs) ∙ ap (λ s. joined (of xs) s) (append ys zs)
      ∙ sym (λ i. joined (e i) (joined (f i) (g i)));
}
