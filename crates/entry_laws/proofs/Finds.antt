-- What is found in lists.
use Rattle.std.proofs.Common.{◌≡◌, ℕ, zero, suc, Bool, true, false, ◌||◌, List, [], ◌∷◌, map, Some, None, slice_get, find, nat_eq, refl, sym, ap, subst, ◌∙◌, cond}
use Rattle.std.proofs.lemmas.Bool.{eqb-true, eq-eqb}
use Rattle.std.specs.Prelude.{All}
use Rattle.std.specs.List.{list_any}
use Rattle.std.proofs.lemmas.List.Elements.{All-head, All-tail}

pub same-some : {A : Type 0} (x y : A) → Some x ≡ Some y → x ≡ y
same-some x y e = cc

module _ {A : Type 0} (test : A → Bool) where
  -- what is found stands somewhere and passes
  pub find-there : (xs : List A) (x : A) → find test xs ≡ Some x → (i : ℕ) × (slice_get xs i ≡ Some x) × (test x ≡ true)
  find-there [] x e = absurd cc
  find-there (y ∷ ys) x e = by (test y) refl e (λ h. find-there ys x h)
    where
      by : (b : Bool) → test y ≡ b → cond b (Some y) (find test ys) ≡ Some x → (find test ys ≡ Some x → (i : ℕ) × (slice_get ys i ≡ Some x) × (test x ≡ true)) → (i : ℕ) × (slice_get (y ∷ ys) i ≡ Some x) × (test x ≡ true)
      by true t h rest = (0, h, subst (λ z. test z ≡ true) (same-some y x h) t)
      by false t h rest = let r = rest h in (suc r.0, r.1, r.2)

  -- the only one that passes is found
  pub find-only : (xs : List A) (i : ℕ) (x : A) → slice_get xs i ≡ Some x → test x ≡ true → ((j : ℕ) (y : A) → slice_get xs j ≡ Some y → test y ≡ true → y ≡ x) → find test xs ≡ Some x
  find-only [] i x e t one = absurd cc
  find-only (y ∷ ys) i x e t one = by (test y) refl i e (λ k h. find-only ys k x h t (λ j z g f. one (suc j) z g f))
    where
      by : (b : Bool) → test y ≡ b → (i : ℕ) → slice_get (y ∷ ys) i ≡ Some x → ((k : ℕ) → slice_get ys k ≡ Some x → find test ys ≡ Some x) → cond b (Some y) (find test ys) ≡ Some x
      by true s i e rest = ap Some (one 0 y refl s)
      by false s zero e rest = absurd (differ (sym s ∙ (ap test (same-some y x e) ∙ t)))
        where
          differ : false ≡ true → ⊥
          differ e = cc
      by false s (suc i) e rest = rest i e

  pub find-none : (xs : List A) → ((j : ℕ) (y : A) → slice_get xs j ≡ Some y → test y ≡ false) → find test xs ≡ None
  find-none [] none = refl
  find-none (y ∷ ys) none = ap (λ b. cond b (Some y) (find test ys)) (none 0 y refl) ∙ find-none ys (λ j z h. none (suc j) z h)

  -- where one passes, one is found
  pub find-some : (xs : List A) (i : ℕ) (x : A) → slice_get xs i ≡ Some x → test x ≡ true → find test xs ≡ None → ⊥
  find-some [] i x e t h = cc
  find-some (y ∷ ys) zero x e t h = some-none y (sym (ap (λ b. cond b (Some y) (find test ys)) (ap test (same-some y x e) ∙ t)) ∙ h)
    where
      some-none : (y : A) → Some y ≡ None → ⊥
      some-none y e = cc
  find-some (y ∷ ys) (suc i) x e t h = by (test y) h (λ k. find-some ys i x e t k)
    where
      by : (b : Bool) → cond b (Some y) (find test ys) ≡ None → (find test ys ≡ None → ⊥) → ⊥
      by true h rest = cc
      by false h rest = rest h

-- a number of a list
pub any-there : (i : ℕ) (ds : List ℕ) → list_any (nat_eq i) ds ≡ true → (k : ℕ) × (slice_get ds k ≡ Some i)
any-there i [] e = absurd cc
any-there i (d ∷ ds) e = by (nat_eq i d) refl e (λ h. any-there i ds h)
  where
    by : (b : Bool) → nat_eq i d ≡ b → (b || list_any (nat_eq i) ds) ≡ true → (list_any (nat_eq i) ds ≡ true → (k : ℕ) × (slice_get ds k ≡ Some i)) → (k : ℕ) × (slice_get (d ∷ ds) k ≡ Some i)
    by true t h rest = (0, ap Some (sym (eqb-true i d t)))
    by false t h rest = let r = rest h in (suc r.0, r.1)

pub there-any : (i : ℕ) (ds : List ℕ) (k : ℕ) → slice_get ds k ≡ Some i → list_any (nat_eq i) ds ≡ true
there-any i [] k e = absurd cc
there-any i (d ∷ ds) zero e = ap (λ b. b || list_any (nat_eq i) ds) (eq-eqb i d (sym (same-some d i e)))
there-any i (d ∷ ds) (suc k) e = by (nat_eq i d) (there-any i ds k e)
  where
    by : (b : Bool) → list_any (nat_eq i) ds ≡ true → (b || list_any (nat_eq i) ds) ≡ true
    by true h = refl
    by false h = h

pub all-at : {A : Type 0} (P : A → Type 0) (xs : List A) (i : ℕ) (x : A) → All P xs → slice_get xs i ≡ Some x → P x
all-at P [] i x h e = absurd cc
all-at P (y ∷ xs) zero x h e = subst P (same-some y x e) (All-head P y xs h)
all-at P (y ∷ xs) (suc i) x h e = all-at P xs i x (All-tail P y xs h) e

-- where one list is as long as another, it has what stands at a place of the other
pub beside-there : {A B : Type 0} (f : A → B) (xs : List A) (i : ℕ) (y : B) → slice_get (map f xs) i ≡ Some y → (x : A) × (slice_get xs i ≡ Some x) × (f x ≡ y)
beside-there f [] i y e = absurd cc
beside-there f (x ∷ xs) zero y e = (x, refl, same-some (f x) y e)
beside-there f (x ∷ xs) (suc i) y e = beside-there f xs i y e
