-- The arm of each tag that a `tagcase` names is there.
use Rattle.std.proofs.Common.{◌≡◌, ℕ, suc, ◌+◌, ◌<◌, List, [], ◌∷◌, ◌++◌, map, All, length, Option, refl, sym, ap, subst, arith}
use Rattle.std.proofs.lemmas.List.{length-append}
use Rattle.std.proofs.lemmas.List.Elements.{All-nil, All-cons, All-head, All-tail}
use Rattle.flow_value.specs.declared.ty.Ty.{Ty}
use Rattle.sisal_tree.specs.declared.unit.Written.{Written}
use Rattle.sisal_tree.specs.declared.expr.Arm.{Arm}
use Rattle.typed_tree.specs.declared.expr.Choice.{Choice}
use Rattle.typed_tree.specs.declared.expr.TypedExpr.{TypedExpr}
use Rattle.typed_tree.specs.Scopes.{Scope}
use Rattle.typed_tree.specs.Types.{Member}
use Rattle.typed_tree.specs.Typing as rule
use Rattle.typed_tree.specs.Typing.{Known, AreChoices, AreArms, tags_from}

-- tags with the places of their arms, all below a number
placed_below : (i n : ℕ) (names : List ℕ) → i < n → (xs : List (ℕ × ℕ)) → All (λ x. x.1 < n) xs → All (λ x. x.1 < n) (map (λ x. (x, i)) names ++ xs)
placed_below i n [] lt xs p = p
placed_below i n (x ∷ names) lt xs p = All-cons (λ x. x.1 < n) (x, i) (map (λ x. (x, i)) names ++ xs) lt (placed_below i n names lt xs p)

tags_below : (i n : ℕ) (tags : List (List ℕ)) → i + length tags ≡ n → All (λ x. x.1 < n) (tags_from i tags)
tags_below i n [] e = All-nil (λ x. x.1 < n)
tags_below i n (t ∷ tags) e = placed_below i n t (omega (arith, e)) (tags_from (suc i) tags) (tags_below (suc i) n tags (omega (arith, e)))

choices_below : (k : Known) (ms : List Member) (n : ℕ) (xs : List (ℕ × ℕ)) (cs : List Choice) → AreChoices k ms xs cs → All (λ x. x.1 < n) xs → All (λ c. c.arm < n) cs
choices_below k ms n [] [] p q = All-nil (λ c. c.arm < n)
choices_below k ms n [] (c ∷ cs) p q = absurd p
choices_below k ms n (x ∷ xs) [] p q = absurd p
choices_below k ms n (x ∷ xs) (c ∷ cs) p q =
    All-cons (λ c. c.arm < n) c cs (subst (λ i. i < n) (sym p.0.1) (All-head (λ x. x.1 < n) x xs q)) (choices_below k ms n xs cs p.1 (All-tail (λ x. x.1 < n) x xs q))

all_later : (n m : ℕ) (cs : List Choice) → n + m ≡ n + m → All (λ c. c.arm < n) cs → All (λ c. c.arm < n + m) cs
all_later n m [] e p = All-nil (λ c. c.arm < n + m)
all_later n m (c ∷ cs) e p =
    let lt = All-head (λ c. c.arm < n) c cs p in
    All-cons (λ c. c.arm < n + m) c cs (omega (arith, lt)) (all_later n m cs e (All-tail (λ c. c.arm < n) c cs p))

module _ (k : Known) (denotes : Written → Ty → Type 0) where
  arms_counted : (s : Scope) (x : Option ℕ) (ms : List Member) (tys : List Ty) (arms : List Arm) (us : List (List TypedExpr)) (tags : List (List ℕ)) → AreArms k denotes s x ms tys arms us tags → length us ≡ length tags
  arms_counted s x ms tys _ _ _ rule.no_arm = refl
  arms_counted s x ms tys _ _ _ (rule.an_arm l content names {arms = arms} {typed_arms = us} {tags = tags} o t p q) = ap suc (arms_counted s x ms tys arms us tags q)

  -- the arms are as many as the choices need
  pub choices_there : (s : Scope) (x : Option ℕ) (ms : List Member) (tys : List Ty) (arms : List Arm) (us last : List (List TypedExpr)) (tags : List (List ℕ)) (choices : List Choice)
      → AreArms k denotes s x ms tys arms us tags → AreChoices k ms (tags_from 0 tags) choices → All (λ c. c.arm < length (us ++ last)) choices
  choices_there s x ms tys arms us last tags choices p c =
      let first : 0 + length tags ≡ length us = (let n = arms_counted s x ms tys arms us tags p in omega (arith, n)) in
      subst (λ n. All (λ c. c.arm < n) choices) (sym (length-append us last))
      (all_later (length us) (length last) choices refl (choices_below k ms (length us) (tags_from 0 tags) choices c (tags_below 0 (length us) tags first)))
