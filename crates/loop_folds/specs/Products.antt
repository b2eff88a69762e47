-- The product of two lists in a row.
use Rattle.std.specs.Prelude.{◌≡◌, ℕ, zero, suc, ◌*◌, ℤ, pos, negsuc, neg_ℤ, ◌*ℤ◌, List, [], ◌∷◌, ◌++◌, refl}
use Rattle.std.proofs.Common.{sym, ◌∙◌, ap}
use Rattle.std.proofs.Math.Nat.{mul_assoc}
use Rattle.std.proofs.Math.IntN.{*ℤ_comm, *ℤ-negsuc, *ℤ-one, *ℤ-zero, one, neg_ℤ-neg_ℤ, pos-*ℤ-pos}
use Rattle.flow_value.specs.declared.value.Val.{Val}
use Rattle.loop_folds.specs.Folds.{factor_of, product_of}

*ℤ-neg : (m k : ℤ) → m *ℤ neg_ℤ k ≡ neg_ℤ (m *ℤ k)
*ℤ-neg m (pos zero) = *ℤ-zero m ∙ sym (ap neg_ℤ (*ℤ-zero m))
*ℤ-neg m (pos (suc n)) = *ℤ-negsuc m n
*ℤ-neg m (negsuc n) = sym (neg_ℤ-neg_ℤ (m *ℤ pos (suc n))) ∙ sym (ap neg_ℤ (*ℤ-negsuc m n))

neg-*ℤ : (m k : ℤ) → neg_ℤ m *ℤ k ≡ neg_ℤ (m *ℤ k)
neg-*ℤ m k = *ℤ_comm (neg_ℤ m) k ∙ *ℤ-neg k m ∙ ap neg_ℤ (*ℤ_comm k m)

assoc-pos : (a b c : ℕ) → (pos a *ℤ pos b) *ℤ pos c ≡ pos a *ℤ (pos b *ℤ pos c)
assoc-pos a b c =
    ap (λ z. z *ℤ pos c) (pos-*ℤ-pos a b) ∙ pos-*ℤ-pos (a * b) c ∙ ap pos (mul_assoc a b c)
    ∙ sym (ap (λ z. pos a *ℤ z) (pos-*ℤ-pos b c) ∙ pos-*ℤ-pos a (b * c))

assoc-first : (a : ℤ) (b c : ℕ) → (a *ℤ pos b) *ℤ pos c ≡ a *ℤ (pos b *ℤ pos c)
assoc-first (pos a) b c = assoc-pos a b c
assoc-first (negsuc a) b c =
    ap (λ z. z *ℤ pos c) (neg-*ℤ (pos (suc a)) (pos b)) ∙ neg-*ℤ (pos (suc a) *ℤ pos b) (pos c)
    ∙ ap neg_ℤ (assoc-pos (suc a) b c) ∙ sym (neg-*ℤ (pos (suc a)) (pos b *ℤ pos c))

assoc-second : (a b : ℤ) (c : ℕ) → (a *ℤ b) *ℤ pos c ≡ a *ℤ (b *ℤ pos c)
assoc-second a (pos b) c = assoc-first a b c
assoc-second a (negsuc b) c =
    ap (λ z. z *ℤ pos c) (*ℤ-negsuc a b) ∙ neg-*ℤ (a *ℤ pos (suc b)) (pos c)
    ∙ ap neg_ℤ (assoc-first a (suc b) c) ∙ sym (*ℤ-neg a (pos (suc b) *ℤ pos c))
    ∙ ap (λ z. a *ℤ z) (sym (neg-*ℤ (pos (suc b)) (pos c)))

pub *ℤ-assoc : (a b c : ℤ) → (a *ℤ b) *ℤ c ≡ a *ℤ (b *ℤ c)
*ℤ-assoc a b (pos c) = assoc-second a b c
*ℤ-assoc a b (negsuc c) =
    *ℤ-negsuc (a *ℤ b) c ∙ ap neg_ℤ (assoc-second a b (suc c))
    ∙ sym (*ℤ-neg a (b *ℤ pos (suc c))) ∙ ap (λ z. a *ℤ z) (sym (*ℤ-negsuc b c))

one-*ℤ : (k : ℤ) → pos (suc zero) *ℤ k ≡ k
unfolding one
one-*ℤ k = *ℤ_comm (pos (suc zero)) k ∙ *ℤ-one k

pub product_of-append : (xs ys : List Val) → product_of (xs ++ ys) ≡ product_of xs *ℤ product_of ys
product_of-append [] ys = sym (one-*ℤ (product_of ys))
product_of-append (x ∷ xs) ys =
    ap (λ z. factor_of x *ℤ z) (product_of-append xs ys) ∙ sym (*ℤ-assoc (factor_of x) (product_of xs) (product_of ys))
