-- Results with steps, taken apart.
use Rattle.std.proofs.Common.{◌≡◌, ℕ, ◌+◌, Some, None, refl, sym, ap, ◌∙◌}
use Rattle.meaning.specs.Timed.{Timed, given, plus, andthen}

pub record Both {A B : Type 0} (a : Timed A) (f : A → Timed B) (r : B) (s : ℕ) : Type 0 where
  pub mid : A
  pub j : ℕ
  pub k : ℕ
  pub first : a ≡ Some (mid, j)
  pub second : f mid ≡ Some (r, k)
  pub sum : j + k ≡ s

abbrev result_or : {A : Type 0} → Timed A → A → A
result_or None d = d
result_or (Some x) d = x.0

abbrev steps_in : {A : Type 0} → Timed A → ℕ
steps_in None = 0
steps_in (Some x) = x.1

result-is : {A : Type 0} (a : Timed A) (x r : A) (j s : ℕ) → a ≡ Some (x, j) → a ≡ Some (r, s) → (x ≡ r) × (j ≡ s)
result-is a x r j s e f = (ap (λ o. result_or o r) (sym e ∙ f), ap (λ o. steps_in o) (sym e ∙ f))

pub plus-some : {A : Type 0} (k : ℕ) (a : Timed A) (r : A) (s : ℕ) → plus k a ≡ Some (r, s) → (j : ℕ) × (a ≡ Some (r, j)) × (k + j ≡ s)
plus-some k None r s e = absurd cc
plus-some k (Some x) r s e = let y = result-is _ x.0 r (k + x.1) s refl e in (x.1, ap (λ z. Some (z, x.1)) y.0, y.1)

pub given-is : {A : Type 0} (x r : A) (s : ℕ) → given x ≡ Some (r, s) → (x ≡ r) × (0 ≡ s)
given-is x r s e = result-is (given x) x r 0 s refl e

pub then-some : {A B : Type 0} (a : Timed A) (f : A → Timed B) (r : B) (s : ℕ) → andthen a f ≡ Some (r, s) → Both a f r s
then-some None f r s e = absurd cc
then-some (Some x) f r s e = let y = plus-some x.1 (f x.0) r s e in record { mid = x.0; j = x.1; k = y.0; first = refl; second = y.1; sum = y.2 }
