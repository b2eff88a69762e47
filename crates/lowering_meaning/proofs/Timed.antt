-- Results with steps: what they are made of, and what is given from some depth on.
use Rattle.std.proofs.Common.{◌≡◌, ℕ, suc, ◌+◌, Some, None, refl, sym, ap, ◌∙◌}
use Rattle.meaning.specs.Timed.{Timed, given, plus, andthen}
use Rattle.lowering_meaning.proofs.From.{From, always, after, both, deeper}

-- ---- what they are made of

pub record Both {A B : Type 0} (a : Timed A) (f : A → Timed B) (r : B) (s : ℕ) : Type 0 where
  pub mid : A
  pub j : ℕ
  pub k : ℕ
  pub first : a ≡ Some (mid, j)
  pub second : f mid ≡ Some (r, k)
  pub sum : j + k ≡ s

abbrev result_or : {A : Type 0} → Timed A → A → A
result_or None d = d
result_or (Some x) d = x.0

abbrev steps_in : {A : Type 0} → Timed A → ℕ
steps_in None = 0
steps_in (Some x) = x.1

result-is : {A : Type 0} (a : Timed A) (x r : A) (j s : ℕ) → a ≡ Some (x, j) → a ≡ Some (r, s) → (x ≡ r) × (j ≡ s)
result-is a x r j s e f = (ap (λ o. result_or o r) (sym e ∙ f), ap (λ o. steps_in o) (sym e ∙ f))

pub plus-some : {A : Type 0} (k : ℕ) (a : Timed A) (r : A) (s : ℕ) → plus k a ≡ Some (r, s) → (j : ℕ) × (a ≡ Some (r, j)) × (k + j ≡ s)
plus-some k None r s e = absurd cc
plus-some k (Some x) r s e = let y = result-is _ x.0 r (k + x.1) s refl e in (x.1, ap (λ z. Some (z, x.1)) y.0, y.1)

pub given-is : {A : Type 0} (x r : A) (s : ℕ) → given x ≡ Some (r, s) → (x ≡ r) × (0 ≡ s)
given-is x r s e = result-is (given x) x r 0 s refl e

pub then-some : {A B : Type 0} (a : Timed A) (f : A → Timed B) (r : B) (s : ℕ) → andthen a f ≡ Some (r, s) → Both a f r s
then-some None f r s e = absurd cc
then-some (Some x) f r s e = let y = plus-some x.1 (f x.0) r s e in record { mid = x.0; j = x.1; k = y.0; first = refl; second = y.1; sum = y.2 }

-- ---- what is given from some depth on

pub record Yield {A : Type 0} (a : ℕ → Timed A) : Type 0 where
  pub value : A
  pub steps : ℕ
  pub from : From (λ j. a j ≡ Some (value, steps))

pub yield-given : {A : Type 0} (a : A) → Yield (λ j. given a)
yield-given a = record { value = a; steps = 0; from = always _ (λ j. refl) }

pub yield-plus : {A : Type 0} (k : ℕ) (a : ℕ → Timed A) → Yield a → Yield (λ j. plus k (a j))
yield-plus k a y = record { value = y.value; steps = k + y.steps; from = after _ _ y.from (λ j e. ap (plus k) e) }

pub yield-then : {A B : Type 0} (a : ℕ → Timed A) (f : ℕ → A → Timed B) (y : Yield a) → Yield (λ j. f j y.value) → Yield (λ j. andthen (a j) (f j))
yield-then a f y z = record {
  value = z.value;
  steps = y.steps + z.steps;
  from = after _ _ (both _ _ y.from z.from) (λ j h. ap (λ o. andthen o (f j)) h.0 ∙ ap (plus y.steps) h.1);
}

pub yield-same : {A : Type 0} (a b : ℕ → Timed A) → ((j : ℕ) → b j ≡ a j) → Yield a → Yield b
yield-same a b e y = record { value = y.value; steps = y.steps; from = after _ _ y.from (λ j h. e j ∙ h) }

-- from the next depth on
pub yield-deeper : {A : Type 0} (a b : ℕ → Timed A) → ((j : ℕ) → b (suc j) ≡ a j) → Yield a → Yield b
yield-deeper a b e y = record { value = y.value; steps = y.steps; from = deeper _ _ y.from (λ j h. e j ∙ h) }
