-- What the source gives from some depth on, put together.
use Rattle.std.proofs.Common.{◌≡◌, ℕ, suc, ◌+◌, refl, ap, ◌∙◌}
use Rattle.meaning.specs.Timed.{Timed, given, plus, andthen}
use Rattle.loop_columns.specs.Parts.{Yields}
use Rattle.loop_columns.proofs.From.{always, after, both, deeper}

pub yield-given : {A : Type 0} (a : A) → Yields (λ n. given a)
yield-given a = record { value = a; steps = 0; from = always _ (λ n. refl) }

pub yield-plus : {A : Type 0} (k : ℕ) (a : ℕ → Timed A) → Yields a → Yields (λ n. plus k (a n))
yield-plus k a y = record { value = y.value; steps = k + y.steps; from = after _ _ y.from (λ n e. ap (plus k) e) }

pub yield-then : {A B : Type 0} (a : ℕ → Timed A) (f : ℕ → A → Timed B) (y : Yields a) → Yields (λ n. f n y.value) → Yields (λ n. andthen (a n) (f n))
yield-then a f y z = record {
  value = z.value;
  steps = y.steps + z.steps;
  from = after _ _ (both _ _ y.from z.from) (λ n h. ap (λ o. andthen o (f n)) h.0 ∙ ap (plus y.steps) h.1);
}

pub yield-same : {A : Type 0} (a b : ℕ → Timed A) → ((n : ℕ) → b n ≡ a n) → Yields a → Yields b
yield-same a b e y = record { value = y.value; steps = y.steps; from = after _ _ y.from (λ n h. e n ∙ h) }

-- from the next depth on
pub yield-deeper : {A : Type 0} (a b : ℕ → Timed A) → ((n : ℕ) → b (suc n) ≡ a n) → Yields a → Yields b
yield-deeper a b e y = record { value = y.value; steps = y.steps; from = deeper _ _ y.from (λ n h. e n ∙ h) }
