-- What holds from some depth on.
use Rattle.std.proofs.Common.{ℕ, zero, suc, ◌+◌, ◌≤◌, arith}
use Rattle.loop_columns.specs.Parts.{From}

pub always : (A : ℕ → Type 0) → ((n : ℕ) → A n) → From A
always A h = record { least = 0; holds = λ n le. h n }

pub after : (A B : ℕ → Type 0) → From A → ((n : ℕ) → A n → B n) → From B
after A B a h = record { least = a.least; holds = λ n le. h n (a.holds n le) }

pub both : (A B : ℕ → Type 0) → From A → From B → From (λ n. A n × B n)
both A B a b = record { least = a.least + b.least; holds = λ n le. (a.holds n (omega (arith, le)), b.holds n (omega (arith, le))) }

-- from the next depth on
pub deeper : (A B : ℕ → Type 0) → From A → ((n : ℕ) → A n → B (suc n)) → From B
deeper A B a h = record { least = suc a.least; holds = at }
  where
    at : (n : ℕ) → suc a.least ≤ n → B n
    at zero le = absurd (omega (arith, le))
    at (suc n) le = h n (a.holds n (omega (arith, le)))
