-- What `Sum` keeps of a list.
use Rattle.std.specs.Prelude.{◌≡◌, ℕ, ◌*◌, ◌^◌, ◌<◌, ◌≤◌, ℤ, ◌+ℤ◌, unsigned_abs, List, [], ◌∷◌, ◌++◌}
use Rattle.std.proofs.Common.{arith}
use Rattle.std.proofs.lemmas.Int.{ints}
use Rattle.flow_value.specs.declared.value.Val.{Val}
use Rattle.loop_folds.specs.declared.seen.Seen.{Seen}
use Rattle.loop_folds.specs.Elements.{is_no_integer}
use Rattle.loop_folds.specs.Seen.{seen_of, seen_joined}
use Rattle.loop_folds.specs.SeenLaws.{seen_of-append}
use Rattle.loop_folds.specs.Folds.{sum_of}
use Rattle.loop_folds.specs.Laws.{JoinLaws, laws_by}

pub record SumState : Type 0 where
  pub seen : Seen
  pub total : ℤ

abbrev pub sum_state : Seen → ℤ → SumState
sum_state s z = record { seen = s; total = z }

-- each of n integers of 64 bits adds at most 2^63
pub record IsBounded (n : ℕ) (z : ℤ) : Type 0 where
  pub few : n < 2 ^ 64
  pub small : unsigned_abs z ≤ n * 2 ^ 63

abbrev pub state_of : List Val → SumState
state_of vs = sum_state (seen_of is_no_integer vs) (sum_of vs)

abbrev pub joined_state : SumState → SumState → SumState
joined_state s t = sum_state (seen_joined s.seen t.seen) (s.total +ℤ t.total)

sum_of-append : (xs ys : List Val) → sum_of (xs ++ ys) ≡ sum_of xs +ℤ sum_of ys
sum_of-append [] ys = omega (arith, ints)
sum_of-append (x ∷ xs) ys = omega (arith, ints, sum_of-append xs ys)

pub state_of-append : (xs ys : List Val) → state_of (xs ++ ys) ≡ joined_state (state_of xs) (state_of ys)
state_of-append xs ys = λ i. sum_state (seen_of-append is_no_integer xs ys i) (sum_of-append xs ys i)

pub sum_laws : JoinLaws (λ s xs. s ≡ state_of xs) (state_of []) joined_state
sum_laws = laws_by state_of joined_state state_of-append
