-- What `Product` keeps of a list.
use Rattle.std.specs.Prelude.{◌≡◌, ℕ, ◌^◌, ◌<◌, ℤ, List, [], ◌++◌, Option}
use Rattle.flow_value.specs.declared.value.Val.{Val}
use Rattle.loop_folds.specs.declared.seen.Seen.{Seen}
use Rattle.loop_folds.specs.Elements.{is_no_integer}
use Rattle.loop_folds.specs.Seen.{seen_of, seen_joined}
use Rattle.loop_folds.specs.SeenLaws.{seen_of-append}
use Rattle.loop_folds.specs.Folds.{product_of}
use Rattle.loop_folds.specs.Clamped.{clamped, times, IsClamped}
use Rattle.loop_folds.specs.ClampedLaws.{clamped-product}
use Rattle.loop_folds.specs.Laws.{JoinLaws, laws_by}

pub record ProductState : Type 0 where
  pub seen : Seen
  pub factor : Option ℤ

abbrev pub product_state : Seen → Option ℤ → ProductState
product_state s z = record { seen = s; factor = z }

pub record IsProduct (n : ℕ) (z : Option ℤ) : Type 0 where
  pub few : n < 2 ^ 64
  pub small : IsClamped z

abbrev pub state_of : List Val → ProductState
state_of vs = product_state (seen_of is_no_integer vs) (clamped (product_of vs))

abbrev pub joined_state : ProductState → ProductState → ProductState
joined_state s t = product_state (seen_joined s.seen t.seen) (times s.factor t.factor)

pub state_of-append : (xs ys : List Val) → state_of (xs ++ ys) ≡ joined_state (state_of xs) (state_of ys)
state_of-append xs ys = λ i. product_state (seen_of-append is_no_integer xs ys i) (clamped-product xs ys i)

pub product_laws : JoinLaws (λ s xs. s ≡ state_of xs) (state_of []) joined_state
product_laws = laws_by state_of joined_state state_of-append
