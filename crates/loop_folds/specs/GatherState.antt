-- What `Gather` keeps of a list.
use Rattle.std.specs.Prelude.{◌≡◌, ℕ, ◌+◌, ◌^◌, ◌<◌, List, [], ◌++◌, length, refl}
use Rattle.std.specs.Coded.{Coded, code_by, coded×, coded_ℕ, coded_list}
use Rattle.std.proofs.Common.{length-append}
use Rattle.flow_value.specs.declared.value.Val.{Val}
use Rattle.loop_folds.specs.Kept.{kept, take-parts}
use Rattle.loop_folds.specs.Laws.{JoinLaws, laws_by}

pub record GatherState : Type 0 where
  pub count : ℕ
  pub items : List Val

abbrev pub gathered : ℕ → List Val → GatherState
gathered n vs = record { count = n; items = vs }

abbrev pub gathered_code : Coded Val → Coded GatherState
gathered_code c = code_by (ℕ × List Val) (coded× coded_ℕ (coded_list c)) (λ g. (g.count, g.items)) (λ p. gathered p.0 p.1) (λ _. refl)

abbrev pub IsCounted : ℕ → Type 0
IsCounted n = n < 2 ^ 64

abbrev pub state_of : List Val → GatherState
state_of vs = gathered (length vs) (kept vs)

abbrev pub joined_state : GatherState → GatherState → GatherState
joined_state s t = gathered (s.count + t.count) (kept (s.items ++ t.items))

pub state_of-append : (xs ys : List Val) → state_of (xs ++ ys) ≡ joined_state (state_of xs) (state_of ys)
state_of-append xs ys = λ i. gathered (length-append xs ys i) (take-parts 4194305 xs ys i)

pub gather_laws : JoinLaws (λ g xs. g ≡ state_of xs) (state_of []) joined_state
gather_laws = laws_by state_of joined_state state_of-append
