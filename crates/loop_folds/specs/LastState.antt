-- What `Last` keeps of a list.
use Rattle.std.specs.Prelude.{◌≡◌, ℕ, ◌+◌, ◌^◌, ◌<◌, List, [], ◌∷◌, ◌++◌, length, Option, Some, None, refl}
use Rattle.std.specs.Coded.{Coded, code_by, coded×, coded_ℕ, coded_option}
use Rattle.std.proofs.Common.{sym, ◌∙◌, ap, length-append}
use Rattle.flow_value.specs.declared.value.Val.{Val}
use Rattle.loop_folds.specs.Folds.{later_of, last_of}
use Rattle.loop_folds.specs.Laws.{JoinLaws, laws_by}

pub record LastState : Type 0 where
  pub count : ℕ
  pub last : Option Val

abbrev pub last_state : ℕ → Option Val → LastState
last_state n v = record { count = n; last = v }

abbrev pub last_code : Coded Val → Coded LastState
last_code c = code_by (ℕ × Option Val) (coded× coded_ℕ (coded_option c)) (λ s. (s.count, s.last)) (λ p. last_state p.0 p.1) (λ _. refl)

abbrev pub IsCounted : ℕ → Type 0
IsCounted n = n < 2 ^ 64

abbrev pub state_of : List Val → LastState
state_of vs = last_state (length vs) (last_of vs)

abbrev pub joined_state : LastState → LastState → LastState
joined_state s t = last_state (s.count + t.count) (later_of s.last t.last)

later_of-assoc : (a b c : Option Val) → later_of (later_of a b) c ≡ later_of a (later_of b c)
later_of-assoc a b None = refl
later_of-assoc a b (Some v) = refl

later_of-none : (a : Option Val) → later_of None a ≡ a
later_of-none None = refl
later_of-none (Some v) = refl

last_of-append : (xs ys : List Val) → last_of (xs ++ ys) ≡ later_of (last_of xs) (last_of ys)
last_of-append [] ys = sym (later_of-none (last_of ys))
last_of-append (x ∷ xs) ys =
    ap (λ a. later_of (Some x) a) (last_of-append xs ys) ∙ sym (later_of-assoc (Some x) (last_of xs) (last_of ys))

pub state_of-append : (xs ys : List Val) → state_of (xs ++ ys) ≡ joined_state (state_of xs) (state_of ys)
state_of-append xs ys = λ i. last_state (length-append xs ys i) (last_of-append xs ys i)

pub last_laws : JoinLaws (λ s xs. s ≡ state_of xs) (state_of []) joined_state
last_laws = laws_by state_of joined_state state_of-append
