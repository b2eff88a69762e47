-- What comes of a state, by its parts one by one.
use Rattle.std.specs.Prelude.{ℕ, List}
use Rattle.flow_value.specs.declared.value.Val.{Val}
use Rattle.source_meaning.specs.declared.state.After.{After}
use Rattle.source_meaning.specs.declared.state.Work.{Work}
use Rattle.source_meaning.specs.declared.state.Frame.{Frame}
use Rattle.meaning.specs.Timed.{Timed, plus}
use Rattle.source_meaning.specs.Pending.{Program, finish, operate, rest}

abbrev pub whole : ℕ → Program → ℕ → List Frame → List Val → List Val → Timed (List Val)
whole n p steps fs env vs = plus steps (rest n p fs env vs)

-- the same before the values of a list are used
abbrev pub before : ℕ → Program → ℕ → List Frame → List Val → After → List Val → Timed (List Val)
before n p steps fs env a vs = plus steps (finish n p a (rest n p fs) env vs)

abbrev pub before_work : ℕ → Program → ℕ → List Frame → List Val → Work → List Val → Timed (List Val)
before_work n p steps fs env w vs = plus steps (operate n p w (rest n p fs) env vs)
