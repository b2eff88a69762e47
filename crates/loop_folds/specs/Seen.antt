-- What a fold has seen of a list.
use Rattle.std.specs.Prelude.{◌≡◌, ℕ, ◌+◌, Bool, ◌||◌, List, ◌++◌, length, Option}
use Rattle.std.specs.List.{list_any}
use Rattle.flow_value.specs.declared.value.Val.{Val}
use Rattle.flow_value.specs.declared.cause.Cause.{Cause}
use Rattle.loop_folds.specs.declared.seen.Seen.{Seen}
use Rattle.loop_folds.specs.Elements.{or_else, first_error}

abbrev pub seen : ℕ → Option Cause → Bool → Seen
seen n c b = record { count = n; error = c; foreign = b }

abbrev pub seen_of : (Val → Bool) → List Val → Seen
seen_of is_foreign vs = seen (length vs) (first_error vs) (list_any is_foreign vs)

abbrev pub seen_joined : Seen → Seen → Seen
seen_joined s t = seen (s.count + t.count) (or_else s.error t.error) (s.foreign || t.foreign)
