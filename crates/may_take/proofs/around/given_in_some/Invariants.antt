use Rattle.std.proofs.Common.{◌≡◌, ◌||◌, ℕ, drop}
use Rattle.std.specs.List.{list_any}
use Rattle.may_take.specs.Ports.{has}
use Rattle.may_take.specs.Around.{insides}
use Rattle.may_take.proofs.around.given_in_some.Given as goal

abbrev pub invariant-loop-place : goal.invariant-loop-place
invariant-loop-place l = (port : ℕ) → (has l.ports port || list_any (λ g. g.is_given port) (drop l.place (insides l.parts))) ≡ list_any (λ g. g.is_given port) (drop l.from (insides l.parts))
