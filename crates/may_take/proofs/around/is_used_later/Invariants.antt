use Rattle.std.proofs.Common.{◌≡◌, drop}
use Rattle.std.specs.List.{list_any}
use Rattle.may_take.specs.Around.{insides}
use Rattle.may_take.proofs.around.is_used_later.Given as goal

abbrev pub invariant-loop-place : goal.invariant-loop-place
invariant-loop-place l = list_any (λ g. g.is_used l.port) (drop l.place (insides l.parts)) ≡ list_any (λ g. g.is_used l.port) (drop 1 (insides l.parts))
