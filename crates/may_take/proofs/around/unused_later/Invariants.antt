use Rattle.std.proofs.Common.{◌≡◌, ◌&&◌, not, ℕ, take, drop}
use Rattle.std.specs.List.{list_any}
use Rattle.may_take.specs.Ports.{has}
use Rattle.may_take.specs.Around.{insides}
use Rattle.may_take.proofs.around.unused_later.Given as goal

abbrev pub invariant-loop-port : goal.invariant-loop-port
invariant-loop-port l = (port : ℕ) → has l.kept port ≡ (has (take l.port-index l.ports) port && not (list_any (λ g. g.is_used port) (drop 1 (insides l.parts))))
