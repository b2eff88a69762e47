use Rattle.std.proofs.Common.{◌≡◌, ◌&&◌, ℕ, take}
use Rattle.std.specs.List.{list_any}
use Rattle.if1_graph.specs.Ports.{leaves}
use Rattle.may_take.specs.Ports.{has}
use Rattle.may_take.specs.Consuming.{is_given_by}
use Rattle.may_take.proofs.inputs.given_ports.Given as goal

abbrev pub invariant-loop-edge : goal.invariant-loop-edge
invariant-loop-edge l = (port : ℕ) → has l.ports port ≡ list_any (λ e. leaves 0 port e.from && is_given_by l.types l.labels l.uses e) (take l.edge-index l.edges)
