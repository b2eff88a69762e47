use Rattle.std.proofs.Common.{◌≡◌, ◌+◌, ◌≤◌, map, drop}
use Rattle.plan_data.specs.Parts.{count_true, picks_of}
use Rattle.code_maker.proofs.seats.copied.Given as goal

abbrev pub invariant-loop-port : goal.invariant-loop-port
invariant-loop-port l = record { bound : l.many ≤ l.port-index; same : l.many + count_true (map picks_of (drop l.port-index l.ports)) ≡ count_true (map picks_of l.ports) }
