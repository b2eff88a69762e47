use Rattle.std.proofs.Common.{◌≡◌, drop}
use Rattle.std.specs.List.{list_any}
use Rattle.unit_entry.proofs.marks.some_takes.Given as goal

abbrev pub invariant-loop-edge : goal.invariant-loop-edge
invariant-loop-edge l = list_any (λ e. e.takes) l.edges ≡ list_any (λ e. e.takes) (drop l.edge-index l.edges)
